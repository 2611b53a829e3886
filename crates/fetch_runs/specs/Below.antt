-- What is taken from the laws of the crates below.
use Rattle.std.specs.Prelude.{◌≡◌, ◌&&◌, ◌||◌, ℕ, Bool, List, bytes_eq}
use Rattle.pop3_wire.specs.{
  Honest.{FrontsAreAsked, OneListOfCommands, ScanRowsHaveFields, UidRowsHaveFields},
  Line.OneLine,
  Stuffed.OneBody,
  Reading.{OneListOfLines, OneReading},
}
use Rattle.pop3_client.specs.Conversation.{ConversationsArePaced, TurnsJoin}
use Rattle.mail_terms.specs.{Listing.{Item, has_item, is_flagged}, MaildirName.base}
use Rattle.rc_file.specs.declared.settings.Settings.{Settings}
use Rattle.fetch_record.specs.{
  Record.{Row, has_row, is_delivered, marked, merged},
  RecordGrowth.{AppendedCounts, OneMeaning, OneRecord, OpenHasRow},
  RecordTorn.TornIsIgnoredOrSeen,
}
use Rattle.fetch_rules.specs.{Plan.{planned, retrieved}, Wanted.{WantedAreFirst, wanted}}
use Rattle.mail_store.specs.{
  FileName.{IsAccountText, NamesAreBases, NamesHaveStems, StemsDiffer, account_text, is_held, stem},
  Held.flags_of,
  Maildir.Maildir,
  Mboxrd.EntryAddsText,
  Settling.LeftoversAreSettled,
}
use Rattle.session_parts.specs.Laws.{SessionsAreDurable, SessionsKeepFiles, SteadyFilesKeep, UnsavedFilesKeep}

pub record Below : Type 0 where
  -- names of files
  pub differ : StemsDiffer
  pub stems : NamesHaveStems
  pub bases : NamesAreBases
  pub own : (name : List ℕ) → stem (base name) ≡ stem name
  pub digits : (server : List ℕ) (port : ℕ) (username : List ℕ) → IsAccountText (account_text server port username)
  pub flags : (account : List ℕ) (maildir : Maildir) (items : List Item) (uid : List ℕ)
      → is_flagged items (flags_of account maildir items) uid ≡ (has_item items uid && is_held account maildir uid)
  -- what is wanted
  pub firsts : WantedAreFirst
  pub plans : (settings : Settings) (is_odd : List ℕ → Bool) (rows : List Row) (listing : List Item) (now : ℕ)
      → retrieved (planned settings is_odd rows listing now) listing ≡ wanted settings is_odd rows listing
  -- a record after a merge and after a mark, and its file
  pub merges : (rows : List Row) (listing : List Item) (held : List Bool) (now : ℕ) (uid : List ℕ)
      → is_delivered (merged rows listing held now) uid ≡ (is_delivered rows uid || is_flagged listing held uid)
  pub listed : (rows : List Row) (listing : List Item) (held : List Bool) (now : ℕ) (uid : List ℕ)
      → has_row (merged rows listing held now) uid ≡ (has_row rows uid || has_item listing uid)
  pub marks : (rows : List Row) (uid other : List ℕ)
      → is_delivered (marked rows uid) other ≡ (is_delivered rows other || (has_row rows other && bytes_eq uid other))
  pub keeps : (rows : List Row) (uid other : List ℕ) → has_row (marked rows uid) other ≡ has_row rows other
  pub one : OneRecord
  pub meaning : OneMeaning
  pub counts : AppendedCounts
  pub rowed : OpenHasRow
  pub torn : TornIsIgnoredOrSeen
  pub steady : SteadyFilesKeep
  pub unsaved : UnsavedFilesKeep
  -- entries
  pub leftovers : LeftoversAreSettled
  pub adds : EntryAddsText
  -- octets
  pub line : OneLine
  pub reading : OneReading
  pub commands : OneListOfCommands
  pub body : OneBody
  pub lines : OneListOfLines
  pub uids : UidRowsHaveFields
  pub scans : ScanRowsHaveFields
  pub asked : FrontsAreAsked
  -- turns
  pub joins : TurnsJoin
  pub paced : ConversationsArePaced
  -- sessions
  pub kept : SessionsKeepFiles
  pub durable : SessionsAreDurable
