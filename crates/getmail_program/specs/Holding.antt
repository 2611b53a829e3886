-- The session that a run holds.
use Rattle.std.specs.{
  Prelude.{◌≡◌, ◌⊎◌, ◌&&◌, not, ℕ, Bool, true, false, List, Option, None, Some, Result, Ok, Err},
  Fs.{IsDir, file_type},
  IoError.error_kind,
  List.list_any,
  declared.{fs.attrs.Metadata.Metadata, io.{Error.Error, ErrorKind.{ErrorKind, TheVariants.{NotFound, OutOfMemory}}}},
}
use Rattle.pop3_wire.specs.declared.wire.Wire.{Ghosts as WireGhosts}
use Rattle.mail_store.specs.{
  Devices.stored_in,
  declared.{maildir.disk.MaildirDisk.Ghosts as DiskGhosts, file.flat_file.FlatFile.Ghosts as FileGhosts},
  Maildir.Maildir as InMaildir,
}
use Rattle.fetch_rules.specs.Plan.{fetches}
use Rattle.session_parts.specs.{
  declared.{fault.Fault.{Fault, TheVariants.{NoMemory, StoreRefused}}, message_preview.MessagePreview.MessagePreview},
  declared.fault.Why.TheVariants.{Missing, Refused},
  declared.{preview.Preview.Preview, work.Store.Store, report.Outcome.TheVariants.{Ended, Cut}},
  Durable.RunsSession,
  Account.{Holding, digits_of},
  Pretend.{Pretends, preview_told, told_nothing},
  Refusal.IsWithinLimits,
  Session.keeping,
  Store.StartsFile,
  Target.{AfterTakingIn, Entries, Files, Kind, is_sound, stores_of, target_of},
}
use Rattle.rc_file.specs.declared.settings.{Settings.Settings, Dest.{Dest, TheVariants.{Maildir, Mboxrd}}}
use Rattle.getmail_program.specs.declared.told.Told.{Told, TheVariants.{Done, Ahead}}

-- the kind of store that a destination names
abbrev pub kind_in : Dest → Kind
kind_in (Maildir path) = Files
kind_in (Mboxrd path) = Entries

-- what an account holds that is made of these parts
abbrev pub holding_of : {D F : Type 0} → Settings → Store D F → F → Holding D F
holding_of settings store file = record { settings = settings; store = store; file = file }

-- a session that changes nothing was run: the preview says what a run would do
abbrev pub PreviewsAccount : {W D F : Type 0} → WireGhosts W → DiskGhosts D → FileGhosts F → ℕ → Holding D F → W
    → Preview → Holding D F
    → W → Type 0
PreviewsAccount link disk file now old wire preview new wire' =
    link.sound wire' → is_sound disk file new.store → file.sound new.file
    → AfterTakingIn (stores_of disk file old.store)
    (λ left. Pretends old.settings (target_of old.store (digits_of old.settings)) now
    (link.history wire) (keeping left (stored_in file old.file)) preview (link.history wire')
    (keeping (stores_of disk file new.store) (stored_in file new.file)))

-- a run would put a message into a Maildir
abbrev pub would_store : MessagePreview → Bool
would_store told = not told.held && fetches told.step

-- a run that begins the file of a message in a Maildir can have this fault; or memory runs out before
abbrev pub RefusesFile : Fault → Type 0
RefusesFile fault = (fault ≡ NoMemory)
    ⊎ ((maildir left : InMaildir) × (name : List ℕ) × StartsFile maildir name (Err fault) left)

-- the fault of a run to which a call on `tmp` is refused with an error of this kind
abbrev pub fault_for : ErrorKind → Fault
fault_for NotFound = StoreRefused Missing
fault_for OutOfMemory = NoMemory
fault_for kind = StoreRefused Refused

-- by what was found in the place of `tmp`: a folder is no fault
abbrev pub DoubtsFound : Result Metadata Error → Option Fault → Type 0
DoubtsFound (Ok found) None = IsDir (file_type found)
DoubtsFound (Ok found) (Some fault) = (IsDir (file_type found) → ⊥) × (fault ≡ StoreRefused Refused)
DoubtsFound (Err error) doubt = doubt ≡ Some (fault_for (error_kind error))

-- it is the fault of a run that would put one of these messages into its Maildir
abbrev pub Doubts : Dest → List MessagePreview → Fault → Type 0
Doubts dest told fault = (kind_in dest ≡ Files) × (list_any would_store told ≡ true) × RefusesFile fault

-- a run would be cut, and nothing is said of its messages
pub record IsCutShort (dest : Dest) (preview said : Preview) : Type 0 where
  pub fault : Fault
  pub doubts : Doubts dest preview.message_previews.items fault
  pub outcome : said.outcome ≡ Cut fault
  pub nothing : preview_told said ≡ told_nothing preview.total

-- what is said ahead of a run: what its preview says; or, if the preview found no fault, one that a run would have that
-- puts messages into a Maildir
abbrev pub SaysAhead : Dest → Preview → Preview → Type 0
SaysAhead dest preview said = (said ≡ preview) ⊎ ((preview.outcome ≡ Ended) × IsCutShort dest preview said)

-- what is told is the report of the session that was run, or what is said ahead of one
abbrev pub HoldsSession : {W D F : Type 0} → WireGhosts W → DiskGhosts D → FileGhosts F → Bool → ℕ → Holding D F → W
    → Told → Holding D F
    → W → Type 0
HoldsSession link disk file pretends now old wire (Done report) new wire' =
    (pretends ≡ false) × IsWithinLimits link wire report wire'
    × RunsSession link disk file now old wire report new wire'
HoldsSession link disk file pretends now old wire (Ahead said) new wire' =
    (pretends ≡ true) × ((preview : Preview) × PreviewsAccount link disk file now old wire preview new wire'
    × SaysAhead old.settings.dest preview said)
