-- Where the texts of an account go, and what is known of it.
use Rattle.std.specs.Prelude.{◌≡◌, ℕ, Bool, false, List, [], map, Option, None, Some}
use Rattle.mail_terms.specs.Listing.{Item}
use Rattle.fetch_record.specs.{Record.{Row, Intent, RecordState}, Intents.closed_rows}
use Rattle.mail_store.specs.{
  Devices.stored_in,
  declared.{maildir.disk.MaildirDisk.Ghosts as DiskGhosts, file.flat_file.FlatFile.Ghosts as FileGhosts},
  FileName.is_odd,
  FlatFile.Stored,
  Held.flags_of,
  Maildir.{AllNamed, Maildir, WereTaken},
  Settling.{listed_size, stands_whole, settled_file},
}
use Rattle.fetch_rules.specs.Wanted.{none_odd}
use Rattle.session_parts.specs.declared.work.Store.{Store, TheVariants.{Maildir as InMaildir, Mboxrd as InMbox}}

-- each text is a file of a Maildir, or an entry of an mboxrd file
pub data Kind : Type 0 where
  Files : Kind
  Entries : Kind

-- where texts go: into a Maildir, under names that begin with an account's digits; or to the end of an mboxrd file
pub data Target : Type 0 where
  AsFiles : List ℕ → Target
  AsEntries : Target

-- what a store holds: a Maildir or an mboxrd file; the other one is never there
pub record Stores : Type 0 where
  pub maildir : Maildir
  pub mbox : Stored

abbrev pub no_maildir : Maildir
no_maildir = record {
  there = record { tmp = false; new = false; cur = false };
  files = [];
  begun = None;
  failures = 0;
  taken = [];
  odd = [];
  told = [];
}

abbrev pub no_mbox : Stored
no_mbox = record { content = None; failures = 0 }

abbrev pub in_maildir : Maildir → Stores
in_maildir maildir = record { maildir = maildir; mbox = no_mbox }

abbrev pub in_mbox : Stored → Stores
in_mbox mbox = record { maildir = no_maildir; mbox = mbox }

-- a store with this Maildir
abbrev pub with_maildir : Stores → Maildir → Stores
with_maildir store maildir = record store { maildir = maildir }

-- this holds of what readers have left of its Maildir since names were last told
abbrev pub AfterTakingIn : Stores → (Stores → Type 0) → Type 0
AfterTakingIn store Does = (left : Maildir) × WereTaken store.maildir left × Does (with_maildir store left)

-- ---- a store

abbrev pub kind_of : {D F : Type 0} → Store D F → Kind
kind_of (InMaildir disk) = Files
kind_of (InMbox mbox) = Entries

abbrev pub target : Kind → List ℕ → Target
target Files account = AsFiles account
target Entries account = AsEntries

abbrev pub target_of : {D F : Type 0} → Store D F → List ℕ → Target
target_of store account = target (kind_of store) account

-- what is known of it
abbrev pub stores_of : {D F : Type 0} → DiskGhosts D → FileGhosts F → Store D F → Stores
stores_of disk file (InMaildir device) = in_maildir (disk.maildir device)
stores_of disk file (InMbox device) = in_mbox (stored_in file device)

-- its device's premise
abbrev pub is_sound : {D F : Type 0} → DiskGhosts D → FileGhosts F → Store D F → Type 0
is_sound disk file (InMaildir device) = disk.sound device
is_sound disk file (InMbox device) = file.sound device

-- it is a Maildir whose device's premise holds; and this Maildir
abbrev pub IsSoundMaildir : {D F : Type 0} → DiskGhosts D → Store D F → Type 0
IsSoundMaildir disk (InMaildir device) = disk.sound device
IsSoundMaildir disk (InMbox device) = ⊥

abbrev pub maildir_of : {D F : Type 0} → DiskGhosts D → Store D F → Maildir
maildir_of disk (InMaildir device) = disk.maildir device
maildir_of disk (InMbox device) = no_maildir

-- it is an mboxrd file whose device's premise holds; and this file
abbrev pub IsSoundMbox : {D F : Type 0} → FileGhosts F → Store D F → Type 0
IsSoundMbox file (InMaildir device) = ⊥
IsSoundMbox file (InMbox device) = file.sound device

abbrev pub mbox_of : {D F : Type 0} → FileGhosts F → Store D F → Stored
mbox_of file (InMaildir device) = no_mbox
mbox_of file (InMbox device) = stored_in file device

-- each name in a Maildir is durable
abbrev pub AreNamed : {D F : Type 0} → DiskGhosts D → FileGhosts F → Store D F → Type 0
AreNamed disk file store = AllNamed (stores_of disk file store).maildir.files

-- no file is being written
abbrev pub NoneBegun : {D F : Type 0} → DiskGhosts D → FileGhosts F → Store D F → Type 0
NoneBegun disk file store = is_sound disk file store → (stores_of disk file store).maildir.begun ≡ None

-- ---- what is found in it

-- no message is held, except by the record
abbrev pub none_held : List Item → List Bool
none_held items = map (λ (item : Item). false) items

-- for each message whether it is held
abbrev pub held_flags : Target → Stores → List Item → List Bool
held_flags (AsFiles account) store items = flags_of account store.maildir items
held_flags AsEntries store items = none_held items

-- whether what can't be opened bears a name of the id
abbrev pub odd_in : Target → Stores → List ℕ → Bool
odd_in (AsFiles account) store = is_odd account store.maildir
odd_in AsEntries store = none_odd

-- which ids may be odd in a store of this kind: with an mboxrd file none is
abbrev pub MayBeOdd : Kind → (List ℕ → Bool) → Type 0
MayBeOdd Files is_odd = Unit {0}
MayBeOdd Entries is_odd = is_odd ≡ none_odd

-- whether the entry of an open intent is whole in a file, by what is listed
abbrev pub is_stored : Option Intent → List Item → List ℕ → Bool
is_stored None items bytes = false
is_stored (Some intent) items bytes = stands_whole intent.start intent.len (listed_size items intent.uid) bytes

-- the file once the open intent is closed
abbrev pub closed_file : Option Intent → List Item → List ℕ → List ℕ
closed_file None items bytes = bytes
closed_file (Some intent) items bytes = settled_file intent.start intent.len (listed_size items intent.uid) bytes

-- the bytes of an mboxrd file; none if it isn't there
abbrev pub mail_in : Option (List ℕ) → List ℕ
mail_in None = []
mail_in (Some bytes) = bytes

-- the rows of a record once its open intent is closed
abbrev pub closed_rows_in : Target → Stores → RecordState → List Item → List Row
closed_rows_in (AsFiles account) store was items = was.rows
closed_rows_in AsEntries store was items = closed_rows (is_stored was.intent items (mail_in store.mbox.content))
    was.rows was.intent
