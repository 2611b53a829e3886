-- What is done to the record and its file.
use Rattle.std.specs.Prelude.{◌≡◌, ◌≢◌, ◌⊎◌, ◌+◌, ℕ, Bool, false, List, [], ◌∷◌, Option, None, Some}
use Rattle.std.specs.Prelude.{Result, Ok, Err, Vec}
use Rattle.std.specs.Prelude.{length, take, OnOk, OnErr}
use Rattle.fetch_record.specs.{
  Record.{Row, Intent, RecordState, Loaded, none_open},
  RecordFile.{Two, file_of},
  RecordMeaning.{Means, Rows, Fault as Faulty, FileStandsFor},
  Intents.ReadAs as BytesReadAs,
  RecordGrowth.Grows,
  declared.seen.SeenFault.{SeenFault, TheVariants.{BadHeader, BadRow, RepeatedId, NoMemory as WantsMemory}},
}
use Rattle.mail_store.specs.{
  declared.fault.StoreFault.{StoreFault, TheVariants.Refused},
  Devices.KnownFile,
  DiskCalls.{AppendsDisk, CutsDisk, ReadsDisk, ReplacesDisk},
  Durable.{Disk, seen_on},
  FlatFile.{Stored, HasBytes, file_refused},
}
use Rattle.session_parts.specs.declared.fault.Fault.{Fault, TheVariants.{SeenRefused, BadSeen, NoMemory}}

-- the bytes of a file; none if it isn't there
abbrev pub bytes_in : Option (List ℕ) → List ℕ
bytes_in None = []
bytes_in (Some bytes) = bytes

-- a file stands for a record, of any version, with or without a torn end
abbrev pub Keeps : Option (List ℕ) → RecordState → Type 0
Keeps content state = FileStandsFor content state.rows state.intent

-- a file stands for these rows, whether an intent is open or not
abbrev pub KeepsRows : Option (List ℕ) → List Row → Type 0
KeepsRows content rows = (intent : Option Intent) × FileStandsFor content rows intent

-- the file is of version 2 and has no torn end, so that what is appended counts
abbrev pub Steady : Option (List ℕ) → RecordState → Type 0
Steady content state = Means (bytes_in content) (Rows Two state.rows state.intent false)

-- a file was read as this record
abbrev pub FileReadAs : Option (List ℕ) → Loaded → Type 0
FileReadAs content loaded = BytesReadAs (bytes_in content) loaded

-- the rows and the open intent of a record in memory
abbrev pub record_state_in : Loaded → RecordState
record_state_in loaded = record { rows = loaded.rows; intent = loaded.intent }

abbrev pub record_state : List Row → Option Intent → RecordState
record_state rows intent = record { rows = rows; intent = intent }

-- the intent of appending `len` octets for an id to an mboxrd file of size `start`
abbrev pub intent_at : List ℕ → ℕ → ℕ → Intent
intent_at uid start len = record { uid = uid; start = start; len = len }

-- rows, and this intent open
abbrev pub with_open : List Row → Intent → RecordState
with_open rows intent = record { rows = rows; intent = Some intent }

-- ---- the calls of the record's file

-- a call did this, and a refused one is counted; or memory ran out before it
abbrev pub Calls : {T : Type 0} → (Disk → Result T StoreFault → Disk → Type 0) → KnownFile → Result T Fault → KnownFile
    → Type 0
Calls Did old (Ok told) new = Did old.disk (Ok told) new.disk × (new.refusals ≡ old.refusals)
Calls Did old (Err SeenRefused) new = Did old.disk (Err Refused) new.disk × (new.refusals ≡ old.refusals + 1)
Calls Did old (Err NoMemory) new = new ≡ old
Calls Did old (Err _) new = ⊥

-- these rows were written whole
abbrev pub WritesRows : List Row → KnownFile → Result (Unit {0}) Fault → KnownFile → Type 0
WritesRows rows old result new =
    Calls (λ before r after. ReplacesDisk before (file_of rows None) r after) old result new

-- bytes, if there are any, were appended to a file that has some
abbrev pub GrowsDisk : List ℕ → Disk → Result (Unit {0}) StoreFault → Disk → Type 0
GrowsDisk [] old r new = OnOk r (new ≡ old) × OnErr r ⊥
GrowsDisk (byte ∷ more) old r new = (bytes_in (seen_on old) ≢ []) × AppendsDisk old (byte ∷ more) r new

-- a record was made another by what was appended, or memory ran out for that
abbrev pub AppendsRecord : RecordState → RecordState → KnownFile → Result (Unit {0}) Fault → KnownFile → Type 0
AppendsRecord was now old (Err NoMemory) new = new ≡ old
AppendsRecord was now old result new = (added : List ℕ) × Grows was.rows was.intent added now.rows now.intent
    × Calls (GrowsDisk added) old result new

-- the size of a file was told
abbrev pub TellsSize : Option (List ℕ) → Result ℕ StoreFault → Type 0
TellsSize content (Ok size) = size ≡ length (bytes_in content)
TellsSize content (Err fault) = Unit {0}

abbrev pub Measures : KnownFile → Result ℕ Fault → KnownFile → Type 0
Measures old result new = Calls (ReadsDisk TellsSize) old result new

-- the file was measured, and then an intent was opened in it, where none was
abbrev pub Intends : List Row → Intent → KnownFile → Result ℕ Fault → KnownFile → Type 0
Intends rows intent old (Ok size) new = (mid : KnownFile) × Measures old (Ok size) mid
    × AppendsRecord (none_open rows) (with_open rows intent) mid (Ok tt) new
Intends rows intent old (Err fault) new = Measures old (Err fault) new
    ⊎ ((mid : KnownFile) × (size : ℕ) × Measures old (Ok size) mid
    × AppendsRecord (none_open rows) (with_open rows intent) mid (Err fault) new)

-- the file was cut to its first bytes, or that was refused
abbrev pub CutsRecord : ℕ → KnownFile → Unit {0} → KnownFile → Type 0
CutsRecord size old done new = Calls {T = Unit {0}} (λ before r after. CutsDisk before size r after) old (Ok tt) new
    ⊎ Calls {T = Unit {0}} (λ before r after. CutsDisk before size r after) old (Err SeenRefused) new

-- ---- what calls see then

abbrev pub stored_of : KnownFile → Stored
stored_of file = record { content = seen_on file.disk; failures = file.refusals }

-- a changed record was saved; or, refused, the file stands for the old or the new one; or memory ran out, and nothing
-- was done
abbrev pub Saves : Stored → RecordState → RecordState → Result (Unit {0}) Fault → Stored → Type 0
Saves old was now (Ok done) new = (new.failures ≡ old.failures) × (Steady old.content was → Steady new.content now)
Saves old was now (Err SeenRefused) new = (new.failures ≡ old.failures + 1)
    × (Steady old.content was → Keeps new.content was ⊎ Keeps new.content now)
Saves old was now (Err NoMemory) new = new ≡ old
Saves old was now (Err _) new = ⊥

-- an open intent was closed, as none of its entry is there; or that was refused, and it may be open
abbrev pub TakesBack : Stored → RecordState → Stored → Type 0
TakesBack old was new = Saves old was (none_open was.rows) (Ok tt) new
    ⊎ Saves old was (none_open was.rows) (Err SeenRefused) new

-- the first bytes of a file stand for these rows, with no intent open
abbrev pub StandsTill : Stored → ℕ → List Row → Type 0
StandsTill stored size rows = HasBytes stored.content size
    × Steady (Some (take size (bytes_in stored.content))) (none_open rows)

-- a record read from the file was merged and saved; or, refused, the file stands for the old or the
-- new one; or memory ran out, and nothing was done
abbrev pub Merges : Stored → RecordState → RecordState → Result (Unit {0}) Fault → Stored → Type 0
Merges old was now (Ok done) new = (new.failures ≡ old.failures) × Steady new.content now
Merges old was now (Err SeenRefused) new = (new.failures ≡ old.failures + 1)
    × (Keeps new.content was ⊎ Keeps new.content now)
Merges old was now (Err NoMemory) new = new ≡ old
Merges old was now (Err _) new = ⊥

-- the file was flushed, or a call was refused
abbrev pub IsSecured : Stored → Result (Unit {0}) Fault → Stored → Type 0
IsSecured old (Ok done) new = new ≡ old
IsSecured old (Err SeenRefused) new = new ≡ file_refused old
IsSecured old (Err _) new = ⊥

-- the line of a record's fault
abbrev pub LineOf : SeenFault → ℕ → Type 0
LineOf BadHeader line = line ≡ 1
LineOf (BadRow at) line = line ≡ at
LineOf (RepeatedId at) line = line ≡ at
LineOf _ line = ⊥

-- the bytes of the file were read
abbrev pub Gets : {B : Type 0} → Stored → Result (Vec ℕ B) Fault → Stored → Type 0
Gets old (Ok bytes) new = (bytes.items ≡ bytes_in old.content) × (new ≡ old)
Gets old (Err SeenRefused) new = new ≡ file_refused old
Gets old (Err _) new = ⊥

-- the bytes of the file stand for no record: this line is the first that fails
abbrev pub Misread : Stored → ℕ → Stored → Type 0
Misread old line new = (why : SeenFault) × Means (bytes_in old.content) (Faulty why) × LineOf why line × (new ≡ old)

-- the record was read, and whether the file is missing or empty; or a call was refused, or the bytes
-- stand for no record
abbrev pub ReadsRecord : Stored → Loaded → Result Bool Fault → Stored → Type 0
ReadsRecord old loaded (Ok is_new) new = FileReadAs old.content loaded × (is_new ≡ false → bytes_in old.content ≢ [])
    × (new ≡ old)
ReadsRecord old loaded (Err SeenRefused) new = new ≡ file_refused old
ReadsRecord old loaded (Err (BadSeen line)) new = Misread old line new
ReadsRecord old loaded (Err NoMemory) new = new ≡ old
ReadsRecord old loaded (Err _) new = ⊥

-- the fault of a session for a fault of the record's file: its line, or out of memory
abbrev pub IsLineFault : SeenFault → Fault → Type 0
IsLineFault why (BadSeen line) = LineOf why line
IsLineFault why NoMemory = why ≡ WantsMemory
IsLineFault why _ = ⊥
