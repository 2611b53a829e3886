-- Losses of power happen: what the laws say of one is said of some devices after each state, also of such as lack files
-- or bytes.
use Rattle.std.specs.{Prelude.{◌≡◌, ℕ, List, [], ◌∷◌, Option}, List.filter}
use Rattle.mail_store.specs.{
  declared.{maildir.disk.MaildirDisk.Ghosts as DiskGhosts, file.flat_file.FlatFile.Ghosts as FileGhosts},
  Durable.MayLeave,
  Maildir.{File, names_of},
}
use Rattle.fetch_record.specs.{Record.{Intent, Row}, RecordMeaning.FileStandsFor}
use Rattle.session_parts.specs.Target.{mail_in}
use Rattle.fetch_runs.specs.{
  Accounts.AccountMail,
  Calls.{IsLeftByLoss, IsMboxLeftByLoss, Shows, ShowsMbox},
  Promises.Devices,
  Sessions.MboxMail,
}

-- a law: whatever account devices show, and whatever may be left of the record's file, if it can be read: some loss of
-- power leaves just this, and of the Maildir the files whose names are durable
abbrev pub LossesHappen : {D F : Type 0} → DiskGhosts D → FileGhosts F → Type 0
LossesHappen {D} {F} disk file = (from : Devices D F) (account : AccountMail) (bytes : Option (List ℕ))
    (rows : List Row) (intent : Option Intent) → Shows disk file from account → MayLeave (file.disk from.file) bytes
    → FileStandsFor bytes rows intent → (left : Devices D F) × (after : AccountMail)
    × IsLeftByLoss disk file from left after × (after.rows ≡ rows)
    × (names_of after.maildir.files ≡ names_of (filter (λ (f : File). f.is_named) account.maildir.files))

-- a law: some state shows a file whose name a loss of power takes
abbrev pub NamesAreTaken : {D F : Type 0} → DiskGhosts D → FileGhosts F → Type 0
NamesAreTaken {D} {F} disk file = (any : Devices D F) → (from left : Devices D F) × (account after : AccountMail)
    × Shows disk file from account × IsLeftByLoss disk file from left after
    × ((f : File) × (account.maildir.files ≡ f ∷ [])) × (after.maildir.files ≡ [])

-- a law: whatever may be left of an mboxrd file and of the record's, if this can be read, some loss of power leaves
abbrev pub MboxLossesHappen : {F : Type 0} → FileGhosts F → Type 0
MboxLossesHappen {F} file = (from : Devices F F) (mbox bytes : Option (List ℕ)) (rows : List Row)
    (intent : Option Intent) → MayLeave (file.disk from.store) mbox → MayLeave (file.disk from.file) bytes
    → FileStandsFor bytes rows intent → (left : Devices F F)
    × IsMboxLeftByLoss file from left (record { rows = rows; intent = intent; file = mail_in mbox })

-- a law: some state shows bytes of an mboxrd file that a loss of power takes
abbrev pub BytesAreTaken : {F : Type 0} → FileGhosts F → Type 0
BytesAreTaken {F} file = (any : Devices F F) → (from left : Devices F F) × (account after : MboxMail)
    × ShowsMbox file from account × IsMboxLeftByLoss file from left after
    × ((byte : ℕ) × (account.file ≡ byte ∷ [])) × (after.file ≡ [])
