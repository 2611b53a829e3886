-- What a call of a device owes by its trait, for devices whose calls promise more than that.
use Rattle.std.specs.Prelude.{◌≡◌, ℕ, Result, IfErr}
use Rattle.mail_terms.specs.FailureCount.{Tallies, refuses}
use Rattle.mail_store.specs.{
  declared.{fault.StoreFault.{StoreFault, TheVariants.Refused}, file.flat_file.FlatFile.Ghosts as FileGhosts},
  declared.maildir.disk.MaildirDisk.Ghosts as DiskGhosts,
  Durable.{Disk, seen_on},
  FlatFile.Stored,
  Maildir.Maildir,
  Fault.{is_refusal, IsDeviceFault},
}

-- what calls see of the file
abbrev pub stored_in : {F : Type 0} → FileGhosts F → F → Stored
stored_in file f = record { content = seen_on (file.disk f); failures = file.refusals f }

-- what is known of a file: what of it is durable, and how many calls were refused
pub record KnownFile : Type 0 where
  pub disk : Disk
  pub refusals : ℕ

abbrev pub known_file : {F : Type 0} → FileGhosts F → F → KnownFile
known_file file f = record { disk = file.disk f; refusals = file.refusals f }

-- a call with this answer did this to the file
abbrev pub FileDid : {F R : Type 0} → FileGhosts F → (KnownFile → R → KnownFile → Type 0) → F → R → F → Type 0
FileDid file Did old result new = file.sound new → file.sound old
    × Did (known_file file old) result (known_file file new)

-- a call did this to the file
abbrev pub FileDoes : {F : Type 0} → FileGhosts F → (Disk → Disk → Type 0) → F → F → Type 0
FileDoes file Does old new = file.sound new → file.sound old × Does (file.disk old) (file.disk new)

-- its fault is one of a device, and a refusal is counted
abbrev pub FileAnswers : {F T : Type 0} → FileGhosts F → F → Result T StoreFault → F → Type 0
FileAnswers file old result new = IfErr result IsDeviceFault
    × Tallies (refuses is_refusal result) (file.refusals old) (file.refusals new)

-- the only fault of a call is Refused, and it is counted
abbrev pub FileRefuses : {F T : Type 0} → FileGhosts F → F → Result T StoreFault → F → Type 0
FileRefuses file old result new = IfErr result (λ e. e ≡ Refused)
    × Tallies (refuses is_refusal result) (file.refusals old) (file.refusals new)

-- a call did this to the Maildir
abbrev pub DiskDoes : {D : Type 0} → DiskGhosts D → (Maildir → Maildir → Type 0) → D → D → Type 0
DiskDoes disk Does old new = disk.sound new → disk.sound old × Does (disk.maildir old) (disk.maildir new)

-- the only fault of a call is Refused, and it is counted
abbrev pub DiskRefuses : {D T : Type 0} → DiskGhosts D → D → Result T StoreFault → D → Type 0
DiskRefuses disk old result new = IfErr result (λ e. e ≡ Refused)
    × Tallies (refuses is_refusal result) (disk.maildir old).failures (disk.maildir new).failures
