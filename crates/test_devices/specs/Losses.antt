-- Losses of power happen: which devices one leaves, in each state of a device.
use Rattle.std.specs.{Prelude.{◌≡◌, ℕ, List, Option}, List.filter}
use Rattle.mail_store.specs.{
  declared.{file.flat_file.FlatFile.Ghosts as FileGhosts, maildir.disk.MaildirDisk.Ghosts as DiskGhosts},
  Durable.{MayLeave, seen_on},
  Loss.LosesPower,
  Maildir.{File, names_of},
}

-- a law: in each state a loss of power may take each file whose name isn't durable, and leave the others
abbrev pub MailIsLost : {D : Type 0} → DiskGhosts D → Type 0
MailIsLost {D} disk = (device : D) → (left : D) × LosesPower (disk.maildir device) (disk.maildir left)
    × (names_of (disk.maildir left).files ≡ names_of (filter (λ (f : File). f.is_named) (disk.maildir device).files))

-- a law: whatever a loss of power may leave of a file, some device finds, over which nothing else may be left
abbrev pub FilesAreLost : {F : Type 0} → FileGhosts F → Type 0
FilesAreLost {F} file = (device : F) (bytes : Option (List ℕ)) → MayLeave (file.disk device) bytes → (left : F)
    × (seen_on (file.disk left) ≡ bytes)
    × ((other : Option (List ℕ)) → MayLeave (file.disk left) other → other ≡ bytes)
