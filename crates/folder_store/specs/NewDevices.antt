-- What a loss of power leaves to a device, and what a device that is made anew over the same folders begins with.
use Rattle.std.specs.{Prelude.{◌≡◌, ℕ, List, None}, List.AllZip}
use Rattle.mail_store.specs.{
  declared.{file.flat_file.FlatFile.Ghosts as FileGhosts, maildir.disk.MaildirDisk.Ghosts as DiskGhosts},
  Durable.IsDurable,
  Loss.LosesPower,
  Maildir.AllDurable,
}
use Rattle.folder_store.specs.{
  FileFolder.Directory,
  PowerLoss.Loses,
  MailPower.LosesMail,
  MailFolders.{Directories, MovesFile, maildir_in},
}

-- ---- a Maildir

-- the folders as another process finds them: readers may have moved, marked and taken away files
pub record FoundAgain (old new : Directories) : Type 0 where
  pub there : new.there ≡ old.there
  pub moves : AllZip MovesFile old.entries new.entries

-- a law: a loss of power of the folders is one of the Maildir
abbrev pub LossesMayLeave : {D : Type 0} → DiskGhosts D → (D → Directories) → Type 0
LossesMayLeave {D} disk folders = (device : D) (left : Directories) (odd : List (List ℕ))
    → LosesMail (folders device) left → LosesPower (disk.maildir device) (maildir_in left None odd 0)

-- a law: over folders as another device left them, a device sees the same files, and the same of them is durable
abbrev pub NewMaildirsKeepMail : {D : Type 0} → DiskGhosts D → (D → Directories) → Type 0
NewMaildirsKeepMail {D} disk folders = (was device : D) → FoundAgain (folders was) (folders device)
    → (disk.maildir device).files ≡ (disk.maildir was).files

-- a law: over folders that a loss of power left, all files are durable
abbrev pub LeftMaildirsStay : {D : Type 0} → DiskGhosts D → (D → Directories) → Type 0
LeftMaildirsStay {D} disk folders = (old left : Directories) (device : D) → LosesMail old left
    → FoundAgain left (folders device)
    → AllDurable (disk.maildir device).files

-- ---- a file

-- a law: over the same file of the same folder, a device sees the same bytes, and the same of them is durable
abbrev pub NewFilesKeepBytes : {D : Type 0} → FileGhosts D → (D → Directory) → (D → List ℕ) → Type 0
NewFilesKeepBytes {D} files folder name = (was device : D) → folder device ≡ folder was → name device ≡ name was
    → files.disk device ≡ files.disk was

-- a law: over a folder that a loss of power left, what a device sees is durable
abbrev pub LeftFilesStand : {D : Type 0} → FileGhosts D → (D → Directory) → Type 0
LeftFilesStand {D} files folder = (old : Directory) (device : D) → Loses old (folder device)
    → IsDurable (files.disk device)
