-- A message's file that is read in parts.
use Rattle.std.specs.{
  Prelude.{◌≡◌, ◌≤◌, ◌+◌, ◌<◌, ℕ, List, Option, None, Some, drop, length, take},
  Io.KnownBytes.{Consumes, IsAtEnd},
}
use Rattle.folder_drop.specs.{
  declared.{listed_file.ListedFile.ListedFile, maildir_drop.OpenText.OpenText},
  MaildirMail.own_file,
  MailFiles.DropFile,
}

-- the file that is open is read on: it is that of this place, and was read up to `start`, behind its first octet
abbrev pub IsReadOn : {File : Type 0} → ℕ → ℕ → OpenText File → Type 0
IsReadOn place start text = (text.place ≡ place) × (text.read ≡ start) × (0 < start)

-- a read gave so many octets of the piece: none at the end of the file, which isn't kept then; else the file is kept,
-- and was read on by as many
abbrev pub ReadsOn : {File : Type 0} → (File → Option (List ℕ)) → OpenText File → List ℕ → ℕ → Option (OpenText File)
    → Type 0
ReadsOn remaining text piece count None = (count ≡ 0) × IsAtEnd (remaining text.file)
ReadsOn remaining text piece count (Some left) = (0 < count) × (left.place ≡ text.place)
    × (left.read ≡ text.read + count) × Consumes (remaining text.file) (remaining left.file) (take count piece)

-- the file has the octets of a listed message from where it was read up to
abbrev pub IsOwnFrom : {File : Type 0} → (File → Option (List ℕ)) → List DropFile → ListedFile → OpenText File → Type 0
IsOwnFrom remaining files listed text = (own : DropFile) × (own_file files listed ≡ Some own)
    × (remaining text.file ≡ Some (drop text.read own.content))

-- a piece begins with so many of its octets, from `start` on; with none only if none are left
abbrev pub IsTextPart : List DropFile → ListedFile → ℕ → ℕ → List ℕ → Type 0
IsTextPart files listed start count piece = (own : DropFile) × (own_file files listed ≡ Some own)
    × (take count piece ≡ take count (drop start own.content)) × (count ≡ 0 → length own.content ≤ start)
