-- The names of the files of a listing, and the ids of their messages.
use Rattle.std.specs.{
  Prelude.{◌≡◌, ℕ, List, AllPairs, map, string_bytes},
  Cmp.Lexicographic.slice_cmp,
  Ordering.nat_cmp,
  declared.cmp.Ordering.TheVariants.Less,
}
use Rattle.folder_drop.specs.{
  declared.{listed_file.ListedFile.ListedFile, maildir_names.Folder.Folder},
  MaildirNames.id_of,
}
use Rattle.pop3_server.specs.Maildrop.{ListedMessage}
use Rattle.mail_terms.specs.MaildirName.{base}

abbrev pub listed_name : ListedFile → List ℕ
listed_name file = string_bytes file.name

abbrev pub listed_place : ListedFile → Folder × List ℕ
listed_place file = (file.folder, listed_name file)

abbrev pub listed_names : List ListedFile → List (List ℕ)
listed_names files = map listed_name files

abbrev pub uid_of : ListedMessage → List ℕ
uid_of entry = entry.uid

abbrev pub id_of_name : List ℕ → List ℕ
id_of_name name = id_of (base name)

-- each entry has the id of its file's name
abbrev pub HaveIds : List ListedMessage → List (List ℕ) → Type 0
HaveIds entries names = map uid_of entries ≡ map id_of_name names

-- one base comes before another in the order of their bytes
abbrev pub IsBefore : List ℕ → List ℕ → Type 0
IsBefore a b = slice_cmp nat_cmp a b ≡ Less

-- the names are in the order of their bases
abbrev pub AreAscending : List (List ℕ) → Type 0
AreAscending names = AllPairs IsBefore (map base names)
