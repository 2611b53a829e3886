-- The folders of a Maildir in memory.
use Rattle.std.specs.{
  Prelude.{◌≡◌, ◌&&◌, ℕ, Bool, true, false, List, [], ◌∷◌, Option, Some, None},
  Prelude.{bytes_eq, length, option_map, string_bytes},
  List.{filter, find},
}
use Rattle.mail_store.specs.declared.maildir.disk.Folder.{Folder}
use Rattle.folder_store.specs.{
  MailFolders.{Directories, MailFile, is_left, is_told},
  MailPower.{EntriesLeftAs, IsMailLeftAs, LosesMail},
}
use Rattle.test_devices.specs.declared.stored_mail.{FoundMail.{FoundMail}, StoredMail.{StoredMail}}

-- a file
abbrev pub stored_file : StoredMail → MailFile
stored_file k = record {
  is_new = k.is_new;
  name = string_bytes k.name;
  content = k.content.items;
  is_flushed = k.is_flushed;
  is_named = k.is_named;
  left_new = k.left_new;
  left_cur = k.left_cur;
  is_gone = k.is_gone;
}

-- it has a name in a folder, and no reader took it away
abbrev pub is_at : Folder → List ℕ → MailFile → Bool
is_at folder name s = is_told folder s && bytes_eq s.name name

-- how many bytes the first file with a name in a folder has, if one has it
abbrev pub size_at : Folder → List ℕ → Directories → Option ℕ
size_at folder name d = option_map (λ s. length s.content) (find (is_at folder name) d.entries)

-- one thing, or none
abbrev pub list_of : {A : Type 0} → Option A → List A
list_of None = []
list_of (Some x) = x ∷ []

-- a file in one of the folders with these bytes, all of it durable
abbrev pub left_with : Bool → List ℕ → MailFile → MailFile
left_with is_new content s = record s {
  is_new = is_new;
  content = content;
  is_flushed = true;
  is_named = true;
  left_new = false;
  left_cur = false;
}

-- what a loss of power may leave of a file
abbrev pub MayBeLeftAs : MailFile → Option MailFile → Type 0
MayBeLeftAs s None = s.is_named ≡ false
MayBeLeftAs s (Some t) = IsMailLeftAs s t

-- a file that is found after a loss of power
abbrev pub found_file : FoundMail → MailFile
found_file k = record {
  is_new = k.is_new;
  name = string_bytes k.name;
  content = k.content.items;
  is_flushed = true;
  is_named = true;
  left_new = false;
  left_cur = false;
  is_gone = false;
}

-- after a loss of power these files of some are found, in this order, and no others
abbrev pub MayBeFound : List MailFile → List MailFile → Type 0
MayBeFound entries found = (left : List MailFile) × EntriesLeftAs entries left × (filter is_left left ≡ found)

-- the same of the folders
abbrev pub MayFind : Directories → List MailFile → Type 0
MayFind old found = (new : Directories) × LosesMail old new × (filter is_left new.entries ≡ found)
