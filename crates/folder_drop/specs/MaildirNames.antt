-- The folders of a Maildir, and the unique-id for a file's name.
use Rattle.std.specs.{
  Prelude.{◌≡◌, ◌≢◌, ◌==◌, ◌&&◌, ◌++◌, ℕ, Bool, not, List, Option, None, Some, Vec, codes, length, if◌then◌else◌},
  List.list_any,
}
use Rattle.hex.specs.Hex.{encode_lower}
use Rattle.sha2.specs.Sha256.{sha256}
use Rattle.mail_terms.specs.UniqueId.{is_legal_id}
use Rattle.folder_store.specs.Wanted.{is_hidden_name}
use Rattle.folder_drop.specs.declared.maildir_names.Folder.{Folder, TheVariants.{Cur, New}}

abbrev pub folder_name : Folder → List ℕ
folder_name Cur = codes "cur"
folder_name New = codes "new"

-- the path of a folder of the Maildir at a path
abbrev pub maildir_folder : List ℕ → Folder → List ℕ
maildir_folder maildir folder = maildir ++ (codes "/" ++ folder_name folder)

-- a listing may tell a name: it isn't hidden, and no slash in it leads into another folder
abbrev pub is_listable_name : List ℕ → Bool
is_listable_name name = not (is_hidden_name name) && not (list_any (λ octet. octet == 47) name)

-- the base itself if it is a legal id, else its digest in lower-case hexadecimal
abbrev pub id_of : List ℕ → List ℕ
id_of base = if is_legal_id base then base else encode_lower (sha256 base)

-- how many characters a digest has in hexadecimal
abbrev pub digest_length : ℕ
digest_length = 64

-- the key is this id, if that is as long as a digest; ids of other lengths have none
abbrev pub IsIdKey : {Z : Type 0} → Option (Vec ℕ Z) → List ℕ → Type 0
IsIdKey None id = length id ≢ digest_length
IsIdKey (Some key) id = (key.items ≡ id) × (length id ≡ digest_length)
