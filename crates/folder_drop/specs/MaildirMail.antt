-- A Maildir as a maildrop: the messages that its files are.
use Rattle.std.specs.{
  List.{All, Contains, filter, find},
  Option.{option_map, option_or},
  Prelude.{◌≡◌, ◌⊎◌, ◌&&◌, ℕ, Bool, not, true, List, [], ◌∷◌, Option, None, Some, bytes_eq, map, nat_le, take},
}
use Rattle.mail_terms.specs.MaildirName.{base}
use Rattle.pop3_wire.specs.World.{Message}
use Rattle.pop3_server.specs.{Maildrop.{max_count, max_size}, Size.size_of}
use Rattle.folder_drop.specs.{
  declared.{
    folders_look.FoldersLook.FoldersLook,
    listed_file.ListedFile.ListedFile,
    maildir_names.{Folder.Folder, Stamp.Stamp},
  },
  FoldersLook.IsUnchanged,
  Listing.FileListing,
  MailFiles.{DropFile, is_in_place, file_place},
  RealMaildir.{id_of_name, listed_name, listed_place},
}

-- ---- what a listing will find

-- it is a message: a regular file neither whose length nor whose size as a message is above the limit
abbrev pub is_fit : DropFile → Bool
is_fit file = file.is_regular && (nat_le file.stamp.length max_size && nat_le (size_of file.content) max_size)

abbrev pub uid_in : DropFile → List ℕ
uid_in file = id_of_name file.name

-- the first of each id, so the first of each base too
abbrev pub first_of_ids : List DropFile → List DropFile
first_of_ids [] = []
first_of_ids (file ∷ more) = file ∷ filter (λ (other : DropFile). not (bytes_eq (uid_in file) (uid_in other)))
    (first_of_ids more)

-- those of these files, which are in order, that are listed
abbrev pub chosen : List DropFile → List DropFile
chosen files = take max_count (first_of_ids (filter is_fit files))

abbrev pub message_in : DropFile → Message
message_in file = record { uid = uid_in file; size = size_of file.content; text = file.content }

abbrev pub messages_of : List DropFile → List Message
messages_of files = map message_in (chosen files)

-- ---- what a listing found

-- a regular file with the base of a listed one
abbrev pub is_namesake : ListedFile → DropFile → Bool
is_namesake listed file = file.is_regular && bytes_eq (base (listed_name listed)) (base file.name)

-- the file of a listed message: the one where it was listed, or else another with its base
abbrev pub own_file : List DropFile → ListedFile → Option DropFile
own_file files listed = option_or (find (is_in_place (listed_place listed)) files)
    (find (is_namesake listed) files)

abbrev pub message_of : ListedFile → DropFile → Message
message_of listed file = record { uid = id_of_name (listed_name listed); size = listed.size; text = file.content }

-- the message at its place, if one is there still
abbrev pub slot_of : List DropFile → ListedFile → Option Message
slot_of files listed = option_map (message_of listed) (own_file files listed)

-- before the first listing what one will find, after it what is there of what it found
abbrev pub slots_of : List DropFile → List ListedFile → List (Option Message)
slots_of files [] = map Some (messages_of files)
slots_of files (listed ∷ more) = map (slot_of files) (listed ∷ more)

-- ---- what is known of a listing, whatever was removed since

-- the file is where it was listed, as it was then
abbrev pub IsAsListed : List DropFile → ListedFile → Type 0
IsAsListed files listed = (file : DropFile) × (find (is_in_place (listed_place listed)) files ≡ Some file)
    × (file.is_regular ≡ true) × (file.stamp ≡ listed.stamp) × (size_of file.content ≡ listed.size)

-- that; or it isn't there, and each other one with its base has the same octets, since one of them was removed
abbrev pub IsKnown : List DropFile → ListedFile → Type 0
IsKnown files listed = IsAsListed files listed
    ⊎ ((find (is_in_place (listed_place listed)) files ≡ None)
    × ((a b : DropFile) → Contains files a → Contains files b → is_namesake listed a ≡ true
    → is_namesake listed b ≡ true → a.content ≡ b.content))

-- a handle has the octets of the file of a listed message
abbrev pub IsOwn : {File : Type 0} → (File → Option (List ℕ)) → List DropFile → ListedFile → File → Type 0
IsOwn remaining files listed handle = (own : DropFile) × (own_file files listed ≡ Some own)
    × (remaining handle ≡ Some own.content)

-- these are its octets
abbrev pub IsWholeText : List DropFile → ListedFile → List ℕ → Type 0
IsWholeText files listed text = (own : DropFile) × (own_file files listed ≡ Some own) × (text ≡ own.content)

-- ---- a listing

-- the place of a listed file, and what was told of it
abbrev pub told_of : DropFile → (Folder × List ℕ) × Stamp × ℕ
told_of file = (file_place file, file.stamp, size_of file.content)

abbrev pub listed_entry : ListedFile → (Folder × List ℕ) × Stamp × ℕ
listed_entry listed = (listed_place listed, listed.stamp, listed.size)

-- the sizes that were counted before are right, of files that didn't change
abbrev pub AreRight : List DropFile → List ListedFile → Type 0
AreRight files earlier = (listed : ListedFile) (file : DropFile) → Contains earlier listed → Contains files file
    → listed_place listed ≡ file_place file → listed.stamp ≡ file.stamp → listed.size ≡ size_of file.content

-- these are listed, just those of all files that are to be
abbrev pub ListsChosen : List DropFile → List ListedFile → Type 0
ListsChosen files listed = map listed_entry listed ≡ map told_of (chosen files)

-- each listed file is there, and the messages at their places are all that there are
pub record IsListing (files : List DropFile) (listed : List ListedFile) : Type 0 where
  pub known : All (IsAsListed files) listed
  pub slots : map (slot_of files) listed ≡ map Some (messages_of files)

-- no listing, which is never valid; or one of the files that were there at a look
abbrev pub WasListed : (FoldersLook → List DropFile → Type 0) → FileListing → Type 0
WasListed looked listing = ((listing.files ≡ []) × ((later : FoldersLook) → IsUnchanged listing.look later → ⊥))
    ⊎ ((was : List DropFile) × looked listing.look was × IsListing was listing.files)
