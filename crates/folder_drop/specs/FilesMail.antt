-- A maildrop over the calls for the files of a Maildir.
use Rattle.std.specs.{
  List.{All, HoldsAt},
  Prelude.{◌≡◌, ◌⊎◌, ℕ, false, List, Option, None, Some, Result, Ok, Err, Vec, IfOk, IfSome, map, slice_set},
}
use Rattle.pop3_wire.specs.World.{Message}
use Rattle.pop3_server.specs.Maildrop.{DropMail, ListedMessage, listed_message}
use Rattle.folder_drop.specs.{
  declared.{
    folders_look.FoldersLook.FoldersLook,
    listed_file.ListedFile.ListedFile,
    maildir_drop.OpenText.OpenText,
    removal.TwoMessages.TwoMessages,
    seen_files.SeenFiles.SeenFiles,
  },
  Listing.FileListing,
  MailFiles.DropFile,
  MaildirMail.{IsKnown, WasListed, messages_of, slots_of},
  OpenText.IsOwnFrom,
  RealMaildir.{AreAscending, HaveIds, listed_names},
  Removal.SeesSince,
}

-- the files, those that were listed last, and the two counts
pub record FilesMail (D : Type 0) : Type 0 where
  pub files : D
  pub listed : List ListedFile
  pub failures : ℕ
  pub removals : ℕ

-- as a maildrop
abbrev pub mail_of : {D : Type 0} → (D → List DropFile) → FilesMail D → DropMail
mail_of files drop =
    record { slots = slots_of (files drop.files) drop.listed; failures = drop.failures; removals = drop.removals }

-- what is known of the files that are there, of the last listing and an earlier one, of what was seen since removals
-- began, and of the file that is read in parts
pub record Knows {File : Type 0} (remaining : File → Option (List ℕ)) (files : List DropFile)
    (looked : FoldersLook → List DropFile → Type 0) (listing earlier : FileListing) (since : SeenFiles)
    (reading : Option (OpenText File)) : Type 0 where
  pub known : All (IsKnown files) listing.files
  pub whole : since.are_removed ≡ false → slots_of files listing.files ≡ map Some (messages_of files)
  pub was : WasListed looked listing
  pub before : WasListed looked earlier
  pub sees : SeesSince files since
  pub own : IfSome reading (λ text. HoldsAt (λ listed. IsOwnFrom remaining files listed text) listing.files text.place)

-- each entry has the id of its file's name, in the order of bases; after an error the files are those that were listed
-- before
abbrev pub ListsNames : {Z E : Type 0} → List ListedFile → Result (Vec ListedMessage Z) E → List ListedFile → Type 0
ListsNames old (Ok entries) new = HaveIds entries.items (listed_names new) × AreAscending (listed_names new)
ListsNames old (Err error) new = new ≡ old

-- the messages of the files were listed, and these are their places from now on
abbrev pub ListsFiles : {Z E : Type 0} → List DropFile → Result (Vec ListedMessage Z) E → List ListedFile → Type 0
ListsFiles files result listed = IfOk result (λ entries. (slots_of files listed ≡ map Some (messages_of files))
    × (entries.items ≡ map listed_message (messages_of files)))

-- the message at a place was removed; after two messages were told, or an error, it may be there or not
abbrev pub TakesSlot : {E : Type 0} → List (Option Message) → ℕ → Result (Option TwoMessages) E → List (Option Message)
    → Type 0
TakesSlot old i (Ok None) new = new ≡ slice_set old i None
TakesSlot old i (Ok (Some two)) new = (new ≡ old) ⊎ (new ≡ slice_set old i None)
TakesSlot old i (Err error) new = (new ≡ old) ⊎ (new ≡ slice_set old i None)
