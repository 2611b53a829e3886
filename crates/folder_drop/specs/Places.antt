-- The order of the files of a Maildir, which is that of messages.
use Rattle.std.proofs.lemmas.Cmp.{nat_cmp_total, nat_list_cmp_total, on_total, then_total}
use Rattle.std.specs.{
  Cmp.IsTotalOrder,
  Prelude.{◌≡◌, ℕ, List, String, map, string_bytes},
  Cmp.Lexicographic.slice_cmp,
  List.Sorted.IsSorted,
  Ordering.{nat_cmp, on, then_cmp},
  declared.cmp.Ordering.Ordering,
}
use Rattle.mail_terms.specs.MaildirName.{base}
use Rattle.folder_drop.specs.declared.{
  mail_files.FileWay.FileWay,
  maildir_names.{Folder.{Folder, TheVariants.{Cur, New}}, PlacedFile.PlacedFile},
}

abbrev pub name_of_file : PlacedFile → List ℕ
name_of_file file = string_bytes file.name

abbrev pub base_of_file : PlacedFile → List ℕ
base_of_file file = base (name_of_file file)

-- the folder and the name of a file
abbrev pub folder_and_name : PlacedFile → Folder × List ℕ
folder_and_name file = (file.folder, name_of_file file)

-- the name leads to this place
abbrev pub IsWayTo : FileWay → Folder × List ℕ → Type 0
IsWayTo way place = (way.folder ≡ place.0) × (string_bytes way.name ≡ place.1)

-- `cur` comes before `new`
abbrev pub rank : Folder → ℕ
rank Cur = 0
rank New = 1

-- these names in a folder
abbrev pub named_in : {Z : Type 0} → Folder → List (String Z) → List (Folder × List ℕ)
named_in folder names = map (λ name. (folder, string_bytes name)) names

-- places: by the bytes of their bases, then by their folders, then by the bytes of their whole names
abbrev pub places_cmp : Folder × List ℕ → Folder × List ℕ → Ordering
places_cmp = then_cmp (on (λ (place : Folder × List ℕ). base place.1) (slice_cmp nat_cmp))
    (then_cmp (on (λ (place : Folder × List ℕ). rank place.0) nat_cmp)
    (on (λ (place : Folder × List ℕ). place.1) (slice_cmp nat_cmp)))

pub places_total : IsTotalOrder places_cmp
places_total = then_total (on_total (λ (place : Folder × List ℕ). base place.1) nat_list_cmp_total)
    (then_total (on_total (λ (place : Folder × List ℕ). rank place.0) nat_cmp_total)
    (on_total (λ (place : Folder × List ℕ). place.1) nat_list_cmp_total))

abbrev pub place_cmp : PlacedFile → PlacedFile → Ordering
place_cmp = on folder_and_name places_cmp

abbrev pub AreInOrder : List PlacedFile → Type 0
AreInOrder = IsSorted place_cmp
