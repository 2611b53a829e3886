-- The names in the folders of a Maildir in memory.
use Rattle.std.specs.{
  Prelude.{◌≡◌, ◌⊎◌, ◌==◌, ◌&&◌, ◌<◌, ℕ, Bool, not, false, List, All, Contains, bytes_eq},
  List.AllPairs,
  declared.cmp.Ordering.TheVariants.Less,
  declared.io.ErrorKind.{ErrorKind, TheVariants.{AlreadyExists, InvalidInput, OutOfMemory}},
}
use Rattle.folder_drop.specs.{
  declared.{maildir_names.Folder.Folder, memory_names.MemoryName.MemoryName},
  MaildirNames.is_listable_name,
  Places.{places_cmp, rank},
}

-- where a name is
abbrev pub place_of_name : MemoryName → Folder × List ℕ
place_of_name one = (one.folder, one.name.now)

-- it is another place than this one
abbrev pub is_elsewhere : Folder × List ℕ → Folder × List ℕ → Bool
is_elsewhere place other = not ((rank place.0 == rank other.0) && bytes_eq place.1 other.1)

-- in the order of messages, each once
abbrev pub AreAscendingPlaces : List (Folder × List ℕ) → Type 0
AreAscendingPlaces = AllPairs (λ a b. places_cmp a b ≡ Less)

-- they are names of some of so many files
abbrev pub HaveFiles : ℕ → List MemoryName → Type 0
HaveFiles count = All (λ one. one.file < count)

-- a name isn't added with an error of this kind: something has it, no listing may tell it, or memory ran out
abbrev pub RefusesName : List (Folder × List ℕ) → Folder × List ℕ → ErrorKind → Type 0
RefusesName places place kind = ((kind ≡ AlreadyExists) × Contains places place)
    ⊎ ((kind ≡ InvalidInput) × (is_listable_name place.1 ≡ false)) ⊎ (kind ≡ OutOfMemory)
