-- Of files that are known by their paths, those in one folder, by their names.
use Rattle.std.specs.{
  Prelude.{◌≡◌, ◌==◌, ℕ, List, [], ◌∷◌, ◌++◌, Option, Some, None, if◌then◌else◌},
  Path.with_separator,
}
use Rattle.folder_store.specs.FileFolder.{Directory, DirEntry, Older, entry}

-- what comes after a front
abbrev pub after : List ℕ → List ℕ → Option (List ℕ)
after [] path = Some path
after (x ∷ front) [] = None
after (x ∷ front) (y ∷ path) = if x == y then after front path else None

-- what the paths in a folder begin with: its own, and a slash behind it
abbrev pub front_of : List ℕ → List ℕ
front_of folder = with_separator folder

-- an entry by its name, if its path is in the folder
abbrev pub entry_under : Option (List ℕ) → DirEntry → List DirEntry → List DirEntry
entry_under None e rest = rest
entry_under (Some name) e rest = entry name e.blob ∷ rest

abbrev pub under : List ℕ → List DirEntry → List DirEntry
under front [] = []
under front (e ∷ es) = entry_under (after front e.name) e (under front es)

-- the same for what names led to
abbrev pub older_entry_under : Option (List ℕ) → Older → List Older → List Older
older_entry_under None o rest = rest
older_entry_under (Some name) o rest = record { name = name; was = o.was } ∷ rest

abbrev pub older_under : List ℕ → List Older → List Older
older_under front [] = []
older_under front (o ∷ os) = older_entry_under (after front o.name) o (older_under front os)

-- those that are in other folders
abbrev pub outside_entry : Option (List ℕ) → Older → List Older → List Older
outside_entry None o rest = o ∷ rest
outside_entry (Some name) o rest = rest

abbrev pub outside : List ℕ → List Older → List Older
outside front [] = []
outside front (o ∷ os) = outside_entry (after front o.name) o (outside front os)

-- the folder
abbrev pub directory_under : List ℕ → Directory → Directory
directory_under front d =
    record { can_make = d.can_make; entries = under front d.entries; older = older_under front d.older }
