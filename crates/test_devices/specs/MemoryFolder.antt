-- A folder in memory.
use Rattle.std.specs.Prelude.{◌≡◌, ◌⊎◌, ℕ, List, [], ◌∷◌, Some, map, false, None, option_map, String, string_bytes}
use Rattle.std.specs.Prelude.{Option, ◌++◌, ◌≤◌, take, length, slice_index}
use Rattle.test_devices.specs.declared.{memory_folder.MemoryBlob.MemoryBlob, new_file.MemoryNewFile.MemoryNewFile}
use Rattle.mail_store.specs.Durable.{Blob, IsLeftOf, secured}
use Rattle.folder_store.specs.{FileFolder.{DirEntry, MadeFile, Older, entry}, PowerLoss.WasOnce}

-- a file that was made
abbrev pub made_of : MemoryNewFile → MadeFile
made_of file = record { content = file.content.items; is_flushed = file.is_flushed }

-- a file
abbrev pub blob_of : MemoryBlob → Blob
blob_of k = record { content = k.content.items; flushed = k.flushed.items; uncut = k.uncut; is_doubted = false }

-- a name and its file
abbrev pub folder_entry : {A : Type 0} → String A × MemoryBlob → DirEntry
folder_entry pair = record { name = string_bytes pair.0; blob = blob_of pair.1 }

abbrev pub folder_entries : {A : Type 0} → List (String A × MemoryBlob) → List DirEntry
folder_entries files = map folder_entry files

-- a name and what it led to
abbrev pub older_of : {A : Type 0} → String A × Option MemoryBlob → Older
older_of pair = record { name = string_bytes pair.0; was = option_map blob_of pair.1 }

-- the first bytes of a content, and zeros after them, in all at most as many as the content has
abbrev pub IsZeroed : List ℕ → ℕ → List ℕ → Type 0
IsZeroed content len bytes =
    (zeros : List ℕ) × (bytes ≡ take len content ++ zeros) × ((k : ℕ) → slice_index zeros k ≡ 0)
    × (length bytes ≤ length content)

-- what a loss of power may leave under the name of a file
abbrev pub MayBeOf : List Older → DirEntry → Option (List ℕ) → Type 0
MayBeOf older e left = IsLeftOf (Some e.blob) left ⊎ WasOnce older e.name left

-- some files after a loss of power, one by one: each has bytes that may be left under its name, all of them
-- durable, or isn't there any more, if that may be left
abbrev pub Survive : List Older → List DirEntry → List DirEntry → Type 0
Survive older [] left = left ≡ []
Survive older (e ∷ es) left =
    (MayBeOf older e None × Survive older es left)
    ⊎ ((bytes : List ℕ) × (rest : List DirEntry) × (left ≡ entry e.name (secured bytes) ∷ rest)
    × MayBeOf older e (Some bytes)
    × Survive older es rest)
