-- What is kept of what was cut off from a file.
use Rattle.std.specs.Prelude.{◌≡◌, ◌⊎◌, ◌<◌, ◌≤◌, ◌-◌, ◌++◌, ◌&&◌, ℕ, min, Bool, true, false, List, [], length}
use Rattle.std.specs.Prelude.{take, drop, Option, Some, None, option_map, Result, Ok, Err, IsErr, if◌then◌else◌}
use Rattle.std.specs.Prelude.{not, slice_index}
use Rattle.std.specs.{Option.unwrap_or, Str.bytes_eq}
use Rattle.mail_store.specs.{declared.fault.StoreFault.StoreFault, DiskCalls.all_flushed}
use Rattle.folder_store.specs.{
  FileFolder.{Directory, content_at},
  PowerLoss.disk_at,
  Sound.WhereFilesSound,
  declared.cut_off.CutOff.{CutOff},
}

-- an entry begins with these octets; zeros among them, as a loss of power leaves them, don't count
abbrev pub BeginsWith : (entry kept : List ℕ) → Type 0
BeginsWith entry kept = (length kept ≤ length entry)
    × ((k : ℕ) → k < length kept → (slice_index kept k ≡ 0) ⊎ (slice_index kept k ≡ slice_index entry k))

-- something was kept that isn't known to be a part of what was appended since
abbrev pub has_others : {F : Type 0} → CutOff F → Bool
has_others kept = kept.has_kept && not kept.are_ours

-- an entry begins with all that a file of this name has
abbrev pub HasAll : (entry : List ℕ) → Directory → (name : List ℕ) → Type 0
HasAll entry d name = (was : List ℕ) × (content_at d name ≡ Some was) × BeginsWith entry was

-- it begins with all that is kept, if the folder did what its calls promise
abbrev pub HasAllKept : {F : Type 0} → (F → Type 0) → (F → Directory) → CutOff F → (entry : List ℕ) → Type 0
HasAllKept sound directory kept entry = sound kept.folder → HasAll entry (directory kept.folder) kept.name.now

-- the file in which it is kept, and its name, are durable
abbrev pub IsKeptDurable : {F : Type 0} → (F → Directory) → CutOff F → Type 0
IsKeptDurable directory kept =
    all_flushed (disk_at (directory kept.folder) kept.name.now) ≡ disk_at (directory kept.folder) kept.name.now

-- ---- what is done to the file in which it is kept

-- what calls see of it
abbrev pub seen_in : {F : Type 0} → (F → Directory) → CutOff F → Option (List ℕ)
seen_in directory kept = content_at (directory kept.folder) kept.name.now

-- a call did this to it, if the folder did what its calls promise
abbrev pub WhereKeptSound : {F : Type 0} → (F → Type 0) → (F → Directory) → (old new : CutOff F)
    → (Option (List ℕ) → Option (List ℕ) → Type 0) → Type 0
WhereKeptSound sound directory old new Does = WhereFilesSound (λ k. sound k.folder) (seen_in directory) old new Does

-- the bytes of a file, none if there is no file
abbrev pub bytes_of : Option (List ℕ) → List ℕ
bytes_of file = unwrap_or file []

-- those of the file of a name from a place on
abbrev pub bytes_from : Directory → (name : List ℕ) → (start : ℕ) → List ℕ
bytes_from d name start = drop start (bytes_of (content_at d name))

-- its last octets
abbrev pub last_of : ℕ → List ℕ → List ℕ
last_of n bytes = drop (length bytes - n) bytes

-- how many octets of a text, which should have `len`, a file ends with: as many as the shorter of the two has, or none
abbrev pub octets_had : (len : ℕ) → (text ours : List ℕ) → ℕ
octets_had len text ours =
    let shared : ℕ = min (length ours) len in
    if bytes_eq (last_of shared ours) (take shared text) then shared else 0

-- those that it doesn't end with
abbrev pub octets_lacked : (text ours : List ℕ) → List ℕ
octets_lacked text ours = drop (octets_had (length text) text ours) text

-- the file is as it was, or was made
abbrev pub MayBeMade : Option (List ℕ) → Option (List ℕ) → Type 0
MayBeMade old new = (new ≡ old) ⊎ (new ≡ Some (bytes_of old))

-- `make`: the file is there, and has this many octets
abbrev pub MakesMissing : Option (List ℕ) → Result ℕ StoreFault → Option (List ℕ) → Type 0
MakesMissing old (Ok size) new = (size ≡ length (bytes_of old)) × (new ≡ Some (bytes_of old))
MakesMissing old (Err fault) new = MayBeMade old new

-- `octets_there`: how many octets of a text it ends with
abbrev pub TellsHad : (len : ℕ) → (text : List ℕ) → Option (List ℕ) → Result ℕ StoreFault → Option (List ℕ) → Type 0
TellsHad len text old (Ok count) new = (count ≡ octets_had len text (bytes_of old)) × (new ≡ Some (bytes_of old))
TellsHad len text old (Err fault) new = MayBeMade old new

-- bytes come after those of a file
abbrev pub grown : (more : List ℕ) → Option (List ℕ) → Option (List ℕ)
grown more file = option_map (λ bytes. bytes ++ more) file

-- `copy`: the first octets of a text come after those of the file; if refused, a front of them does
abbrev pub Copies : {T : Type 0} → (len : ℕ) → (text : List ℕ) → Option (List ℕ) → Result T StoreFault
    → Option (List ℕ) → Type 0
Copies len text old (Ok done) new = (len ≤ length text) × (new ≡ grown (take len text) old)
Copies len text old (Err fault) new = (front rest : List ℕ) × (take len text ≡ front ++ rest) × (new ≡ grown front old)

-- the file ends with a text, of which it was given what it lacked
abbrev pub KeepsAll : (text : List ℕ) → Option (List ℕ) → Option (List ℕ) → Type 0
KeepsAll text old new = (new ≡ Some (bytes_of old ++ octets_lacked text (bytes_of old)))
    × ((before : List ℕ) × (new ≡ Some (before ++ text)))

-- it was given a front of that, or nothing
abbrev pub KeepsFront : (text : List ℕ) → Option (List ℕ) → Option (List ℕ) → Type 0
KeepsFront text old new = (new ≡ old)
    ⊎ ((front rest : List ℕ) × (octets_lacked text (bytes_of old) ≡ front ++ rest)
    × (new ≡ Some (bytes_of old ++ front)))

-- `keep`: the file ends with a text; if refused, it was given a front of what it lacked
abbrev pub KeepsText : {T : Type 0} → (text : List ℕ) → Option (List ℕ) → Result T StoreFault → Option (List ℕ) → Type 0
KeepsText text old (Ok done) new = KeepsAll text old new
KeepsText text old (Err fault) new = KeepsFront text old new

-- `cut`: what is cut off from the file of a name was kept before and is durable; or the call was refused before it
-- changed that file
abbrev pub KeepsCut : {F T : Type 0} → (F → Type 0) → (F → Directory) → (name : List ℕ) → (len : ℕ)
    → (before after : F) → Result T StoreFault → (old new : CutOff F) → Type 0
KeepsCut sound directory name len before after result old new = (new.name ≡ old.name)
    × (sound after → WhereKeptSound sound directory old new (λ was now.
    (KeepsAll (bytes_from (directory before) name len) was now × IsKeptDurable directory new)
    ⊎ (IsErr result × (directory after ≡ directory before)
    × KeepsFront (bytes_from (directory before) name len) was now)))

-- `cut_keeping`: so it is unless nothing is to be kept, or the last append was refused
abbrev pub KeepsBeforeCut : {F : Type 0} → (CutOff F → CutOff F → Type 0) → Option (CutOff F) → Option (CutOff F)
    → Type 0
KeepsBeforeCut {F = F} Does None new = new ≡ None
KeepsBeforeCut {F = F} Does (Some old) new =
    ((old.is_refused ≡ true) × (new ≡ Some old))
    ⊎ ((old.is_refused ≡ false) × ((kept : CutOff F) × (new ≡ Some kept) × Does old kept))
