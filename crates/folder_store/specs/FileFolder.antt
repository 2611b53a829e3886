-- A folder of a file system: what its calls see, what of it is durable, and what each call does, for
-- either outcome.
use Rattle.std.specs.Prelude.{◌≡◌, ℕ, List, [], ◌∷◌, ◌++◌, length, take, map, Bool, true, false, Option, Some, None}
use Rattle.std.specs.Prelude.{option_map, Result, Ok, Err, ◌⊎◌, Vec, bytes_eq, if◌then◌else◌}
use Rattle.mail_store.specs.{
  declared.{fault.StoreFault.{StoreFault, TheVariants.Missing}, file.flat_file.Edges.Edges},
  DiskCalls.{appended, cut, doubted, flushed},
  Durable.{Blob, content_in, secured},
  FlatFile.{edges_of, piece_at},
}

-- a name and the file that it leads to
pub record DirEntry : Type 0 where
  pub name : List ℕ
  pub blob : Blob

-- what a name led to, before a change that may not be durable yet
pub record Older : Type 0 where
  pub name : List ℕ
  pub was : Option Blob

-- a folder: whether a file can be made, the files by their names in the order in which they came, and what names led
-- to before they were changed, since the names were last flushed
pub record Directory : Type 0 where
  pub can_make : Bool
  pub entries : List DirEntry
  pub older : List Older

-- a file that was made and has no name yet: its bytes, and whether they are durable
pub record MadeFile : Type 0 where
  pub content : List ℕ
  pub is_flushed : Bool

abbrev pub entry : List ℕ → Blob → DirEntry
entry name blob = record { name = name; blob = blob }

-- the names of some files
abbrev pub names_in : List DirEntry → List (List ℕ)
names_in entries = map (λ (e : DirEntry). e.name) entries

-- the file that a name leads to
abbrev pub find : List ℕ → List DirEntry → Option Blob
find name [] = None
find name (e ∷ entries) = if bytes_eq name e.name then Some e.blob else find name entries

-- the name leads to this file: in the place of another, else after all
abbrev pub placed : List ℕ → Blob → List DirEntry → List DirEntry
placed name blob [] = entry name blob ∷ []
placed name blob (e ∷ entries) = if bytes_eq name e.name then entry name blob ∷ entries
    else e ∷ placed name blob entries

-- the bytes of the file of this name
abbrev pub content_at : Directory → List ℕ → Option (List ℕ)
content_at d name = option_map content_in (find name d.entries)

-- a file without bytes
abbrev pub empty_made : MadeFile
empty_made = record { content = []; is_flushed = false }

-- a file that was made, once it has a name
abbrev pub blob_made : MadeFile → Blob
blob_made file = if file.is_flushed then secured file.content
    else record { content = file.content; flushed = []; uncut = 0; is_doubted = false }

-- the file of this name has other bytes
abbrev pub with_blob : Directory → List ℕ → Blob → Directory
with_blob d name blob = record d { entries = placed name blob d.entries }

-- the file that was made has a name here
abbrev pub put_in : Directory → MadeFile → List ℕ → Directory
put_in d file name = record d {
  entries = placed name (blob_made file) d.entries;
  older = record { name = name; was = find name d.entries } ∷ d.older;
}

-- the names are durable
abbrev pub names_flushed : Directory → Directory
names_flushed d = record d { older = [] }

-- `make`: a file without bytes; Missing only if none can be made
abbrev pub Makes : {N : Type 0} → (N → MadeFile) → Bool → Result N StoreFault → Type 0
Makes made can_make (Ok file) = (can_make ≡ true) × (made file ≡ empty_made)
Makes made can_make (Err fault) = fault ≡ Missing → can_make ≡ false

-- `put`: the file that was made, whose premise holds, is put under the name; a refused call did that, or nothing
abbrev pub PutsFile : {T : Type 0} → (Sound : Type 0) → Directory → MadeFile → List ℕ → Result T StoreFault → Directory
    → Type 0
PutsFile Sound old file name (Ok done) new = Sound × (new ≡ put_in old file name)
PutsFile Sound old file name (Err fault) new = (new ≡ old) ⊎ (Sound × (new ≡ put_in old file name))

-- a call that only reads a file answered a fault: there is no such file, or the call was refused
abbrev pub LacksFile : Directory → List ℕ → StoreFault → Directory → Type 0
LacksFile old name fault new = (new ≡ old) × (fault ≡ Missing → content_at old name ≡ None)

-- `read`: the bytes of the file of this name
abbrev pub ReadsFile : {B : Type 0} → Directory → List ℕ → Result (Vec ℕ B) StoreFault → Directory → Type 0
ReadsFile old name (Ok bytes) new = (content_at old name ≡ Some bytes.items) × (new ≡ old)
ReadsFile old name (Err fault) new = LacksFile old name fault new

-- `edges`: the size and the ends of the file of this name
abbrev pub MeasuresFile : Directory → List ℕ → Result Edges StoreFault → Directory → Type 0
MeasuresFile old name (Ok edges) new = ((was : List ℕ) × (content_at old name ≡ Some was) × (edges ≡ edges_of was))
    × (new ≡ old)
MeasuresFile old name (Err fault) new = LacksFile old name fault new

-- `read_at`: the front of the buffer has the bytes of the file of this name from a place on, as many as fit,
-- and the answer is how many
abbrev pub ReadsPiece : Directory → List ℕ → ℕ → Result ℕ StoreFault → List ℕ → Directory → Type 0
ReadsPiece old name start (Ok count) buf new =
    ((was : List ℕ) × (content_at old name ≡ Some was) × (count ≡ length (piece_at start (length buf) was))
    × (take count buf ≡ piece_at start (length buf) was))
    × (new ≡ old)
ReadsPiece old name start (Err fault) buf new = LacksFile old name fault new

-- `size`: how many bytes the file of this name has
abbrev pub TellsFileSize : Directory → List ℕ → Result ℕ StoreFault → Directory → Type 0
TellsFileSize old name (Ok size) new = ((was : List ℕ) × (content_at old name ≡ Some was) × (size ≡ length was))
    × (new ≡ old)
TellsFileSize old name (Err fault) new = LacksFile old name fault new

-- the file of this name became one to which it has the relation
abbrev pub Alters : (Blob → Blob → Type 0) → Directory → List ℕ → Directory → Type 0
Alters R old name new = (b c : Blob) × (find name old.entries ≡ Some b) × R b c × (new ≡ with_blob old name c)

-- the file of this name became another; a refused call did a part of this, or nothing
abbrev pub AltersInPart : {T : Type 0} → (Blob → Blob → Type 0) → (Blob → Blob → Type 0) → Directory → List ℕ
    → Result T StoreFault
    → Directory → Type 0
AltersInPart Done Part old name (Ok done) new = Alters Done old name new
AltersInPart Done Part old name (Err fault) new = (new ≡ old) ⊎ Alters Part old name new

-- `append`: the bytes are appended to the file of this name; a refused call appended a front of them, or nothing
abbrev pub AppendsTo : {T : Type 0} → Directory → List ℕ → List ℕ → Result T StoreFault → Directory → Type 0
AppendsTo old name bytes r new = AltersInPart (λ b c. c ≡ appended b bytes)
    (λ b c. (front rest : List ℕ) × (bytes ≡ front ++ rest) × (c ≡ appended b front)) old name r new

-- `cut_to`: the first bytes of the file are kept; a refused call did it, or nothing
abbrev pub CutsTo : {T : Type 0} → Directory → List ℕ → ℕ → Result T StoreFault → Directory → Type 0
CutsTo old name len r new = AltersInPart (λ b c. c ≡ cut b len) (λ b c. c ≡ cut b len) old name r new

-- `flush`: the bytes of the file of this name are durable; after a refused call they may be, or nothing was
-- done, or nothing more of the file is known to reach the disk
abbrev pub FlushesFile : {T : Type 0} → Directory → List ℕ → Result T StoreFault → Directory → Type 0
FlushesFile old name r new = AltersInPart (λ b c. c ≡ flushed b)
    (λ b c. (c ≡ flushed b) ⊎ (c ≡ doubted b)) old name r new

-- `flush_names`: the names are durable; a refused call did it, or nothing. An answer that the file system flushes no
-- folders ends the premise
abbrev pub FlushesNames : Directory → Result Bool StoreFault → Directory → Type 0
FlushesNames old (Ok flushes) new = (flushes ≡ true) × (new ≡ names_flushed old)
FlushesNames old (Err fault) new = (new ≡ old) ⊎ (new ≡ names_flushed old)

-- a folder of which nothing is known
abbrev pub unknown_directory : Directory
unknown_directory = record { can_make = false; entries = []; older = [] }
