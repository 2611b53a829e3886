-- What calls see of a file, and what those that read tell of it.
use Rattle.std.specs.Prelude.{◌≡◌, ℕ, ◌+◌, ◌≤◌, List, [], ◌∷◌, length, take, drop, slice_index, Option, Some}
use Rattle.std.specs.Prelude.{None, Result, Ok, Err, Vec}
use Rattle.mail_store.specs.declared.{
  fault.StoreFault.{StoreFault, TheVariants.{Missing, Refused}},
  file.flat_file.Edges.Edges,
}

-- what is known of a file: its bytes, None if there is no file, and how many calls were refused
pub record Stored : Type 0 where
  pub content : Option (List ℕ)
  pub failures : ℕ

-- the file with these bytes
abbrev pub holding : Stored → List ℕ → Stored
holding old bytes = record old { content = Some bytes }

-- one more refusal
abbrev pub file_refused : Stored → Stored
file_refused old = record old { failures = old.failures + 1 }

-- the size of some bytes, the first five of them, and the last two; a byte that isn't there is zero
-- (`slice_index` gives 0 past the end)
abbrev pub edges_of : List ℕ → Edges
edges_of bytes = record {
  size = length bytes;
  head = slice_index bytes 0 ∷ slice_index bytes 1 ∷ slice_index bytes 2 ∷ slice_index bytes 3 ∷ slice_index
      bytes 4 ∷ [];
  tail = slice_index (0 ∷ 0 ∷ bytes) (length bytes) ∷ slice_index (0 ∷ 0 ∷ bytes) (length bytes + 1) ∷ [];
}

-- ---- what a call that reads tells of the bytes of a file, None for no file

-- it failed: there is no file, or the call was refused
abbrev pub Fails : Option (List ℕ) → StoreFault → Type 0
Fails content Missing = content ≡ None
Fails content Refused = Unit {0}
Fails content fault = ⊥

-- `load` and `peek`: the bytes
abbrev pub TellsBytes : {B : Type 0} → Option (List ℕ) → Result (Vec ℕ B) StoreFault → Type 0
TellsBytes content (Ok bytes) = content ≡ Some bytes.items
TellsBytes content (Err fault) = Fails content fault

-- `edges` and `peek_edges`: their size and their ends
abbrev pub TellsEdges : Option (List ℕ) → Result Edges StoreFault → Type 0
TellsEdges content (Ok edges) = (was : List ℕ) × (content ≡ Some was) × (edges ≡ edges_of was)
TellsEdges content (Err fault) = Fails content fault

-- the bytes from a place on, at most `len`: none if the place is at or past the end
abbrev pub piece_at : ℕ → ℕ → List ℕ → List ℕ
piece_at start len bytes = take len (drop start bytes)

-- `read_at`: the front of the buffer has the bytes from a place on, as many as fit, and the answer is how many
abbrev pub TellsPiece : ℕ → List ℕ → Option (List ℕ) → Result ℕ StoreFault → Type 0
TellsPiece start buf content (Ok count) = (was : List ℕ) × (content ≡ Some was)
    × (count ≡ length (piece_at start (length buf) was)) × (take count buf ≡ piece_at start (length buf) was)
TellsPiece start buf content (Err fault) = Fails content fault

-- the file is there, and has at least this many bytes
abbrev pub HasBytes : Option (List ℕ) → ℕ → Type 0
HasBytes content len = (was : List ℕ) × (content ≡ Some was) × (len ≤ length was)
