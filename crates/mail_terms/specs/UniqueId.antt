-- Unique-ids (RFC 1939, section 7, UIDL).
use Rattle.std.specs.{
  Prelude.{ℕ, ◌≤◌, ◌&&◌, nat_lt, nat_le, Bool, List, length, All, IsTrue, bytes_eq},
  List.{list_all, list_any},
}

-- a character that a unique-id may hold: 0x21 to 0x7E
abbrev pub is_id_byte : ℕ → Bool
is_id_byte byte = nat_le 0x21 byte && nat_le byte 0x7E

-- 1 to 70 such characters
abbrev pub is_legal_id : List ℕ → Bool
is_legal_id id = nat_lt 0 (length id) && nat_le (length id) 70 && list_all is_id_byte id

abbrev pub IsLegalId : List ℕ → Type 0
IsLegalId id = IsTrue (is_legal_id id)

-- whether an id is one of these
abbrev pub has_id : List (List ℕ) → List ℕ → Bool
has_id ids id = list_any (bytes_eq id) ids

-- the same by ranges: those of the id's length and of its characters
pub record HasIdRanges (id : List ℕ) : Type 0 where
  pub some : 1 ≤ length id
  pub short : length id ≤ 70
  pub characters : All (λ byte. (0x21 ≤ byte) × (byte ≤ 0x7E)) id
