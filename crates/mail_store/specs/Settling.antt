-- What a file has from the place on where an entry was about to be appended when a session was cut, and what becomes of
-- it.
use Rattle.std.specs.{
  Prelude.{◌≡◌, ◌⊎◌, ◌≤◌, ◌==◌, ◌&&◌, ◌||◌, ◌+◌, ◌-◌, ◌%◌, not, ℕ, Bool, true, false, List, [], ◌∷◌, ◌++◌, length, Ok},
  Prelude.{take, drop, Option, Some, None, Result, Err, nat_eq, nat_lt, nat_le, bytes_eq, if◌then◌else◌},
  List.{ends_with, list_all},
}
use Rattle.mail_terms.specs.{Listing.Item, Text.IsWhole}
use Rattle.mail_store.specs.{
  declared.fault.StoreFault.{StoreFault, TheVariants.{NotMbox, NoMemory}},
  declared.mboxrd.settling.Behind.{Behind, TheVariants.{Others, Whole, Torn}},
  FlatFile.Fails,
  Mboxrd.{MayGoOn, lines_of, begins_entry, separator, entry_of, text_in, wire_size},
}

-- ---- what a loss of power leaves

-- a disk writes a file in blocks of this many octets, or of a multiple of it
abbrev pub block_size : ℕ
block_size = 512

-- zeros up to the end of a block; the first of these bytes is at `place` in its file
abbrev pub is_lost : ℕ → List ℕ → Bool
is_lost place bytes = list_all (λ byte. byte == 0) (take (block_size - place % block_size) bytes)

-- one of these bytes is the last of a block, and is zero
abbrev pub is_torn : ℕ → List ℕ → Bool
is_torn place [] = false
is_torn place (byte ∷ rest) = ((place + 1) % block_size == 0 && byte == 0) || is_torn (place + 1) rest

-- what a loss of power may leave of bytes that were appended at `place`: a front of them, in which each is there, or is
-- a zero like all that follow in its block
abbrev pub MayBeLeft : ℕ → List ℕ → List ℕ → Type 0
MayBeLeft place bytes [] = Unit {0}
MayBeLeft place [] (byte ∷ left) = ⊥
MayBeLeft place (word ∷ words) (byte ∷ left) =
    ((byte ≡ word) ⊎ (is_lost place (byte ∷ left) ≡ true)) × MayBeLeft (place + 1) words left

-- ---- what an entry looks like

-- the bytes begin with these words, as far as both go, except what is lost
abbrev pub begin_with : ℕ → List ℕ → List ℕ → Bool
begin_with place [] bytes = true
begin_with place (word ∷ words) [] = true
begin_with place (word ∷ words) (byte ∷ rest) = (byte == word || is_lost place (byte ∷ rest))
    && begin_with (place + 1) words rest

-- no line after the first begins with `From `
abbrev pub is_one_entry : List ℕ → Bool
is_one_entry bytes = list_all (λ line. not (begins_entry line)) (drop 1 (lines_of bytes))

-- the last line is empty
abbrev pub ends_empty : List ℕ → Bool
ends_empty bytes = ends_with nat_eq bytes (10 ∷ 10 ∷ [])

-- the bytes from a place on may be what is left of an entry that was appended there, and nothing more: they begin as
-- its first line does, and no other line begins with `From `
abbrev pub is_ours : ℕ → List ℕ → Bool
is_ours place bytes = begin_with place separator bytes && is_one_entry bytes

-- they have the form of one entry, from its first line to an empty one, and no block of them is torn. The last block
-- ends where they end: with an empty line, so not with a zero
abbrev pub is_entry : ℕ → List ℕ → Bool
is_entry place bytes = is_ours place bytes && (not (is_torn place bytes) && ends_empty bytes)

-- the size that is listed for the message with this id, where one is listed; the first, if there are several
abbrev pub listed_size : List Item → List ℕ → Option ℕ
listed_size [] uid = None
listed_size (item ∷ items) uid = if bytes_eq item.uid uid then Some item.size else listed_size items uid

-- the size of a text is the one that is listed for its message, where one is
abbrev pub has_size : Option ℕ → List ℕ → Bool
has_size None text = true
has_size (Some size) text = wire_size text == size

-- they are an entry of this length, and its text has the listed size
abbrev pub is_whole : ℕ → ℕ → Option ℕ → List ℕ → Bool
is_whole place len listed bytes = length bytes == len && (is_entry place bytes && has_size listed (text_in bytes))

-- ---- settling

-- whether the entry of this length that was to be appended at `start` is there whole
abbrev pub stands_whole : ℕ → ℕ → Option ℕ → List ℕ → Bool
stands_whole start len listed file = is_whole start len listed (drop start file)

-- whether some of it is there, but not whole
abbrev pub stands_torn : ℕ → ℕ → Option ℕ → List ℕ → Bool
stands_torn start len listed file =
    (nat_lt 0 (length (drop start file)) && nat_le (length (drop start file)) len)
    && (is_ours start (drop start file) && not (stands_whole start len listed file))

-- the file once it is settled: cut back to `start` if the entry is torn
abbrev pub settled_file : ℕ → ℕ → Option ℕ → List ℕ → List ℕ
settled_file start len listed file = if stands_torn start len listed file then take start file else file

-- what is left of the entry of a text, after a file, is all of it, counts as whole and stays
abbrev pub CountsWhole : List ℕ → List ℕ → Option ℕ → List ℕ → Type 0
CountsWhole file text listed left = (stands_whole (length file) (length (entry_of text)) listed (file ++ left) ≡ true)
    × (settled_file (length file) (length (entry_of text)) listed (file ++ left) ≡ file ++ left)
    × (left ≡ entry_of text)

-- it doesn't count as whole, and the file is cut back to what it was
abbrev pub IsCutOff : List ℕ → List ℕ → Option ℕ → List ℕ → Type 0
IsCutOff file text listed left = (stands_whole (length file) (length (entry_of text)) listed (file ++ left) ≡ false)
    × (settled_file (length file) (length (entry_of text)) listed (file ++ left) ≡ file)

-- a law: what a loss of power leaves of an entry that was appended to a file is all of it and counts as whole, or is
-- cut off
abbrev pub LeftoversAreSettled : Type 0
LeftoversAreSettled = (file text left : List ℕ) (listed : Option ℕ) → IsWhole text
    → MayBeLeft (length file) (entry_of text) left → CountsWhole file text listed left ⊎ IsCutOff file text listed left

-- a law: an entry that is all there counts as whole if its text has the listed size, unless that text has a zero at the
-- end of a block; with another size it is cut off
abbrev pub WholeEntriesCount : Type 0
WholeEntriesCount = (file text : List ℕ) (listed : Option ℕ) → IsWhole text
    → (has_size listed text ≡ true → is_torn (length file) (entry_of text) ≡ false
    → CountsWhole file text listed (entry_of text))
    × (has_size listed text ≡ false → IsCutOff file text listed (entry_of text))

-- ---- what the calls do

-- at `start` of this file is nothing that settling touches, the whole entry, or what it cuts off
abbrev pub IsBehind : Behind → ℕ → ℕ → Option ℕ → List ℕ → Type 0
IsBehind Others start len listed was = (stands_whole start len listed was ≡ false)
    × (settled_file start len listed was ≡ was)
IsBehind Whole start len listed was = (stands_whole start len listed was ≡ true)
    × (settled_file start len listed was ≡ was)
IsBehind Torn start len listed was = (stands_whole start len listed was ≡ false)
    × (settled_file start len listed was ≡ take start was)
    × (start ≤ length was)

-- what stands there was told; memory ran out; or the call failed
abbrev pub TellsBehind : ℕ → ℕ → Option ℕ → Option (List ℕ) → Result Behind StoreFault → Type 0
TellsBehind start len listed content (Ok behind) = (was : List ℕ) × (content ≡ Some was)
    × IsBehind behind start len listed was
TellsBehind start len listed content (Err NoMemory) = Unit {0}
TellsBehind start len listed content (Err fault) = Fails content fault

-- `peek_settled`: whether the entry is there whole, and an entry may follow the file once it is settled; there is no
-- file; a call was refused; none may follow; or memory ran out
abbrev pub TellsSettled : ℕ → ℕ → Option ℕ → Option (List ℕ) → Result Bool StoreFault → Type 0
TellsSettled start len listed content (Ok whole) = (was : List ℕ) × (content ≡ Some was)
    × (whole ≡ stands_whole start len listed was) × MayGoOn (settled_file start len listed was)
TellsSettled start len listed content (Err NotMbox) = (was : List ℕ) × (content ≡ Some was)
    × (MayGoOn (settled_file start len listed was) → ⊥)
TellsSettled start len listed content (Err NoMemory) = Unit {0}
TellsSettled start len listed content (Err fault) = Fails content fault
