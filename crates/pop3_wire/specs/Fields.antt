-- Fields and numerals of reply lines (RFC 1939, sections 5 and 7). Spaces separate the fields.
use Rattle.std.specs.{
  Prelude.{◌==◌, ◌&&◌, not, nat_le, ℕ, Bool, List, length, drop, take_while, if◌then◌else◌, Result, Ok, Err},
  List.prefix_len,
  Char.is_ascii_digit,
  Str.Parse.digits_value,
}
use Rattle.mail_terms.specs.{Numeral.{is_numeral, greatest_number, greatest_size}, UniqueId.is_legal_id}
use Rattle.pop3_wire.specs.declared.fault.WireFault.{WireFault, TheVariants.{BadNumber, BadField}}

-- the first step's fault, or what the next step makes of its result
infixl 10 ◌>>=◌
abbrev pub ◌>>=◌ : {A B E : Type 0} → Result A E → (A → Result B E) → Result B E
(Ok x) >>= f = f x
(Err e) >>= f = Err e

abbrev pub is_space : ℕ → Bool
is_space byte = byte == 32

abbrev pub is_in_field : ℕ → Bool
is_in_field byte = not (byte == 32)

-- what follows the longest prefix of bytes that pass the test
abbrev pub past : (ℕ → Bool) → List ℕ → List ℕ
past test bytes = drop (prefix_len test bytes) bytes

-- the number that a numeral stands for, if it isn't above the limit
unfoldable pub number : ℕ → List ℕ → Result ℕ WireFault
number limit field = if is_numeral field && nat_le (digits_value 10 field) limit then Ok (digits_value 10 field)
    else Err BadNumber

-- the bytes from the next field on, if there is one
unfoldable pub next_field : List ℕ → Result (List ℕ) WireFault
next_field bytes = if length (past is_space bytes) == 0 then Err BadField else Ok (past is_space bytes)

-- a message number, and what follows its field
abbrev pub message_number : List ℕ → Result (ℕ × List ℕ) WireFault
message_number line = do
  field ← next_field line
  n ← number greatest_number (take_while is_in_field field)
  Ok (n, past is_in_field field)

-- a number and a size; the size ends after its last digit, and what follows it is ignored
unfoldable pub number_and_size : List ℕ → Result (ℕ × ℕ) WireFault
number_and_size line = do
  first ← message_number line
  field ← next_field first.1
  size ← number greatest_size (take_while is_ascii_digit field)
  Ok (first.0, size)

-- a field that is a legal unique-id
unfoldable pub legal_id : List ℕ → Result (List ℕ) WireFault
legal_id field = if is_legal_id field then Ok field else Err BadField

-- only spaces follow
unfoldable pub nothing_more : List ℕ → List ℕ → Result (List ℕ) WireFault
nothing_more id bytes = if length (past is_space bytes) == 0 then Ok id else Err BadField

-- a number and an id, after which only spaces may follow
unfoldable pub number_and_id : List ℕ → Result (ℕ × List ℕ) WireFault
number_and_id line = do
  first ← message_number line
  field ← next_field first.1
  id ← legal_id (take_while is_in_field field)
  whole ← nothing_more id (past is_in_field field)
  Ok (first.0, whole)
