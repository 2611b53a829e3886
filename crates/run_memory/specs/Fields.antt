-- The fields of a line, each but the last with a space after it.
use Rattle.std.specs.{
  Prelude.{◌≡◌, ◌==◌, ◌&&◌, ◌||◌, nat_le, ℕ, Bool, List, length, Option, Some, None, if◌then◌else◌},
  List.{AllPass, list_all, before_first, after_first},
}
use Rattle.mail_terms.specs.Numeral.{numeral_value}

abbrev pub is_separator : ℕ → Bool
is_separator octet = octet == 32

-- the result of the next step, if this one has one
infixl 10 ◌>>=◌
abbrev pub ◌>>=◌ : {A B : Type 0} → Option A → (A → Option B) → Option B
None >>= f = None
(Some x) >>= f = f x

-- three numbers
abbrev pub numbers_in : List ℕ → Option (ℕ × ℕ × ℕ)
numbers_in octets = do
  first ← numeral_value (before_first is_separator octets)
  second ← numeral_value (before_first is_separator (after_first is_separator octets))
  third ← numeral_value (after_first is_separator (after_first is_separator octets))
  Some (first, second, third)

abbrev pub is_digit : ℕ → Bool
is_digit octet = (nat_le 48 octet && nat_le octet 57) || (nat_le 97 octet && nat_le octet 102)

-- 64 hexadecimal digits in lower case
abbrev pub IsFaultKey : List ℕ → Type 0
IsFaultKey key = (length key ≡ 64) × AllPass is_digit key

abbrev pub key_in : List ℕ → Option (List ℕ)
key_in octets = if length octets == 64 && list_all is_digit octets then Some octets else None
