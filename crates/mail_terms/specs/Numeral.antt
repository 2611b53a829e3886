-- Numerals of the protocol (RFC 1939, sections 5 and 7), and the greatest numbers.
use Rattle.std.specs.{
  Prelude.{ℕ, Bool, ◌&&◌, nat_lt, nat_le, List, length, Option, Some, None, if◌then◌else◌},
  Char.is_ascii_digit,
  List.list_all,
  Str.Parse.digits_value,
}

-- 1 to 20 digits; leading zeros are allowed
abbrev pub is_numeral : List ℕ → Bool
is_numeral field = nat_lt 0 (length field) && nat_le (length field) 20 && list_all is_ascii_digit field

-- the greatest message number
abbrev pub greatest_number : ℕ
greatest_number = 4294967295

-- the greatest size or total, in octets
abbrev pub greatest_size : ℕ
greatest_size = 18446744073709551615

-- the number that a numeral stands for, if it isn't above the greatest size
abbrev pub numeral_value : List ℕ → Option ℕ
numeral_value field = if is_numeral field && nat_le (digits_value 10 field) greatest_size
    then Some (digits_value 10 field) else None
