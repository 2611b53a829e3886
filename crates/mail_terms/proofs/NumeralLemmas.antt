-- The value of the digits that were read so far, and the numeral of a number.
use Rattle.std.{
  proofs.Common.{◌≡◌, ℕ, ◌+◌, ◌*◌, ◌-◌, ◌<◌, ◌≤◌, ◌==◌, List, [], ◌∷◌, length, take, get_or, Bool, true, false, ◌&&◌, ◌^◌, ◌≢◌, Some, None},
  proofs.Common.{ap, decimal, nat_le, refl, sym, ◌∙◌, arith, if◌then◌else◌, take_all},
  proofs.Math.Bool.and-false,
  proofs.lemmas.{Bool.{Decides.nat_tests, and_from, le-leb, lt-leb, lt-ltb}, Fmt.{decimal_is_IsNumeral, digits_decimal, length-decimal-le}},
  proofs.lemmas.{List.{Folds.list_all_more, Elements.{All-from_get_or, recursion_from_All}}, Int.Digits.digits_value_more},
  proofs.lemmas.Str.Parse.{IsNumeralModel, digits_value-take-le, not_in_digits, numerals_by_value, tells_all_ascii_digits, tells_digits},
  specs.{Char.{is_ascii_digit, digit_value}, List.{AllByRecursion, list_all}, Str.{all_ascii_digits, Parse.{AllDigits, digits_value}}},
}
use Rattle.mail_terms.specs.Numeral.{greatest_size, is_numeral, numeral_value}

-- these octets are digits, and this is their value, which isn't too large
pub record HasDigits (octets : List ℕ) (value : ℕ) : Type 0 where
  pub digits : list_all is_ascii_digit octets ≡ true
  pub is : value ≡ digits_value 10 octets
  pub fits : value ≤ 18446744073709551615

value_of : (byte : ℕ) → is_ascii_digit byte ≡ true → digit_value byte ≡ byte - 48
value_of byte digit = grind (arith, nat_tests)

-- the value with one more digit
one_more : (text : List ℕ) (i value : ℕ) → i < length text → HasDigits (take i text) value → is_ascii_digit (get_or text i 0) ≡ true
    → digits_value 10 (take (i + 1) text) ≡ value * 10 + (get_or text i 0 - 48)
one_more text i value inside read digit = omega (arith, digits_value_more 10 text i inside, read.is, value_of (get_or text i 0) digit)

pub digits_more : (text : List ℕ) (i value next : ℕ) → i < length text → HasDigits (take i text) value
    → is_ascii_digit (get_or text i 0) ≡ true
    → next ≡ value * 10 + (get_or text i 0 - 48) → next ≤ 18446744073709551615 → HasDigits (take (i + 1) text) next
digits_more text i value next inside read digit is fits = record {
  digits = list_all_more is_ascii_digit text i 0 inside ∙ ap (λ (b : Bool). b && is_ascii_digit (get_or text i 0)) read.digits ∙ digit;
  is = is ∙ sym (one_more text i value inside read digit);
  fits = fits;
}

-- no number that is too large has a value, nor one that begins with such a number
pub no_value : (text : List ℕ) (i value : ℕ) → i < length text → HasDigits (take i text) value → is_ascii_digit (get_or text i 0) ≡ true
    → 18446744073709551615 < value * 10 + (get_or text i 0 - 48) → numeral_value text ≡ None
no_value text i value inside read digit large =
    let less = digits_value-take-le 10 text (i + 1) (omega arith) in
    ap (λ (b : Bool). if is_numeral text && b then Some (digits_value 10 text) else None)
    (lt-leb (digits_value 10 text) 18446744073709551615 (omega (arith, large, less, one_more text i value inside read digit)))
    ∙ ap (λ (b : Bool). if b then Some (digits_value 10 text) else None) (and-false (is_numeral text))

-- all digits were read
pub whole_value : (text : List ℕ) (i value : ℕ) → (length text == 0) ≡ false → length text ≤ 20 → length text ≤ i
    → HasDigits (take i text) value → Some value ≡ numeral_value text
whole_value text i value some short whole read =
    let all = take_all i text whole in
    let digits : list_all is_ascii_digit text ≡ true = ap (list_all is_ascii_digit) (sym all) ∙ read.digits in
    let is : value ≡ digits_value 10 text = read.is ∙ ap (digits_value 10) all in
    rw (
      lt-ltb 0 (length text) (grind (arith, nat_tests)),
      le-leb (length text) 20 short,
      digits,
      le-leb (digits_value 10 text) 18446744073709551615 (omega (arith, read.fits, is)),
    ) (ap (λ (n : ℕ). Some n) is)

-- ---- each number of 64 bits is read from the numeral without leading zeros that writes it

pub digits_same : (ds : List ℕ) → list_all is_ascii_digit ds ≡ all_ascii_digits ds
digits_same [] = refl
digits_same (d ∷ ds) = rw (digits_same ds) refl

pub by_test : IsNumeralModel (λ (ds : List ℕ). all_ascii_digits ds ≡ true) (digits_value 10)
by_test = numerals_by_value (λ (ds : List ℕ). all_ascii_digits ds ≡ true) tells_all_ascii_digits

pub numeral_value-decimal : (number : ℕ) → number < 2 ^ 64 → numeral_value (decimal number) ≡ Some number
numeral_value-decimal number fits =
    let numeral = decimal_is_IsNumeral number fits in
    let test : is_numeral (decimal number) ≡ true = and_from _ _ (and_from _ _ (lt-ltb 0 (length (decimal number)) numeral.0.0)
    (le-leb (length (decimal number)) 20 (length-decimal-le 20 number (omega arith) (omega (arith, fits)) fits)))
    (digits_same (decimal number) ∙ digits_decimal by_test number fits) in
    rw (test, ap (λ (n : ℕ). nat_le n greatest_size) numeral.1 ∙ le-leb number greatest_size (omega (arith, fits)))
    (ap (λ (n : ℕ). Some n) numeral.1)

-- ---- what isn't in it

abbrev pub HasNo : ℕ → List ℕ → Type 0
HasNo byte bytes = AllByRecursion (λ other. other ≢ byte) bytes

pub HasNo-decimal : (s : ℕ) → s < 48 → (n : ℕ) → n < 2 ^ 64 → HasNo s (decimal n)
HasNo-decimal s below n fits = recursion_from_All (λ other. other ≢ s) (decimal n) (All-from_get_or (λ other. other ≢ s) (decimal n) 0
    (not_in_digits (numerals_by_value (AllDigits 10) tells_digits) (decimal n) s (decimal_is_IsNumeral n fits).0.1
    (λ range. omega (arith, range.0, below))))
