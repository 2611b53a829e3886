-- The forms of a row of LIST, of STAT's rest, and of a row of UIDL (RFC 1939, sections 5 and 7).
use Rattle.std.specs.{
  Prelude.{◌≡◌, ◌≢◌, ◌≤◌, ◌↔◌, false, ℕ, List, [], ◌∷◌, ◌++◌, codes, IsTrue, Ok, decimal},
  List.list_all,
  Char.is_ascii_digit,
  Str.Parse.digits_value,
}
use Rattle.mail_terms.specs.{Numeral.{is_numeral, greatest_number, greatest_size}, UniqueId.IsLegalId}
use Rattle.pop3_wire.specs.{Body.{IsContent, unstuffed}, Fields.{is_space, number_and_size, number_and_id}}

-- only spaces
abbrev pub AreSpaces : List ℕ → Type 0
AreSpaces bytes = IsTrue (list_all is_space bytes)

-- a numeral that stands for a number up to a limit
pub record StandsForNumber (limit : ℕ) (digits : List ℕ) (number : ℕ) : Type 0 where
  pub numeral : IsTrue (is_numeral digits)
  pub value : number ≡ digits_value 10 digits
  pub within : number ≤ limit

-- any spaces, a message number, one space or more, and the rest
pub record HasNumber (line : List ℕ) (number : ℕ) (rest : List ℕ) : Type 0 where
  pub indent : List ℕ
  pub digits : List ℕ
  pub gap : List ℕ
  pub whole : line ≡ indent ++ (digits ++ (gap ++ rest))
  pub before : AreSpaces indent
  pub counted : StandsForNumber greatest_number digits number
  pub apart : AreSpaces gap
  pub some : gap ≢ []

-- after the message number a size, and then anything that doesn't begin with a digit
pub record HasScanForm (line : List ℕ) (number size : ℕ) : Type 0 where
  pub digits : List ℕ
  pub behind : List ℕ
  pub front : HasNumber line number (digits ++ behind)
  pub sized : StandsForNumber greatest_size digits size
  pub over : (byte : ℕ) (rest : List ℕ) → behind ≡ byte ∷ rest → is_ascii_digit byte ≡ false

-- after the message number a legal unique-id, and any spaces
pub record HasUidForm (line : List ℕ) (number : ℕ) (uid : List ℕ) : Type 0 where
  pub behind : List ℕ
  pub front : HasNumber line number (uid ++ behind)
  pub legal : IsLegalId uid
  pub over : AreSpaces behind

-- the lines that are read are exactly those of the form, with the numbers and the id that are in it
abbrev pub ScanRowsHaveForm : Type 0
ScanRowsHaveForm = (line : List ℕ) (number size : ℕ) → (number_and_size line ≡ Ok (number, size))
    ↔ HasScanForm line number size

abbrev pub UidRowsHaveForm : Type 0
UidRowsHaveForm = (line : List ℕ) (number : ℕ) (uid : List ℕ) → (number_and_id line ≡ Ok (number, uid))
    ↔ HasUidForm line number uid

-- a number is written as a numeral that stands for it
abbrev pub NumbersAreRead : Type 0
NumbersAreRead = (limit number : ℕ) → number ≤ limit → number ≤ greatest_size
    → StandsForNumber limit (decimal number) number

-- the row of LIST, which is also STAT's rest, as it is written, and the row of UIDL
abbrev pub scan_row : ℕ → ℕ → List ℕ
scan_row number size = decimal number ++ codes " " ++ decimal size

abbrev pub uid_row : ℕ → List ℕ → List ℕ
uid_row number uid = decimal number ++ codes " " ++ uid

-- a line that is sent in a body as it is: it needs no stuffing
abbrev pub IsSentAsIs : List ℕ → Type 0
IsSentAsIs line = IsContent line × (unstuffed line ≡ line)

-- a row that is written is sent as it is, and is read as it was meant
abbrev pub ScanRowsAreRead : Type 0
ScanRowsAreRead = (number size : ℕ) → number ≤ greatest_number → size ≤ greatest_size
    → IsSentAsIs (scan_row number size) × (number_and_size (scan_row number size) ≡ Ok (number, size))

abbrev pub UidRowsAreRead : Type 0
UidRowsAreRead = (number : ℕ) (uid : List ℕ) → number ≤ greatest_number → IsLegalId uid
    → IsSentAsIs (uid_row number uid) × (number_and_id (uid_row number uid) ≡ Ok (number, uid))
