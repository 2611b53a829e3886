-- The command that a line asks for, or why it asks for none (RFC 1939, sections 3 and 5 to 7).
use Rattle.std.specs.{
  Prelude.{◌≡◌, ◌<◌, ◌^◌, true, ℕ, List, [], ◌∷◌, ◌-◌, if◌then◌else◌, nat_lt, nat_le, length, take, drop, codes, Some},
  Prelude.{Option, None, Result, Ok, Err},
  List.{before_first, after_first, slice_split, suffix_len},
  Option.option_map_or,
  Str.str_eq_ignore_ascii_case,
}
use Rattle.pop3_wire.specs.{
  declared.{fault.WireFault.{WireFault, TheVariants.{BadNumber, BadCommand, BadArgument}}, keyword.Keyword.Keyword},
  declared.command.Command.Command,
  declared.command.Command.TheVariants.{User, Pass, Stat, UidlAll, UidlOne, ListAll, ListOne, Retr, Dele, Rset, Noop},
  declared.command.Command.TheVariants.{Top, Quit},
  Line.IsLine,
  Commands.{can_be_sent, line_of},
  Fields.{◌>>=◌, is_space, number},
}
use Rattle.mail_terms.specs.{Credential.is_credential, Numeral.greatest_number}
use Rattle.pop3_wire.specs.declared.keyword.Keyword.TheVariants as keyword

-- the keyword that a word is, in upper or lower case or both
unfoldable pub keyword_of : List ℕ → Option Keyword
keyword_of word =
    if str_eq_ignore_ascii_case word (codes "USER") then Some keyword.User
    else if str_eq_ignore_ascii_case word (codes "PASS") then Some keyword.Pass
    else if str_eq_ignore_ascii_case word (codes "STAT") then Some keyword.Stat
    else if str_eq_ignore_ascii_case word (codes "UIDL") then Some keyword.Uidl
    else if str_eq_ignore_ascii_case word (codes "LIST") then Some keyword.List
    else if str_eq_ignore_ascii_case word (codes "RETR") then Some keyword.Retr
    else if str_eq_ignore_ascii_case word (codes "DELE") then Some keyword.Dele
    else if str_eq_ignore_ascii_case word (codes "RSET") then Some keyword.Rset
    else if str_eq_ignore_ascii_case word (codes "NOOP") then Some keyword.Noop
    else if str_eq_ignore_ascii_case word (codes "TOP") then Some keyword.Top
    else if str_eq_ignore_ascii_case word (codes "QUIT") then Some keyword.Quit
    else None

-- an argument of 1 to 10 digits whose value is below 2 ^ 32
unfoldable pub argument_number : List ℕ → Result ℕ WireFault
argument_number word = if nat_le (length word) 10 then number greatest_number word else Err BadNumber

-- a line without the spaces at its end
abbrev pub trimmed : List ℕ → List ℕ
trimmed line = take (length line - suffix_len is_space line) line

-- the words after the keyword: the trimmed line is split at each space
unfoldable pub arguments : List ℕ → List (List ℕ)
arguments line = drop 1 (slice_split is_space (trimmed line))

-- all that follows the space after the keyword, spaces included
abbrev pub after_keyword : List ℕ → List ℕ
after_keyword line = after_first is_space line

-- the argument of USER or PASS
unfoldable pub text_argument : List ℕ → Result (List ℕ) WireFault
text_argument text = if is_credential text then Ok text else Err BadArgument

-- no argument, one number, at most one number, and two numbers; the number of arguments is checked before
-- their form
unfoldable pub no_argument : List (List ℕ) → Result (Unit {0}) WireFault
no_argument [] = Ok tt
no_argument (word ∷ more) = Err BadArgument

unfoldable pub one_number : List (List ℕ) → Result ℕ WireFault
one_number [] = Err BadArgument
one_number (word ∷ []) = argument_number word
one_number (word ∷ other ∷ more) = Err BadArgument

unfoldable pub number_or_none : List (List ℕ) → Result (Option ℕ) WireFault
number_or_none [] = Ok None
number_or_none (word ∷ []) = do
  n ← argument_number word
  Ok (Some n)
number_or_none (word ∷ other ∷ more) = Err BadArgument

unfoldable pub two_numbers : List (List ℕ) → Result (ℕ × ℕ) WireFault
two_numbers [] = Err BadArgument
two_numbers (word ∷ []) = Err BadArgument
two_numbers (word ∷ other ∷ []) = do
  n ← argument_number word
  k ← argument_number other
  Ok (n, k)
two_numbers (word ∷ other ∷ third ∷ more) = Err BadArgument

-- what follows a keyword, and the command that it asks for
pub data ArgumentForm : Type 0 where
  -- all that follows the space, spaces included
  Text : (List ℕ → Command) → ArgumentForm
  -- no argument
  Alone : Command → ArgumentForm
  -- one number
  Number : (ℕ → Command) → ArgumentForm
  -- one number, or none for all messages
  NumberOrNone : (ℕ → Command) → Command → ArgumentForm
  -- two numbers
  TwoNumbers : (ℕ → ℕ → Command) → ArgumentForm

-- the forms of the keywords' arguments
abbrev pub form_of : Keyword → ArgumentForm
form_of keyword.User = Text User
form_of keyword.Pass = Text Pass
form_of keyword.Stat = Alone Stat
form_of keyword.Uidl = NumberOrNone UidlOne UidlAll
form_of keyword.List = NumberOrNone ListOne ListAll
form_of keyword.Retr = Number Retr
form_of keyword.Dele = Number Dele
form_of keyword.Rset = Alone Rset
form_of keyword.Noop = Alone Noop
form_of keyword.Top = TwoNumbers Top
form_of keyword.Quit = Alone Quit

-- the command of a form, given all that follows the space after the keyword, and the arguments
abbrev pub command_in : ArgumentForm → List ℕ → List (List ℕ) → Result Command WireFault
command_in (Text command) rest words = do
  text ← text_argument rest
  Ok (command text)
command_in (Alone command) rest words = do
  none ← no_argument words
  Ok command
command_in (Number command) rest words = do
  n ← one_number words
  Ok (command n)
command_in (NumberOrNone one all) rest words = do
  which ← number_or_none words
  Ok (option_map_or one which all)
command_in (TwoNumbers command) rest words = do
  which ← two_numbers words
  Ok (command which.0 which.1)

-- the command of a keyword, if there is one
unfoldable pub command_by : Option Keyword → List ℕ → List (List ℕ) → Result Command WireFault
command_by None rest words = Err BadCommand
command_by (Some word) rest words = command_in (form_of word) rest words

-- how many octets a command's line may have, without its CR LF
abbrev pub command_limit : ℕ
command_limit = 510

-- the command that a line without its CR LF asks for, or its fault; the keyword is what comes before the
-- first space
unfoldable pub command_of : List ℕ → Result Command WireFault
command_of line = if nat_lt command_limit (length line) then Err BadCommand
    else command_by (keyword_of (before_first is_space line)) (after_keyword line) (arguments line)

-- a command that carries bytes: USER or PASS
abbrev pub CarriesBytes : Command → Type 0
CarriesBytes (User name) = Unit {0}
CarriesBytes (Pass password) = Unit {0}
CarriesBytes _ = ⊥

-- the numbers of a command are below 2 ^ 32
abbrev pub HasNumbers : Command → Type 0
HasNumbers (UidlOne n) = n < 2 ^ 32
HasNumbers (ListOne n) = n < 2 ^ 32
HasNumbers (Retr n) = n < 2 ^ 32
HasNumbers (Dele n) = n < 2 ^ 32
HasNumbers (Top n k) = (n < 2 ^ 32) × (k < 2 ^ 32)
HasNumbers _ = Unit {0}

-- the line that asks for a command is read as that command
abbrev pub ReadAsWritten : Type 0
ReadAsWritten = (c : Command) → HasNumbers c → can_be_sent c ≡ true → command_of (line_of c) ≡ Ok c

-- the line that asks for a command is one line
abbrev pub CommandsAreLines : Type 0
CommandsAreLines = (c : Command) → HasNumbers c → can_be_sent c ≡ true → IsLine (line_of c)
