-- The rules of options and words, and whether a flag was given.
use Rattle.std.specs.Prelude.{ℕ, Bool, true, false, List, [], Some, nat_lt}
use Rattle.clap.specs.{
  Words.{App, Row, Rule, count_of, new_app, new_rule},
  declared.error.kind.ErrorKind.{ErrorKind, TheVariants.{DisplayHelp, DisplayVersion}},
  declared.builder.action.ArgAction.TheVariants.{Set, Count},
}

-- a program of this name, with --version
abbrev pub program : List ℕ → App
program name = record { top = record (new_app name).top { has_version = true }; subs = [] }

-- an option with a value, given at most once
abbrev pub option_rule : List ℕ → ℕ → Rule
option_rule name short = record (new_rule name) {
  long = Some name;
  short = Some short;
  value_names = 1;
  action = Some Set;
}

-- the same with no short form
abbrev pub long_value_rule : List ℕ → Rule
long_value_rule name = record (new_rule name) { long = Some name; value_names = 1; action = Some Set }

-- a flag, given any number of times
abbrev pub flag_rule : List ℕ → ℕ → Rule
flag_rule name short = record (new_rule name) { long = Some name; short = Some short; action = Some Count }

-- a flag with no short form
abbrev pub long_flag_rule : List ℕ → Rule
long_flag_rule name = record (new_rule name) { long = Some name; action = Some Count }

-- a word that is no option
abbrev pub word_rule : List ℕ → Rule
word_rule name = record (new_rule name) { value_names = 1; action = Some Set }

-- whether a flag was given, however often
abbrev pub is_given : List ℕ → List Row → Bool
is_given name rows = nat_lt 0 (count_of name rows)

-- clap's text is one that was asked for
abbrev pub is_asked_text : ErrorKind → Bool
is_asked_text DisplayHelp = true
is_asked_text DisplayVersion = true
is_asked_text kind = false
