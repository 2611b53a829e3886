-- The command line: its options, and what words ask for.
use Rattle.std.specs.{
  Prelude.{◌≡◌, ◌<◌, ◌^◌, ◌==◌, ◌&&◌, ℕ, Bool, not, List, [], Option, None, Some, ◌∷◌, codes, fold, is_some, length},
  Prelude.{map, option_map, pos, unwrap_or},
  String.string_bytes,
  Str.Parse.{IsNumeral, digits_value, without_leading_plus},
}
use Rattle.clap.specs.{
  Words.{App, Row, Rule, all_of, first_of, new_rule, one_of, with_rule},
  declared.builder.{action.ArgAction.TheVariants.Append, value_parser.ValueParser.TheVariants.Signed},
}
use Rattle.command_line.specs.Rules.{is_given, long_flag_rule, long_value_rule, program, word_rule}
use Rattle.popd_program.specs.declared.words.Words.{Words}

-- the greatest number of 32 bits: how many connections are served if no number is given
abbrev pub most_connections : ℕ
most_connections = 4294967295

-- `--connections N`, a number of 32 bits
abbrev pub connections_rule : Rule
connections_rule = record (long_value_rule (codes "connections")) {
  parser = Some
      (Signed (pos 0) (pos most_connections));
}

-- any number of words after these
abbrev pub more_rule : Rule
more_rule = record (new_rule (codes "more")) {
  range = Some (record { start_inclusive = 0; end_inclusive = 18446744073709551615 });
  action = Some Append;
}

-- --listen ADDRESS, --connections N, --rehearse, --verbose, --trace, USER PASSFILE MAILDIR, and words after these
abbrev pub popd : App
popd = fold with_rule (program (codes "popd"))
    (long_value_rule (codes "listen") ∷ connections_rule
    ∷ long_flag_rule (codes "rehearse") ∷ long_flag_rule (codes "verbose") ∷ long_flag_rule (codes "trace")
    ∷ word_rule (codes "user") ∷ word_rule (codes "passfile") ∷ word_rule (codes "maildir") ∷ more_rule ∷ [])

-- how many connections: the number after the option, or the greatest if there is none
abbrev pub Numbers : Option (List ℕ) → ℕ → Type 0
Numbers None count = count ≡ most_connections
Numbers (Some text) count = IsNumeral 10 (without_leading_plus text)
    → digits_value 10 (without_leading_plus text) < 2 ^ 32
    → count ≡ digits_value 10 (without_leading_plus text)

-- the words after the three, in order
abbrev pub words_after : List Row → List (List ℕ)
words_after rows = unwrap_or (all_of (codes "more") rows) []

-- the matches ask for this
pub record AsksToServe (rows : List Row) (words : Words) : Type 0 where
  pub listen : option_map string_bytes words.listen ≡ first_of (codes "listen") rows
  pub connections : Numbers (one_of (codes "connections") rows) words.connections
  pub rehearse : words.rehearse ≡ is_given (codes "rehearse") rows
  pub verbose : words.verbose ≡ is_given (codes "verbose") rows
  pub trace : words.trace ≡ is_given (codes "trace") rows
  pub user : option_map string_bytes words.user ≡ first_of (codes "user") rows
  pub passfile : option_map string_bytes words.passfile ≡ first_of (codes "passfile") rows
  pub maildir : option_map string_bytes words.maildir ≡ first_of (codes "maildir") rows
  pub more : map string_bytes words.more.items ≡ words_after rows

-- there are only options
abbrev pub is_bare : Words → Bool
is_bare words =
    not (is_some words.user) &&
    (not (is_some words.passfile) && (not (is_some words.maildir) && (length words.more.items == 0)))

-- there are USER PASSFILE MAILDIR and no more words
abbrev pub has_all_words : Words → Bool
has_all_words words = is_some words.user
    && (is_some words.passfile && (is_some words.maildir && (length words.more.items == 0)))
