-- What clap's matches of the command line are.
use Rattle.std.{
  proofs.Common.{◌≡◌, ◌∙◌, ℕ, List, Option, None, Some, Result, Ok, Err, true, ap, refl, unwrap_or},
  specs.Str.Parse.ParsesUnsigned,
}
use Rattle.clap.{
  specs.{Kinds.HasKind, declared.{error.Error.Error, parser.matches.ArgMatches.ArgMatches}},
  specs.Words.{App, HasMatchesOf, ReadsOne, fault_of, found_of, is_simple, is_simple_and_free, matches_of, rows_of},
  proofs.OnLiterals.clap_on_literals,
}
use Rattle.popd_program.specs.CommandLine.{Numbers, popd}

popd_is_simple : is_simple popd ≡ true
unfolding clap_on_literals
popd_is_simple = refl

pub popd_is_free : is_simple_and_free popd ≡ true
unfolding clap_on_literals
popd_is_free = refl

-- the rows of a parse are the matches of the words
pub popd_rows : (app : App) (words : List (List ℕ)) (matches : ArgMatches) → app ≡ popd → HasMatchesOf app words matches
    → rows_of (found_of matches) ≡ matches_of popd words
popd_rows app words matches same has = rw same at (has (ap is_simple same ∙ popd_is_simple)).0

-- an error of a parse has a kind of the words' fault
pub popd_kind : (app : App) (words : List (List ℕ)) (error : Error) → app ≡ popd
    → (is_simple_and_free app ≡ true → HasKind (fault_of app words) error) → HasKind (fault_of popd words) error
popd_kind app words error same has = rw same at (has (ap is_simple_and_free same ∙ popd_is_free))

-- a number that was read from its text, or the greatest if there is no text
pub numbers : {E : Type 0} (G : List ℕ → Result ℕ E → Type 0) (text : Option (List ℕ)) (read : Option ℕ) (count : ℕ)
    → ((u : List ℕ) (x : Result ℕ E) → G u x → ParsesUnsigned 32 10 u x)
    → (text ≡ None → read ≡ None) → ((t : List ℕ) → text ≡ Some t → ReadsOne G t read) → count ≡ unwrap_or read 4294967295
    → Numbers text count
numbers G None read count only none value is = is ∙ ap (λ (r : Option ℕ). unwrap_or r 4294967295) (none refl)
numbers G (Some t) (Some n) count only none value is = λ numeral small. is ∙ (only t (Ok n) (value t refl)).1
numbers G (Some t) None count only none value is = λ numeral small. let h = value t refl in absurd (only t (Err h.0) h.1 (numeral, small))
