-- What clap's matches and errors of the command line are.
use Rattle.std.proofs.Common.{◌≡◌, ◌∙◌, ℕ, List, true, ap, refl, subst}
use Rattle.clap.{
  specs.{Kinds.HasKind, declared.{error.Error.Error, parser.matches.ArgMatches.ArgMatches}},
  specs.Words.{App, HasMatchesOf, fault_of, found_of, is_simple, is_simple_and_free, matches_of, rows_of},
  proofs.OnLiterals.clap_on_literals,
}
use Rattle.getmail_setup.specs.CommandLine.{getmail}

getmail_is_simple : is_simple getmail ≡ true
unfolding clap_on_literals
getmail_is_simple = refl

pub getmail_is_free : is_simple_and_free getmail ≡ true
unfolding clap_on_literals
getmail_is_free = refl

-- the rows of a parse are the matches of the words
pub getmail_rows : (app : App) (words : List (List ℕ)) (matches : ArgMatches) → app ≡ getmail → HasMatchesOf app words matches
    → rows_of (found_of matches) ≡ matches_of getmail words
getmail_rows app words matches same has = (has (ap is_simple same ∙ getmail_is_simple)).0 ∙ ap (λ (a : App). matches_of a words) same

-- an error of a parse has a kind of the words' fault
pub getmail_kind : (app : App) (words : List (List ℕ)) (error : Error) → app ≡ getmail
    → (is_simple_and_free app ≡ true → HasKind (fault_of app words) error) → HasKind (fault_of getmail words) error
getmail_kind app words error same has =
    subst (λ (a : App). HasKind (fault_of a words) error) same (has (ap is_simple_and_free same ∙ getmail_is_free))
