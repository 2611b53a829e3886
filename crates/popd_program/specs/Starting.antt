-- What a command line leads to.
use Rattle.std.specs.Prelude.{◌≡◌, ◌≢◌, ◌⊎◌, ◌≤◌, ℕ, true, false, List, [], MatchResult, Result}
use Rattle.clap.specs.{
  Words.{HasKind, fault_of, matches_of},
  Values.kind_of,
  declared.error.{Error.Error, kind.ErrorKind.TheVariants.OutOfMemory},
}
use Rattle.command_line.specs.Rules.{is_asked_text}
use Rattle.popd_program.specs.{
  CommandLine.{AsksToServe, popd},
  Failures.{IsCause, has_right_count, status_of_serving},
  declared.{failure.Failure.Failure, words.Words.Words},
}

-- what the words ask for was served, or there is a failure, of which they are the cause; the status tells
pub record IsServed (words : Words) (status : ℕ) : Type 0 where
  pub outcome : Result (Unit {0}) Failure
  pub cause : MatchResult outcome (λ _. has_right_count words ≡ true) (IsCause words)
  pub status_is : status ≡ status_of_serving outcome

-- memory ran out, or a text of help or of the version was asked for, or there is a mistake
pub record IsExplained (arguments : List (List ℕ)) (status : ℕ) : Type 0 where
  pub error : Error
  pub has : HasKind (fault_of popd arguments) error
  pub memory : kind_of error ≡ OutOfMemory → status ≡ 1
  pub asked : is_asked_text (kind_of error) ≡ true → status ≤ 1
  pub mistake : kind_of error ≢ OutOfMemory → is_asked_text (kind_of error) ≡ false → status ≡ 2

-- the arguments mean words, which are obeyed
pub record MeansService (arguments : List (List ℕ)) (status : ℕ) : Type 0 where
  pub words : Words
  pub none : fault_of popd arguments ≡ []
  pub asks : AsksToServe (matches_of popd arguments) words
  pub obeys : IsServed words status

-- one of both
abbrev pub EndsWith : List (List ℕ) → ℕ → Type 0
EndsWith arguments status = IsExplained arguments status ⊎ MeansService arguments status
