-- What a command line leads to.
use Rattle.std.specs.{
  Prelude.{◌≡◌, ◌⊎◌, ◌&&◌, ◌≤◌, ℕ, Bool, true, false, nat_eq, not, List, [], ◌∷◌, Option, codes},
  List.starts_with,
}
use Rattle.clap.specs.{Words.{HasKind, fault_of, matches_of}, declared.error.Error.Error, Values.kind_of}
use Rattle.command_line.specs.Rules.{is_asked_text}
use Rattle.rc_file.specs.declared.flags.Flags.{Flags}
use Rattle.getmail_setup.specs.{
  CommandLine.{AsksFor, getmail},
  Failures.status_of,
  NoSetup.HasNoSetup,
  declared.{failure.Failure.Failure, setup.Setup.Setup, words.Words.Words},
  Places.{IsSetUp, Reads},
}

-- with some home, the words have no setup, for a failure; or the one that they mean, with what the rc file gave, was
-- run, unattended if they ask for that and not for a preview
abbrev pub Starts : Reads → (List ℕ → Type 0) → (Setup → Bool → ℕ → Type 0) → Words → ℕ → Type 0
Starts gave refused ran words status = (home : Option (List ℕ))
    × (((failure : Failure) × HasNoSetup gave refused home words failure × (status ≡ status_of failure))
    ⊎ ((setup : Setup) × IsSetUp gave home words setup
    × ran setup (words.unattended && not words.pretend) status))

-- the words ask for a rehearsal, or else for a run or its preview
pub record Obeys {S : Type 0} (rehearsed : Flags → ℕ → Type 0) (gave : S → Reads) (refused : S → List ℕ → Type 0)
    (ran : Setup → Bool → ℕ → Type 0) (words : Words) (status : ℕ) : Type 0 where
  pub rehearsal : words.rehearse ≡ true → rehearsed words.flags status
  pub run : words.rehearse ≡ false → (files : S)
      × Starts (gave files) (refused files) ran words status

-- the words of a command line are the program's name and one that is no option
abbrev pub has_name_alone : List (List ℕ) → Bool
has_name_alone (program ∷ name ∷ []) = not (starts_with nat_eq name (codes "-"))
has_name_alone arguments = false

-- memory ran out, or a text of help or of the version was asked for, or there is a fault of usage
pub record Explains (arguments : List (List ℕ)) (status : ℕ) : Type 0 where
  pub error : Error
  pub has : HasKind (fault_of getmail arguments) error
  pub asked : is_asked_text (kind_of error) ≡ true → status ≤ 1
  pub fault : is_asked_text (kind_of error) ≡ false → status ≡ 2

-- the arguments mean words, which are obeyed
pub record MeansWords {S : Type 0} (rehearsed : Flags → ℕ → Type 0) (gave : S → Reads) (refused : S → List ℕ → Type 0)
    (ran : Setup → Bool → ℕ → Type 0) (arguments : List (List ℕ)) (status : ℕ) : Type 0 where
  pub words : Words
  pub none : fault_of getmail arguments ≡ []
  pub asks : AsksFor (matches_of getmail arguments) words
  pub obeys : Obeys rehearsed gave refused ran words status

-- one of both
abbrev pub LeadsTo : {S : Type 0} → (Flags → ℕ → Type 0) → (S → Reads) → (S → List ℕ → Type 0)
    → (Setup → Bool → ℕ → Type 0) → List (List ℕ) → ℕ → Type 0
LeadsTo rehearsed gave refused ran arguments status =
    Explains arguments status ⊎ MeansWords rehearsed gave refused ran arguments status
