-- Why a run has no settings or no paths.
use Rattle.std.specs.{
  Prelude.{◌≡◌, ◌⊎◌, true, ℕ, List, Option, None, Some, Result, Ok, Err, String, option_map},
  String.string_bytes,
  declared.env.VarError.{VarError, TheVariants.OutOfMemory},
}
use Rattle.rc_file.specs.{
  Answer.{IsFaultMeant, fault_in},
  RcMeaning.rc_meaning,
  Flags.is_contradiction,
  declared.{fault.RcFault.{RcFault, TheVariants.Contradiction}, flags.Flags.Flags, settings.Settings.Settings},
}
use Rattle.getmail_setup.specs.{
  Places.{AreRead, IsRcPath, Reads, folder_path, path_in, rc_path, rc_room, whole_path},
  declared.{failure.Failure.{Failure, TheVariants.{CannotRead, NoHome, NoMemory, Rc}}, words.Words.Words},
}

-- the home, by what the environment says of HOME: none if it isn't set or isn't UTF-8
abbrev pub home_of : {Z : Type 0} → Result (String Z) VarError → Result (Option (String Z)) Failure
home_of (Ok home) = Ok (Some home)
home_of (Err OutOfMemory) = Err NoMemory
home_of (Err error) = Ok None

-- memory ran out, or a path isn't known, since HOME isn't set
abbrev pub HasNoPath : Option (List ℕ) → Failure → Type 0
HasNoPath path NoHome = path ≡ None
HasNoPath path NoMemory = Unit {0}
HasNoPath path failure = ⊥

-- the rc file is wrong, or it is right and the flags are opposite
abbrev pub IsWrong : Flags → List ℕ → RcFault → Type 0
IsWrong flags bytes fault = IsFaultMeant (fault_in (rc_meaning bytes)) fault
    ⊎ ((fault_in (rc_meaning bytes) ≡ None) × ((fault ≡ Contradiction) × (is_contradiction flags ≡ true)))

-- memory ran out, or octets of an rc file mean no settings
abbrev pub MeansNone : Flags → List ℕ → Failure → Type 0
MeansNone flags bytes (Rc fault) = IsWrong flags bytes fault
MeansNone flags bytes NoMemory = Unit {0}
MeansNone flags bytes failure = ⊥

-- memory ran out, or a read of an rc file was refused or gave octets that mean no settings
abbrev pub GivesNone : Reads → (List ℕ → Type 0) → Flags → List ℕ → Failure → Type 0
GivesNone gave refused flags path (Rc fault) = (bytes : List ℕ) × gave path rc_room bytes × IsWrong flags bytes fault
GivesNone gave refused flags path CannotRead = refused path
GivesNone gave refused flags path NoMemory = Unit {0}
GivesNone gave refused flags path failure = ⊥

-- the folder of the rc file isn't known, nor its path in that folder
abbrev pub HasNoRcPath : Option (List ℕ) → Words → Type 0
HasNoRcPath home words = (folder_path home (option_map string_bytes words.dir) ≡ None)
    ⊎ ((folder : List ℕ) × (folder_path home (option_map string_bytes words.dir) ≡ Some folder)
    × (rc_path home folder (option_map string_bytes words.rcfile) ≡ None))

-- the destination that the rc file names isn't known
abbrev pub HasNoDestination : Reads → Option (List ℕ) → Words → Type 0
HasNoDestination gave home words = (settings : Settings) × AreRead gave home words settings
    × (whole_path home (path_in settings.dest) ≡ None)

-- why there is neither
abbrev pub HasNoSetup : Reads → (List ℕ → Type 0) → Option (List ℕ) → Words → Failure → Type 0
HasNoSetup gave refused home words NoHome = HasNoRcPath home words ⊎ HasNoDestination gave home words
HasNoSetup gave refused home words NoMemory = Unit {0}
HasNoSetup gave refused home words failure = (path : List ℕ) × IsRcPath home words path
    × GivesNone gave refused words.flags path failure
