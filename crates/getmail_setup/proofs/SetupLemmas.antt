-- Why a run has no paths.
use Rattle.std.{proofs.Common.{◌⊎◌, ℕ, List, Option, inl, inr, option_map}, specs.String.string_bytes}
use Rattle.rc_file.specs.declared.settings.Settings.{Settings}
use Rattle.getmail_setup.specs.{
  NoSetup.{HasNoPath, HasNoSetup},
  Places.{AreRead, Reads, folder_path, path_in, whole_path},
  declared.{failure.Failure.{Failure, TheVariants.{AtWork, CannotConnect, CannotRead, NoHome, NoMemory, OtherList, Rc}}, words.Words.Words},
}

by_neither : {A : Type 0} → ⊥ ⊎ ⊥ → A
by_neither (inl neither) = absurd neither
by_neither (inr neither) = absurd neither

-- the folder isn't known, or the destination of settings that were read
pub no_places : (gave : Reads) (refused : List ℕ → Type 0) (home : Option (List ℕ)) (words : Words) (settings : Settings)
    (failure : Failure) → AreRead gave home words settings → HasNoPath (folder_path home (option_map string_bytes words.dir)) failure
    ⊎ HasNoPath (whole_path home (path_in settings.dest)) failure → HasNoSetup gave refused home words failure
no_places gave refused home words settings NoHome read (inl none) = inl (inl none)
no_places gave refused home words settings NoHome read (inr none) = inr (settings, read, none)
no_places gave refused home words settings NoMemory read none = tt
no_places gave refused home words settings CannotRead read none = by_neither none
no_places gave refused home words settings (Rc fault) read none = by_neither none
no_places gave refused home words settings (OtherList list path) read none = by_neither none
no_places gave refused home words settings AtWork read none = by_neither none
no_places gave refused home words settings (CannotConnect server port) read none = by_neither none
