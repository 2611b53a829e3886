-- What the readers of keys, and of all settings, return.
use Rattle.std.specs.{Prelude.{◌≡◌, ℕ, List, map, Option, Some, None, Result, Ok, Err}, Borrow.Bor}
use Rattle.rc_file.specs.{
  Answer.IsFaultMeant,
  FileRows.RcRow,
  KeyTable.all_keys,
  declared.{fault.RcFault.RcFault, settings.Settings.Settings},
  RcMeaning.{fault_at, first_fault, settings_in},
  Settings.{content_of, IsValid},
}

-- the value if there is no fault, else the fault
abbrev pub ReadsAs : {V : Type 0} → Option RcFault → V → Result V RcFault → Type 0
ReadsAs fault wanted (Ok value) = (fault ≡ None) × (value ≡ wanted)
ReadsAs fault wanted (Err found) = fault ≡ Some found

-- the same for a text
abbrev pub ReadsValue : Option RcFault → List ℕ → Result (Bor (List ℕ)) RcFault → Type 0
ReadsValue fault wanted (Ok text) = (fault ≡ None) × (text.now ≡ wanted)
ReadsValue fault wanted (Err found) = fault ≡ Some found

-- the first key that is faulty
unfoldable pub key_fault : List RcRow → Option RcFault
key_fault rows = first_fault (map (fault_at rows) all_keys)

pub record IsSettings (rows : List RcRow) (settings : Settings) : Type 0 where
  pub sound : key_fault rows ≡ None
  pub content_is : content_of settings ≡ settings_in rows
  pub valid : IsValid settings

abbrev pub ReadsSettings : List RcRow → Result Settings RcFault → Type 0
ReadsSettings rows (Ok settings) = IsSettings rows settings
ReadsSettings rows (Err fault) = IsFaultMeant (key_fault rows) fault
