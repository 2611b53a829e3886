-- What the result for an rc file has to be.
use Rattle.std.specs.{
  Prelude.{◌≡◌, ◌⊎◌, List, map, Option, Some, None, Result, Ok, Err, Vec},
  declared.alloc.Global.Global,
}
use Rattle.rc_file.specs.{
  RcMeaning.Warned,
  WarningSearch.warning_of,
  declared.{fault.RcFault.{RcFault, TheVariants.NoMemory}, warning.Warning.Warning, settings.Settings.Settings},
  Settings.{Content, content_of},
}

-- the fault is the one that is meant, or memory ran out
abbrev pub IsFaultMeant : Option RcFault → RcFault → Type 0
IsFaultMeant meant fault = (fault ≡ NoMemory) ⊎ (meant ≡ Some fault)

-- the fault of a result
abbrev pub fault_in : {T : Type 0} → Result T RcFault → Option RcFault
fault_in (Ok value) = None
fault_in (Err fault) = Some fault

-- the settings and the warnings are those that are meant, or the fault is, or memory ran out
abbrev pub IsMeant : Result (Content × List Warned) RcFault → Result (Settings × Vec Warning Global) RcFault → Type 0
IsMeant meaning (Ok read) = meaning ≡ Ok (content_of read.0, map warning_of read.1.items)
IsMeant meaning (Err fault) = IsFaultMeant (fault_in meaning) fault
