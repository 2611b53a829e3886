-- The faults that a device may answer, and which of them is a refusal.
use Rattle.std.specs.Prelude.{◌≡◌, Bool, true, false, ◌⊎◌}
use Rattle.mail_store.specs.declared.fault.StoreFault.{StoreFault, TheVariants.{Missing, Refused}}

-- whether the device refused the call; refusals are counted
abbrev pub is_refusal : StoreFault → Bool
is_refusal Refused = true
is_refusal fault = false

-- the fault of a call that needs a folder or a file to be there
abbrev pub IsDeviceFault : StoreFault → Type 0
IsDeviceFault fault = (fault ≡ Missing) ⊎ (fault ≡ Refused)
