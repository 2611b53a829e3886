-- A device behind a fuse: how many calls still pass, what is behind it, and what a call does.
use Rattle.std.specs.Prelude.{◌≡◌, ℕ, ◌-◌, ◌/◌, ◌<◌, ◌==◌, if◌then◌else◌, List, length, take, Bool, true, false, Err}
use Rattle.std.specs.Prelude.{Result, IfErr}
use Rattle.mail_store.specs.{
  declared.{fault.StoreFault.{StoreFault, TheVariants.Refused}, file.flat_file.FlatFile.Ghosts as FileGhosts},
  Fault.{IsDeviceFault, is_refusal},
  Maildir.{Maildir, Settles, dropped},
  DiskCalls.{AppendsDisk, ReplacesDisk},
}
use Rattle.test_devices.specs.declared.fused.Fused.{Fused}
use Rattle.mail_terms.specs.FailureCount.{Tallies, refuses, greatest_count}

-- the device behind the fuse
abbrev pub device_of : {D : Type 0} → Fused D → D
device_of f = f.device

-- how many calls still pass
abbrev pub passes_left : {D : Type 0} → Fused D → ℕ
passes_left f = f.passes_left

-- whether the next refusal of the fuse's own takes effect
abbrev pub effect_is_due : {D : Type 0} → Fused D → Bool
effect_is_due f = f.takes_effect

-- how many calls were refused, by the fuse or by the device
abbrev pub refusals : {D : Type 0} → Fused D → ℕ
refusals f = f.failures

-- the Maildir behind the fuse, with the fuse's count
abbrev pub fused_maildir : {D : Type 0} → (D → Maildir) → Fused D → Maildir
fused_maildir maildir f = record (maildir f.device) { failures = f.failures }

-- the device is sound, and the fuse's count is below its greatest value
abbrev pub FusedIsSound : {D : Type 0} → (D → Type 0) → Fused D → Type 0
FusedIsSound sound f = sound f.device × (f.failures < greatest_count)

-- a call that fails only by a device's fault, and counts a refusal
abbrev pub FailsAndCounts : {D T : Type 0} → Fused D → Result T StoreFault → Fused D → Type 0
FailsAndCounts old result new =
    IfErr result IsDeviceFault × Tallies (refuses is_refusal result) (refusals old) (refusals new)

-- one call below the greatest count: it uses up a pass; if none is left it is refused, and no later
-- refusal takes effect; if one is left it is refused only if the device refused it
pub record BurnsForStore {D T : Type 0} (count : D → ℕ) (old : Fused D) (result : Result T StoreFault)
    (new : Fused D) : Type 0 where
  pub used : new.passes_left ≡ old.passes_left - 1
  pub blown : old.passes_left ≡ 0 → result ≡ Err Refused
  pub once : new.takes_effect ≡ (if old.passes_left == 0 then false else old.takes_effect)
  pub passed : 0 < old.passes_left → Tallies (refuses is_refusal result) (count old.device) (count new.device)

-- the same, and a call for which no pass is left changes nothing behind the fuse
abbrev pub Fuses : {D T : Type 0} → (D → ℕ) → Fused D → Result T StoreFault → Fused D → Type 0
Fuses count old result new =
    (old.failures < greatest_count → BurnsForStore count old result new)
    × (old.passes_left ≡ 0 → new.device ≡ old.device)

-- a `settle` that the fuse refuses: the device settled the file, or gave it up
abbrev pub SettlesBehind : Bool → Maildir → List ℕ → Maildir → Type 0
SettlesBehind true old name new = (answer : Result (Unit {0}) StoreFault) × Settles old name answer new
SettlesBehind false old name new = new ≡ dropped old

-- an `append` that the fuse refuses: the device appended the first half of the bytes, or nothing
abbrev pub AppendsBehind : {D : Type 0} → FileGhosts D → Bool → D → List ℕ → D → Type 0
AppendsBehind file true old bytes new = (answer : Result (Unit {0}) StoreFault)
    × AppendsDisk (file.disk old) (take (length bytes / 2) bytes) answer (file.disk new)
    × Tallies (refuses is_refusal answer) (file.refusals old) (file.refusals new)
AppendsBehind file false old bytes new = new ≡ old

-- a `replace` that the fuse refuses: the device replaced the bytes, or did nothing
abbrev pub ReplacesBehind : {D : Type 0} → FileGhosts D → Bool → D → List ℕ → D → Type 0
ReplacesBehind file true old bytes new = (answer : Result (Unit {0}) StoreFault)
    × ReplacesDisk (file.disk old) bytes answer (file.disk new)
    × Tallies (refuses is_refusal answer) (file.refusals old) (file.refusals new)
ReplacesBehind file false old bytes new = new ≡ old
