use Rattle.std.proofs.Common.{List, Some, ap, sym, string_bytes, ◌∙◌}
use Rattle.test_devices.{
  specs.MemoryFolder.{blob_of, folder_entries},
  proofs.MemoryFiles.{Pair, found_at, not_found, push_placed, set_placed},
}
use Rattle.test_devices.proofs.memory_folder.place.Goals as goal

pub returns-in-Some-clause-placed : goal.returns-in-Some-clause-placed
returns-in-Some-clause-placed c =
    let was = rw (← c.deref.ensures.value) at c.index_mut.ensures.value in
    rw (← c.deref.ensures.value, ← c.as_str.ensures.value, ← c.replace.ensures.after)
    (set_placed _ _ c.in-Some.i c.in-Some.ensures.inside c.in-Some.ensures.named c.in-Some.ensures.first _
    (ap (λ (p : Pair). string_bytes p.0) was ∙ c.in-Some.ensures.named _))

pub returns-in-Some-clause-was : goal.returns-in-Some-clause-was
returns-in-Some-clause-was c =
    let was = rw (← c.deref.ensures.value) at c.index_mut.ensures.value in
    rw (← c.deref.ensures.value, ← c.as_str.ensures.value, c.replace.ensures.value) (ap (λ (p : Pair). Some (blob_of p.1)) was
    ∙ sym (found_at _ _ c.in-Some.i c.in-Some.ensures.inside c.in-Some.ensures.named c.in-Some.ensures.first _))

pub returns-in_ok-push-in-None-clause-placed : goal.returns-in_ok-push-in-None-clause-placed
returns-in_ok-push-in-None-clause-placed c =
    let none = rw (c.deref.ensures.value, c.as_str.ensures.value) at (not_found _ _ c.in-None.ensures.none) in
    ap (λ (fs : List Pair). folder_entries fs) c.in_ok-push-in-None.ensures.items ∙ push_placed _ (c.args.name, c.args.file) none

pub returns-in_ok-push-in-None-clause-was : goal.returns-in_ok-push-in-None-clause-was
returns-in_ok-push-in-None-clause-was c = sym (rw (c.deref.ensures.value, c.as_str.ensures.value) at (not_found _ _ c.in-None.ensures.none))
