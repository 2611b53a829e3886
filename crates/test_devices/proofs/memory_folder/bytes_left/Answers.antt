use Rattle.std.proofs.Common.{Some, None, inr}
use Rattle.test_devices.proofs.MemoryFiles.{was_once}
use Rattle.test_devices.proofs.memory_folder.bytes_left.Goals as goal

pub returns-in_ok-left-in-Some-1₀ : goal.returns-in_ok-left-in-Some-1₀
returns-in_ok-left-in-Some-1₀ c =
    inr (rw c.as_str.ensures.value at (was_once c.args.older.now c.as_str.result.now c.in-Some.i
    c.in-Some.ensures.inside c.in-Some.ensures.named
    c.index-older-i.result (Some c.in_ok-left-in-Some-1₀.field-0.items) (rw c.in-Some-1₀.is c.in_ok-left-in-Some-1₀.ensures)))

pub returns-in-None : goal.returns-in-None
returns-in-None c =
    inr (rw c.as_str.ensures.value at (was_once c.args.older.now c.as_str.result.now c.in-Some.i
    c.in-Some.ensures.inside c.in-Some.ensures.named c.index-older-i.result None (rw c.in-None.is tt)))
