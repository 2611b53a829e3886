use Rattle.std.proofs.Common.{sym, ◌∙◌}
use Rattle.test_devices.proofs.MemorySystem.{under_is}
use Rattle.test_devices.proofs.memory_folder.is_under.Goals as goal

pub returns : goal.returns
returns c = rw (c.as_bytes.ensures.value, c.as_bytes-2.ensures.value) at c.starts_with.ensures.value
    ∙ sym (under_is c.args.front.now c.args.name.now)
