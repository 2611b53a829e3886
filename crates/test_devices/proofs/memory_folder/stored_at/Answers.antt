use Rattle.std.proofs.Common.{sym}
use Rattle.test_devices.proofs.MemoryFiles.{found_at, not_found}
use Rattle.test_devices.proofs.memory_folder.stored_at.Goals as goal

pub returns-in-Some : goal.returns-in-Some
returns-in-Some c = sym (found_at c.args.files.now c.args.name.now c.in-Some.i c.in-Some.ensures.inside
    c.in-Some.ensures.named c.in-Some.ensures.first c.index-files-i.result)

pub returns-in-None : goal.returns-in-None
returns-in-None c = sym (not_found c.args.files.now c.args.name.now c.in-None.ensures.none)
