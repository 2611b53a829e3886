use Rattle.std.proofs.Common.{refl}
use Rattle.test_devices.proofs.MemoryFiles.{change_alters, found_in}
use Rattle.test_devices.proofs.memory_folder.MemoryFolderFileFolder.flush.Goals as goal

pub returns-in-Ok : goal.returns-in-Ok
returns-in-Ok c = λ _.
    let found = found_in c.args.name.now _ _ _ _ c.args.self.now c.in-Some.ensures c.deref.ensures.value c.self.view_is refl in
    (tt, change_alters _ _ _ _ _ _ _ c.change.result found c.in-Ok.ensures c.change.ensures.ok c.change.ensures.err)
