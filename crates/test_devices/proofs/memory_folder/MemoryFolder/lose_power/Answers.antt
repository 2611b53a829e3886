use Rattle.std.proofs.Common.{map}
use Rattle.test_devices.{specs.MemoryFolder.{folder_entries, older_of}, proofs.MemoryFiles.{survives_names, memory_loses}}
use Rattle.test_devices.proofs.memory_folder.MemoryFolder.lose_power.Goals as goal

pub invariant_of-self : goal.invariant_of-self
invariant_of-self c = survives_names (map older_of c.self.inside.older.items) (folder_entries c.self.inside.files.items)
    (folder_entries c.in-Ok.files.items) (rw (c.deref.ensures.value, c.deref-2.ensures.value) at c.in-Ok.ensures) c.self.invariant

pub returns-in-Ok-clause-ok : goal.returns-in-Ok-clause-ok
returns-in-Ok-clause-ok c = rw c.self.view_is at
    (memory_loses c.self.inside.files.items c.in-Ok.files.items c.self.inside.older.items c.clear.new.self.items c.self.invariant
    (rw (c.deref.ensures.value, c.deref-2.ensures.value) at c.in-Ok.ensures) c.clear.ensures.items)
