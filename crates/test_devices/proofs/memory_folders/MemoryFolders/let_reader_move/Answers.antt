use Rattle.std.proofs.Common.{sym}
use Rattle.test_devices.proofs.memory_folders.MemoryFolders.let_reader_move.Goals as goal

pub returns-in-Rest : goal.returns-in-Rest
returns-in-Rest c = rw (sym c.self.view_is) (c.readers_move.ensures.rest _)
