use Rattle.std.proofs.Common.{refl}
use Rattle.test_devices.proofs.memory_folders.MemoryFoldersMailFolders.files_among.Goals as goal

pub returns-in-Ok-clause-tells : goal.returns-in-Ok-clause-tells
returns-in-Ok-clause-tells c = λ s. (s, (_, c.let_reader_move.ensures, (refl, (c.in-Ok.ensures.files, c.in-Ok.ensures.odd))))
