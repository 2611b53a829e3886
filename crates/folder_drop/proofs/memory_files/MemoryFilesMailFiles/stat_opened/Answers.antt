use Rattle.folder_drop.proofs.MemoryFilesLemmas.{handle_octets}
use Rattle.folder_drop.proofs.memory_files.MemoryFilesMailFiles.stat_opened.Goals as goal

pub returns : goal.returns
returns c = λ regular way is. handle_octets c.args.self.now c.args.handle.now is
