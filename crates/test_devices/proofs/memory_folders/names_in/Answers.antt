use Rattle.std.proofs.{Common.{map, sym, take}, lemmas.List.map_more}
use Rattle.folder_store.specs.MailFolders.{is_in}
use Rattle.test_devices.{specs.MemoryFolders.stored_file, proofs.MemoryMail.told_on}
use Rattle.test_devices.proofs.memory_folders.names_in.Goals as goal

pub loop-file-preserved : goal.loop-file-preserved
loop-file-preserved c = rw (
  c.in_ok-add_name.ensures,
  c.loop-file.invariant,
  map_more stored_file c.args.files.now c.loop-file.file-index c.file-item.result c.loop-file-test.true,
  ← c.file-item.is,
) (sym (told_on (is_in c.args.folder) (map stored_file (take c.loop-file.file-index c.args.files.now)) (stored_file c.file-item.result)))
