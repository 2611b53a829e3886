use Rattle.std.proofs.{Common.{[], ◌∷◌, map, sym, take}, lemmas.List.{map_more, Elements.filter-append}}
use Rattle.folder_store.specs.MailFolders.{is_taken}
use Rattle.test_devices.specs.MemoryFolders.{stored_file}
use Rattle.test_devices.proofs.memory_folders.taken_files.Goals as goal

pub loop-file-preserved : goal.loop-file-preserved
loop-file-preserved c = rw (
  c.in_ok-add_taken.ensures,
  c.loop-file.invariant,
  map_more stored_file c.args.files.now c.loop-file.file-index c.file-item.result c.loop-file-test.true,
  ← c.file-item.is,
) (sym (filter-append is_taken (map stored_file (take c.loop-file.file-index c.args.files.now)) (stored_file c.file-item.result ∷ [])))
