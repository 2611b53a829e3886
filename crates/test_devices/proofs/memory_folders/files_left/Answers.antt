use Rattle.std.proofs.{Common.{map, option_map}, lemmas.List.map_more}
use Rattle.test_devices.{specs.MemoryFolders.stored_file, proofs.MemoryMail.left_on}
use Rattle.test_devices.proofs.memory_folders.files_left.Goals as goal

pub loop-i-preserved : goal.loop-i-preserved
loop-i-preserved c = rw (
  map_more stored_file c.args.files.now c.loop-i.i c.index-files-i.result c.loop-i-test.true,
  ←
      c.index-files-i.is,
  c.in_ok-add_left.ensures,
) (left_on _ (map stored_file c.loop-i.left.items) _ (option_map stored_file c.in_ok-rest.rest) c.loop-i.invariant c.in_ok-rest.ensures)
