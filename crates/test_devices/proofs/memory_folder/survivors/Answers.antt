use Rattle.std.proofs.{Common.{map, option_map}, lemmas.List.map_more}
use Rattle.test_devices.{specs.MemoryFolder.{folder_entries, folder_entry, older_of}, proofs.MemoryFiles.survives_next}
use Rattle.test_devices.proofs.memory_folder.survivors.Goals as goal

pub loop-i-preserved : goal.loop-i-preserved
loop-i-preserved c = rw (
  map_more folder_entry c.args.files.now c.loop-i.i c.index-files-i.result c.loop-i-test.true,
  ←
      c.index-files-i.is,
  c.in_ok-add_left.ensures,
) (survives_next (map older_of c.args.older.now) _ (folder_entries c.loop-i.left.items) (folder_entry c.index-files-i.result)
    (option_map (λ bytes. bytes.items) c.in_ok-bytes.bytes) c.loop-i.invariant c.in_ok-bytes.ensures)
