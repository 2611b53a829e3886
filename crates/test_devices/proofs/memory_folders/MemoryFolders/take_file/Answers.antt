use Rattle.std.proofs.Common.{arith, map, string_bytes, refl, true}
use Rattle.folder_store.specs.MailFolders.{files_at}
use Rattle.test_devices.{specs.MemoryFolders.stored_file, proofs.MemoryMail.file_moves}
use Rattle.test_devices.proofs.memory_folders.MemoryFolders.take_file.Goals as goal

pub returns-then-place-len : goal.returns-then-place-len
returns-then-place-len c = c.readers_move.ensures.rest c.args.self.now

pub returns : goal.returns
returns c =
    let was = c.self.inside in
    let file = c.index_mut-file.result.now in
    rw c.self.view_is at (file_moves c.readers_move.ensures.one was.files.items c.args.place file
    (record file { is_gone = true }) was.new_rests c.still_rests-self-inside.result
    was.cur_rests c.still_rests-self-inside-2.result (files_at (map stored_file was.taken.items))
    (map string_bytes was.obstacles.items) (map string_bytes was.odd_new.items) (map string_bytes was.odd_cur.items)
    (omega (arith, c.if-place-len.false, c.len.ensures)) c.index_mut-file.ensures.value (record {
      keeps = record { title = refl; content = refl; flushed = λ h. h; named = λ h. h };
      flushed = refl;
      named =
          refl;
      new = λ h. h;
      cur = λ h. h;
    }) c.still_rests-self-inside.ensures c.still_rests-self-inside-2.ensures)
