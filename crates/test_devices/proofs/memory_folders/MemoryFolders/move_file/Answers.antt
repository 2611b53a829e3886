use Rattle.std.proofs.Common.{arith, map, string_bytes, not, ◌∙◌, ap}
use Rattle.folder_store.specs.MailFolders.{files_at}
use Rattle.test_devices.{specs.MemoryFolders.stored_file, proofs.MemoryMail.file_moves}
use Rattle.test_devices.proofs.memory_folders.MemoryFolders.move_file.Goals as goal

pub returns-then-place-len : goal.returns-then-place-len
returns-then-place-len c = c.readers_move.ensures.rest c.args.self.now

pub returns-in_default : goal.returns-in_default
returns-in_default c = c.readers_move.ensures.rest c.args.self.now

pub returns : goal.returns
returns c =
    let was = c.self.inside in
    rw c.self.view_is at (file_moves c.readers_move.ensures.one was.files.items c.args.place c.index-file.result.now
    c.in-Ok.moved was.new_rests c.still_rests-self-inside.result
    was.cur_rests c.still_rests-self-inside-2.result (files_at (map stored_file was.taken.items))
    (map string_bytes was.obstacles.items) (map string_bytes was.odd_new.items) (map string_bytes was.odd_cur.items)
    (omega (arith, c.if-place-len.false, c.len.ensures)) c.index-file.ensures c.in-Ok.ensures.moves
    (λ quiet. let r = c.still_rests-self-inside.ensures quiet in (r.0, r.1, c.in-Ok.ensures.place ∙ r.2))
    (λ quiet. let r = c.still_rests-self-inside-2.ensures quiet in (r.0, r.1, ap not c.in-Ok.ensures.place ∙ r.2)))
