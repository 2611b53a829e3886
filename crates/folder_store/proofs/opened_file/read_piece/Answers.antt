use Rattle.std.proofs.Common.{◌∙◌}
use Rattle.folder_store.proofs.Changing.{piece_answer}
use Rattle.folder_store.proofs.opened_file.read_piece.Goals as goal

pub returns-clause-reads : goal.returns-clause-reads
returns-clause-reads g c = λ s.
    let read = c.piece_in.ensures.reads s in
    let first = c.in_ok-file.ensures read.0 in (
      first.0,
      read.1 ∙ first.1,
      piece_answer (g.C.FileCalls.tree c.args.calls.now) (g.C.FileCalls.tree c.open_regular.new.calls) _ _ c.args.start c.piece_in.result
          c.piece_in.new.buf first.1 first.2 read.2,
    )
