use Rattle.std.proofs.Common.{◌∙◌}
use Rattle.folder_store.proofs.Changing.{edges_answer}
use Rattle.folder_store.proofs.opened_file.read_edges.Goals as goal

pub returns-clause-measures : goal.returns-clause-measures
returns-clause-measures g c = λ s.
    let read = c.edges_in.ensures s in
    let sized = c.in_ok-found.ensures.stats read.0 in
    let first = c.in_ok-file.ensures sized.0 in (
      first.0,
      read.1 ∙ (sized.1 ∙ first.1),
      edges_answer (g.C.FileCalls.tree c.args.calls.now) (g.C.FileCalls.tree c.fstat.new.self) _ _ c.in_ok-found.found.len c.edges_in.result
          (sized.1 ∙ first.1) first.2 (λ b leads. sized.2 b (rw first.1 leads)) read.2,
    )
