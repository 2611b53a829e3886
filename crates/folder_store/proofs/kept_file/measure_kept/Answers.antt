use Rattle.std.proofs.Common.{refl, rules, ◌∙◌}
use Rattle.folder_store.proofs.Changing.{size_answer}
use Rattle.folder_store.proofs.kept_file.measure_kept.Goals as goal

pub returns-clause-tells : goal.returns-clause-tells
returns-clause-tells g c = λ s.
    let (held, same, sized) = c.in_ok-found.ensures.stats s in
    let (before, stays, is_open) = c.in_ok-changed.ensures.opens held in (
      before,
      same ∙ stays,
      (
        size_answer (g.C.FileCalls.tree c.args.calls.now) (g.C.FileCalls.tree c.handle_of.new.calls) _ _ c.in_ok-found.found.len stays
            is_open sized,
        refl,
      ),
    )

pub returns-clause-asks : goal.returns-clause-asks
returns-clause-asks g c = (
  c.in_ok-changed.changed,
  c.in_ok-found.found,
  c.keep.ensures.0,
  c.in_ok-changed.ensures.named,
  search rules,
  c.in_ok-found.ensures.tells,
  search rules,
  refl,
)
