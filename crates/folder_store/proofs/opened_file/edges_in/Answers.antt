use Rattle.std.proofs.Common.{rules, ◌∙◌, ◌-◌, ap, ℕ}
use Rattle.folder_store.specs.Calls.{OpenPath}
use Rattle.folder_store.proofs.Reading.{edges_large, leads_at}
use Rattle.folder_store.proofs.opened_file.edges_in.Goals as goal

pub returns : goal.returns
returns g c = λ s.
    let (after_seek, same, (_, tail_is)) = c.in_ok-fill_whole-2.ensures s in
    let (after_head, kept, moved) = c.in_ok-seek.ensures.seeks after_seek in
    let (before, stays, (head_at, head_is)) = c.in_ok-fill_whole.ensures after_head in
    let at = moved ∙ ap (λ (o : OpenPath). record o { place = c.args.size - 2 }) head_at in (
      before,
      same ∙ (kept ∙ stays),
      λ b leads begins is. edges_large b.content c.fill_whole.new.buf c.fill_whole-2.new.buf c.args.size _ _ c.if-size-lt5.false is begins
          (ap (λ (o : OpenPath). o.place) at) (search rules) (search rules) (head_is b leads)
          (tail_is b (leads_at _ _ _ _ _ b (kept ∙ stays) at leads)),
    )
