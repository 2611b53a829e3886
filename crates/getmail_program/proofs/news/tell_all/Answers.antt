use Rattle.std.proofs.Common.{[], refl}
use Rattle.getmail_setup.proofs.OutputLemmas.{puts_none}
use Rattle.getmail_program.proofs.NewsLemmas.{all_parts, next_part}
use Rattle.getmail_program.proofs.news.tell_all.Goals as goal

pub loop-part-init : goal.loop-part-init
loop-part-init g c = ([], puts_none g.E.Write.contents _, refl)

pub loop-part-preserved : goal.loop-part-preserved
loop-part-preserved g c =
    let so_far = c.loop-part.invariant in
    next_part g.E.Write.contents _ _ _ _ so_far.0 c.in-Some.part.now c.in-Some.behind.now so_far.1
    (rw c.deref.ensures.value at c.put.ensures) (rw c.in-Some.ensures.cases.0 at so_far.2)

pub returns : goal.returns
returns g c =
    let so_far = c.loop-part.invariant in
    all_parts g.E.Write.contents _ _ _ _ so_far.0 _ c.loop-part.rest.now so_far.1
    (rw c.as_slice-rest.ensures.value at so_far.2) c.in_default.ensures.cases
    (rw (c.as_bytes.ensures.value, c.lack_text.ensures) at c.put-2.ensures)
