use Rattle.std.proofs.{Common.{◌∙◌, sym}, lemmas.Bool.false≢true}
use Rattle.folder_store.proofs.Marking.{its_parts, marked, ends_in_no_mark, unparted}
use Rattle.folder_store.proofs.process_mark.is_marked.Goals as goal

pub returns-in_default : goal.returns-in_default
returns-in_default c = (λ is. absurd (false≢true is), λ has. absurd (unparted c.args.name.now c.in_default.ensures has))

pub returns-in-None : goal.returns-in-None
returns-in-None c = (
  λ is. absurd (false≢true is),
  λ has. absurd (ends_in_no_mark c.args.name.now c.in-Some.mark.now c.in-Some.ensures.0 c.in-Some.ensures.1 c.in-None.ensures has),
)

pub returns-then-is_id : goal.returns-then-is_id
returns-then-is_id c =
    let parts = c.in-Some-mark_parts in (
      λ is. marked c.args.name.now c.in-Some.mark.now parts.id.now parts.random.now c.in-Some.ensures.1 parts.ensures.1
          (c.is_id.ensures.0 c.if-is_id.true) (sym c.is_random.ensures ∙ is),
      λ has. c.is_random.ensures ∙ (its_parts c.args.name.now c.in-Some.mark.now parts.id.now parts.random.now c.in-Some.ensures.0
          c.in-Some.ensures.1 parts.ensures.0 parts.ensures.1 has).1,
    )

pub returns-else-is_id : goal.returns-else-is_id
returns-else-is_id c =
    let parts = c.in-Some-mark_parts in (
      λ is. absurd (false≢true (sym c.if-is_id.false ∙ is)),
      λ has. c.is_id.ensures.1 (its_parts c.args.name.now c.in-Some.mark.now parts.id.now parts.random.now c.in-Some.ensures.0
          c.in-Some.ensures.1 parts.ensures.0 parts.ensures.1 has).0,
    )
