use Rattle.std.proofs.Common.{◌≡◌, ◌∙◌, length, sym, arith}
use Rattle.mail_terms.proofs.NumberingLemmas.{has_places_free}
use Rattle.mail_terms.proofs.numbering.found_places.Goals as goal

pub loop-place-preserved : goal.loop-place-preserved
loop-place-preserved c =
    has_places_free _ _ _ _ _ c.loop-place.invariant (omega arith) (omega arith) c.index.ensures
    (sym c.is_some.ensures ∙ c.if-is_some.false)

pub returns-clause-ok : goal.returns-clause-ok
returns-clause-ok c =
    let all : c.loop-place.place ≡ length c.args.numbers.now = omega arith in
    rw all at c.loop-place.invariant
