use Rattle.std.proofs.{Common.{[], arith}, lemmas.List.drop_more}
use Rattle.mail_terms.specs.Listing.{Item}
use Rattle.mail_store.proofs.mboxrd.settling.listed_size.Goals as goal

pub returns-then-eq : goal.returns-then-eq
returns-then-eq c =
    let none : Item = record { uid = []; size = 0 } in
    let next = drop_more c.args.listing.now c.loop-i.i none (omega (arith, c.loop-i-test.true, c.len-i-end.ensures.count)) in
    rw (c.size.ensures none) (rw (next, ← c.uid.ensures.value none, ← c.eq.ensures, c.if-eq.true) at c.loop-i.invariant)

pub loop-i-preserved : goal.loop-i-preserved
loop-i-preserved c =
    let none : Item = record { uid = []; size = 0 } in
    let next = drop_more c.args.listing.now c.loop-i.i none (omega (arith, c.loop-i-test.true, c.len-i-end.ensures.count)) in
    rw (next, ← c.uid.ensures.value none, ← c.eq.ensures, c.if-eq.false) at c.loop-i.invariant
