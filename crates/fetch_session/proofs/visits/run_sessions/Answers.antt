use Rattle.std.proofs.Common.{◌≡◌, ◌<◌, get_or, length, refl, sym, ap, ◌∙◌, arith, length-append}
use Rattle.std.proofs.lemmas.List.{get_or-set_other, length-set}
use Rattle.fetch_session.specs.declared.visits.Visit.{Visit}
use Rattle.fetch_session.proofs.VisitLemmas as lemmas
use Rattle.fetch_session.proofs.visits.run_sessions.Goals as goal

pub loop-i-preserved : goal.loop-i-preserved
loop-i-preserved g c =
    let inv = c.loop-i.invariant in
    let i = c.loop-i.i in
    let old : Visit (g.row.W).Denot = get_or c.loop-i.visits i c.index-visits-i.result in
    let new : Visit (g.row.W).Denot = record { wire = c.promised_session-report.new.wire; now = old.now } in
    let pushed = rw c.unwrap.ensures at c.push.ensures.items in
    let inside : i < length c.args.visits.now = omega (arith, c.loop-i-test.true) in
    let within : i < length c.loop-i.visits = omega (arith, inside, inv.2) in
    let here : get_or c.args.visits.now i old ≡ old = sym (inv.3 i old (omega arith))
    ∙ ap (λ (d : Visit (g.row.W).Denot). get_or c.loop-i.visits i d) (sym c.index-visits-i.is) in (
      rw (pushed, length-append, inv.0) refl,
      omega (arith, inv.1, c.push.ensures.capacity),
      length-set c.loop-i.visits i new ∙ inv.2,
      λ k d behind. get_or-set_other c.loop-i.visits i k new d (λ is. absurd (omega (arith, behind, is)))
          ∙ inv.3 k d (omega (arith, behind)),
      lemmas.made_next g.W.Wire g.D.MaildirDisk g.F.FlatFile c.args.visits.now c.loop-i.visits i _ _ old new inv.4 pushed inside within here
          c.promised_session-report.ensures refl,
    )

pub returns-clause-made : goal.returns-clause-made
returns-clause-made g c =
    let inv = c.loop-i.invariant in
    lemmas.made_all g.W.Wire g.D.MaildirDisk g.F.FlatFile c.args.visits.now c.loop-i.visits c.loop-i.i _ _ _ inv.4
    (omega (arith, c.loop-i-test.false)) inv.2
