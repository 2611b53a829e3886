use Rattle.std.proofs.{
  Common.{◌≡◌, refl, ◌+◌, ◌&&◌, drop, arith, true, []},
  Math.Bool.{and_assoc, and-true},
  lemmas.{Grind.common_steps, List.drop_more, Option.slice_get_read},
}
use Rattle.pop3_server.{specs.ServerMachine.{none, stays, goes}, proofs.RemovalLemmas.later_place}
use Rattle.pop3_server.proofs.commands.leave.Goals as goal

pub remove_at-done-requires : goal.remove_at-done-requires
remove_at-done-requires g c = λ s. (c.loop-i.invariant.1 s).1 c.loop-i.i c.index-rows-i.result (omega arith)
    (slice_get_read c.args.rows.now _ c.loop-i.i c.index-rows-i.result refl c.loop-i-test.true c.index-rows-i.is)

pub loop-i-preserved-then-not-row : goal.loop-i-preserved-then-not-row
loop-i-preserved-then-not-row g c =
    let rows = c.args.rows.now in
    let i = c.loop-i.i in
    let row = c.index-rows-i.result in
    let cut = rw (← c.index-rows-i.is) at (drop_more rows i row c.loop-i-test.true) in
    let mail = g.D.Maildrop.mail c.loop-i.drop in (
      rw (cut, c.if-not-row.true) at c.loop-i.invariant.0,
      λ s. let inv = c.loop-i.invariant.1 s in (
        inv.0,
        (λ k r later h. inv.1 k r (omega arith) h),
        (λ tail end h. inv.2 tail end (rw cut (stays i row (drop (i + 1) rows) mail tail end c.if-not-row.true h))),
      ),
    )

pub loop-i-preserved : goal.loop-i-preserved
loop-i-preserved g c =
    let rows = c.args.rows.now in
    let i = c.loop-i.i in
    let row = c.index-rows-i.result in
    let cut = rw (← c.index-rows-i.is) at (drop_more rows i row c.loop-i-test.true) in
    let mail = g.D.Maildrop.mail c.loop-i.drop in
    let next = g.D.Maildrop.mail c.remove_at-done.new.drop in
    let done = c.remove_at-done.result in (
      rw c.remove_at-done.ensures.asks (rw (cut, c.if-not-row.false) at c.loop-i.invariant.0),
      λ s. let tried = c.remove_at-done.ensures.tries s in
          let inv = c.loop-i.invariant.1 tried.0 in (
            inv.0,
            (λ k r later h. later_place mail next i k done tried.1 (omega (arith, later)) (inv.1 k r (omega arith) h)),
            (λ tail end h. rw and_assoc (inv.2 (done && tail) end
                (rw cut (goes i row (drop (i + 1) rows) mail next done tail end c.if-not-row.false tried.1 h)))),
          ),
    )

pub returns-clause-empties : goal.returns-clause-empties
returns-clause-empties g c = λ s.
    let inv = c.loop-i.invariant.1 s in
    let mail = g.D.Maildrop.mail c.loop-i.drop in
    let over : drop c.loop-i.i c.args.rows.now ≡ [] = grind (arith, common_steps) in
    (inv.0, rw and-true at (inv.2 true mail (rw over (none c.loop-i.i mail))))
