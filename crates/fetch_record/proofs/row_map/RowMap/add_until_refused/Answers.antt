use Rattle.std.proofs.{Common.{◌∙◌, sym, arith}, Math.Seq.take-append_seam, lemmas.Bool.{cond-true, cond-false}}
use Rattle.fetch_record.proofs.{MergeLemmas.added_next, RowLemmas.state_in_none}
use Rattle.fetch_record.proofs.row_map.RowMap.add_until_refused.Goals as goal

pub loop-i-preserved-then-has : goal.loop-i-preserved-then-has
loop-i-preserved-then-has g c = (
  sym (added_next c.args.self.now c.args.listing.now c.args.now c.loop-i.i c.loop-i.self c.uid-uid.result.now
      c.loop-i.invariant.0 c.uid-uid.ensures.value (omega arith) ∙ cond-true _ _ _ (sym c.has.ensures ∙ c.if-has.true)),
  c.loop-i.invariant.1,
)

pub loop-i-preserved : goal.loop-i-preserved
loop-i-preserved g c =
    let none = sym c.has.ensures ∙ c.if-has.false in
    let unknown = c.in_ok-put.ensures.old
    ∙ state_in_none c.uid-uid.result.now c.reserve.new.self (rw c.reserve.ensures.rows none) in
    let added = rw (unknown, c.reserve.ensures.rows) at c.in_ok-put.ensures.added in (
      added ∙ sym (added_next c.args.self.now c.args.listing.now c.args.now c.loop-i.i c.loop-i.self
          c.uid-uid.result.now c.loop-i.invariant.0 c.uid-uid.ensures.value (omega arith) ∙ cond-false _ _ _ none),
      c.in_ok-put.ensures.is_record,
    )

pub returns-in_err-put-clause-front : goal.returns-in_err-put-clause-front
returns-in_err-put-clause-front g c =
    rw (c.in_err-put.ensures.err, c.reserve.ensures.rows, c.loop-i.invariant.0) (take-append_seam c.args.self.now _)

pub returns-in_err-reserve-clause-front : goal.returns-in_err-reserve-clause-front
returns-in_err-reserve-clause-front g c =
    rw (c.reserve.ensures.rows, c.loop-i.invariant.0) (take-append_seam c.args.self.now _)
