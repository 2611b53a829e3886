use Rattle.std.proofs.{
  Common.{◌≡◌, ◌∙◌, ap, arith, true},
  lemmas.{Bool.not-false, List.Elements.{AllWithin-none, AllWithin-more, AllWithin-upto, All-from_all_within}},
}
use Rattle.fetch_record.specs.Record.{Row}
use Rattle.fetch_record.proofs.row_map.RowMap.are_delivered.Goals as goal

pub loop-place-init : goal.loop-place-init
loop-place-init g c = AllWithin-none (λ row. row.delivered ≡ true) c.args.self.now 0

pub loop-place-preserved : goal.loop-place-preserved
loop-place-preserved g c =
    AllWithin-more (λ row. row.delivered ≡ true) c.args.self.now 0 c.loop-place.place c.loop-place.invariant
    (λ d. ap (λ (row : Row). row.delivered) (c.at.ensures d) ∙ not-false _ c.if-not-state.false)

pub returns : goal.returns
returns g c = All-from_all_within (λ row. row.delivered ≡ true) c.args.self.now
    (AllWithin-upto (λ row. row.delivered ≡ true) c.args.self.now 0 c.loop-place.place _ (omega arith) c.loop-place.invariant)
