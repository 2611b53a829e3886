use Rattle.std.proofs.{Common.{◌∙◌, true, false, refl, sym, arith}, Math.Bool.and-false}
use Rattle.fetch_record.proofs.{
  MergeLemmas.{HasHeldAnew-more, HasHeldAnew-all},
  row_map.RowMap.held_anew.Goals.{then-held-i+then-not-is_delivered+in_ok-insert, else-held-i, else-held-i-via-else-held-i},
  row_map.RowMap.held_anew.Goals.else-held-i-via-then-held-i+else-not-is_delivered,
}
use Rattle.fetch_record.proofs.row_map.RowMap.held_anew.Goals as goal

pub loop-i-init : goal.loop-i-init
loop-i-init g c = c.new-ids.ensures

pub loop-i-preserved : goal.loop-i-preserved
loop-i-preserved g c = elim c.if-held-i.branch [
  | then-held-i+then-not-is_delivered+in_ok-insert w ↦ rw w.ids-is
      (HasHeldAnew-more _ _ c.loop-i.i c.requires (omega arith) c.args.self.now c.loop-i.ids w.insert.new.self
      c.uid-uid.result.now true c.loop-i.invariant c.uid-uid.ensures.value
      (rw (w.if-held-i.true, sym w.is_delivered.ensures ∙ w.if-not-is_delivered.true) refl) w.in_ok-insert.ensures.ids)
  | else-held-i w ↦ rw w.ids-is (elim w.else-held-i.branch [
    | else-held-i-via-then-held-i+else-not-is_delivered v ↦
        HasHeldAnew-more _ _ c.loop-i.i c.requires (omega arith) c.args.self.now c.loop-i.ids c.loop-i.ids
        c.uid-uid.result.now false c.loop-i.invariant c.uid-uid.ensures.value
        (rw (sym v.is_delivered.ensures ∙ v.if-not-is_delivered.false, and-false) refl) (λ id. refl)
    | else-held-i-via-else-held-i v ↦
        HasHeldAnew-more _ _ c.loop-i.i c.requires (omega arith) c.args.self.now c.loop-i.ids c.loop-i.ids
        c.uid-uid.result.now false c.loop-i.invariant c.uid-uid.ensures.value (rw v.if-held-i.false refl) (λ id. refl)
  ])
]

pub returns : goal.returns
returns g c = HasHeldAnew-all c.args.self.now c.args.listing.now c.args.held.now c.loop-i.i c.loop-i.ids c.loop-i.invariant (omega arith)
