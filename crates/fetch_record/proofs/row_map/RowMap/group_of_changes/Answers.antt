use Rattle.std.proofs.{Common.{take_all, ◌≡◌, ◌≢◌, ◌⊎◌, ◌≤◌, ◌+◌, ◌++◌, ◌∙◌, ◌||◌, Bool, refl, sym, ap, arith}, lemmas.Bool.OnTrue_at}
use Rattle.mail_terms.specs.Listing.{is_flagged}
use Rattle.fetch_record.{
  specs.{Record.Row, Rows.row_from, RecordFile.record_row_line},
  proofs.{RowLemmas.{with_held_same, changed_same, is_delivered-at}, MergeLemmas.{HasWritten-skips, HasWritten-adds}},
  proofs.row_map.RowMap.group_of_changes.Goals.After-is_marked-delivered,
}
use Rattle.fetch_record.proofs.row_map.RowMap.group_of_changes.Goals as goal

pub is_marked-delivered-requires : goal.is_marked-delivered-requires
is_marked-delivered-requires g c =
    (rw (c.at.ensures (row_from c.at.result.0.now c.at.result.1)) at (c.len-place-end.ensures.is_record.each c.loop-place.place
    (row_from c.at.result.0.now c.at.result.1) (omega arith))).legal

told : (g : _) (c : After-is_marked-delivered g) → c.is_marked-delivered.result
    ≡ (c.at.result.1.delivered || is_flagged c.args.listing.now c.args.held.now c.at.result.0.now)
told g c =
    let same = rw (c.at.ensures (row_from c.at.result.0.now c.at.result.1)) at
    (is_delivered-at c.args.self.now c.loop-place.place (row_from c.at.result.0.now c.at.result.1)
    c.len-place-end.ensures.is_record (omega arith)) in
    let has = c.in_ok-ids.ensures c.at.result.0.now in
    c.is_marked-delivered.ensures ∙ grind (arith, same, has)

pub loop-place-preserved-then-is_as_before : goal.loop-place-preserved-then-is_as_before
loop-place-preserved-then-is_as_before g c =
    let same = c.is_as_before.ensures.same c.if-is_as_before.true in (
      HasWritten-skips c.args.count (λ (row : Row). is_flagged c.args.listing.now c.args.held.now row.uid)
          c.args.self.now c.loop-place.place c.loop-place.changes c.loop-place.lines.items c.loop-place.invariant.0
          (row_from c.at.result.0.now c.at.result.1) (omega arith) (c.at.ensures _) same.0
          (sym (told g ((goal.at.loop-place-preserved-then-is_as_before g c).After-is_marked-delivered)) ∙ same.1),
      omega (arith, c.loop-place.invariant.1),
    )

pub loop-place-preserved : goal.loop-place-preserved
loop-place-preserved g c =
    let marked = told g ((goal.at.loop-place-preserved g c).After-is_marked-delivered) in
    let either : (c.args.count ≤ c.loop-place.place)
    ⊎ ((c.at.result.1.delivered || is_flagged c.args.listing.now c.args.held.now c.at.result.0.now) ≢ c.at.result.1.delivered) =
    rw marked at (c.is_as_before.ensures.other c.if-is_as_before.false) in (
      HasWritten-adds c.args.count (λ (row : Row). is_flagged c.args.listing.now c.args.held.now row.uid)
          c.args.self.now c.loop-place.place c.loop-place.changes c.loop-place.lines.items c.loop-place.invariant.0
          (c.loop-place.changes + 1) c.write_line.new.bytes.items (row_from c.at.result.0.now c.at.result.1)
          (omega arith) (c.at.ensures _) either refl (c.in_ok-write_line.ensures
          ∙ ap (λ (d : Bool). c.loop-place.lines.items ++ record_row_line
          (record { uid = c.at.result.0.now; first_seen = c.at.result.1.first_seen; delivered = d })) marked),
      omega (arith, c.loop-place.invariant.1),
    )

pub returns : goal.returns
returns g c =
    let all = rw (take_all c.loop-place.place c.args.self.now (omega arith)) at c.loop-place.invariant.0 in
    c.group.ensures _ (sym all.0) (sym all.1)

pub returns-then-are_delivered : goal.returns-then-are_delivered
returns-then-are_delivered g c =
    let all = with_held_same c.args.listing.now c.args.held.now c.args.self.now
    (OnTrue_at c.if-are_delivered.true c.are_delivered.ensures) in
    rw (
      c.new.ensures.items,
      take_all c.args.count c.args.self.now (omega (arith, c.if-count-len.true, c.len.ensures.count)),
      all,
      changed_same c.args.self.now,
    ) refl
