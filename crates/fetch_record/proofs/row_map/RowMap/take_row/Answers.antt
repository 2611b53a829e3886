use Rattle.std.proofs.Common.{◌∙◌, ap, sym, true≢false}
use Rattle.fetch_record.{
  specs.{Record.{Row, marked}, Rows.row_from},
  proofs.RowLemmas.{has_row-some, has_row_none, delivers-known, delivered_again, state_found, takes_new, takes_old, refuses_old},
  proofs.row_map.RowMap.take_row.Goals.then-not-is_within-via-then-not-is_within,
  proofs.row_map.RowMap.take_row.Goals.then-not-is_within-via-else-not-is_within+then-not-delivers,
}
use Rattle.fetch_record.proofs.row_map.RowMap.take_row.Goals as goal

pub returns-in_default-known-clause-ok : goal.returns-in_default-known-clause-ok
returns-in_default-known-clause-ok g c =
    let row : Row = row_from c.args.row.now.uid.now c.args.row.now.state in
    let known = sym c.in_ok-known.ensures.old ∙ c.in_default-known.is in
    let added = rw c.in_default-known.is at c.in_ok-known.ensures.added in
    rw (c.after_row-in_default-known.ensures, added) (takes_new c.args.older c.args.part c.args.self.now row c.in_default.not-Between
    (has_row_none row.uid c.args.self.now known))

pub returns-then-not-is_within-clause-err : goal.returns-then-not-is_within-clause-err
returns-then-not-is_within-clause-err g c =
    let row : Row = row_from c.args.row.now.uid.now c.args.row.now.state in
    let known = sym c.in_ok-known.ensures.old ∙ c.in-Some-known.is in
    λ differs. refuses_old c.args.older c.args.part c.args.self.now row c.args.number c.in_default.not-Between
    (has_row-some row.uid c.args.self.now c.in-Some-known.old known) (elim c.then-not-is_within.branch [
      | then-not-is_within-via-then-not-is_within w ↦ λ within. absurd
          (true≢false (sym within ∙ sym c.is_within-2.ensures ∙ w.if-not-is_within.true))
      | then-not-is_within-via-else-not-is_within+then-not-delivers w ↦ λ within. delivers-known c.args.older
          c.args.self.now row c.in-Some-known.old c.len.ensures.is_record known
          ∙ sym w.delivers-else-not-is_within.ensures ∙ w.if-not-delivers.true
    ])

pub returns-clause-ok : goal.returns-clause-ok
returns-clause-ok g c =
    let row : Row = row_from c.args.row.now.uid.now c.args.row.now.state in
    let read : Row = row_from c.at.result.0.now c.at.result.1 in
    let near = c.in-Some.ensures in
    let known = state_found c.args.self.now row.uid c.in-Some.place read c.len.ensures.is_record near c.at.ensures in
    let marks = c.deliver_at.ensures.rows read ∙ ap (marked c.args.self.now) (near.1 read) in
    rw (c.after_row.ensures, marks) (takes_old c.args.older c.args.part c.args.self.now row (sym c.is_within.ensures ∙ c.if-is_within.true)
    (has_row-some row.uid c.args.self.now c.at.result.1 known)
    (delivers-known c.args.older c.args.self.now row c.at.result.1 c.len.ensures.is_record known
    ∙ (sym c.delivers.ensures ∙ c.if-delivers.true)))

pub returns-2-clause-ok : goal.returns-2-clause-ok
returns-2-clause-ok g c =
    let row : Row = row_from c.args.row.now.uid.now c.args.row.now.state in
    let known = sym c.in_ok-known.ensures.old ∙ c.in-Some-known.is in
    let again = sym c.delivers-else-not-is_within.ensures ∙ c.if-not-delivers.false in
    let new = (rw c.in-Some-known.is at c.in_ok-known.ensures.marked)
    (delivered_again c.args.older c.in-Some-known.old c.args.row.now.state again) in
    rw (c.after_row-2.ensures, new)
    (takes_old c.args.older c.args.part c.args.self.now row (sym c.is_within-2.ensures ∙ c.if-not-is_within.false)
    (has_row-some row.uid c.args.self.now c.in-Some-known.old known)
    (delivers-known c.args.older c.args.self.now row c.in-Some-known.old c.len.ensures.is_record known ∙ again))
