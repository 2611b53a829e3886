use Rattle.std.proofs.Common.{◌∙◌, inl, inr, length, take, refl, arith, sym, ap}
use Rattle.pop3_client.proofs.TalkLemmas.{not_end, took_none, took_on, took_row, row_behind, rows_full, rows_stop, rows_cause, rows_end}
use Rattle.pop3_wire.proofs.LinkLemmas.{and_then}
use Rattle.mail_terms.proofs.ErrLemmas.{err_is}
use Rattle.pop3_client.proofs.client.Client.rows.Goals as goal

pub rows-init : goal.rows-init
rows-init g c = rw c.no_rows-rows.ensures (
  refl,
  refl,
  λ s. (
    s,
    g.met.W.Wire.leads_same _,
    took_none g.R.ListedRows.turn g.R.ListedRows.stands_for _ g.met.R.ListedRows.is_listing,
  ),
)

pub returns-in_err-length-clause-takes : goal.returns-in_err-length-clause-takes
returns-in_err-length-clause-takes g c =
    rw (err_is c.from_residual.ensures.1)
    (and_then g.W.Wire g.met.W.Wire.leads_on c.rows.invariant.2 c.in_err-length.ensures.waits (λ now ((_, gains), none).
    rows_cause now c.in_err-length.field-0.0 gains none))

pub returns-then-is_end_mark-clause-takes : goal.returns-then-is_end_mark-clause-takes
returns-then-is_end_mark-clause-takes g c =
    and_then g.W.Wire g.met.W.Wire.leads_on c.rows.invariant.2 c.in_ok-length.ensures.waits (λ before ((_, gains), (has, on)).
    rw c.skip.ensures (rows_end (took_on before gains on) has
    (ap (take c.in_ok-length.length) (sym c.waiting.ensures.value) ∙ c.if-is_end_mark.ensures.0 refl)))

pub returns-then-count-clause-takes : goal.returns-then-count-clause-takes
returns-then-count-clause-takes g c =
    and_then g.W.Wire g.met.W.Wire.leads_on c.rows.invariant.2 c.in_ok-length.ensures.waits (λ before ((_, gains), (has, on)).
    rows_full (took_on before gains on) has (not_end _ c.waiting.ensures.value c.if-is_end_mark.ensures.1) (omega arith))

pub returns-in_err-add-clause-takes : goal.returns-in_err-add-clause-takes
returns-in_err-add-clause-takes g c =
    let row = take c.in_ok-length.length c.next_line.new.self.reader in
    let rows = g.R.ListedRows.rows c.rows.rows in
    rw (err_is c.from_residual-in_err-add.ensures.1)
    (and_then g.W.Wire g.met.W.Wire.leads_on c.rows.invariant.2 c.in_ok-length.ensures.waits (λ before ((_, gains), (has, on)).
    let now = took_on before gains on in
    let there = row_behind now has (not_end _ c.waiting.ensures.value c.if-is_end_mark.ensures.1) in
    rows_stop now c.in_err-add.field-0.0 (elim c.in_err-add.ensures.err [
      | inl wanting ↦ rw wanting.0 (row, length rows, there, omega arith, rw c.waiting-in-rows.ensures.value at wanting.1)
      | inr unread ↦ rw unread.0 (row, length rows, there, omega arith, rw c.waiting-in-rows.ensures.value at unread.1)
    ])))

pub rows-preserved : goal.rows-preserved
rows-preserved g c =
    let read = rw c.waiting-in-rows.ensures.value at c.in_ok-add.ensures.ok.1 in
    rw c.in_ok-add.ensures.ok.2 (
      c.in_ok-length.ensures.link ∙ c.rows.invariant.0,
      c.in_ok-length.ensures.counted ∙ c.rows.invariant.1,
      and_then g.W.Wire g.met.W.Wire.leads_on c.rows.invariant.2 c.in_ok-length.ensures.waits (λ before ((_, gains), (has, on)).
          let now = took_on before gains on in
          rw c.skip-in-rows.ensures (took_row now has (not_end _ c.waiting.ensures.value c.if-is_end_mark.ensures.1)
          (g.met.R.ListedRows.is_row _ _ read) read (omega arith))),
    )
