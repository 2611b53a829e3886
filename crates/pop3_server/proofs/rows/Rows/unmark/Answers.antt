use Rattle.std.proofs.{Common.{◌<◌, ◌∙◌, ap, sym, arith, length, slice_set}, lemmas.List.Edits.map_over_more}
use Rattle.pop3_server.specs.ServerMachine.{unmarked}
use Rattle.pop3_server.proofs.rows.Rows.unmark.Goals as goal

pub loop-row-preserved : goal.loop-row-preserved
loop-row-preserved c =
    let fits : c.loop-row.row-index < length c.deref_mut-row-items.result.now =
    omega (arith, c.loop-row-test.true, c.loop-row.auto.row-items) in
    ap (λ row. slice_set c.loop-row.row-items c.loop-row.row-index (unmarked row)) (sym c.row-item.is)
    ∙ map_over_more unmarked c.deref_mut-row-items.result.now c.loop-row.row-items c.loop-row.row-index
    c.row-item.result fits c.loop-row.invariant c.row-item.is
