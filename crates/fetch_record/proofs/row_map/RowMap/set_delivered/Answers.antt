use Rattle.std.proofs.Common.{[], ap, false, ◌∙◌}
use Rattle.fetch_record.specs.Record.{Row, marked}
use Rattle.fetch_record.proofs.row_map.RowMap.set_delivered.Goals as goal

pub returns-in-Some-clause-rows : goal.returns-in-Some-clause-rows
returns-in-Some-clause-rows g c =
    let any : Row = record { uid = []; first_seen = 0; delivered = false } in
    c.deliver_at.ensures.rows any ∙ ap (marked c.args.self.now) (c.in-Some.ensures.found.1 any)
