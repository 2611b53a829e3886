use Rattle.std.proofs.Common.{sym}
use Rattle.fetch_record.{specs.Rows.row_from, proofs.RowLemmas.state_found}
use Rattle.fetch_record.proofs.row_map.RowMap.state.Goals as goal

pub returns-clause-value : goal.returns-clause-value
returns-clause-value g c =
    sym (state_found c.args.self.now c.args.uid.now c.in_ok-place.place (row_from c.at.result.0.now c.at.result.1)
    c.place_of.ensures.is_record c.in_ok-place.ensures.found c.at.ensures)
