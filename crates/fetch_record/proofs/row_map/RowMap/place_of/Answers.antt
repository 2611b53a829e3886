use Rattle.std.proofs.Common.{Some}
use Rattle.fetch_record.proofs.RowLemmas.{place_found}
use Rattle.fetch_record.proofs.row_map.RowMap.place_of.Goals as goal

pub returns-clause-found : goal.returns-clause-found
returns-clause-found g c = rw (← c.self.view_is, ← c.in_ok-id_text.ensures.text)
    (place_found c.in_ok-id_text.field-0.now c.self.inside.states.entries (Some c.in_ok-place.place) c.in_ok-place.ensures.index)
