use Rattle.std.proofs.{Common.{◌∙◌, sym, ap, subst, take}, lemmas.List.take-map}
use Rattle.fetch_record.{specs.{Record.IsRecord, Rows.{row_of_state, rows_of_states}}, proofs.RowLemmas.IsRecord-take}
use Rattle.fetch_record.proofs.row_map.RowMap.keep_first.Goals as goal

pub returns-clause-rows : goal.returns-clause-rows
returns-clause-rows g c = ap rows_of_states c.truncate.ensures.entries
    ∙ sym (take-map row_of_state c.args.count c.self.inside.states.entries) ∙ ap (take c.args.count) c.self.view_is

pub invariant_of-self : goal.invariant_of-self
invariant_of-self g c = rw (returns-clause-rows g c)
    (IsRecord-take c.args.count c.args.self.now (subst IsRecord c.self.view_is c.self.invariant))

pub returns-clause-is_record : goal.returns-clause-is_record
returns-clause-is_record g c = invariant_of-self g c
