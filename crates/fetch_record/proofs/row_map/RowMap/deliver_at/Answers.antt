use Rattle.std.proofs.Common.{[], refl, subst, sym}
use Rattle.fetch_record.{specs.{Record.IsRecord, Rows.row_from}, proofs.RowLemmas.{IsRecord-marked, set_at}}
use Rattle.fetch_record.proofs.row_map.RowMap.deliver_at.Goals as goal

pub returns-clause-rows : goal.returns-clause-rows
returns-clause-rows g c = λ d. rw (← c.self.view_is)
    (set_at c.self.inside.states.entries c.args.place d c.in-Some.state.now _ c.self.invariant
    (rw (← c.self.view_is) at c.requires) (sym c.in-Some.ensures.value) refl)

pub invariant_of-self : goal.invariant_of-self
invariant_of-self g c =
    subst IsRecord (sym (set_at c.self.inside.states.entries c.args.place (row_from [] c.in-Some.state.now)
    c.in-Some.state.now _ c.self.invariant (rw (← c.self.view_is) at c.requires) (sym c.in-Some.ensures.value) refl))
    (IsRecord-marked _ _ c.self.invariant)

pub returns-clause-is_record : goal.returns-clause-is_record
returns-clause-is_record g c = invariant_of-self g c
