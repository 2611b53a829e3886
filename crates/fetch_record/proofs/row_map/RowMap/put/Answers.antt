use Rattle.std.proofs.Common.{◌∙◌, subst, arith}
use Rattle.fetch_record.{
  specs.Record.IsRecord,
  proofs.{RowLemmas.{Puts, known_at, put_added, put_marked, put_is_record}, row_map.RowMap.put.Goals.In_ok-insert},
}
use Rattle.fetch_record.proofs.row_map.RowMap.put.Goals as goal

puts : (g : _) (c : In_ok-insert g)
    → Puts c.args.uid.now c.args.state c.self.inside.states.entries c.insert.new.self.entries c.args.self.now
puts g c = record {
  key = c.in_ok-id.id;
  rows_are = c.self.view_is;
  key_is = c.in_ok-id.ensures ∙ c.in-Some.ensures.text;
  fs_is = c.in_ok-insert.ensures.entries;
}

pub returns-clause-old : goal.returns-clause-old
unfolding puts
returns-clause-old g c = c.in_ok-insert.ensures.old ∙ known_at (puts g c)

pub returns-clause-added : goal.returns-clause-added
returns-clause-added g c = put_added (puts g c) c.in_ok-insert.field-0 (returns-clause-old g c)

pub returns-clause-marked : goal.returns-clause-marked
returns-clause-marked g c = put_marked (puts g c) c.in_ok-insert.field-0
    (subst IsRecord c.self.view_is c.self.invariant) (returns-clause-old g c)

pub invariant_of-self-2 : goal.invariant_of-self-2
invariant_of-self-2 g c =
    put_is_record (puts g c) c.in_ok-insert.field-0 (subst IsRecord c.self.view_is c.self.invariant)
    (record { legal = c.requires.legal; fits = omega arith }) (returns-clause-old g c)

pub returns-clause-is_record : goal.returns-clause-is_record
returns-clause-is_record g c = invariant_of-self-2 g c
