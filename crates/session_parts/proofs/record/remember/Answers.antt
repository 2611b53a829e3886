use Rattle.std.proofs.Common.{None, inl, ap}
use Rattle.fetch_record.specs.{Record.{Loaded, marked, none_open}, RecordGrowth.Updates}
use Rattle.mail_store.specs.{Devices.known_file, Durable.seen_on}
use Rattle.session_parts.{
  specs.Record.record_state_in,
  proofs.{RecordLemmas.calls_append, SceneLemmas.mark_begun, record.remember.Goals.After-grow},
}
use Rattle.session_parts.proofs.record.remember.Goals as goal

pub grow-requires : goal.grow-requires
grow-requires g c = record {
  begun = λ kept some. mark_begun (seen_on (g.F.FlatFile.disk c.args.file.now)) c.args.seen.now.rows c.mark_rows.new.self.rows
      c.args.seen.now.intent c.mark_rows.new.self.intent c.args.uid.now c.deref.result.now
      (c.requires.steady kept) (ap (λ (seen : Loaded). seen.rows) c.in_ok-group.ensures.after)
      (rw c.deref.ensures.value c.in_ok-group.ensures.updates) some;
}

-- what was appended marks the id's row, and ends the intent
marking_updates : (g : _) (c : After-grow g) → Updates c.args.seen.now.rows c.args.seen.now.intent c.deref.result.now
    (marked c.args.seen.now.rows c.args.uid.now) None
marking_updates g c = rw c.deref.ensures.value (rw c.in_ok-group.ensures.after at c.in_ok-group.ensures.updates)

pub returns-clause-appends : goal.returns-clause-appends
returns-clause-appends g c = λ kept.
    let did = c.grow.ensures.grows kept in (
      did.0,
      calls_append (record_state_in c.args.seen.now) (none_open (marked c.args.seen.now.rows c.args.uid.now)) c.deref.result.now
          (known_file g.F.FlatFile c.args.file.now) (known_file g.F.FlatFile c.grow.new.file) c.grow.result
          (inl (marking_updates g (goal.at.returns-clause-appends g c).After-grow)) did.1,
    )
