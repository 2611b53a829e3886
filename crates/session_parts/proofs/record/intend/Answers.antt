use Rattle.std.proofs.Common.{None, Some, Err, inl, inr, ◌∙◌}
use Rattle.fetch_record.specs.{Record.none_open, RecordGrowth.Grows}
use Rattle.mail_store.{specs.{Devices.known_file, Durable.seen_on}, proofs.DiskLemmas.all_seen}
use Rattle.session_parts.{
  specs.Record.{intent_at, with_open},
  proofs.{TalkLemmas.err_is, RecordLemmas.calls_append, SceneLemmas.{row_begun, opens}, record.intend.Goals.After-grow},
}
use Rattle.session_parts.proofs.record.intend.Goals as goal

pub measure-requires : goal.measure-requires
measure-requires g c = record {
  begun = λ kept. row_begun (seen_on (g.F.FlatFile.disk c.args.file.now)) c.args.seen.now.rows None c.args.uid.now
      (c.requires.written.steady kept) c.requires.row;
}

pub grow-requires : goal.grow-requires
grow-requires g c = record {
  begun = λ kept some.
      let (sound, ((_, flushed), _)) = c.in_ok-size.ensures.measures kept in
      row_begun (seen_on (g.F.FlatFile.disk c.measure.new.file)) c.args.seen.now.rows None c.args.uid.now
      (rw (all_seen (g.F.FlatFile.disk c.args.file.now) (g.F.FlatFile.disk c.measure.new.file) flushed)
      (c.requires.written.steady sound)) c.requires.row;
}

-- the line that was appended opens the intent
grows_by_intent : (g : _) (c : After-grow g) → Grows c.args.seen.now.rows None c.deref.result.now c.args.seen.now.rows
    (Some (intent_at c.args.uid.now c.args.start c.args.len))
grows_by_intent g c = opens _ _ c.deref.result.now (record {
  legal = c.requires.legal;
  start = c.ranges.start.fits;
  len = c.ranges.len.fits;
}) c.requires.row (c.deref.ensures.value ∙ c.in_ok-line.ensures.line)

pub returns-in_err-size-clause-intends : goal.returns-in_err-size-clause-intends
returns-in_err-size-clause-intends g c = λ kept.
    let did = c.in_err-size.ensures.measures kept in
    (did.0, rw (err_is c.from_residual-in_err-size.ensures.1) (inl did.1))

pub returns-in_err-grow-clause-intends : goal.returns-in_err-grow-clause-intends
returns-in_err-grow-clause-intends g c = λ kept.
    let did = c.in_err-grow.ensures.grows kept in
    let told = c.in_ok-size.ensures.measures did.0 in
    let mid = known_file g.F.FlatFile c.measure.new.file in
    let rows = c.args.seen.now.rows in (
      told.0,
      rw (err_is c.from_residual-in_err-grow.ensures.1) (inr (
        mid,
        c.in_ok-size.size,
        told.1,
        calls_append (none_open rows) (with_open rows (intent_at c.args.uid.now c.args.start c.args.len)) c.deref.result.now mid
            (known_file g.F.FlatFile c.grow.new.file) (Err c.in_err-grow.field-0.0)
            (grows_by_intent g (goal.at.returns-in_err-grow-clause-intends g c).After-grow) did.1,
      )),
    )

pub returns-clause-intends : goal.returns-clause-intends
returns-clause-intends g c = λ kept.
    let did = c.in_ok-grow.ensures.grows kept in
    let told = c.in_ok-size.ensures.measures did.0 in (
      told.0,
      (
        known_file g.F.FlatFile c.measure.new.file,
        told.1,
        (c.deref.result.now, grows_by_intent g (goal.at.returns-clause-intends g c).After-grow, did.1),
      ),
    )
