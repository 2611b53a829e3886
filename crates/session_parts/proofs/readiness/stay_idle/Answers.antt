use Rattle.mail_store.specs.Devices.{FileDid, known_file, stored_in}
use Rattle.std.proofs.Common.{◌∙◌, Result, Ok, Err, inl, inr, refl, subst, sym}
use Rattle.fetch_record.specs.Record.{RecordState}
use Rattle.session_parts.{
  specs.{Record.{Merges, WritesRows, record_state_in}, Durable.DurablyWrites, declared.fault.Fault.Fault},
  proofs.{TalkLemmas.err_is, SceneLemmas.{closed_state, read_keeps, read_steady}, SessionLemmas.untouched},
  proofs.RecordLemmas.{durably_writes, written_is, written_merged},
  proofs.{ReadyLemmas.{is_anew, rested, unrenewed, unrested}, readiness.stay_idle.Goals.After-save},
}
use Rattle.session_parts.proofs.readiness.stay_idle.Goals as goal

pub returns-in_err-ready-clause-readies : goal.returns-in_err-ready-clause-readies
returns-in_err-ready-clause-readies g c = rw (err_is c.from_residual.ensures.1) (λ d f.
    let finds = c.in_err-ready.ensures.finds d in (
      finds.0,
      f,
      unrested g.D.MaildirDisk g.F.FlatFile c.args.terms.account.now c.args.work.now.store c.rest.new.store
          c.args.work.now.ledger.file c.args.work.now.ledger.file c.args.work.now.ledger.seen c.args.steps.items
          c.known_listings_change_nothing.ensures (c.requires.stands f) c.requires.idle c.in_err-ready.field-0.0 finds.1
          (c.rest.ensures.keeps d) refl,
    ))

-- ---- the file needs no change

pub returns-then-not-needs_rewrite-clause-steady : goal.returns-then-not-needs_rewrite-clause-steady
returns-then-not-needs_rewrite-clause-steady g c = λ f. (
  f,
  (read_steady (stored_in g.F.FlatFile c.args.work.now.ledger.file).content c.args.work.now.ledger.seen
      (c.requires.stands f) (sym c.needs_rewrite.ensures ∙ c.if-not-needs_rewrite.true)).0,
)

pub returns-then-not-needs_rewrite-clause-readies : goal.returns-then-not-needs_rewrite-clause-readies
returns-then-not-needs_rewrite-clause-readies g c = λ d f.
    let finds = c.in_ok-ready.ensures.finds d in
    let file = c.args.work.now.ledger.file in
    let steady = read_steady (stored_in g.F.FlatFile file).content c.args.work.now.ledger.seen (c.requires.stands f)
    (sym c.needs_rewrite.ensures ∙ c.if-not-needs_rewrite.true) in (
      finds.0,
      f,
      rested g.D.MaildirDisk g.F.FlatFile c.args.terms.account.now c.args.work.now.store c.rest.new.store file file
          c.args.work.now.ledger.seen c.args.steps.items
          c.known_listings_change_nothing.ensures (c.requires.stands f) c.requires.idle c.in_ok-ready.ready finds.1
          (inl refl) steady.0 refl (untouched g.F.FlatFile file) (c.rest.ensures.keeps d)
          c.in_ok-ready.ensures.steps c.in_ok-ready.ensures.length,
    )

-- ---- it is written anew

-- what writing the record leaves of its file
law : (g : _) (c : After-save g) (r : Result (Unit {0}) Fault) → FileDid g.F.FlatFile (WritesRows c.args.work.now.ledger.seen.rows)
    c.args.work.now.ledger.file r c.save.new.file → g.F.FlatFile.sound c.save.new.file
    → DurablyWrites c.args.work.now.ledger.seen.rows (known_file g.F.FlatFile c.args.work.now.ledger.file) r
    (known_file g.F.FlatFile c.save.new.file)
law g c r writes f = durably_writes c.args.work.now.ledger.seen.rows (known_file g.F.FlatFile c.args.work.now.ledger.file) r
    (known_file g.F.FlatFile c.save.new.file) c.save.ensures.stands (writes f).1

pub returns-in_err-save-clause-readies : goal.returns-in_err-save-clause-readies
returns-in_err-save-clause-readies g c = rw (err_is c.from_residual-in_err-save.ensures.1) (λ d f.
    let finds = c.in_ok-ready.ensures.finds d in
    let fault = c.in_err-save.field-0.0 in
    let did = c.in_err-save.ensures.writes f in
    let writes = law g (goal.at.returns-in_err-save-clause-readies g c).After-save (Err fault) c.in_err-save.ensures.writes f in
    let seen = c.args.work.now.ledger.seen in
    let from = c.args.work.now.ledger.file in
    let stood = c.requires.stands did.0 in (
      finds.0,
      did.0,
      unrenewed g.D.MaildirDisk g.F.FlatFile c.args.terms.account.now c.args.work.now.store c.rest.new.store from
          c.save.new.file seen c.args.steps.items
          c.known_listings_change_nothing.ensures stood c.requires.idle c.in_ok-ready.ready fault finds.1
          (subst (λ (h : RecordState). Merges (stored_in g.F.FlatFile from) (record_state_in seen) h (Err fault)
          (stored_in g.F.FlatFile c.save.new.file)) (closed_state seen c.requires.idle.closed)
          (writes.sees (record_state_in seen) (read_keeps _ seen stood)))
          (written_merged (record_state_in seen) seen.rows (known_file g.F.FlatFile from) (Err fault)
          (known_file g.F.FlatFile c.save.new.file) writes) (c.rest.ensures.keeps d),
    ))

pub returns-clause-steady : goal.returns-clause-steady
returns-clause-steady g c = λ f.
    let did = c.in_ok-save.ensures.writes f in
    let seen = c.args.work.now.ledger.seen in
    let writes = law g (goal.at.returns-clause-steady g c).After-save (Ok tt) c.in_ok-save.ensures.writes f in
    (did.0, (writes.sees (record_state_in seen) (read_keeps _ seen (c.requires.stands did.0))).1)

pub returns-clause-readies : goal.returns-clause-readies
returns-clause-readies g c = λ d f.
    let finds = c.in_ok-ready.ensures.finds d in
    let did = c.in_ok-save.ensures.writes f in
    let writes = law g (goal.at.returns-clause-readies g c).After-save (Ok tt) c.in_ok-save.ensures.writes f in
    let seen = c.args.work.now.ledger.seen in
    let from = c.args.work.now.ledger.file in
    let stood = c.requires.stands did.0 in
    let sees = writes.sees (record_state_in seen) (read_keeps _ seen stood) in
    let anew = is_anew seen (stored_in g.F.FlatFile from) (stored_in g.F.FlatFile c.save.new.file) stood
    c.requires.idle.closed (sym c.needs_rewrite.ensures ∙ c.if-not-needs_rewrite.false) (written_is seen.rows
    (known_file g.F.FlatFile from) (known_file g.F.FlatFile c.save.new.file) did.1) in (
      finds.0,
      did.0,
      rested g.D.MaildirDisk g.F.FlatFile c.args.terms.account.now c.args.work.now.store c.rest.new.store from
          c.save.new.file seen c.args.steps.items
          c.known_listings_change_nothing.ensures stood c.requires.idle c.in_ok-ready.ready finds.1 (inr anew) sees.1 sees.0
          (refl, writes.durable) (c.rest.ensures.keeps d) c.in_ok-ready.ensures.steps c.in_ok-ready.ensures.length,
    )
