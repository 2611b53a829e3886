use Rattle.std.{
  proofs.Common.{◌≡◌, ◌∙◌, ℕ, List, length, None, Result, Ok, Err, inl, inr, refl, ap, subst},
  proofs.lemmas.Result.err_from_is_err_and,
}
use Rattle.mail_store.{
  specs.{Devices.{KnownFile, known_file}, Durable.seen_on, Mboxrd.entry_of, Fault.is_refusal},
  specs.declared.{fault.EntryFault.TheVariants.{Nothing, Front}, file.flat_file.Edges.Edges},
}
use Rattle.fetch_record.specs.Record.{Intent, Row, none_open}
use Rattle.session_parts.{
  specs.{Durable.{AreLeft, IsDiskSafe, LeavesOn}, Entries.IsAnnounced, Record.{Intends, Steady, intent_at}, declared.fault.Fault.Fault},
  proofs.{EnteredLemmas.{entry_counted, rows_left, tallied}, TalkLemmas.err_is},
  proofs.RecordLemmas.{durably_intends, durably_takes_back, grown_rows, opened_behind, same_left_on},
  proofs.appending.append_text.Goals.{After-entry_len-len, In_ok-size},
}
use Rattle.session_parts.proofs.appending.append_text.Goals as goal

long : (g : _) (c : After-entry_len-len g) → c.entry_len-len.result ≡ length (entry_of c.args.text.items)
long g c = c.entry_len-len.ensures ∙ ap (λ (l : List ℕ). length (entry_of l)) c.deref.ensures.value

-- the intent was written
announced : (g : _) (c : In_ok-size g) → c.entry_len-len.result ≡ length (entry_of c.args.text.items) → g.F.FlatFile.sound c.edges.new.self
    → g.F.FlatFile.sound c.intend.new.file → IsAnnounced c.args.ledger.now.seen.rows c.args.uid.now c.args.text.items
    (known_file g.F.FlatFile c.args.mbox.now) (known_file g.F.FlatFile c.args.ledger.now.file)
    (known_file g.F.FlatFile c.edges.new.self) c.in_ok-size.size (known_file g.F.FlatFile c.intend.new.file)
announced g c size m f =
    let (_, ((was, has, edges), same)) = c.in_ok-edges.ensures.measures m in
    record {
      was = was;
      sizes = (has, same, c.in_ok-edges.ensures.count);
      intends = rw (edges, size) at (c.in_ok-size.ensures.intends f).1;
    }

pub take_back-requires : goal.take_back-requires
take_back-requires g c = record {
  there = λ f. let did = c.in_ok-size.ensures.intends f in
      (opened_behind c.args.ledger.now.seen.rows (intent_at c.args.uid.now c.in_ok-edges.edges.size c.entry_len-len.result)
      (known_file g.F.FlatFile c.args.ledger.now.file) c.in_ok-size.size (known_file g.F.FlatFile c.intend.new.file) did.1
      (c.requires.ready.steady did.0)).0;
}

pub returns-in_err-edges-clause-writes : goal.returns-in_err-edges-clause-writes
returns-in_err-edges-clause-writes g c = λ m f.
    let sizes = (c.in_err-edges.ensures.measures m).1 in
    let why = c.in_err-edges.field-0.0 in
    let p = err_from_is_err_and c.from_residual.result c.from_residual.ensures.1 in (
      (c.in_err-edges.ensures.measures m).0,
      f,
      rw p.1 (inl (
        why,
        (
          sizes.0,
          sizes.1,
          tallied (is_refusal why) (g.F.FlatFile.refusals c.args.mbox.now) (g.F.FlatFile.refusals c.edges.new.self)
              (g.met.F.FlatFile.below c.edges.new.self m) c.in_err-edges.ensures.count,
        ),
        refl,
        p.2,
      )),
    )

pub returns-in_err-size-clause-writes : goal.returns-in_err-size-clause-writes
returns-in_err-size-clause-writes g c = λ m f.
    let (sound, ((was, has, edges), same)) = c.in_ok-edges.ensures.measures m in
    let did = c.in_err-size.ensures.intends f in
    let size = long g (goal.at.returns-in_err-size-clause-writes g c).After-entry_len-len in (
      sound,
      did.0,
      rw (err_is c.from_residual-in_err-size.ensures.1) (inr (inl (
        was,
        (has, same, c.in_ok-edges.ensures.count),
        subst (λ (i : Intent). Intends c.args.ledger.now.seen.rows i (known_file g.F.FlatFile c.args.ledger.now.file)
            (Err c.in_err-size.field-0.0) (known_file g.F.FlatFile c.intend.new.file))
            (ap (λ (n : ℕ). intent_at c.args.uid.now n c.entry_len-len.result) (ap (λ (e : Edges). e.size) edges)
            ∙ ap (intent_at c.args.uid.now (length was)) size) did.1,
      ))),
    )

pub returns-in-Err-Front-clause-writes : goal.returns-in-Err-Front-clause-writes
returns-in-Err-Front-clause-writes g c = λ m f.
    let here = goal.at.returns-in-Err-Front-clause-writes g c in
    let appends = c.in-Err-Front.ensures.appends m in (
      (c.in_ok-edges.ensures.measures appends.0).0,
      (c.in_ok-size.ensures.intends f).0,
      inr (inr (
        known_file g.F.FlatFile c.edges.new.self,
        c.in_ok-size.size,
        known_file g.F.FlatFile c.intend.new.file,
        announced g here.In_ok-size (long g here.After-entry_len-len) appends.0 f,
        inl (
          (
            rw c.in-Err-Front.field-0-is at appends.1,
            entry_counted (Err Front) (g.F.FlatFile.refusals c.edges.new.self) (g.F.FlatFile.refusals c.append_owned.new.file)
                (g.met.F.FlatFile.below c.append_owned.new.file m) (rw c.in-Err-Front.field-0-is at c.in-Err-Front.ensures.count),
          ),
          refl,
          c.from.ensures,
        ),
      )),
    )

pub returns-in-Err-Nothing-clause-writes : goal.returns-in-Err-Nothing-clause-writes
returns-in-Err-Nothing-clause-writes g c = λ m f.
    let here = goal.at.returns-in-Err-Nothing-clause-writes g c in
    let appends = c.in-Err-Nothing.ensures.appends m in
    let cuts = c.take_back.ensures.cuts f in
    let why = c.in-Err-Nothing.fault in (
      (c.in_ok-edges.ensures.measures appends.0).0,
      (c.in_ok-size.ensures.intends cuts.0).0,
      inr (inr (
        known_file g.F.FlatFile c.edges.new.self,
        c.in_ok-size.size,
        known_file g.F.FlatFile c.intend.new.file,
        announced g here.In_ok-size (long g here.After-entry_len-len) appends.0 cuts.0,
        inr (
          why,
          (
            rw c.in-Err-Nothing.field-0-is at appends.1,
            entry_counted (Err (Nothing why)) (g.F.FlatFile.refusals c.edges.new.self) (g.F.FlatFile.refusals c.append_owned.new.file)
                (g.met.F.FlatFile.below c.append_owned.new.file m) (rw c.in-Err-Nothing.field-0-is at c.in-Err-Nothing.ensures.count),
          ),
          cuts.1,
          c.from-in-Err-Nothing.ensures,
        ),
      )),
    )

pub returns-in-Ok-clause-writes : goal.returns-in-Ok-clause-writes
unfolding announced
returns-in-Ok-clause-writes g c = λ m f.
    let here = goal.at.returns-in-Ok-clause-writes g c in
    let appends = c.in-Ok.ensures.appends m in
    let size = long g here.After-entry_len-len in
    let i = announced g here.In_ok-size size appends.0 f in
    let (sound, ((_, _, edges), _)) = c.in_ok-edges.ensures.measures appends.0 in (
      sound,
      (c.in_ok-size.ensures.intends f).0,
      (
        known_file g.F.FlatFile c.edges.new.self,
        c.in_ok-size.size,
        i,
        (
          appends.1,
          entry_counted (Ok tt) (g.F.FlatFile.refusals c.edges.new.self) (g.F.FlatFile.refusals c.append_owned.new.file)
              (g.met.F.FlatFile.below c.append_owned.new.file m) c.in-Ok.ensures.count,
        ),
        rw (edges, size) at c.in_ok-size.ensures.opened,
      ),
    )

-- ---- the record's file alone

pub returns-in_err-edges-clause-ledger : goal.returns-in_err-edges-clause-ledger
returns-in_err-edges-clause-ledger g c =
    let p = err_from_is_err_and c.from_residual.result c.from_residual.ensures.1 in
    let file = g.F.FlatFile.disk c.args.ledger.now.file in
    let rows = c.args.ledger.now.seen.rows in
    rw p.1 (record {
      lines = refl;
      rows = refl;
      opened = tt;
      steady = λ f. (f, tt);
      durable = λ f safe. (
        tt,
        λ others bytes is left may. grown_rows rows others rows None None left (inl refl)
            (same_left_on file (none_open rows) (none_open rows) safe (c.requires.ready.steady f) bytes is left may),
      );
    })

-- what writing the intent leaves
intended : (rows : List Row) (intent : Intent) (old : KnownFile) (r : Result ℕ Fault) (new : KnownFile) → Intends rows intent old r new
    → Steady (seen_on old.disk) (none_open rows) → IsDiskSafe old.disk → (others : List Row) → LeavesOn new.disk (AreLeft rows others)
intended rows intent old r new intends stood safe = rows_left new.disk rows intent
    ((durably_intends rows intent old r new intends).leaves stood safe)

pub returns-in_err-size-clause-ledger : goal.returns-in_err-size-clause-ledger
returns-in_err-size-clause-ledger g c = rw (err_is c.from_residual-in_err-size.ensures.1) (record {
  lines = refl;
  rows = c.intend.ensures.rows;
  opened = tt;
  steady = λ f. ((c.in_err-size.ensures.intends f).0, tt);
  durable = λ f safe. let did = c.in_err-size.ensures.intends f in (
    tt,
    intended c.args.ledger.now.seen.rows (intent_at c.args.uid.now c.in_ok-edges.edges.size c.entry_len-len.result)
        (known_file g.F.FlatFile c.args.ledger.now.file) (Err c.in_err-size.field-0.0)
        (known_file g.F.FlatFile c.intend.new.file) did.1 (c.requires.ready.steady did.0) safe,
  );
})

pub returns-in-Err-Front-clause-ledger : goal.returns-in-Err-Front-clause-ledger
returns-in-Err-Front-clause-ledger g c = record {
  lines = refl;
  rows = c.intend.ensures.rows;
  opened = tt;
  steady = λ f. ((c.in_ok-size.ensures.intends f).0, tt);
  durable = λ f safe. let did = c.in_ok-size.ensures.intends f in (
    tt,
    intended c.args.ledger.now.seen.rows (intent_at c.args.uid.now c.in_ok-edges.edges.size c.entry_len-len.result)
        (known_file g.F.FlatFile c.args.ledger.now.file) (Ok c.in_ok-size.size)
        (known_file g.F.FlatFile c.intend.new.file) did.1 (c.requires.ready.steady did.0) safe,
  );
}

pub returns-in-Err-Nothing-clause-ledger : goal.returns-in-Err-Nothing-clause-ledger
returns-in-Err-Nothing-clause-ledger g c = record {
  lines = refl;
  rows = c.intend.ensures.rows;
  opened = tt;
  steady = λ f. ((c.in_ok-size.ensures.intends (c.take_back.ensures.cuts f).0).0, tt);
  durable = λ f safe.
      let cuts = c.take_back.ensures.cuts f in
      let did = c.in_ok-size.ensures.intends cuts.0 in
      let rows = c.args.ledger.now.seen.rows in
      let intent = (intent_at c.args.uid.now c.in_ok-edges.edges.size c.entry_len-len.result) in
      let file = known_file g.F.FlatFile c.args.ledger.now.file in
      let mid = known_file g.F.FlatFile c.intend.new.file in
      let law = durably_intends rows intent file (Ok c.in_ok-size.size) mid did.1 in
      let stood = c.requires.ready.steady did.0 in (
        tt,
        rows_left (g.F.FlatFile.disk c.take_back.new.file) rows intent ((durably_takes_back rows intent mid c.in_ok-size.size
            (known_file g.F.FlatFile c.take_back.new.file) (opened_behind rows intent file c.in_ok-size.size mid did.1 stood) cuts.1).leaves
            (law.durable safe) (law.leaves stood safe)),
      );
}

pub returns-in-Ok-clause-ledger : goal.returns-in-Ok-clause-ledger
returns-in-Ok-clause-ledger g c =
    let rows = c.args.ledger.now.seen.rows in
    let intent = (intent_at c.args.uid.now c.in_ok-edges.edges.size c.entry_len-len.result) in
    let file = known_file g.F.FlatFile c.args.ledger.now.file in
    let mid = known_file g.F.FlatFile c.intend.new.file in
    record {
      lines = refl;
      rows = c.intend.ensures.rows;
      opened = rw c.in_ok-size.ensures.opened refl;
      steady = λ f. let did = c.in_ok-size.ensures.intends f in (
        did.0,
        rw (c.intend.ensures.rows, c.in_ok-size.ensures.opened)
            ((durably_intends rows intent file (Ok c.in_ok-size.size) mid did.1).sees.1 (c.requires.ready.steady did.0)),
      );
      durable = λ f safe. let did = c.in_ok-size.ensures.intends f in (
        (durably_intends rows intent file (Ok c.in_ok-size.size) mid did.1).durable safe,
        intended rows intent file (Ok c.in_ok-size.size) mid did.1 (c.requires.ready.steady did.0) safe,
      );
    }
