use Rattle.std.proofs.Common.{rules, List, ℕ, Result, Ok, Err, inl, inr, arith, refl, subst, ◌∙◌, string_bytes}
use Rattle.fetch_record.specs.Record.{none_open, marked}
use Rattle.session_parts.{
  specs.{Record.{AppendsRecord, record_state_in}, Durable.DurablySaves, declared.fault.Fault.Fault, Store.MayGain, Target.AsFiles},
  specs.{Refusal.TookTillCut, Parts.KeepsLink, Report.AddsLines},
  proofs.{SceneLemmas.{all_sound, link_alone}, SessionLemmas.same_left, RecordLemmas.durably_saves},
  proofs.TextLemmas.{named_more, stores_grows, text_broken, text_stops, text_stored, text_not_saved},
  proofs.TalkLemmas.{took_talked, takes_stopped, before_cut, err_is, did_both},
  proofs.PartLemmas.{filed, link_broke, link_idle, link_then_cut, marked_ledger, same_ledger},
}
use Rattle.fetch_session.proofs.storing.take_into_maildir.Goals.{After-note, After-remember, After-store_text, In_ok-length}
use Rattle.pop3_client.specs.{declared.fault.ClientFault.TheVariants.NoMemory, Client.link_of, Turns.{most, retr}}
use Rattle.mail_store.specs.{Devices.{FileDid, known_file}, Maildir.IsThere, FileName.{sized, sized_file, stem_of}}
use Rattle.pop3_wire.proofs.LinkLemmas.{and_then, in_words}
use Rattle.fetch_session.proofs.storing.take_into_maildir.Goals as goal

pub store_text-requires-clause-free : goal.store_text-requires-clause-free
store_text-requires-clause-free g c = λ kept. record {
  none_begun = c.requires.ready.none_begun kept;
  not_there = λ size there.
      c.unheld_ids_are_not_there.ensures c.args.account.now c.args.uid.now size (g.D.MaildirDisk.maildir c.args.disk.now)
      c.requires.digits (c.requires.free kept).1
      (subst (λ (stem : List ℕ). IsThere (g.D.MaildirDisk.maildir c.args.disk.now) (sized stem size)) c.in_ok-stem.ensures.stem there);
  named = (c.requires.named kept).0;
}

gains_text : (g : _) (c : After-store_text g) → g.D.MaildirDisk.sound c.store_text.new.disk → g.D.MaildirDisk.sound c.args.disk.now
    × MayGain (stem_of c.args.account.now c.args.uid.now) (g.D.MaildirDisk.maildir c.args.disk.now)
    (g.D.MaildirDisk.maildir c.store_text.new.disk)
gains_text g c d =
    let stored = c.store_text.ensures.stores.1 d in (
      stored.0,
      rw c.in_ok-stem.ensures.stem at (stores_grows _ _ (string_bytes c.in_ok-stem.stem) c.store_text.ensures.stores.0 c.store_text.result
          (c.requires.ready.none_begun stored.0) stored.1),
    )

pub remember-requires-clause-steady : goal.remember-requires-clause-steady
remember-requires-clause-steady g c = λ f. rw c.requires.ready.written.closed (c.requires.ready.written.steady f)

-- a line is noted for the text
line_noted : (g : _) (c : After-note g) → AddsLines c.args.ledger.now.lines 1 c.note.new.lines
line_noted g c = (omega (arith, c.note.ensures.len), c.note.ensures.capacity)

pub returns-in_err-stem : goal.returns-in_err-stem
returns-in_err-stem g c = filed (err_is c.from_residual.ensures.1) c.one_more_is_held.ensures c.requires.ready.written (record {
  talk = link_idle;
  ledger = same_ledger c.args.uid.now c.args.ledger.now _ c.requires.ready.written;
  grows = search rules;
  takes = link_alone (λ w. (
    w,
    g.met.W.Wire.leads_same c.args.client.now.wire.now,
    text_broken (AsFiles c.args.account.now) NoMemory refl (inr (inr (refl, refl, refl))),
  ));
  keeps = search rules;
  durable = λ d f safe. (tt, inl (same_left g.F.FlatFile c.args.ledger.now.file safe (c.requires.ready.written.steady f)));
})

pub returns-in_err-body : goal.returns-in_err-body
returns-in_err-body g c =
    filed (err_is c.from_residual-in_err-body.ensures.1) c.one_more_is_held.ensures c.requires.ready.written (record {
      talk = link_broke c.conversations_are_paced.ensures (retr c.args.number) c.in_err-body.field-0.0 c.open.ensures.link
          c.in_err-body.ensures.counted c.in_err-body.ensures.opens;
      ledger = same_ledger c.args.uid.now c.args.ledger.now _ c.requires.ready.written;
      grows = search rules;
      takes = link_alone (in_words g.W.Wire c.in_err-body.ensures.opens
          (text_broken (AsFiles c.args.account.now) c.in_err-body.field-0.0 refl));
      keeps = search rules;
      durable = λ d f safe. (tt, inl (same_left g.F.FlatFile c.args.ledger.now.file safe (c.requires.ready.written.steady f)));
    })

pub returns-in_err-length : goal.returns-in_err-length
returns-in_err-length g c =
    let stores = c.in_err-length.ensures.stores in
    let cut = c.in_err-length.field-0.0 in
    filed (err_is c.from_residual-in_err-length.ensures.1) c.one_more_is_held.ensures c.requires.ready.written (record {
      talk = record {
        same = c.store_text.ensures.link ∙ c.open.ensures.link;
        counted = before_cut (link_of g.W.Wire c.args.client.now) (link_of g.W.Wire c.open.new.self)
            (link_of g.W.Wire c.store_text.new.client) cut c.in_ok-body.ensures.counted c.in_err-length.ensures.counted;
        took = did_both g.W.Wire c.in_ok-body.ensures.opens stores.2
            (λ opened link. takes_stopped c.conversations_are_paced.ensures c.args.number _ _ _ cut.fault cut.rest
            (link c.args.number _ opened));
      };
      ledger = same_ledger c.args.uid.now c.args.ledger.now _ c.requires.ready.written;
      grows = λ d. let grew = gains_text g (goal.at.returns-in_err-length g c).After-store_text d in (grew.0, grew.1, tt);
      takes = all_sound (and_then g.W.Wire g.met.W.Wire.leads_on c.in_ok-body.ensures.opens stores.2
          (λ opened link. link c.args.number _ opened)) stores.1 (λ f. (f, tt {0}))
          (λ link stored same. text_stops stores.0 (string_bytes c.in_ok-stem.stem) cut.fault cut.rest
          c.in_ok-stem.ensures.stem stored link);
      keeps = λ f rows last. last;
      durable = λ d f safe. (tt, inl (same_left g.F.FlatFile c.args.ledger.now.file safe (c.requires.ready.written.steady f)));
    })

-- what marking the id leaves of the record's file
remember_law : (g : _) (c : After-remember g) (r : Result (Unit {0}) Fault) → FileDid g.F.FlatFile (AppendsRecord
    (record_state_in c.args.ledger.now.seen) (none_open (marked c.args.ledger.now.seen.rows c.args.uid.now)))
    c.args.ledger.now.file r c.remember.new.file → (f : g.F.FlatFile.sound c.remember.new.file)
    → DurablySaves (none_open c.args.ledger.now.seen.rows) (none_open (marked c.args.ledger.now.seen.rows c.args.uid.now))
    (known_file g.F.FlatFile c.args.ledger.now.file) r (known_file g.F.FlatFile c.remember.new.file)
remember_law g c r did f = durably_saves (none_open c.args.ledger.now.seen.rows)
    (none_open (marked c.args.ledger.now.seen.rows c.args.uid.now)) (known_file g.F.FlatFile c.args.ledger.now.file) r
    (known_file g.F.FlatFile c.remember.new.file) (rw c.requires.ready.written.closed at (did f).1)

-- the text was read
text_was_read : (g : _) (c : In_ok-length g)
    → KeepsLink g.W.Wire (TookTillCut (most (retr c.args.number))) c.args.client.now (Ok tt) c.store_text.new.client
text_was_read g c = record {
  same = c.store_text.ensures.link ∙ c.open.ensures.link;
  counted = c.in_ok-length.ensures.counted ∙ c.in_ok-body.ensures.counted;
  took = did_both g.W.Wire c.in_ok-body.ensures.opens c.in_ok-length.ensures.stores.2
      (λ opened link. took_talked c.conversations_are_paced.ensures (link c.args.number _ opened).1);
}

pub returns : goal.returns
returns g c =
    let here = goal.at.returns g c in
    let stores = c.in_ok-length.ensures.stores in
    let marks = c.in_ok-remember.ensures in
    let law = remember_law g here.After-remember (Ok tt) marks.appends in
    let ready = c.requires.ready.written in
    filed refl c.one_more_is_held.ensures c.requires.ready.written (record {
      talk = text_was_read g here.In_ok-length;
      ledger = marked_ledger (Ok tt) c.marked_keeps_rows.ensures refl (line_noted g here.After-note) (λ f. (marks.appends f).0) (
        marks.rows,
        record { closed = marks.closed; steady = λ f. rw marks.rows ((law f).sees.1 (ready.steady (marks.appends f).0)) },
      ) (λ f safe. (law f).leaves (ready.steady (marks.appends f).0) safe);
      grows = λ d.
          let (sound, grew) = gains_text g here.After-store_text d in
          let (_, (stored, _)) = stores.1 d in
          (sound, grew, rw stored (named_more (g.D.MaildirDisk.maildir c.args.disk.now).files _ (c.requires.named sound).0 refl));
      takes = all_sound (and_then g.W.Wire g.met.W.Wire.leads_on c.in_ok-body.ensures.opens stores.2
          (λ opened link. link c.args.number _ opened)) stores.1 (λ f. ((marks.appends f).0, (law f).sees))
          (λ link stored saved. text_stored c.in_ok-length.length stores.0 (string_bytes c.in_ok-stem.stem)
          c.in_ok-stem.ensures.stem stored link marks.rows saved c.note.ensures.items);
      keeps = λ f. (law f).keeps;
      durable = λ d f safe. ((law f).durable safe, tt);
    })

pub returns-in_err-remember : goal.returns-in_err-remember
returns-in_err-remember g c =
    let here = goal.at.returns-in_err-remember g c in
    let stores = c.in_ok-length.ensures.stores in
    let marks = c.in_err-remember.ensures in
    let law = remember_law g here.After-remember (Err c.in_err-remember.field-0.0) marks.appends in
    let ready = c.requires.ready.written in
    filed (err_is c.from_residual-in_err-remember.ensures.1) c.one_more_is_held.ensures c.requires.ready.written (record {
      talk = link_then_cut (text_was_read g here.In_ok-length);
      ledger = marked_ledger (Err _) c.marked_keeps_rows.ensures refl (line_noted g here.After-note) (λ f. (marks.appends f).0) tt
          (λ f safe. (law f).leaves (ready.steady (marks.appends f).0) safe);
      grows = λ d. let grew = gains_text g here.After-store_text d in (grew.0, grew.1, tt);
      takes = all_sound (and_then g.W.Wire g.met.W.Wire.leads_on c.in_ok-body.ensures.opens stores.2
          (λ opened link. link c.args.number _ opened)) stores.1 (λ f. ((marks.appends f).0, (law f).sees))
          (λ link stored saved. text_not_saved c.in_ok-length.length stores.0 (string_bytes c.in_ok-stem.stem)
          c.in_err-remember.field-0.0 c.in_ok-stem.ensures.stem stored link saved c.note.ensures.items);
      keeps = λ f. (law f).keeps;
      durable = λ d f safe. let (_, (stored, _)) = stores.1 d in
          (tt, inr (sized_file (string_bytes c.in_ok-stem.stem) stores.0, rw stored refl, (refl, refl)));
    })
