use Rattle.mail_store.specs.Devices.{FileDid, known_file, stored_in}
use Rattle.std.proofs.{
  Common.{rules, ◌≡◌, ℕ, List, [], ◌∷◌, inl, inr, ◌++◌, Vec, Result, Ok, Err, length, arith, sym, ap, subst, ◌∙◌, refl, true≢false},
  lemmas.Option.same_Some,
}
use Rattle.fetch_record.specs.Record.{marked, none_open}
use Rattle.pop3_wire.{specs.Link.WhereSound, proofs.LinkLemmas.{and_then, in_words}}
use Rattle.pop3_client.specs.{Client.{link_of, place_of}, Texts.Fetched, Turns.{most, retr}}
use Rattle.session_parts.{
  specs.{Target.AsEntries, Refusal.TookTillCut, declared.report.ReportLine.{ReportLine, TheVariants.Delivered}, Parts.KeepsLink},
  specs.{Report.AddsLines, Task.stores, Durable.{DurablyEnters, DurablySaves, IsEntryLeft}},
  specs.{Entries.WritesEntry, Mbox.AppendsText, Record.{AppendsRecord, record_state_in}, declared.fault.Fault.Fault},
  proofs.{TextLemmas.{text_broken, body_whole, entry_not_saved, entry_stored, not_held, text_refused}, SessionLemmas.none_left_of},
  proofs.{TalkLemmas.{took_talked, takes_held, before_cut, err_is, did_both, did_so}, SceneLemmas.{both_sound, link_alone}},
  proofs.PartLemmas.{entered, link_broke, link_then_cut, marked_ledger, same_ledger},
  proofs.{EnteredLemmas.durably_enters, EntrySeen.enters_sees, RecordLemmas.durably_saves},
  proofs.appending.take_into_mbox.Goals.{After-append_text, After-len-length, After-note, After-remember, In_ok-text},
}
use Rattle.mail_store.specs.{FlatFile.Stored, Mboxrd.entry_of}
use Rattle.session_parts.proofs.appending.take_into_mbox.Goals as goal

text_counted : (g : _) (c : After-len-length g) → c.len-length.result ≡ length c.in_ok-text.text.items
text_counted g c = let same = ap length c.deref.ensures.value in omega (arith, c.len-length.ensures, c.deref.ensures.len, same)

-- the line of the text is noted
text_noted : (g : _) (c : After-note g)
    → c.note.new.lines.items ≡ c.args.ledger.now.lines.items ++ Delivered c.args.number c.len-length.result ∷ []
text_noted g c = c.note.ensures.items ∙ ap (λ (v : Vec ReportLine _). v.items ++ Delivered c.args.number c.len-length.result ∷ [])
    c.append_text.ensures.ledger.lines

noted : (g : _) (c : After-note g) → AddsLines c.args.ledger.now.lines 1 c.note.new.lines
noted g c = subst (λ lines. AddsLines lines 1 c.note.new.lines) c.append_text.ensures.ledger.lines
    (omega (arith, c.note.ensures.len), c.note.ensures.capacity)

-- the text was read
read : (g : _) (c : In_ok-text g) → WhereSound g.W.Wire.sound g.W.Wire.leads_to c.args.client.now.wire.now c.read_text.new.client.wire.now
    (Fetched (retr c.args.number) (place_of g.W.Wire c.args.client.now) c.in_ok-text.text.items (place_of g.W.Wire c.read_text.new.client))
read g c = and_then g.W.Wire g.met.W.Wire.leads_on c.in_ok-body.ensures.opens c.in_ok-text.ensures.holds
    (λ opened held. held c.args.number _ opened)

took : (g : _) (c : In_ok-text g)
    → KeepsLink g.W.Wire (TookTillCut (most (retr c.args.number))) c.args.client.now (Ok tt) c.read_text.new.client
took g c = record {
  same = c.read_text.ensures.link ∙ c.open.ensures.link;
  counted = c.in_ok-text.ensures.counted ∙ c.in_ok-body.ensures.counted;
  took = did_so g.W.Wire (read g c) (λ fetched. took_talked c.conversations_are_paced.ensures fetched.1);
}

-- what appending the entry leaves, and what calls see of it
abbrev Wrote : (g : _) → After-append_text g → Result (Unit {0}) Fault → Type 0
Wrote g c r = g.F.FlatFile.sound c.append_text.new.mbox → g.F.FlatFile.sound c.append_text.new.ledger.file
    → g.F.FlatFile.sound c.args.mbox.now × g.F.FlatFile.sound c.args.ledger.now.file
    × WritesEntry c.args.ledger.now.seen.rows c.args.uid.now c.in_ok-text.text.items (known_file g.F.FlatFile c.args.mbox.now)
    (known_file g.F.FlatFile c.args.ledger.now.file) r (known_file g.F.FlatFile c.append_text.new.mbox)
    (known_file g.F.FlatFile c.append_text.new.ledger.file) c.append_text.new.ledger.seen.intent

entry_law : (g : _) (c : After-append_text g) (r : Result (Unit {0}) Fault) → Wrote g c r → g.F.FlatFile.sound c.append_text.new.mbox
    → g.F.FlatFile.sound c.append_text.new.ledger.file → DurablyEnters c.args.ledger.now.seen.rows c.args.uid.now
    c.in_ok-text.text.items (known_file g.F.FlatFile c.args.mbox.now) (known_file g.F.FlatFile c.args.ledger.now.file) r
    (known_file g.F.FlatFile c.append_text.new.mbox) (known_file g.F.FlatFile c.append_text.new.ledger.file)
entry_law g c r wrote m f = durably_enters c.args.ledger.now.seen.rows c.args.uid.now c.in_ok-text.text.items
    (known_file g.F.FlatFile c.args.mbox.now) (known_file g.F.FlatFile c.args.ledger.now.file) r
    (known_file g.F.FlatFile c.append_text.new.mbox) (known_file g.F.FlatFile c.append_text.new.ledger.file)
    c.append_text.new.ledger.seen.intent (c.requires.ready.steady (wrote m f).1) (wrote m f).2

sees : (g : _) (c : After-append_text g) (r : Result (Unit {0}) Fault) → Wrote g c r → g.F.FlatFile.sound c.append_text.new.mbox
    → g.F.FlatFile.sound c.append_text.new.ledger.file → g.F.FlatFile.sound c.args.mbox.now × g.F.FlatFile.sound c.args.ledger.now.file
    × AppendsText (stored_in g.F.FlatFile c.args.mbox.now) (stored_in g.F.FlatFile c.args.ledger.now.file) c.args.ledger.now.seen
    c.args.uid.now c.in_ok-text.text.items r (stored_in g.F.FlatFile c.append_text.new.mbox)
    (stored_in g.F.FlatFile c.append_text.new.ledger.file) c.append_text.new.ledger.seen
sees g c r wrote m f = (
  (wrote m f).0,
  (wrote m f).1,
  enters_sees c.args.uid.now c.in_ok-text.text.items
      (known_file g.F.FlatFile c.args.mbox.now)
      (known_file g.F.FlatFile c.args.ledger.now.file) c.args.ledger.now.seen c.append_text.new.ledger.seen r
      (known_file g.F.FlatFile c.append_text.new.mbox) (known_file g.F.FlatFile c.append_text.new.ledger.file)
      (c.requires.ready.steady (wrote m f).1) (wrote m f).2,
)

-- what marking the id leaves
marked_law : (g : _) (c : After-remember g) (r : Result (Unit {0}) Fault) → FileDid g.F.FlatFile (AppendsRecord
    (record_state_in c.append_text.new.ledger.seen) (none_open (marked c.append_text.new.ledger.seen.rows c.args.uid.now)))
    c.append_text.new.ledger.file r c.remember.new.file → g.F.FlatFile.sound c.remember.new.file
    → DurablySaves (record_state_in c.append_text.new.ledger.seen) (none_open (marked c.append_text.new.ledger.seen.rows c.args.uid.now))
    (known_file g.F.FlatFile c.append_text.new.ledger.file) r (known_file g.F.FlatFile c.remember.new.file)
marked_law g c r did f = durably_saves (record_state_in c.append_text.new.ledger.seen)
    (none_open (marked c.append_text.new.ledger.seen.rows c.args.uid.now)) (known_file g.F.FlatFile c.append_text.new.ledger.file) r
    (known_file g.F.FlatFile c.remember.new.file) (did f).1

-- ---- where it stops

pub returns-in_err-body : goal.returns-in_err-body
returns-in_err-body g c = entered (err_is c.from_residual.ensures.1) c.one_more_is_held.ensures c.requires.ready (record {
  talk = link_broke c.conversations_are_paced.ensures (retr c.args.number) c.in_err-body.field-0.0 c.open.ensures.link
      c.in_err-body.ensures.counted c.in_err-body.ensures.opens;
  ledger = same_ledger c.args.uid.now c.args.ledger.now _ c.requires.ready;
  before = λ m. m;
  takes = link_alone (in_words g.W.Wire c.in_err-body.ensures.opens (text_broken AsEntries c.in_err-body.field-0.0 refl));
  keeps = search rules;
  durable = λ m f trust safe. (
    tt,
    λ whole w. none_left_of g.F.FlatFile c.args.mbox.now c.args.ledger.now.file (stores c.args.number c.args.uid.now)
        (place_of g.W.Wire c.args.client.now) c.args.ledger.now.seen.rows c.args.ledger.now.lines.items _ _ safe
        (c.requires.ready.steady f) whole,
  );
})

pub returns-in_err-text : goal.returns-in_err-text
returns-in_err-text g c = entered (err_is c.from_residual-in_err-text.ensures.1) c.one_more_is_held.ensures c.requires.ready (record {
  talk = record {
    same = c.read_text.ensures.link ∙ c.open.ensures.link;
    counted = before_cut (link_of g.W.Wire c.args.client.now) (link_of g.W.Wire c.open.new.self)
        (link_of g.W.Wire c.read_text.new.client) c.in_err-text.field-0.0 c.in_ok-body.ensures.counted c.in_err-text.ensures.counted;
    took = did_both g.W.Wire c.in_ok-body.ensures.opens c.in_err-text.ensures.holds
        (λ opened held. takes_held c.conversations_are_paced.ensures c.args.number _ c.in_err-text.field-0.0 _
        (held c.args.number _ opened));
  };
  ledger = same_ledger c.args.uid.now c.args.ledger.now _ c.requires.ready;
  before = λ m. m;
  takes = link_alone (and_then g.W.Wire g.met.W.Wire.leads_on c.in_ok-body.ensures.opens c.in_err-text.ensures.holds
      (λ opened held. not_held (held c.args.number (place_of g.W.Wire c.args.client.now) opened)));
  keeps = search rules;
  durable = λ m f trust safe. (
    tt,
    λ whole w. none_left_of g.F.FlatFile c.args.mbox.now c.args.ledger.now.file (stores c.args.number c.args.uid.now)
        (place_of g.W.Wire c.args.client.now) c.args.ledger.now.seen.rows c.args.ledger.now.lines.items _ _ safe
        (c.requires.ready.steady f) whole,
  );
})

pub returns-then-not-is_whole : goal.returns-then-not-is_whole
returns-then-not-is_whole g c =
    let here = (goal.at.returns-then-not-is_whole g c).In_ok-text in
    entered refl c.one_more_is_held.ensures c.requires.ready (record {
      talk = rw c.from.ensures (link_then_cut (took g here));
      ledger = same_ledger c.args.uid.now c.args.ledger.now _ c.requires.ready;
      before = λ m. m;
      takes = λ w m f.
          let fetched = (read g here w).2 in
          absurd (true≢false (sym (c.is_whole.ensures.1
          (rw (c.deref.ensures.value, fetched.2) (body_whole fetched.0.body))) ∙ c.if-not-is_whole.true));
      keeps = search rules;
      durable = λ m f trust safe. (
        tt,
        λ whole w. none_left_of g.F.FlatFile c.args.mbox.now c.args.ledger.now.file (stores c.args.number c.args.uid.now)
            (place_of g.W.Wire c.args.client.now) c.args.ledger.now.seen.rows c.args.ledger.now.lines.items _ _ safe
            (c.requires.ready.steady f) whole,
      );
    })

pub returns-in_err-append_text : goal.returns-in_err-append_text
returns-in_err-append_text g c =
    let here = goal.at.returns-in_err-append_text g c in
    let kept = c.append_text.ensures in
    let fault = c.in_err-append_text.field-0.0 in
    let wrote = c.in_err-append_text.ensures.writes in
    entered (err_is c.from_residual-in_err-append_text.ensures.1) c.one_more_is_held.ensures c.requires.ready (record {
      talk = link_then_cut (took g here.In_ok-text);
      ledger = record {
        lines = subst (λ lines. AddsLines lines 1 c.append_text.new.ledger.lines) kept.ledger.lines (omega arith, omega arith);
        sound = λ f. (kept.ledger.steady f).0;
        written = tt;
        rows = tt;
        left = λ f safe. (kept.ledger.durable f safe).1 (marked c.args.ledger.now.seen.rows c.args.uid.now);
      };
      before = kept.before;
      takes = both_sound (read g here.In_ok-text) (sees g here.After-append_text (Err fault) wrote) (λ text _ refuses.
          inr (inl (inr (inl (text_refused c.in_ok-text.text.items fault text refuses kept.ledger.rows
          (ap (λ (v : Vec ReportLine _). v.items) kept.ledger.lines)).0))));
      keeps = λ m f. let l = entry_law g here.After-append_text (Err fault) wrote m f in (l.keeps, l.rows_last);
      durable = λ m f trust safe. (
        tt,
        λ whole w firm bytes has left may now is seen there.
            let (e, its, text) = text_refused c.in_ok-text.text.items fault (read g here.In_ok-text w).2
            (sees g here.After-append_text (Err fault) wrote m f).2 kept.ledger.rows
            (ap (λ (v : Vec ReportLine _). v.items) kept.ledger.lines) in
            inr (inl (
              e,
              rw (its, text) ((entry_law g here.After-append_text (Err fault) wrote m f).cut trust safe whole firm bytes has left may
                  now is seen there),
            )),
      );
    })

pub returns : goal.returns
returns g c =
    let here = goal.at.returns g c in
    let kept = c.append_text.ensures in
    let wrote = c.in_ok-append_text.ensures.writes in
    let ready = c.in_ok-append_text.ensures.ledger in
    let marks = c.in_ok-remember.ensures in
    let marked = marked_law g here.After-remember (Ok tt) marks.appends in
    entered refl c.one_more_is_held.ensures c.requires.ready (record {
      talk = took g here.In_ok-text;
      ledger = marked_ledger (Ok tt) c.marked_keeps_rows.ensures kept.ledger.rows (noted g here.After-note)
          (λ f. (kept.ledger.steady (marks.appends f).0).0) (
            marks.rows,
            record { closed = marks.closed; steady = λ f. rw marks.rows ((marked f).sees.1 (ready.steady (marks.appends f).0).1) },
          ) (λ f safe. (marked f).leaves (ready.steady (marks.appends f).0).1 (ready.durable (marks.appends f).0 safe).0);
      before = kept.before;
      takes = both_sound (read g here.In_ok-text) (λ m f. sees g here.After-append_text (Ok tt) wrote m (marks.appends f).0)
          (λ text f appends.
          entry_stored c.len-length.result c.in_ok-text.text.items (stored_in g.F.FlatFile c.append_text.new.ledger.file)
          c.args.ledger.now.seen c.append_text.new.ledger.seen text
          (text_counted g here.After-len-length) appends kept.ledger.rows marks.rows (marked f).sees (text_noted g here.After-note));
      keeps = λ m f. let l = entry_law g here.After-append_text (Ok tt) wrote m (marks.appends f).0 in
          (l.keeps, λ last. (marked f).keeps c.args.ledger.now.seen.rows (l.rows_last last));
      durable = λ m f trust safe. let all = (entry_law g here.After-append_text (Ok tt) wrote m (marks.appends f).0).durable trust safe in
          ((all.0, (marked f).durable all.1), λ whole w. tt);
    })

-- the entry is whole, and its id may be marked
pub returns-in_err-remember : goal.returns-in_err-remember
returns-in_err-remember g c =
    let here = goal.at.returns-in_err-remember g c in
    let kept = c.append_text.ensures in
    let wrote = c.in_ok-append_text.ensures.writes in
    let ready = c.in_ok-append_text.ensures.ledger in
    let fault = c.in_err-remember.field-0.0 in
    let marks = c.in_err-remember.ensures in
    let marked = marked_law g here.After-remember (Err fault) marks.appends in
    entered (err_is c.from_residual-in_err-remember.ensures.1) c.one_more_is_held.ensures c.requires.ready (record {
      talk = link_then_cut (took g here.In_ok-text);
      ledger = marked_ledger (Err _) c.marked_keeps_rows.ensures kept.ledger.rows (noted g here.After-note)
          (λ f. (kept.ledger.steady (marks.appends f).0).0) tt
          (λ f safe. (marked f).leaves (ready.steady (marks.appends f).0).1 (ready.durable (marks.appends f).0 safe).0);
      before = kept.before;
      takes = both_sound (read g here.In_ok-text) (λ m f. sees g here.After-append_text (Ok tt) wrote m (marks.appends f).0)
          (λ text f appends.
          inr (inr (entry_not_saved c.len-length.result c.in_ok-text.text.items
          (stored_in g.F.FlatFile c.append_text.new.ledger.file) c.args.ledger.now.seen c.append_text.new.ledger.seen
          fault text (text_counted g here.After-len-length) appends kept.ledger.rows (marked f).sees (text_noted g here.After-note)).0));
      keeps = λ m f. let l = entry_law g here.After-append_text (Ok tt) wrote m (marks.appends f).0 in
          (l.keeps, λ last. (marked f).keeps c.args.ledger.now.seen.rows (l.rows_last last));
      durable = λ m f trust safe. (
        tt,
        λ whole w firm bytes has left may now is seen there.
            let before = (marks.appends f).0 in
            let (mbox_safe, file_safe) = (entry_law g here.After-append_text (Ok tt) wrote m before).durable trust safe in
            let (mbox_sound, file_sound, (was, follows, holds, opened, saves)) = sees g here.After-append_text (Ok tt) wrote m before in
            let text = c.in_ok-text.text.items in
            let (u, its, texts) = entry_not_saved c.len-length.result text
            (stored_in g.F.FlatFile c.append_text.new.ledger.file) c.args.ledger.now.seen c.append_text.new.ledger.seen
            fault (read g here.In_ok-text w).2 (text_counted g here.After-len-length)
            (was, follows, holds, opened, saves) kept.ledger.rows (marked f).sees (text_noted g here.After-note) in
            inr (inr (
              u,
              rw (its, texts) (subst (λ (b : List ℕ). IsEntryLeft c.args.ledger.now.seen.rows b c.args.uid.now text seen left)
                  (same_Some was bytes (sym follows.0 ∙ has)) (inr (inr (
                    rw (kept.ledger.rows, opened) at ((marked f).leaves (ready.steady before).1 file_safe now is seen there),
                    (mbox_safe.1 (was ++ entry_of text) (ap (λ (s : Stored). s.content) holds)).1 left may,
                  )))),
            )),
      );
    })
