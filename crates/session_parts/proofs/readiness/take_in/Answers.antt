use Rattle.mail_store.specs.Devices.{known_file, stored_in}
use Rattle.std.proofs.{Common.{◌≡◌, List, None, false, inl, inr, ⊎_elim, refl, sym, ap, subst, ◌∙◌}, lemmas.Bool.OnFalse_at}
use Rattle.fetch_record.specs.{Intents.closed_rows, RecordGrowth.Updates, Record.{Loaded, Row, RecordState, none_open, merged}}
use Rattle.session_parts.{
  specs.{Durable.{DurablySaves, DurablyWrites, IsGrownAtMost}, Record.{Merges, Steady, record_state_in}},
  proofs.RecordLemmas.{calls_append, durably_saves, durably_writes, written_merged},
  proofs.SceneLemmas.{saves_merges, read_keeps, read_steady, closed_state},
  proofs.readiness.take_in.Goals.{After-grow, After-save, Else-needs_rewrite-2},
}
use Rattle.session_parts.proofs.readiness.take_in.Goals as goal

-- ---- the rows were appended

-- the record in the file, and the group that was appended
grows : (g : _) (c : After-grow g) → g.F.FlatFile.sound c.grow.new.file
    → Steady (stored_in g.F.FlatFile c.args.file.now).content (none_open c.args.seen.now.rows) × (c.args.seen.now.intent ≡ None)
    × Updates c.args.seen.now.rows None c.deref-3.result.now
    (merged (closed_rows c.args.found.now.stored c.args.seen.now.rows c.args.seen.now.intent) c.args.listing.now
    c.args.found.now.held.items c.args.now) None
grows g c kept =
    let was = c.args.seen.now.rows in
    let closed = closed_rows c.args.found.now.stored was c.args.seen.now.intent in
    let rows = merged closed c.args.listing.now c.args.found.now.held.items c.args.now in
    let fresh : c.args.seen.now.stale ≡ false = rw c.close.ensures.after at
    (sym c.needs_rewrite.ensures ∙ c.if-needs_rewrite.false) in
    let steady = read_steady (stored_in g.F.FlatFile c.args.file.now).content c.args.seen.now
    (c.requires.read.stands (c.grow.ensures.grows kept).0) fresh in
    let is_was : closed ≡ was = ap (closed_rows c.args.found.now.stored was) steady.1 in (
      steady.0,
      steady.1,
      rw c.deref-3.ensures.value (subst (λ (w : List Row). Updates w None c.in_ok-group.group.items rows None) is_was
          (rw (c.in_ok-group.ensures.after, c.deref-2.ensures.value, c.close.ensures.after) at c.in_ok-group.ensures.updates)),
    )

-- the rows that the listing makes of the record
abbrev now_rows : (g : _) → After-grow g → List Row
now_rows g c = merged (closed_rows c.args.found.now.stored c.args.seen.now.rows c.args.seen.now.intent) c.args.listing.now
    c.args.found.now.held.items c.args.now

grown_law : (g : _) (c : After-grow g) → g.F.FlatFile.sound c.grow.new.file → DurablySaves (none_open c.args.seen.now.rows)
    (none_open (now_rows g c)) (known_file g.F.FlatFile c.args.file.now) c.grow.result (known_file g.F.FlatFile c.grow.new.file)
grown_law g c kept =
    let was = none_open c.args.seen.now.rows in
    let now = none_open (now_rows g c) in
    let old = known_file g.F.FlatFile c.args.file.now in
    let new = known_file g.F.FlatFile c.grow.new.file in
    durably_saves was now old c.grow.result new
    (calls_append was now c.deref-3.result.now old new c.grow.result (inl (grows g c kept).2) (c.grow.ensures.grows kept).1)

pub returns-clause-merges : goal.returns-clause-merges
returns-clause-merges g c = λ kept.
    let here = (goal.at.returns-clause-merges g c).After-grow in
    let it = grows g here kept in
    let old = stored_in g.F.FlatFile c.args.file.now in
    let new = stored_in g.F.FlatFile c.grow.new.file in (
      (c.grow.ensures.grows kept).0,
      subst (λ (h : RecordState). Merges old h (none_open (now_rows g here)) c.grow.result new) (closed_state c.args.seen.now it.1)
          (saves_merges old new (none_open c.args.seen.now.rows) (none_open (now_rows g here)) c.grow.result it.0
          (grown_law g here kept).sees),
    )

pub returns-clause-durable : goal.returns-clause-durable
returns-clause-durable g c = λ kept safe.
    let here = (goal.at.returns-clause-durable g c).After-grow in
    let it = grows g here kept in
    let law = grown_law g here kept in (
      λ left may. ⊎_elim inl (λ is. inr (inl (subst (λ (h : RecordState). IsGrownAtMost h (none_open (now_rows g here)) left)
          (closed_state c.args.seen.now it.1) is))) (law.merges it.0 safe left may),
      law.durable safe,
    )

-- ---- the record was written whole

-- the rows that were written are those
written : (g : _) (c : After-save g) → g.F.FlatFile.sound c.save.new.file → DurablyWrites (merged
    (closed_rows c.args.found.now.stored c.args.seen.now.rows c.args.seen.now.intent) c.args.listing.now
    c.args.found.now.held.items c.args.now) (known_file g.F.FlatFile c.args.file.now) c.save.result
    (known_file g.F.FlatFile c.save.new.file)
written g c kept = rw (c.in_ok-changed.ensures.after, c.deref.ensures.value, c.close.ensures.after) at
    (durably_writes c.merge.new.self.rows (known_file g.F.FlatFile c.args.file.now) c.save.result
    (known_file g.F.FlatFile c.save.new.file) c.save.ensures.stands (c.save.ensures.writes kept).1)

pub returns-then-changed-clause-merges : goal.returns-then-changed-clause-merges
returns-then-changed-clause-merges g c = λ kept.
    let sound = (c.save.ensures.writes kept).0 in (
      sound,
      (written g (goal.at.returns-then-changed-clause-merges g c).After-save kept).sees (record_state_in c.args.seen.now)
          (read_keeps (stored_in g.F.FlatFile c.args.file.now).content c.args.seen.now (c.requires.read.stands sound)),
    )

pub returns-then-changed-clause-durable : goal.returns-then-changed-clause-durable
returns-then-changed-clause-durable g c = λ kept safe.
    let law = written g (goal.at.returns-then-changed-clause-durable g c).After-save kept in (
      written_merged (record_state_in c.args.seen.now) _ (known_file g.F.FlatFile c.args.file.now) c.save.result
          (known_file g.F.FlatFile c.save.new.file) law,
      law.durable,
    )

-- ---- the file was new, and nothing changed

unchanged : (g : _) (c : Else-needs_rewrite-2 g) → g.F.FlatFile.sound c.args.file.now
    → Steady (stored_in g.F.FlatFile c.args.file.now).content (none_open (merged
    (closed_rows c.args.found.now.stored c.args.seen.now.rows c.args.seen.now.intent) c.args.listing.now
    c.args.found.now.held.items c.args.now))
unchanged g c sound =
    let was = c.args.seen.now.rows in
    let fresh : c.args.seen.now.stale ≡ false = rw (c.in_ok-changed.ensures.after, c.close.ensures.after) at
    (sym c.needs_rewrite-else-changed.ensures ∙ c.if-needs_rewrite-2.false) in
    let steady = read_steady (stored_in g.F.FlatFile c.args.file.now).content c.args.seen.now (c.requires.read.stands sound) fresh in
    let same = rw (c.deref.ensures.value, c.close.ensures.after) at (ap (λ (loaded : Loaded). loaded.rows)
    (sym c.in_ok-changed.ensures.after ∙ OnFalse_at c.if-changed.false c.in_ok-changed.ensures.unchanged)) in
    subst (λ (rows : List Row). Steady (stored_in g.F.FlatFile c.args.file.now).content (none_open rows))
    (sym (same ∙ ap (closed_rows c.args.found.now.stored was) steady.1)) steady.0

pub returns-then-is_new-clause-merges : goal.returns-then-is_new-clause-merges
returns-then-is_new-clause-merges g c = λ kept. (kept, (refl, unchanged g c kept))

pub returns-then-is_new-clause-durable : goal.returns-then-is_new-clause-durable
returns-then-is_new-clause-durable g c = λ kept safe. (λ left may. inl may, safe)
