use Rattle.std.proofs.Common.{subst, sym, inl, inr, rules, ◌≡◌, ◌⊎◌, ◌∙◌, ap, Bool, true, false, List, [], if◌then◌else◌}
use Rattle.session_parts.specs.{Hearing.IsPlanOf, declared.report.Report.Report, Durable.RunsSession, Refusal.IsWithinLimits}
use Rattle.fetch_rules.specs.declared.plans.Step.{Step}
use Rattle.getmail_program.proofs.EarlyLemmas.{early, early_or_whole, heard_of}
use Rattle.getmail_program.proofs.told.hold.Goals as goal

-- the plan that is told, if reasons are asked for
told_plan : (IsPlan : Report → List Step → Type 0) (report : Report) (explains : Bool) (plan kept : List Step)
    → plan ≡ (if explains then kept else []) → (kept ≡ []) ⊎ IsPlan report kept → (plan ≡ []) ⊎ IsPlan report plan
told_plan IsPlan report true plan kept is own = rw is own
told_plan IsPlan report false plan kept is own = inl is

pub returns-clause-held : goal.returns-clause-held
returns-clause-held g c =
    let ran = c.session_told-report in
    let same : ran.new.client.wire.now ≡ c.wire-1.given.0 = search rules in
    let Held : g.row.W.Denot → g.row.W.Denot → Type 0 = λ a b. IsWithinLimits g.W.Wire a ran.result b
    × RunsSession g.W.Wire g.D.MaildirDisk g.F.FlatFile c.args.terms.now c.args.account.now a ran.result ran.new.account b in
    let held = subst (λ w. Held w.wire ran.new.client.wire.now.wire) c.new-client.ensures.place.0
    ((ran.ensures.counted, ran.ensures.bounded), ran.ensures.session) in
    let moved = subst (λ w. Held c.args.wire.now.wire w.wire) same held in
    let wiped = subst (λ w. Held c.args.wire.now.wire w) (sym (ap (λ s. s.wire) c.wipe.ensures.same)) moved in
    (c.if-terms.false, wiped.0, wiped.1)

pub returns-clause-reported : goal.returns-clause-reported
returns-clause-reported g c =
    let contents = g.O.Write.contents in
    let ran = c.session_told-report in
    let same : ran.new.client.wire.now ≡ c.wire-1.given.0 = search rules in
    let begun = c.new-teller.ensures in
    let end = ran.new.listener in
    let (links, wrote, planned) = heard_of contents (IsPlanOf g.W.Wire g.D.MaildirDisk g.F.FlatFile c.args.terms.now c.args.account.now
    c.new-client.result.wire.now.wire ran.new.account ran.new.client.wire.now.wire ran.result) c.new-teller.result end
    ran.ensures.heard in
    let out = c.out-1.given.1 (sym (links.out ∙ begun.links.0)) in
    let notes = c.notes-2-1.given.1 (sym (links.notes ∙ begun.links.1)) in
    let written = c.deref-2.ensures.value ∙ ap (λ n. n.written.items) notes in
    let starts = rw c.settings.ensures.value at begun.begins in
    record {
      plan = c.asked_for-plan.result.now;
      own = told_plan (IsPlanOf g.W.Wire g.D.MaildirDisk g.F.FlatFile c.args.terms.now c.args.account.now
          c.args.wire.now.wire ran.new.account c.wipe.new.self.wire) ran.result c.args.terms.explains
          c.asked_for-plan.result.now end.notes.now.plan.items
          (c.asked_for-plan.ensures ∙ ap (λ (kept : List Step). if c.args.terms.explains then kept else [])
          (c.deref.ensures.value ∙ ap (λ n. n.plan.items) notes))
          (rw (ap (λ s. s.wire) c.wipe.ensures.same, ← same, ← c.new-client.ensures.place.0) (elim planned [
            | inl kept ↦ inl (kept ∙ begun.plan ∙ c.new-notes.ensures.1)
            | inr own ↦ inr own
          ]));
      asked = λ no. rw no at c.asked_for-plan.ensures;
      puts = early_or_whole contents c.args.account.now.settings c.args.out.now c.new-teller.result end _ _ _ starts
          (begun.verbose ∙ ap (λ s. s.verbose) c.settings.ensures.value) wrote written
          (rw (c.settings-settings.ensures.value, ran.ensures.same.settings) at (c.put_report.ensures c.args.out.now
          (rw (written, out) (early contents _ c.args.out.now c.new-teller.result end starts wrote))));
    }
