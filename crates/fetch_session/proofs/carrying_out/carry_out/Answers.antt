use Rattle.std.proofs.Common.{refl, ◌≡◌, ◌*◌, ℕ, List, [], ◌∷◌, ◌++◌, ◌⊎◌, All, true, inl, arith, length, Result, Ok, Err, sym, ap, subst}
use Rattle.std.proofs.Common.{◌∙◌, append-nil}
use Rattle.mail_store.specs.Maildir.{AllNamed}
use Rattle.mail_terms.specs.UniqueId.{IsLegalId}
use Rattle.fetch_record.specs.Record.{has_row}
use Rattle.fetch_rules.specs.{Plan.{IsQuiet, planned}, declared.plans.Step.Step}
use Rattle.pop3_client.specs.{Turns.quit, declared.client.Client.Client}
use Rattle.session_parts.{
  proofs.{TalkLemmas.err_is, ReadyLemmas.{flags_same, fresh_firsts, followed}},
  proofs.SessionLemmas.{named_ahead, carried, in_kind},
  proofs.PartLemmas.{runs_before, goes_on, link_idle, link_less, link_on_tail, link_with_tail, most_planned, planned_all, store_less},
  proofs.{PartLemmas.store_on, HearingLemmas.{heard_as, heard_then}},
  specs.{Target.{is_sound, stores_of}, declared.{fault.Cut.Cut, work.Work.Work}},
  specs.{Task.{Task, says, tasks_planned}, Hearing.{HearsOne, IsPlanFor}},
  specs.{Report.{AddsLines, HasRoom, skips_of}, Refusal.{TookTillCut, step_limit}},
  specs.Parts.{RunsTasks, IsReadyFor, KeepsLink, KeepsStore},
}
use Rattle.fetch_session.{proofs.carrying_out.carry_out.Goals.{After-deref-3, After-do_steps, In_ok-do_steps}, specs.Runs.RunsListing}
use Rattle.fetch_session.proofs.carrying_out.carry_out.Goals as goal

pub returns-in_err-ready-clause-carries : goal.returns-in_err-ready-clause-carries
returns-in_err-ready-clause-carries g c = rw (err_is c.from_residual.ensures.1) (λ w d f.
    let (store, file, (left, taken, is)) = c.in_err-ready.ensures.readies d f in (
      w,
      store,
      file,
      g.met.W.Wire.leads_same c.args.client.now.wire.now,
      (
        left,
        taken,
        (
          (
            [],
            inl (
              c.requires.none_skipped,
              (record {
                none = refl;
                unready = is.readies;
                place_is = refl;
                lines_are =
                    ap (λ lines. lines.items) c.in_err-ready.ensures.store.lines;
              }),
            ),
          ),
          is.durable,
        ),
      ),
    ))

-- all is ready for the planned steps
ready_to_do : (g : _) (c : After-deref-3 g) → IsReadyFor g.D.MaildirDisk g.F.FlatFile c.args.terms.account.now
    (tasks_planned c.deref-2.result.now c.args.listing.now c.deref-3.result.now) c.prepare.new.work
ready_to_do g c =
    let account = c.args.terms.account.now in
    let items = c.args.listing.now in
    let rows = c.prepare.new.work.ledger.seen.rows in
    let steps = c.deref-2.result.now in
    let held = c.deref-3.result.now in
    record {
      digits = c.requires.digits;
      room =
          let room = subst (λ lines. HasRoom lines (2 * length items)) (sym c.in_ok-ready.ensures.store.lines) c.requires.room in
          omega (arith, room, (most_planned steps items held).1);
      ready = record {
        none_begun = λ d. let begun = c.in_ok-ready.ensures.store.begun d in begun.1 ∙ c.requires.none_begun begun.0;
        written = record { closed = c.in_ok-ready.ensures.plans.closed; steady = λ f. (c.in_ok-ready.ensures.steady f).1 };
      };
      legal = planned_all IsLegalId steps items held c.requires.legal;
      rows = planned_all (λ (uid : List ℕ). has_row rows uid ≡ true) steps items held c.in_ok-ready.ensures.plans.rows;
      free = λ kept. rw (
        c.deref-2.ensures.value,
        c.deref-3.ensures.value,
        c.in_ok-ready.ensures.held kept,
        c.in_ok-ready.ensures.plans.steps,
        ← c.prepare.ensures.store.kind,
        flags_same g.D.MaildirDisk g.F.FlatFile c.prepare.new.work.store account items,
      ) (fresh_firsts account (stores_of g.D.MaildirDisk g.F.FlatFile c.prepare.new.work.store).maildir []
          (planned c.args.terms.settings.now c.in_ok-ready.ensures.plans.is_odd rows items c.args.terms.now) items
          (c.only_firsts_are_fetched.ensures c.args.terms.settings.now c.in_ok-ready.ensures.plans.is_odd rows items
          c.args.terms.now) c.requires.legal);
      named = λ kept. named_ahead steps items held (subst (λ (ss : List Step). All IsQuiet ss
          ⊎ AllNamed (stores_of g.D.MaildirDisk g.F.FlatFile c.prepare.new.work.store).maildir.files)
          (sym c.deref-2.ensures.value) (c.in_ok-ready.ensures.named kept));
    }

pub do_steps-requires-clause-ready : goal.do_steps-requires-clause-ready
do_steps-requires-clause-ready g c = ready_to_do g (goal.at.do_steps-requires-clause-ready g c).After-deref-3

pub end-requires : goal.end-requires
end-requires g c =
    let ready = ready_to_do g (goal.at.end-requires g c).After-deref-3 in
    (c.in_ok-do_steps.ensures.runs.0.next []
    (rw (append-nil (tasks_planned c.deref-2.result.now c.args.listing.now c.deref-3.result.now)) ready)).ready

-- the planned tasks, and QUIT
abbrev tasks_on : (g : _) (c : After-deref-3 g) → List Task
tasks_on g c = tasks_planned c.deref-2.result.now c.args.listing.now c.deref-3.result.now ++ says quit ∷ []

-- what was done once all was ready, up to a fault or QUIT's reply
carries : (g : _) (c : After-deref-3 g) {given : Result (Unit {0}) Cut} (r : Result (Unit {0}) Cut) {client : Client g.row.W.Denot}
    {work : Work g.row.D.Denot g.row.F.Denot _ _} → given ≡ r
    → RunsTasks g.W.Wire g.D.MaildirDisk g.F.FlatFile c.args.terms.account.now (tasks_on g c) c.args.client.now
    c.prepare.new.work r client work → RunsListing g.W.Wire g.D.MaildirDisk g.F.FlatFile c.args.terms c.args.listing.now
    c.args.client.now c.args.work.now given client work c.skips_of.result
carries g c r {client} {work} same (keeps, does) = subst (λ (result : Result (Unit {0}) Cut). RunsListing g.W.Wire g.D.MaildirDisk
    g.F.FlatFile c.args.terms c.args.listing.now c.args.client.now c.args.work.now result client work c.skips_of.result) (sym same)
    (λ w d f.
    let done = does w d f in
    let ready = c.in_ok-ready.ensures.readies done.1 done.2 in
    let before = c.prepare.new.work in
    let was = c.args.work.now in
    followed (done.0, ready.0, ready.1, done.3, ready.2) done.0 done.3 (λ left is.
    carried g.D.MaildirDisk g.F.FlatFile was.store before.store was.ledger.file before.ledger.file
    before.ledger.lines.items c.deref-2.result.now c.deref-3.result.now
    (ap (λ lines. lines.items) c.prepare.ensures.store.lines) is.readies c.deref-2.ensures.value c.deref-3.ensures.value
    (c.skips_of.ensures ∙ ap skips_of c.deref.ensures.value) is.durable (λ none. ((keeps.idle none).0, (keeps.idle none).1 d))
    (in_kind before.store was.store c.args.terms.account.now c.prepare.ensures.store.kind done.4 (λ safe. safe))))

-- ---- what calls leave as it was

-- all steps were done
did : (g : _) (c : In_ok-do_steps g) → KeepsLink g.W.Wire (TookTillCut (length c.args.listing.now * step_limit)) c.args.client.now
    (Ok tt) c.do_steps.new.client
did g c = link_less (length c.args.listing.now * step_limit)
    (most_planned c.deref-2.result.now c.args.listing.now c.deref-3.result.now).0 c.in_ok-do_steps.ensures.runs.0.talk

-- the store was prepared, and then used
store_stood : (g : _) (c : After-do_steps g)
    → KeepsStore g.D.MaildirDisk g.F.FlatFile (2 * length c.args.listing.now) c.args.work.now c.do_steps.new.work
store_stood g c =
    let kept = store_less (most_planned c.deref-2.result.now c.args.listing.now c.deref-3.result.now).1 c.do_steps.ensures.runs.0.store in
    record {
      lines = subst (λ lines. AddsLines lines (2 * length c.args.listing.now) c.do_steps.new.work.ledger.lines)
          c.prepare.ensures.store.lines kept.lines;
      kind = kept.kind ∙ c.prepare.ensures.store.kind;
      none_begun = λ d. ((c.prepare.ensures.store.begun (kept.none_begun d).0).0, (kept.none_begun d).1);
    }

-- the listener was told of the plan, and then of lines
listener_told : (g : _) (c : After-do_steps g) (work : Work g.row.D.Denot g.row.F.Denot _ _)
    → (is_sound g.D.MaildirDisk g.F.FlatFile work.store → g.F.FlatFile.sound work.ledger.file
    → is_sound g.D.MaildirDisk g.F.FlatFile c.prepare.new.work.store × g.F.FlatFile.sound c.prepare.new.work.ledger.file)
    → HearsOne g.L.Listener.hears (IsPlanFor g.D.MaildirDisk g.F.FlatFile c.args.terms c.args.work.now
    (length c.args.listing.now) c.skips_of.result work (λ items. items ≡ c.args.listing.now)) c.args.listener.now
    c.do_steps.new.listener
listener_told g c work back =
    let settings = c.args.terms.settings.now in
    let items = c.args.listing.now in
    let now = c.args.terms.now in
    let rows = c.prepare.new.work.ledger.seen.rows in
    heard_then g.L.Listener.hears g.met.L.Listener.hears_on _ _ _ _ (heard_as g.L.Listener.hears _ _ _ _ (λ plan is. record {
      items = items;
      is_odd = c.in_ok-ready.ensures.plans.is_odd;
      may_be = c.in_ok-ready.ensures.plans.may_be;
      rows = rows;
      known = (
        refl,
        λ d f.
            let before = back d f in
            let (_, _, (left, taken, ready)) = c.in_ok-ready.ensures.readies before.0 before.1 in (
              left,
              taken,
              (
                ready.readies.was,
                ready.readies.stood,
                ready.readies.rows,
                is ∙ c.deref-4.ensures.value ∙ ready.readies.steps,
              ),
            ),
      );
      total_is = refl;
      skips = c.skips_of.ensures ∙ ap skips_of (c.deref.ensures.value ∙ c.in_ok-ready.ensures.plans.steps);
      is = is ∙ c.deref-4.ensures.value ∙ c.in_ok-ready.ensures.plans.steps;
    }) c.tell_plan.ensures) c.do_steps.ensures.heard

pub returns-in_err-do_steps : goal.returns-in_err-do_steps
returns-in_err-do_steps g c =
    let here = goal.at.returns-in_err-do_steps g c in
    let done = c.in_err-do_steps.ensures in
    let same = err_is c.from_residual-in_err-do_steps.ensures.1 in
    record {
      link = rw same (link_with_tail (link_less (length c.args.listing.now * step_limit)
          (most_planned c.deref-2.result.now c.args.listing.now c.deref-3.result.now).0 done.runs.0.talk));
      store = store_stood g here.After-do_steps;
      carries = carries g here.After-deref-3 (Err c.in_err-do_steps.field-0.0) same (runs_before _ _ done.runs);
      heard = listener_told g here.After-do_steps c.do_steps.new.work
          (λ d f. ((done.runs.0.store.none_begun d).0, (done.runs.0.durable d f).0));
    }

pub returns : goal.returns
returns g c =
    let here = goal.at.returns g c in
    let first = c.in_ok-do_steps.ensures in
    let last = c.in_ok-end.ensures in
    let all = goes_on c.turns_join.ensures g.met.W.Wire.leads_on _ _ (Ok tt) first.runs (last.runs _) in
    record {
      link = link_on_tail (omega arith) (did g here.In_ok-do_steps) last.link;
      store = store_on (omega arith) (store_stood g here.After-do_steps) c.end.ensures.store;
      carries = carries g here.After-deref-3 (Ok tt) refl all;
      heard = listener_told g here.After-do_steps c.end.new.work (λ d f. ((all.0.store.none_begun d).0, (all.0.durable d f).0));
    }

pub returns-in_err-end : goal.returns-in_err-end
returns-in_err-end g c =
    let here = goal.at.returns-in_err-end g c in
    let first = c.in_ok-do_steps.ensures in
    let last = c.in_err-end.ensures in
    let all = goes_on c.turns_join.ensures g.met.W.Wire.leads_on _ _ (Err c.in_err-end.field-0.0) first.runs (last.runs _) in
    let same = err_is c.from_residual-in_err-end.ensures.1 in
    record {
      link = rw same (link_on_tail (omega arith) (did g here.In_ok-do_steps) last.link);
      store = store_on (omega arith) (store_stood g here.After-do_steps) c.end.ensures.store;
      carries = carries g here.After-deref-3 (Err c.in_err-end.field-0.0) same all;
      heard = listener_told g here.After-do_steps c.end.new.work (λ d f. ((all.0.store.none_begun d).0, (all.0.durable d f).0));
    }

pub returns-in_err-ready-clause-link : goal.returns-in_err-ready-clause-link
returns-in_err-ready-clause-link g c =
    rw (err_is c.from_residual.ensures.1) (link_with_tail (link_idle {limit = length c.args.listing.now * step_limit}))
