use Rattle.std.proofs.Common.{ℕ, List, Ok, Err, refl, ap, ◌∙◌}
use Rattle.pop3_client.specs.Client.{place_of}
use Rattle.session_parts.{
  specs.{Session.noted, Target.target_of},
  proofs.{TalkLemmas.{ended_within, left_when_cut, took_leaving, took_less}, ReadyLemmas.followed, SessionLemmas.left_session},
  proofs.HearingLemmas.heard_as,
}
use Rattle.fetch_session.proofs.one_session.session_told.Goals as goal

pub returns-in-Err-clause-session : goal.returns-in-Err-clause-session
returns-in-Err-clause-session g c = λ w d f.
    let says = c.leave.ensures.leaves w in
    let went = c.in-Err.ensures.proceeds says.0 d f in
    let done = c.proceed.new in
    let inside = c.account.inside in
    rw (← c.account.view_is) (followed went went.0 (g.met.W.Wire.leads_on _ _ _ went.3 says.1) (λ left is.
    left_session inside.work.store _ _ (Err c.in-Err.cut) _ (noted done.counts.total done.counts.skipped done.work.ledger.lines.items)
    (ap (λ (digits : List ℕ). target_of inside.work.store digits) c.account.invariant.1)
    c.requires is (place_of g.W.Wire c.leave.new.client, says.2, refl) (rw c.replace-lines.ensures.value at c.report_of.ensures)))

pub returns-clause-session : goal.returns-clause-session
returns-clause-session g c = λ w d f.
    let went = c.in_default.ensures.proceeds w d f in
    let done = c.proceed.new in
    let inside = c.account.inside in
    rw (← c.account.view_is) (followed went went.0 went.3 (λ left is. left_session inside.work.store _ _ (Ok tt) _
    (noted done.counts.total done.counts.skipped done.work.ledger.lines.items)
    (ap (λ (digits : List ℕ). target_of inside.work.store digits) c.account.invariant.1)
    c.requires is refl (rw c.replace-lines-2.ensures.value at c.report_of-2.ensures)))

pub returns-in-Err-clause-bounded : goal.returns-in-Err-clause-bounded
returns-in-Err-clause-bounded g c = λ w.
    let says = c.leave.ensures.leaves w in
    let (before, took, small) = rw c.requires at (c.in-Err.ensures.link.took says.0).1 in
    rw c.report_of.ensures.total_is (ended_within c.proceed.new.counts.total _ _
    (took_less (took_leaving c.conversations_are_paced.ensures before c.in-Err.cut.fault c.in-Err.cut.rest _ _ _
    took says.2) small) (rw c.waiting.ensures.value at c.waiting.ensures.short))

pub returns-clause-bounded : goal.returns-clause-bounded
returns-clause-bounded g c = λ w.
    let took = c.in_default.ensures.link.took w in
    rw c.report_of-2.ensures.total_is (ended_within c.proceed.new.counts.total _ _ (rw c.requires at took.1)
    (rw c.waiting-2.ensures.value at c.waiting-2.ensures.short))

pub returns-in-Err-clause-counted : goal.returns-in-Err-clause-counted
returns-in-Err-clause-counted g c =
    left_when_cut c.in-Err.cut (g.W.Wire.history c.args.client.now.wire.now)
    (g.W.Wire.history c.proceed.new.client.wire.now) (g.W.Wire.history c.leave.new.client.wire.now)
    c.report_of.result.outcome c.report_of.ensures.outcome_is c.in-Err.ensures.link.counted c.leave.ensures.counted c.leave.ensures.silent

pub returns-in-Err-clause-heard : goal.returns-in-Err-clause-heard
returns-in-Err-clause-heard g c = rw (← c.account.view_is) (heard_as g.L.Listener.hears _ _ _ _ (λ plan is. record {
  items = is.items;
  is_odd = is.is_odd;
  may_be = is.may_be;
  rows = is.rows;
  known = (
    λ w.
        let says = c.leave.ensures.leaves w in
        let (mid, enters, (before, took, small)) = is.known.0 says.0 in
        let all = took_leaving c.conversations_are_paced.ensures before c.in-Err.cut.fault c.in-Err.cut.rest _ _ _ took says.2 in
        (mid, rw c.requires at enters, (all.gained, all.got)),
    rw c.account.invariant.1 at is.known.1,
  );
  total_is = c.report_of.ensures.total_is ∙ is.total_is;
  skips = rw (c.report_of.ensures.skipped_is, c.report_of.ensures.left_out_is) is.skips;
  is = is.is;
}) c.in-Err.ensures.heard)

pub returns-clause-heard : goal.returns-clause-heard
returns-clause-heard g c = rw (← c.account.view_is) (heard_as g.L.Listener.hears _ _ _ _ (λ plan is. record {
  items = is.items;
  is_odd = is.is_odd;
  may_be = is.may_be;
  rows = is.rows;
  known = (
    λ w.
        let (mid, enters, took) = is.known.0 w in
        (mid, rw c.requires at enters, (took.gained, took.got)),
    rw c.account.invariant.1 at is.known.1,
  );
  total_is = c.report_of-2.ensures.total_is ∙ is.total_is;
  skips = rw (c.report_of-2.ensures.skipped_is, c.report_of-2.ensures.left_out_is) is.skips;
  is = is.is;
}) c.in_default.ensures.heard)
