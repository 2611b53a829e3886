use Rattle.std.proofs.Common.{refl, rules, Ok, Err, arith, ◌∙◌, inl, inr}
use Rattle.session_parts.{
  specs.{Refusal.{TookTillCut, opening_limit}, Parts.KeepsLink, Target.target_of},
  proofs.{TalkLemmas.{err_is, did_so, took_entering}, SceneLemmas.link_alone},
  proofs.PartLemmas.{link_cut, link_on_tail, link_still, link_then_cut, link_with_tail},
  proofs.{ReadyLemmas.{followed, untaken}, SessionLemmas.{dealt, untouched}, HearingLemmas.heard_as},
}
use Rattle.fetch_session.proofs.one_session.proceed.Goals.{In_ok-listing}
use Rattle.pop3_wire.proofs.LinkLemmas.{in_words}
use Rattle.pop3_client.specs.Client.{place_of}
use Rattle.fetch_session.proofs.one_session.proceed.Goals as goal

pub returns-clause-proceeds : goal.returns-clause-proceeds
returns-clause-proceeds g c = λ w d f.
    let does = c.carry_out.ensures.carries w d f in
    let entered = c.in_ok-listing.ensures.enters does.0 in
    let old = c.args.work.now in
    followed does entered.0 (g.met.W.Wire.leads_on _ _ _ entered.1 does.3) (λ left is.
    dealt g.F.FlatFile old.store old.ledger.file _ (target_of old.store c.args.terms.account.now) _ _ _
    c.carry_out.result _ _ _ c.in_ok-listing.listing _ c.reserve.new.self.items c.carry_out.new.work.store c.carry_out.new.work.ledger.file
    (c.reserve.ensures.items ∙ c.requires.nothing.2) entered.2 c.len-counts.ensures.count is)

pub returns-in_err-listing-clause-proceeds : goal.returns-in_err-listing-clause-proceeds
returns-in_err-listing-clause-proceeds g c =
    rw (err_is c.from_residual.ensures.1) (link_alone (in_words g.W.Wire c.in_err-listing.ensures.enters (λ entered. untaken _ (
      inl (record {
        why = c.in_err-listing.field-0.0;
        is = refl;
        enters = entered;
        same =
            search rules;
        nothing = search rules;
      }),
      (untouched _ _, λ left may. may),
    ))))

pub returns-in_err-reserve-clause-proceeds : goal.returns-in_err-reserve-clause-proceeds
returns-in_err-reserve-clause-proceeds g c = rw (err_is c.from_residual-in_err-reserve.ensures.1)
    (link_alone (in_words g.W.Wire c.in_ok-listing.ensures.enters
    (λ entered. untaken _ (inr (inl (search rules)), (untouched _ _, λ left may. may)))))

-- ---- what calls leave as it was

pub returns-in_err-listing-clause-link : goal.returns-in_err-listing-clause-link
returns-in_err-listing-clause-link g c =
    rw (err_is c.from_residual.ensures.1) (link_on_tail (omega arith) link_still
    (link_with_tail (link_cut c.in_err-listing.field-0.0 c.enter.ensures.link c.in_err-listing.ensures.counted
    (did_so g.W.Wire c.in_err-listing.ensures.enters (took_entering c.conversations_are_paced.ensures _ _ _ _
    (Err c.in_err-listing.field-0.0))))))

-- the listing is known
link_entered : (g : _) (c : In_ok-listing g) → KeepsLink g.W.Wire (TookTillCut opening_limit) c.args.client.now (Ok tt) c.enter.new.client
link_entered g c = record {
  same = c.enter.ensures.link;
  counted = c.in_ok-listing.ensures.counted;
  took =
      did_so g.W.Wire c.in_ok-listing.ensures.enters (took_entering c.conversations_are_paced.ensures _ _ _ _ (Ok c.in_ok-listing.listing));
}

pub returns-in_err-reserve-clause-link : goal.returns-in_err-reserve-clause-link
returns-in_err-reserve-clause-link g c = rw (err_is c.from_residual-in_err-reserve.ensures.1) (link_on_tail (omega arith) link_still
    (link_with_tail (link_then_cut (link_entered g (goal.at.returns-in_err-reserve-clause-link g c).In_ok-listing))))

pub returns-clause-link : goal.returns-clause-link
returns-clause-link g c = link_on_tail (omega (arith, c.len-counts.ensures.count))
    (link_entered g (goal.at.returns-clause-link g c).In_ok-listing) c.carry_out.ensures.link

pub returns-clause-heard : goal.returns-clause-heard
returns-clause-heard g c = heard_as g.L.Listener.hears _ _ _ _ (λ plan is. record {
  items = is.items;
  is_odd = is.is_odd;
  may_be = is.may_be;
  rows = is.rows;
  known = (
    λ w.
        let took = c.carry_out.ensures.link.took w in (
          place_of g.W.Wire c.enter.new.client,
          rw is.known.0 (c.in_ok-listing.ensures.enters took.0).2,
          rw c.len-counts.ensures.count took.1,
        ),
    is.known.1,
  );
  total_is = c.len-counts.ensures.count ∙ is.total_is;
  skips = is.skips;
  is = is.is;
}) c.carry_out.ensures.heard
