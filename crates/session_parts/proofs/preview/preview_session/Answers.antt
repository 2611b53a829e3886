use Rattle.std.proofs.Common.{refl, rules, inl, Ok, Err}
use Rattle.session_parts.{
  proofs.{ReadyLemmas.{followed, untaken}, TalkLemmas.{completes_talks, err_is}, SessionLemmas.not_ended, SceneLemmas.link_alone},
  specs.Target.target_of,
}
use Rattle.pop3_client.specs.Turns.{quit}
use Rattle.pop3_wire.proofs.LinkLemmas.{in_words}
use Rattle.session_parts.proofs.preview.preview_session.Goals as goal

pub returns-in_err-quit-clause-previews : goal.returns-in_err-quit-clause-previews
returns-in_err-quit-clause-previews g c = rw (err_is c.from_residual-in_err-quit.ensures.1) (λ w d f.
    let completes = c.in_err-quit.ensures.completes w in
    let entered = c.in_ok-listing.ensures.enters completes.0 in
    let ahead = c.in_ok-preview.ensures.previews d f in
    followed (entered.0, ahead.0, ahead.1, entered.1, ahead.2) entered.0 (g.met.W.Wire.leads_on _ _ _ entered.1 completes.1) (λ left is.
    not_ended _ (target_of c.args.work.now.store c.args.terms.account.now) _ _ _ c.in_ok-listing.listing _ _ _ _
    c.len-preview.result c.in_err-quit.field-0.0
    entered.2 is c.len-preview.ensures.count (completes_talks quit _ _ (Err c.in_err-quit.field-0.0) completes.2)))

pub returns-in_err-listing-clause-previews : goal.returns-in_err-listing-clause-previews
returns-in_err-listing-clause-previews g c =
    rw (err_is c.from_residual.ensures.1) (link_alone (in_words g.W.Wire c.in_err-listing.ensures.enters (λ entered.
    untaken _ (inl (record { why = c.in_err-listing.field-0.0; is = refl; enters = entered; nothing = search rules }), search rules))))

pub returns-clause-previews : goal.returns-clause-previews
returns-clause-previews g c = λ w d f.
    let completes = c.in_ok-quit.ensures.completes w in
    let entered = c.in_ok-listing.ensures.enters completes.0 in
    let ahead = c.in_ok-preview.ensures.previews d f in
    followed (entered.0, ahead.0, ahead.1, entered.1, ahead.2) entered.0 (g.met.W.Wire.leads_on _ _ _ entered.1 completes.1) (λ left is. (
      record {
        items = c.in_ok-listing.listing;
        mid = _;
        enters = entered.2;
        total = c.len-preview.ensures.count;
        previews = is.0;
        quits = completes_talks quit _ _ (Ok c.in_ok-quit.field-0) completes.2;
      },
      is.1,
    ))
