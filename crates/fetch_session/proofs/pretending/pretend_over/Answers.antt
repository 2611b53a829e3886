use Rattle.std.proofs.Common.{ℕ, List, Ok, Err, ap, refl}
use Rattle.pop3_client.specs.Client.{place_of}
use Rattle.session_parts.{specs.Target.target_of, proofs.{SessionLemmas.left_preview, ReadyLemmas.followed}}
use Rattle.fetch_session.proofs.pretending.pretend_over.Goals as goal

pub returns-in-Err-clause-pretends : goal.returns-in-Err-clause-pretends
returns-in-Err-clause-pretends g c = λ w d f.
    let says = c.leave.ensures.leaves w in
    let went = c.in-Err.ensures.previews says.0 d f in
    let inside = c.account.inside in
    rw (← c.account.view_is) (followed went went.0 (g.met.W.Wire.leads_on _ _ _ went.3 says.1) (λ left is.
    left_preview _ _ (Err c.in-Err.cut) _ (ap (λ (digits : List ℕ). target_of inside.work.store digits)
    c.account.invariant.1) c.requires is (place_of g.W.Wire c.leave.new.client, says.2, refl) refl))

pub returns-clause-pretends : goal.returns-clause-pretends
returns-clause-pretends g c = λ w d f.
    let went = c.in_default.ensures.previews w d f in
    let inside = c.account.inside in
    rw (← c.account.view_is) (followed went went.0 went.3 (λ left is.
    left_preview _ _ (Ok tt) _ (ap (λ (digits : List ℕ). target_of inside.work.store digits) c.account.invariant.1)
    c.requires is refl c.in_default.ensures.outcome))
