use Rattle.std.proofs.Common.{◌∙◌, ◌∷◌, [], ap, refl, List, ℕ}
use Rattle.pop3_client.{
  specs.Turns.{turn_bytes, greeting, user, pass},
  proofs.TalkLemmas.{asks_completes, completes_talks, completes_then, talked_line, stopped_first, stopped_behind},
}
use Rattle.pop3_wire.proofs.LinkLemmas.{and_then}
use Rattle.mail_terms.proofs.ErrLemmas.{err_is}
use Rattle.pop3_client.proofs.client.Client.log_in.Goals as goal

pub returns-in_err-ask-clause-talks : goal.returns-in_err-ask-clause-talks
returns-in_err-ask-clause-talks g c =
    let name = c.args.name.now in
    let password = c.args.password.now in
    let is = c.deref.ensures.value ∙ c.in_ok-name_line.ensures.ok
    ∙ ap (λ (n : List ℕ). turn_bytes (user n)) (c.from_vec-name.ensures ∙ c.in_ok-from_slice.ensures.items) in
    rw (err_is c.from_residual-in_err-ask.ensures.1)
    (and_then g.W.Wire g.met.W.Wire.leads_on c.in_ok-greet.ensures.asks c.in_err-ask.ensures.asks (λ first second.
    stopped_behind (greeting ∷ []) (user name ∷ pass password ∷ []) _ _ _ _ c.in_err-ask.field-0.0
    (talked_line greeting first.0 _ _ first.1 refl)
    (stopped_first (user name) (pass password ∷ []) _ _ c.in_err-ask.field-0.0 (second (user name) (name, refl) refl is))))

pub returns-clause-talks : goal.returns-clause-talks
returns-clause-talks g c = λ s.
    let name = c.args.name.now in
    let password = c.args.password.now in
    let is = c.deref.ensures.value ∙ c.in_ok-name_line.ensures.ok
    ∙ ap (λ (n : List ℕ). turn_bytes (user n)) (c.from_vec-name.ensures ∙ c.in_ok-from_slice.ensures.items) in
    let also = c.deref-2.ensures.value ∙ c.in_ok-password_line.ensures.ok
    ∙ ap (λ (p : List ℕ). turn_bytes (pass p)) (c.from_vec-password.ensures ∙ c.in_ok-from_slice-2.ensures.items) in
    let (between, behind, third) = c.ask-2.ensures.asks s in
    let (later, then, second) = c.in_ok-ask.ensures.asks between in
    let (before, on, (greets, greeted)) = c.in_ok-greet.ensures.asks later in
    let named = second (user name) (name, refl) refl is in
    let last = completes_talks (pass password) _ _ c.ask-2.result
    (asks_completes (pass password) _ _ c.ask-2.result refl (third (pass password) (password, refl) refl also)) in (
      before,
      g.met.W.Wire.leads_on _ _ _ on (g.met.W.Wire.leads_on _ _ _ then behind),
      completes_then greeting (user name ∷ pass password ∷ []) _ _ _ _ c.ask-2.result (talked_line greeting greets _ _ greeted refl)
          (completes_then (user name) (pass password ∷ []) _ _ _ _ c.ask-2.result (talked_line (user name) named.0 _ _ named.1 refl) last),
    )
