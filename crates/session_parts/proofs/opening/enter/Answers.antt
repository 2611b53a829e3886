use Rattle.std.proofs.Common.{[], ◌∷◌, inl}
use Rattle.pop3_client.specs.Turns.{list, stat, uidl}
use Rattle.pop3_wire.proofs.LinkLemmas.{in_words, and_then}
use Rattle.session_parts.proofs.TalkLemmas.{err_is, listed_too, not_entered, stops_after_talk, stopped_first}
use Rattle.session_parts.proofs.opening.enter.Goals as goal

pub returns-in_err-log_in-clause-enters : goal.returns-in_err-log_in-clause-enters
returns-in_err-log_in-clause-enters g c = rw (err_is c.from_residual.ensures.1) (in_words g.W.Wire c.in_err-log_in.ensures.talks (λ logged.
    rw (c.as_bytes-name.ensures.value, c.as_bytes-password.ensures.value) at
    (not_entered c.as_bytes-name.result.now c.as_bytes-password.result.now _ _ c.in_err-log_in.field-0.0 logged)))

pub returns-in_err-messages-clause-enters : goal.returns-in_err-messages-clause-enters
returns-in_err-messages-clause-enters g c = rw (err_is c.from_residual-in_err-messages.ensures.1)
    (and_then g.W.Wire g.met.W.Wire.leads_on c.in_ok-log_in.ensures.talks c.in_err-messages.ensures.counts (λ logged counted.
    rw (← c.as_bytes-name.ensures.value, ← c.as_bytes-password.ensures.value)
    (inl (stops_after_talk c.turns_join.ensures _ (stat ∷ uidl ∷ list ∷ []) logged.0 _ _ _ c.in_err-messages.field-0.0 logged.1
    (stopped_first stat (uidl ∷ list ∷ []) _ _ c.in_err-messages.field-0.0 counted)))))

pub returns-clause-enters : goal.returns-clause-enters
returns-clause-enters g c = and_then g.W.Wire g.met.W.Wire.leads_on c.in_ok-log_in.ensures.talks
    (and_then g.W.Wire {R = _ × _} g.met.W.Wire.leads_on c.in_ok-messages.ensures.counts c.list.ensures.lists
    (λ q r. (q, r))) (λ logged ((counted, talked, gives), listed).
    rw (c.as_bytes-name.ensures.value, c.as_bytes-password.ensures.value) at
    (listed_too c.turns_join.ensures c.as_bytes-name.result.now c.as_bytes-password.result.now _ _ _ _ logged.0
    logged.1 counted c.in_ok-messages.messages c.list.result talked gives listed))
