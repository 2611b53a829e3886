use Rattle.std.proofs.Common.{◌∙◌}
use Rattle.pop3_wire.proofs.LinkLemmas.{and_then, in_words}
use Rattle.session_parts.proofs.TalkLemmas.{left_dropped, left_broken}
use Rattle.session_parts.proofs.tail.leave.Goals as goal

pub returns-in-Err-clause-leaves : goal.returns-in-Err-clause-leaves
returns-in-Err-clause-leaves g c = in_words g.W.Wire c.in-Err.ensures.drops
    (left_broken c.turns_join.ensures c.conversations_are_paced.ensures c.args.cut.fault c.args.cut.rest _ _ c.in-Err.field-0)

pub returns-clause-leaves : goal.returns-clause-leaves
returns-clause-leaves g c = and_then g.W.Wire g.met.W.Wire.leads_on c.in_default.ensures.drops c.say_tail.ensures.talks (λ drops talks.
    left_dropped c.turns_join.ensures c.conversations_are_paced.ensures c.args.cut.fault c.args.cut.rest _ _ _
    c.say_tail.result drops (rw c.tail_of.ensures at talks) (λ silent. c.say_tail.ensures.still (c.tail_of.ensures ∙ silent)))
