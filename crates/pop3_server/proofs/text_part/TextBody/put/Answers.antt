use Rattle.std.proofs.Common.{Option, subst}
use Rattle.pop3_server.specs.{declared.text_part.TextBody.TextBody, TextAnswer.ContinuesAnswer}
use Rattle.pop3_server.proofs.text_part.TextBody.put.Goals as goal

pub returns-in_default-clause-goes_on : goal.returns-in_default-clause-goes_on
returns-in_default-clause-goes_on g c = λ asked old sent next begins.
    subst (λ (rest : Option TextBody). ContinuesAnswer g.D.Maildrop.sound g.D.Maildrop.mail c.loop-next.drop
    c.loop-next.reply.items c.loop-next.text
    c.put_part.new.drop c.put_part.new.reply.items rest) c.in_default.is c.in_ok-next.ensures.goes_on asked old sent next
    (c.loop-next.invariant.1 asked old sent next begins)
