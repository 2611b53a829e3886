use Rattle.pop3_client.specs.Turns.{quit}
use Rattle.pop3_wire.proofs.LinkLemmas.{in_words}
use Rattle.session_parts.proofs.TalkLemmas.{completes_talks}
use Rattle.session_parts.proofs.tail.say_tail.Goals as goal

pub returns-in-Leave-clause-talks : goal.returns-in-Leave-clause-talks
returns-in-Leave-clause-talks g c = in_words g.W.Wire c.quit.ensures.completes
    (λ completes. rw c.in-Leave.is (completes_talks quit _ _ c.quit.result completes))

pub returns-in-Undo-clause-talks : goal.returns-in-Undo-clause-talks
returns-in-Undo-clause-talks g c = in_words g.W.Wire c.reset_and_quit.ensures.talks (λ talks. rw c.in-Undo.is talks)
