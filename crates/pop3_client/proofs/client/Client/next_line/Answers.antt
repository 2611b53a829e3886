use Rattle.std.proofs.Common.{arith}
use Rattle.pop3_client.proofs.TalkLemmas.{none_in_all}
use Rattle.pop3_wire.proofs.LinkLemmas.{in_words}
use Rattle.pop3_client.proofs.client.Client.next_line.Goals as goal

pub returns-in-Err-Ended-clause-waits : goal.returns-in-Err-Ended-clause-waits
returns-in-Err-Ended-clause-waits g c = in_words g.W.Wire (rw c.in-Err-Ended.field-0-is at c.in-Err-Ended.ensures.read)
    (λ (gained, (none, short, ended, _)). (gained, (ended, (none_in_all _ c.line.new.self none short, short))))

pub returns-in-Err-Failed-clause-waits : goal.returns-in-Err-Failed-clause-waits
returns-in-Err-Failed-clause-waits g c = in_words g.W.Wire (rw c.in-Err-Failed.field-0-is at c.in-Err-Failed.ensures.read)
    (λ (gained, (none, short, _, risen)). (gained, (omega arith, (none_in_all _ c.line.new.self none short, short))))
