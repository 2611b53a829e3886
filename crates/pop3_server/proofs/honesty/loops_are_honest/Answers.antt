use Rattle.pop3_server.proofs.HonestLemmas.{gives_honest}
use Rattle.pop3_server.proofs.honesty.loops_are_honest.Goals as goal

pub returns : goal.returns
returns g c = gives_honest g.D.Maildrop.sound g.D.Maildrop.mail
