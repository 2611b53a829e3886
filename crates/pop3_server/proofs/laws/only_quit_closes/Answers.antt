use Rattle.pop3_server.proofs.QuitLemmas.{only_quit}
use Rattle.pop3_server.proofs.laws.only_quit_closes.Goals as goal

pub returns : goal.returns
returns g c = only_quit g.D.Maildrop.sound g.D.Maildrop.mail
