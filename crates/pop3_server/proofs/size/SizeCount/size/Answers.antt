use Rattle.pop3_server.proofs.SizeLemmas.{size_open}
use Rattle.pop3_server.proofs.size.SizeCount.size.Goals as goal

pub returns-else-self : goal.returns-else-self
returns-else-self c = λ text h. (size_open c.args.self.now text h).1 c.if-self.false
