use Rattle.getmail_program.proofs.FindingsLemmas.{text_is_front, front_some}
use Rattle.getmail_program.proofs.findings.front.Goals as goal

pub returns-in-Some : goal.returns-in-Some
returns-in-Some c = front_some c.args.text.now c.args.length _ c.in-Some.ensures.cases.0

pub returns-in-None : goal.returns-in-None
returns-in-None c = text_is_front c.args.text.now c.args.length c.utf8.text c.in-None.ensures.cases
