use Rattle.std.proofs.lemmas.{Bool.Decides.{Decides-eqb}, Slice.Eq.{strip_suffix_is}}
use Rattle.getmail_program.proofs.transcript.before.Goals as goal

pub returns : goal.returns
returns c = strip_suffix_is Decides-eqb c.args.octets.now c.args.end.now c.strip_suffix.result c.strip_suffix.ensures.cases
