use Rattle.std.proofs.lemmas.{Bool.Decides.{Decides-eqb}, Slice.Eq.{strip_prefix_is}}
use Rattle.trace.proofs.ways.after.Goals as goal

pub returns : goal.returns
returns c = strip_prefix_is Decides-eqb c.args.text.now c.args.front.now c.strip_prefix.result c.strip_prefix.ensures.cases
