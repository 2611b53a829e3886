use Rattle.std.proofs.{Common.{◌∙◌, ℕ, ap, take}, lemmas.List.take_min}
use Rattle.trace.proofs.command.cut.Goals as goal

pub returns : goal.returns
returns c = ap (λ (n : ℕ). take n c.args.octets.now) c.min.ensures ∙ take_min 512 c.args.octets.now
