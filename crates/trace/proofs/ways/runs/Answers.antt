use Rattle.std.proofs.{Common.{rules, ◌&&◌}, lemmas.Fn.{dedup_same}}
use Rattle.trace.specs.Masking.{is_hidden}
use Rattle.trace.proofs.ways.runs.Goals as goal

pub returns : goal.returns
returns c = dedup_same _ (λ a b. is_hidden a && is_hidden b) _ (λ x y b f' x' y' k. search rules) _ _ c.dedup_by.ensures.filtered
