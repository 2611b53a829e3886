use Rattle.std.proofs.{Common.{rules, ◌&&◌}, lemmas.Fn.{dedup_same}}
use Rattle.getmail_setup.specs.InPlace.{is_mark}
use Rattle.getmail_setup.proofs.in_place.without_runs.Goals as goal

pub returns : goal.returns
returns c = dedup_same _ (λ a b. is_mark a && is_mark b) _ (λ x y b f' x' y' k. search rules) _ _ c.dedup_by.ensures.filtered
