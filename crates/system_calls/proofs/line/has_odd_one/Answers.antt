use Rattle.std.proofs.{Common.{rules}, lemmas.Iterator.{Search.any_from_yields_List, YieldsList-from_chars}}
use Rattle.system_calls.specs.Line.{changes_lines}
use Rattle.system_calls.proofs.line.has_odd_one.Goals as goal

pub returns : goal.returns
returns c =
    any_from_yields_List changes_lines _ _ _ c.any.ensures.ran
    (YieldsList-from_chars c.args.text.now (search rules) c.chars.ensures.rest) (λ x b q k. search rules)
