use Rattle.std.proofs.Common.{◌∙◌}
use Rattle.clap.{specs.Words.found_of, proofs.WalkLemmas.first_value-rows}
use Rattle.command_line.proofs.matched.text.Goals as goal

pub returns-in-None : goal.returns-in-None
returns-in-None c = c.in-None.ensures ∙ first_value-rows (found_of c.args.matches.now) c.args.name.now

pub returns-in_ok-from_str-in-Some : goal.returns-in_ok-from_str-in-Some
returns-in_ok-from_str-in-Some c = rw c.in_ok-from_str-in-Some.ensures.ok (c.in-Some.ensures
    ∙ first_value-rows (found_of c.args.matches.now) c.args.name.now)
