use Rattle.std.{proofs.Common.{◌≡◌, ◌++◌, length}, specs.List.filter_map}
use Rattle.mail_terms.specs.Text.{lines_of_text}
use Rattle.getmail_setup.specs.Listed.{large_in}
use Rattle.getmail_setup.proofs.listed.Listed.among.Given as goal

abbrev pub invariant-loop-rest : goal.invariant-loop-rest
invariant-loop-rest l =
    let named = filter_map (large_in l.self.sizes.items l.numbers) in
    named (lines_of_text l.self.uids.items) ≡ l.found.items ++ named (lines_of_text l.rest)

abbrev pub decreases-loop-rest : goal.decreases-loop-rest
decreases-loop-rest l = length l.rest
