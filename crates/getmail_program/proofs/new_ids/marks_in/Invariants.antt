use Rattle.std.{proofs.Common.{◌≡◌, ◌++◌, length}, specs.List.filter_map}
use Rattle.mail_terms.specs.Text.{lines_of_text}
use Rattle.getmail_program.specs.NewIds.{mark_for}
use Rattle.getmail_program.proofs.new_ids.marks_in.Given as goal

abbrev pub invariant-loop-rest : goal.invariant-loop-rest
invariant-loop-rest l =
    filter_map (mark_for l.end) (lines_of_text l.initial.rest)
    ≡ l.marks.items ++ filter_map (mark_for l.end) (lines_of_text l.rest)

abbrev pub decreases-loop-rest : goal.decreases-loop-rest
decreases-loop-rest l = length l.rest
