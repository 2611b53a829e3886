use Rattle.std.{proofs.Common.{◌≡◌, length}, specs.List.list_any}
use Rattle.mail_terms.specs.Text.{lines_of_text}
use Rattle.getmail_program.specs.NewIds.{is_older_delivery}
use Rattle.getmail_program.proofs.new_ids.has_older.Given as goal

abbrev pub invariant-loop-rest : goal.invariant-loop-rest
invariant-loop-rest l =
    list_any (is_older_delivery l.end) (lines_of_text l.rest)
    ≡ list_any (is_older_delivery l.end) (lines_of_text l.initial.rest)

abbrev pub decreases-loop-rest : goal.decreases-loop-rest
decreases-loop-rest l = length l.rest
