use Rattle.std.proofs.Common.{◌≡◌, ◌++◌, length}
use Rattle.getmail_program.specs.News.{large_lines}
use Rattle.getmail_program.proofs.news.large_lines.Given as goal

abbrev pub invariant-loop-message : goal.invariant-loop-message
invariant-loop-message l = l.text.items ++ large_lines l.account l.left.limit l.rest l.marks
    ≡ large_lines l.account l.left.limit l.initial.rest l.initial.marks

abbrev pub decreases-loop-message : goal.decreases-loop-message
decreases-loop-message l = length l.rest
