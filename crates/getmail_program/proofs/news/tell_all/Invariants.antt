use Rattle.std.proofs.Common.{◌≡◌, ◌++◌, ℕ, List, length}
use Rattle.getmail_setup.specs.Output.{Puts}
use Rattle.getmail_program.specs.News.{all_text}
use Rattle.getmail_program.proofs.news.tell_all.Given as goal

abbrev pub invariant-loop-part : goal.invariant-loop-part
invariant-loop-part g l = (done : List ℕ) × Puts g.E.Write.contents l.initial.err done l.err
    × (done ++ all_text l.rest ≡ all_text l.initial.rest)

abbrev pub decreases-loop-part : goal.decreases-loop-part
decreases-loop-part g l = length l.rest
