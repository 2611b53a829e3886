use Rattle.std.proofs.Common.{◌≡◌, ◌++◌, length}
use Rattle.getmail_program.specs.News.{parts_text}
use Rattle.getmail_program.proofs.news.parts_text.Given as goal

abbrev pub invariant-loop-rest : goal.invariant-loop-rest
invariant-loop-rest l = l.text.items ++ parts_text l.wanted l.again l.news.fault l.marks l.rest
    ≡ parts_text l.wanted l.again l.news.fault l.initial.marks l.initial.rest

abbrev pub decreases-loop-rest : goal.decreases-loop-rest
decreases-loop-rest l = length l.rest
