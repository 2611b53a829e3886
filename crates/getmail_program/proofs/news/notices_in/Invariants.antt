use Rattle.std.proofs.Common.{◌≡◌, ◌++◌, filter, length, map}
use Rattle.getmail_program.specs.News.{is_notice, notice_of}
use Rattle.getmail_program.proofs.news.notices_in.Given as goal

abbrev pub invariant-loop-rest : goal.invariant-loop-rest
invariant-loop-rest l = l.notices.items ++ map notice_of (filter is_notice l.rest)
    ≡ map notice_of (filter is_notice l.initial.rest)

abbrev pub decreases-loop-rest : goal.decreases-loop-rest
decreases-loop-rest l = length l.rest
