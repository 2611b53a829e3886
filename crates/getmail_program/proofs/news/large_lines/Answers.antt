use Rattle.std.proofs.Common.{◌∙◌, ◌++◌, ℕ, List, ap}
use Rattle.getmail_program.proofs.NewsLemmas.{next_named}
use Rattle.getmail_program.proofs.news.large_lines.Goals as goal

pub loop-message-preserved : goal.loop-message-preserved
loop-message-preserved c = next_named c.args.account.now c.args.left.now.limit _ c.loop-message.text.items _ c.in-Some.message.now
    c.loop-message.rest.now c.in-Some.behind.now c.loop-message.marks.now _ _ c.loop-message.invariant c.in-Some.ensures.cases.0
    c.cut_mark-is_named.ensures.first c.cut_mark-is_named.ensures.others
    (c.in_ok-extend_from_slice.ensures.items
    ∙ ap (λ (l : List ℕ). c.loop-message.text.items ++ l) (c.deref.ensures.value ∙ c.in_ok-line.ensures))
