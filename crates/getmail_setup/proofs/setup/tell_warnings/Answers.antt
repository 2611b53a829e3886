use Rattle.std.proofs.Common.{◌∙◌, List, ℕ, None, [], ap, subst}
use Rattle.rc_file.specs.{RcText.warning_text, WarningSearch.warning_of, declared.warning.Warning.Warning}
use Rattle.getmail_setup.specs.{Failures.cause_line, Output.Puts}
use Rattle.getmail_setup.proofs.WarningLemmas.{puts_more}
use Rattle.getmail_setup.proofs.setup.tell_warnings.Goals as goal

pub loop-warning-preserved : goal.loop-warning-preserved
loop-warning-preserved g c =
    let contents = g.E.Write.contents in
    let before = c.loop-warning.errors.err in
    let now = c.put_warning.new.errors.err in
    let text = c.as_bytes.ensures.value
    ∙ (c.in_ok-text.ensures ∙ ap (λ (w : Warning). warning_text (warning_of w)) c.warning-item.is) in
    puts_more contents c.args.errors.now.err before now c.args.warnings.now c.loop-warning.warning-index c.warning-item.result
    c.loop-warning-test.true c.loop-warning.invariant
    (subst (λ (t : List ℕ). Puts contents before (cause_line None [] t) now) text c.put_warning.ensures)
