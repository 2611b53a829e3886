use Rattle.std.proofs.{Common.{◌∙◌, ap, ap₂}, lemmas.Result.IfOk-weaker}
use Rattle.clap.specs.Words.{rule_of, with_rule}
use Rattle.getmail_setup.proofs.words.command.Goals as goal

pub returns : goal.returns
returns c =
    let a1 = c.in_ok-command.ensures ∙ ap₂ with_rule c.program-command.ensures c.value_option.ensures.rule in
    let a2 = c.in_ok-command-2.ensures ∙ ap₂ with_rule a1 c.value_option-dir.ensures.rule in
    let a3 = c.in_ok-command-3.ensures ∙ ap₂ with_rule a2 c.flag.ensures.rule in
    let a4 = c.in_ok-command-4.ensures ∙ ap₂ with_rule a3 c.flag-2.ensures.rule in
    let a5 = c.in_ok-command-5.ensures ∙ ap₂ with_rule a4 c.long_flag.ensures.rule in
    let a6 = c.in_ok-command-6.ensures ∙ ap₂ with_rule a5 c.long_flag-2.ensures.rule in
    let a7 = c.in_ok-command-7.ensures ∙ ap₂ with_rule a6 c.long_flag-3.ensures.rule in
    let a8 = c.in_ok-command-8.ensures ∙ ap₂ with_rule a7 c.flag-3.ensures.rule in
    let a9 = c.in_ok-command-9.ensures ∙ ap₂ with_rule a8 c.flag-4.ensures.rule in
    let a10 = c.in_ok-command-10.ensures ∙ ap₂ with_rule a9 c.flag-5.ensures.rule in
    let a11 = c.in_ok-command-11.ensures ∙ ap₂ with_rule a10 c.flag-6.ensures.rule in
    let a12 = c.in_ok-command-12.ensures ∙ ap₂ with_rule a11 c.long_flag-4.ensures.rule in
    let hidden = ap rule_of c.hide.ensures ∙ c.long_flag-5.ensures.rule in
    IfOk-weaker c.add-13.result _ _ (λ command added. added ∙ ap₂ with_rule a12 hidden) c.add-13.ensures
