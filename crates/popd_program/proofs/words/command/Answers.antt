use Rattle.std.proofs.{Common.{◌∙◌, ap, ap₂}, lemmas.Result.IfOk-weaker}
use Rattle.clap.specs.{Simple.app_of_fields, Words.with_rule}
use Rattle.popd_program.proofs.words.command.Goals as goal

pub returns : goal.returns
returns c =
    let named = ap app_of_fields c.override_usage-command.ensures ∙ c.program.ensures in
    let listen = c.in_ok-command.ensures ∙ ap₂ with_rule named c.long_value_option.ensures.rule in
    let connections = c.in_ok-command-2.ensures ∙ ap₂ with_rule listen c.connections_option.ensures.rule in
    let rehearse = c.in_ok-command-3.ensures ∙ ap₂ with_rule connections c.long_flag.ensures.rule in
    let verbose = c.in_ok-command-4.ensures ∙ ap₂ with_rule rehearse c.long_flag-2.ensures.rule in
    let traced = c.in_ok-command-5.ensures ∙ ap₂ with_rule verbose c.long_flag-3.ensures.rule in
    let user = c.in_ok-command-6.ensures ∙ ap₂ with_rule traced c.word.ensures.rule in
    let passfile = c.in_ok-command-7.ensures ∙ ap₂ with_rule user c.word-2.ensures.rule in
    let maildir = c.in_ok-command-8.ensures ∙ ap₂ with_rule passfile c.word-3.ensures.rule in
    IfOk-weaker c.add-9.result _ _ (λ command added. added ∙ ap₂ with_rule maildir c.more_words.ensures.rule) c.add-9.ensures
