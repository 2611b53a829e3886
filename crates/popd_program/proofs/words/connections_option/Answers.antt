use Rattle.std.proofs.Common.{◌≡◌, ◌∙◌, Some, ap, codes, pos}
use Rattle.clap.specs.{Words.{Rule, rule_of}, declared.builder.{arg.Arg.Arg, value_parser.ValueParser.TheVariants.Signed}}
use Rattle.command_line.specs.Rules.{long_value_rule}
use Rattle.popd_program.proofs.words.connections_option.Goals as goal

pub returns-clause-rule : goal.returns-clause-rule
returns-clause-rule c =
    let given = c.value_parser-2.ensures.given in
    let parser_is : c.value_parser-2.result.value_parser ≡ Some (Signed (pos 0) (pos 4294967295)) = given.1
    ∙ ap Some (given.2 ∙ c.value_parser.ensures) in
    ap rule_of c.value_parser-2.ensures.others
    ∙ ap (λ (rule : Rule). record rule { parser = c.value_parser-2.result.value_parser }) c.long_value_option.ensures.rule
    ∙ ap (λ parser. record (long_value_rule (codes "connections")) { parser = parser }) parser_is

pub returns-clause-local : goal.returns-clause-local
returns-clause-local c = ap (λ (arg : Arg). arg.global) c.value_parser-2.ensures.others ∙ c.long_value_option.ensures.local
