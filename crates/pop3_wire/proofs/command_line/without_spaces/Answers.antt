use Rattle.std.proofs.{Common.{arith, ne_eqb, ap, take}, lemmas.List.Sums.suffix_len_is}
use Rattle.pop3_wire.{
  specs.Fields.is_space,
  proofs.command_line.without_spaces.Goals.{then-loop-length-test+else-line-length-eq32, else-loop-length-test},
}
use Rattle.pop3_wire.proofs.command_line.without_spaces.Goals as goal

pub returns : goal.returns
returns c =
    ap (λ k. take k c.args.line.now) (omega (
      arith,
      suffix_len_is is_space c.args.line.now c.loop-length.length 0 c.loop-length.invariant.0 c.loop-length.invariant.1
          (λ some. elim c.loop-length-test.branch [
            | then-loop-length-test+else-line-length-eq32 w ↦ ne_eqb _ _ w.if-line-length-eq32.false
            | else-loop-length-test w ↦ absurd (omega arith)
          ]),
    ))
