use Rattle.std.{proofs.Common.{flat_map}, specs.Fmt.{HasWritten, IsPlainFormatter}}
use Rattle.popd_program.specs.Texts.{shown_character}
use Rattle.popd_program.proofs.warning.write_shown.Given as goal

abbrev pub invariant-loop-character : goal.invariant-loop-character
invariant-loop-character g l = IsPlainFormatter l.initial.f
    → HasWritten g.W.Write.write_str_gives l.initial.f (flat_map shown_character l.yielded) l.f
