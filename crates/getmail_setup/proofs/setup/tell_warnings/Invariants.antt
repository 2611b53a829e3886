use Rattle.std.proofs.Common.{take}
use Rattle.getmail_setup.specs.{Output.Puts, Warnings.warnings_text}
use Rattle.getmail_setup.proofs.setup.tell_warnings.Given as goal

abbrev pub invariant-loop-warning : goal.invariant-loop-warning
invariant-loop-warning g l =
    Puts g.E.Write.contents l.fn.errors.err (warnings_text (take l.warning-index l.warnings)) l.errors.err
