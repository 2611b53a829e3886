use Rattle.std.{proofs.Common.{◌≡◌, ◌++◌, length, flat_map}, specs.Io.StartsWith}
use Rattle.mail_terms.specs.Text.{lines_of_text}
use Rattle.pop3_wire.specs.Stuffed.{sent_line}
use Rattle.pop3_wire.proofs.stuffing.put_body.Given as goal

abbrev pub invariant-loop-rest : goal.invariant-loop-rest
invariant-loop-rest l =
    (l.body.items ++ flat_map sent_line (lines_of_text l.rest) ≡ l.fn.body.items ++ flat_map sent_line (lines_of_text l.text))
    × StartsWith l.body.items l.fn.body.items

abbrev pub decreases-loop-rest : goal.decreases-loop-rest
decreases-loop-rest l = length l.rest
