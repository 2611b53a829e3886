use Rattle.std.{proofs.Common.{◌≡◌, ◌++◌, take}, specs.List.flat_map}
use Rattle.system_calls.specs.Line.{shown_octet}
use Rattle.system_calls.proofs.line.line_text.Given as goal

abbrev pub invariant-loop-octet : goal.invariant-loop-octet
invariant-loop-octet l = l.line.items ≡ l.mark ++ flat_map (shown_octet l.wide) (take l.octet-index l.octets)
