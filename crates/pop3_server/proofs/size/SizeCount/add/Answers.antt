use Rattle.std.proofs.Common.{arith}
use Rattle.pop3_server.proofs.{SizeLemmas.{line_weights, CountsText-more}, TextPieceLemmas.open_append}
use Rattle.pop3_server.proofs.size.SizeCount.add.Goals as goal

pub loop-line-preserved : goal.loop-line-preserved
loop-line-preserved c =
    let cut = c.in-Some.ensures.cut in
    let line = c.in-Some.line.now in
    let after = c.in-Some.after.now in (
      omega (arith, line_weights c.loop-line.rest.now line after cut.0 cut.1, c.loop-line.invariant.0),
      rw (cut.1, open_append) at c.loop-line.invariant.1,
    )

pub returns : goal.returns
returns c = λ before h.
    let self = c.loop-line.self in
    CountsText-more c.args.self.now _ before c.args.piece.now c.loop-line.rest.now self.octets self.in_line c.in_default.ensures.cut h
    c.loop-line.invariant.0 c.loop-line.invariant.1 (omega arith) (rw c.is_empty.ensures)
