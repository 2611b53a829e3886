use Rattle.std.proofs.Common.{◌∷◌, length, length-append, ap, ◌∙◌, arith, append_assoc}
use Rattle.pop3_server.proofs.TextPieceLemmas.{open_append, sent_line_more, sent_rest, stuffing_length}
use Rattle.pop3_server.proofs.stuffer.Stuffer.put.Goals as goal

pub loop-line-preserved : goal.loop-line-preserved
loop-line-preserved c =
    let cut = c.in-Some.ensures.cut in
    let line = c.in-Some.line.now in
    let after = c.in-Some.after.now in
    let in_line = c.loop-line.self.in_line in
    let few = stuffing_length in_line line in (
      rw (c.in_ok-extend_from_slice-2.ensures.items, c.in_ok-extend_from_slice.ensures.items, c.in_ok-put_stuffing.ensures.body)
          ((simp append_assoc) ∙ rw (cut.1, sent_line_more in_line line after cut.0) at c.loop-line.invariant.0),
      rw (cut.1, open_append) at c.loop-line.invariant.1,
      omega arith,
      omega (
        arith,
        ap length cut.1,
        length-append line (10 ∷ after),
        few.1,
        c.in_ok-put_stuffing.ensures.len,
        c.in_ok-extend_from_slice.ensures.len,
        c.in_ok-extend_from_slice-2.ensures.len,
        c.loop-line.invariant.3,
      ),
    )

pub returns-clause-body : goal.returns-clause-body
returns-clause-body c =
    rw (
      c.in_ok-extend_from_slice-3.ensures.items,
      c.in_ok-put_stuffing-2.ensures.body,
      append_assoc,
      ← sent_rest c.loop-line.self.in_line c.loop-line.rest.now c.in_default.ensures.cut,
    ) c.loop-line.invariant.0
