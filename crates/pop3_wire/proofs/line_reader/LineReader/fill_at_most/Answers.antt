use Rattle.std.proofs.Common.{◌≡◌, ◌≤◌, ◌+◌, ◌-◌, ◌∙◌, ◌++◌, ℕ, List, length, take, ap, arith, length-take-le}
use Rattle.pop3_wire.proofs.LineReaderLemmas.{window_fill}
use Rattle.pop3_wire.proofs.line_reader.LineReader.fill_at_most.Goals as goal

pub returns-clause-ok : goal.returns-clause-ok
returns-clause-ok g c =
    let n = c.in_ok-n.n in
    let buf = c.recv.new.buf in
    let r = c.self.inside in
    let within : n ≤ length buf = c.in_ok-n.ensures.within in
    let size : length (take n buf) ≡ n = length-take-le n buf within in
    let waits = window_fill (r.end - r.start) ((r.end - r.start) + c.min.result - (r.end - r.start)) n
    c.move_to_front.new.bytes buf (omega arith) within in
    let moved = ap (λ (l : List ℕ). l ++ take n buf) (c.move_to_front.ensures ∙ c.self.view_is) in (
      take n buf,
      size,
      waits ∙ moved,
      λ sound. rw size (c.in_ok-n.ensures.got sound),
    )
