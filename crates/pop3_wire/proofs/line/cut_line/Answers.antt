use Rattle.std.proofs.{Common.{◌++◌, ◌+◌, ◌-◌, take, ap, sym, ◌∙◌, List, ℕ}, lemmas.List.take_rest}
use Rattle.pop3_wire.{specs.Line.crlf, proofs.BodyLemmas.{IsLine-nowhere, IsLine-without_lf, line_by_lf, line_found}}
use Rattle.pop3_wire.proofs.line.cut_line.Goals as goal

pub returns-in_err-length-clause-none : goal.returns-in_err-length-clause-none
returns-in_err-length-clause-none c = rw c.from_residual-in_err-length.ensures (IsLine-nowhere c.args.bytes.now c.in_err-length.ensures)

pub returns-in_err-feed-clause-none : goal.returns-in_err-feed-clause-none
returns-in_err-feed-clause-none c = rw c.from_residual.ensures (IsLine-without_lf c.args.bytes.now c.in_err-feed.ensures)

pub returns-then-bytes-feed-eq13-clause-found : goal.returns-then-bytes-feed-eq13-clause-found
returns-then-bytes-feed-eq13-clause-found c =
    let k = c.in_ok-feed.feed in
    let cut = line_by_lf c.args.bytes.now k c.in_ok-feed.ensures.0 c.in_ok-feed.ensures.1 c.if-feed-gt0.true c.if-bytes-feed-eq13.true in
    (cut.0, cut.1 ∙ ap (λ (rest : List ℕ). take (k - 1) c.args.bytes.now ++ (crlf ++ rest)) (sym (take_rest c.args.bytes.now (k + 1))))

pub returns-clause-found : goal.returns-clause-found
returns-clause-found c =
    let k = c.in_ok-length.length in
    let cut = line_found c.args.bytes.now k c.in_ok-length.ensures.0 c.in_ok-length.ensures.1 in
    (cut.0, cut.1 ∙ ap (λ (rest : List ℕ). take k c.args.bytes.now ++ (crlf ++ rest)) (sym (take_rest c.args.bytes.now (k + 2))))
