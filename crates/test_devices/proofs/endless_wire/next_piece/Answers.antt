use Rattle.std.proofs.Common.{◌∙◌, ◌++◌, ℕ, List, ap, sym, arith}
use Rattle.std.specs.List.{repeat}
use Rattle.std.proofs.lemmas.List.{drop-append-le, take_rest}
use Rattle.test_devices.proofs.EndlessLemmas.{pattern_follows}
use Rattle.test_devices.proofs.endless_wire.next_piece.Goals as goal

pub returns-then-place-front-clause-follows : goal.returns-then-place-front-clause-follows
returns-then-place-front-clause-follows c = λ count below.
    let f = c.args.front.now in
    let more = repeat count c.args.pattern.now in
    (more, drop-append-le c.args.given f more (omega arith) ∙ ap (λ (l : List ℕ). l ++ more) (sym (take_rest f c.args.given)))

pub returns-clause-follows : goal.returns-clause-follows
returns-clause-follows c = λ count below.
    pattern_follows c.args.front.now c.args.pattern.now c.args.given count c.requires (omega arith) below
