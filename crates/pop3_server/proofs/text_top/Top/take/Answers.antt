use Rattle.std.proofs.Common.{◌≡◌, ◌++◌, ◌∷◌, ◌-◌, ℕ, List, [], take, length, sym, ap, ◌∙◌, append_assoc, arith, length-append, take_at}
use Rattle.pop3_server.{specs.TextPiece.taken_of_top, proofs.TextTopLemmas.{done_takes_none, not_done, takes_rest}}
use Rattle.pop3_server.proofs.text_top.Top.take.Goals as goal

pub loop-rest-preserved : goal.loop-rest-preserved
loop-rest-preserved c =
    let so_far = c.loop-rest.invariant in
    let cut = c.in-Some.ensures.cut in
    let line = c.in-Some.line.now in (
      so_far.0 ++ (line ++ 10 ∷ []),
      so_far.1 ∙ rw cut.1 (simp append_assoc),
      λ rest. so_far.2 rest ∙ rw (cut.1, append_assoc line, c.end_line.ensures cut.0 (c.in-Some.after.now ++ rest)) (simp append_assoc),
    )

pub returns-in-None-clause-taken : goal.returns-in-None-clause-taken
returns-in-None-clause-taken c = λ rest.
    let so_far = c.loop-rest.invariant in
    let self = c.loop-rest.self in
    let more = not_done c.is_done.result self.in_head self.left c.is_done.ensures c.loop-rest-test.true in
    so_far.2 rest ∙ rw (
      takes_rest self.in_head self.in_line self.left c.loop-rest.rest.now rest c.in-None.ensures.cut more,
      c.is_empty.ensures,
      so_far.1,
    ) (simp append_assoc)

pub returns-clause-taken : goal.returns-clause-taken
returns-clause-taken c = λ rest.
    let so_far = c.loop-rest.invariant in
    let self = c.loop-rest.self in
    let done = c.is_done.ensures.0 c.loop-rest-test.false in
    let none = done_takes_none self.in_head self.in_line self.left done.0 done.1 in
    let many : length so_far.0 ≡ length c.args.piece.now - length c.loop-rest.rest.now =
    omega (arith, ap (λ (t : List ℕ). length t) so_far.1, length-append so_far.0 c.loop-rest.rest.now) in
    so_far.2 rest ∙ ap (λ (t : List ℕ). so_far.0 ++ t) (none (c.loop-rest.rest.now ++ rest) ∙ sym (none rest))
    ∙ ap (λ (t : List ℕ). t ++ taken_of_top self rest)
    (sym (ap (λ (t : List ℕ). take (length c.args.piece.now - length c.loop-rest.rest.now) t) so_far.1
    ∙ take_at so_far.0 c.loop-rest.rest.now _ many))
