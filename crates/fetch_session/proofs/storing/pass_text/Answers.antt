use Rattle.std.proofs.{Common.{◌≡◌, inl, inr, ◌<◌, ◌++◌, length, take, arith, sym, ◌∙◌, ap}, lemmas.Bool.false≢true}
use Rattle.pop3_wire.proofs.LinkLemmas.{and_then}
use Rattle.session_parts.proofs.{TalkLemmas.err_is, TextLemmas.longer}
use Rattle.fetch_session.proofs.storing.pass_text.Goals as goal

pub returns-in_err-piece-clause-passes : goal.returns-in_err-piece-clause-passes
returns-in_err-piece-clause-passes g c =
    rw (err_is c.from_residual.ensures.1) (and_then g.W.Wire g.met.W.Wire.leads_on c.pieces.invariant.2
    c.in_err-piece.ensures.takes (λ before took number start now.
    let so_far = before number start now in inr (inl (took number start so_far.0 so_far.1))))

pub returns-then-piece-clause-passes : goal.returns-then-piece-clause-passes
returns-then-piece-clause-passes g c = and_then g.W.Wire g.met.W.Wire.leads_on c.pieces.invariant.2
    c.in_ok-piece.ensures.takes (λ before took number start now.
    let so_far = before number start now in
    let whole = (took number start so_far.0 so_far.1).1 c.if-piece.true in (
      whole.0,
      whole.1,
      longer c.pieces.length c.in_ok-piece.piece.put so_far.0 c.next_piece.new.out so_far.2
          c.in_ok-piece.ensures.took.fits ∙ ap length whole.2,
    ))

pub pieces-preserved : goal.pieces-preserved
pieces-preserved g c = (
  λ done. false≢true (sym c.if-piece.false ∙ c.in_ok-piece.ensures.took.ended.1 done),
  let long : length c.next_piece.new.out ≡ 4097 = c.next_piece.array_long in
      let less : c.next_piece.new.body.left < c.pieces.rest.left = c.in_ok-piece.ensures.took.less
      (λ done. false≢true (sym c.if-piece.false ∙ c.in_ok-piece.ensures.took.ended.1 done)) in
      omega (arith, c.pieces.invariant.1, c.in_ok-piece.ensures.took.fits, long, less),
  and_then g.W.Wire g.met.W.Wire.leads_on c.pieces.invariant.2 c.in_ok-piece.ensures.takes (λ before took number start now.
      let so_far = before number start now in
      let piece = take c.in_ok-piece.piece.put c.next_piece.new.out in (
        so_far.0 ++ piece,
        (took number start so_far.0 so_far.1).0,
        longer c.pieces.length c.in_ok-piece.piece.put so_far.0 c.next_piece.new.out so_far.2 c.in_ok-piece.ensures.took.fits,
      )),
  c.in_ok-piece.ensures.counted ∙ c.pieces.invariant.3,
  c.in_ok-piece.ensures.link ∙ c.pieces.invariant.4,
)
