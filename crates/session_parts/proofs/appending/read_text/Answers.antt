use Rattle.std.proofs.{Common.{refl, inl, inr, ◌++◌, take, sym, ◌∙◌}, lemmas.Bool.false≢true}
use Rattle.pop3_wire.proofs.LinkLemmas.{and_then}
use Rattle.session_parts.proofs.TalkLemmas.{err_is, before_cut, cut_by}
use Rattle.session_parts.proofs.appending.read_text.Goals as goal

pub returns-in_err-piece-clause-holds : goal.returns-in_err-piece-clause-holds
returns-in_err-piece-clause-holds g c =
    rw (err_is c.from_residual.ensures.1) (and_then g.W.Wire g.met.W.Wire.leads_on c.pieces.invariant.1
    c.in_err-piece.ensures.takes (λ before took number start now.
    (refl, inl (c.in_err-piece.field-0.0, refl, inr (inl (took number start c.pieces.text.items (before number start now)))))))

pub returns-in_err-extend_from_slice-clause-holds : goal.returns-in_err-extend_from_slice-clause-holds
returns-in_err-extend_from_slice-clause-holds g c = rw (err_is c.from_residual-in_err-extend_from_slice.ensures.1)
    (and_then g.W.Wire g.met.W.Wire.leads_on c.pieces.invariant.1 c.in_ok-piece.ensures.takes (λ before took number start now. (
      refl,
      inr (
        refl,
        (
          c.next_piece.new.body,
          c.pieces.text.items ++ take c.in_ok-piece.piece.put c.next_piece.new.out,
          (took number start c.pieces.text.items (before number start now)).0,
        ),
      ),
    )))

pub returns-then-piece-clause-holds : goal.returns-then-piece-clause-holds
returns-then-piece-clause-holds g c = and_then g.W.Wire g.met.W.Wire.leads_on c.pieces.invariant.1
    c.in_ok-piece.ensures.takes (λ before took number start now.
    rw c.in_ok-extend_from_slice.ensures.items ((took number start c.pieces.text.items (before number start now)).1 c.if-piece.true))

pub pieces-preserved : goal.pieces-preserved
pieces-preserved g c = (
  λ done. false≢true (sym c.if-piece.false ∙ c.in_ok-piece.ensures.took.ended.1 done),
  and_then g.W.Wire g.met.W.Wire.leads_on c.pieces.invariant.1 c.in_ok-piece.ensures.takes (λ before took number start now.
      rw c.in_ok-extend_from_slice.ensures.items (took number start c.pieces.text.items (before number start now)).0),
  c.in_ok-piece.ensures.counted ∙ c.pieces.invariant.2,
  c.in_ok-piece.ensures.link ∙ c.pieces.invariant.3,
)

pub returns-in_err-piece-clause-counted : goal.returns-in_err-piece-clause-counted
returns-in_err-piece-clause-counted g c =
    rw (err_is c.from_residual.ensures.1) (before_cut (g.W.Wire.history c.args.client.now.wire.now)
    (g.W.Wire.history c.pieces.client.wire.now) (g.W.Wire.history c.next_piece.new.self.wire.now) _ c.pieces.invariant.2
    (cut_by c.in_err-piece.field-0.0 (g.W.Wire.history c.pieces.client.wire.now)
    (g.W.Wire.history c.next_piece.new.self.wire.now) c.in_err-piece.ensures.counted))
