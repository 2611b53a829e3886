use Rattle.std.proofs.{Common.{refl, sym, ◌∙◌}, lemmas.Bool.false≢true}
use Rattle.pop3_client.proofs.TalkLemmas.{fetched}
use Rattle.pop3_wire.proofs.LinkLemmas.{and_then}
use Rattle.mail_terms.proofs.ErrLemmas.{err_is}
use Rattle.pop3_client.proofs.client.Client.drop_rest.Goals as goal

pub returns-then-has_ended-clause-completes : goal.returns-then-has_ended-clause-completes
returns-then-has_ended-clause-completes g c = λ s.
    (s, g.met.W.Wire.leads_same _, λ number start text now. let whole = fetched now (c.if-has_ended.ensures.0 refl) in (whole.0, whole.1))

pub returns-in_err-piece-clause-completes : goal.returns-in_err-piece-clause-completes
returns-in_err-piece-clause-completes g c =
    rw (err_is c.from_residual.ensures.1) (and_then g.W.Wire g.met.W.Wire.leads_on c.pieces.invariant.3 c.in_err-piece.ensures.takes
    (λ before took number start text now.
    let mid = before number start text now in took number start mid.0 mid.1))

pub pieces-preserved : goal.pieces-preserved
pieces-preserved g c = (
  c.in_ok-piece.ensures.link ∙ c.pieces.invariant.0,
  c.in_ok-piece.ensures.counted ∙ c.pieces.invariant.1,
  λ done. false≢true (sym c.if-piece.false ∙ c.in_ok-piece.ensures.took.ended.1 done),
  and_then g.W.Wire g.met.W.Wire.leads_on c.pieces.invariant.3 c.in_ok-piece.ensures.takes (λ before took number start text now.
      let mid = before number start text now in (_, (took number start mid.0 mid.1).0)),
)

pub returns-then-piece-clause-completes : goal.returns-then-piece-clause-completes
returns-then-piece-clause-completes g c = and_then g.W.Wire g.met.W.Wire.leads_on c.pieces.invariant.3
    c.in_ok-piece.ensures.takes (λ before took number start text now.
    let mid = before number start text now in
    let whole = (took number start mid.0 mid.1).1 c.if-piece.true in (whole.0, whole.1))
