use Rattle.std.proofs.Common.{◌∷◌, [], inl, inr, refl, arith}
use Rattle.pop3_wire.proofs.BodyLemmas.{NoCr-dot, at_cr, in_line, start_other, dot_cr, middle_cr, middle_other, cr_lf, cr_cr, cr_other}
use Rattle.pop3_wire.proofs.unstuffer.step.Goals as goal

pub returns-in-13-clause-reached : goal.returns-in-13-clause-reached
returns-in-13-clause-reached c bytes text h = rw c.in-13.is (at_cr [] (rw c.in-Start.is at h) (λ e. cc) refl)

pub returns-in_default-clause-reached : goal.returns-in_default-clause-reached
returns-in_default-clause-reached c bytes text h = start_other c.args.byte (λ e. omega arith) (λ e. omega arith) (rw c.in-Start.is at h)

pub returns-in-13-byte-clause-reached : goal.returns-in-13-byte-clause-reached
returns-in-13-byte-clause-reached c bytes text h = rw c.in-13-byte.is (dot_cr (rw c.in-Dot.is at h))

pub returns-in_default-byte-clause-reached : goal.returns-in_default-byte-clause-reached
returns-in_default-byte-clause-reached c bytes text h = in_line (c.args.byte ∷ []) c.args.byte (rw c.in-Dot.is at h)
    (λ e. omega arith) (inr NoCr-dot) (λ e. cc) refl

pub returns-in-13-byte-2-clause-reached : goal.returns-in-13-byte-2-clause-reached
returns-in-13-byte-2-clause-reached c bytes text h = rw c.in-13-byte-2.is (at_cr (13 ∷ []) (rw c.in-DotCr.is at h) (λ e. cc) refl)

pub returns-in_default-byte-2-clause-reached : goal.returns-in_default-byte-2-clause-reached
returns-in_default-byte-2-clause-reached c bytes text h = in_line (13 ∷ c.args.byte ∷ []) c.args.byte
    (rw c.in-DotCr.is at h) (λ e. omega arith) (inl (λ e. omega arith)) (λ e. cc) refl

pub returns-in-13-byte-3-clause-reached : goal.returns-in-13-byte-3-clause-reached
returns-in-13-byte-3-clause-reached c bytes text h = rw c.in-13-byte-3.is (middle_cr (rw c.in-Middle.is at h))

pub returns-in_default-byte-3-clause-reached : goal.returns-in_default-byte-3-clause-reached
returns-in_default-byte-3-clause-reached c bytes text h = middle_other c.args.byte (λ e. omega arith) (rw c.in-Middle.is at h)

pub returns-in-10-byte-clause-reached : goal.returns-in-10-byte-clause-reached
returns-in-10-byte-clause-reached c bytes text h = rw c.in-10-byte.is (cr_lf (rw c.in-Cr.is at h))

pub returns-in-13-byte-4-clause-reached : goal.returns-in-13-byte-4-clause-reached
returns-in-13-byte-4-clause-reached c bytes text h = rw c.in-13-byte-4.is (cr_cr (rw c.in-Cr.is at h))

pub returns-in_default-byte-4-clause-reached : goal.returns-in_default-byte-4-clause-reached
returns-in_default-byte-4-clause-reached c bytes text h = cr_other c.args.byte (λ e. omega arith) (λ e. omega arith) (rw c.in-Cr.is at h)
