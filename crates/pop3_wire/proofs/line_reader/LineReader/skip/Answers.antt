use Rattle.std.proofs.Common.{◌≤◌, ◌-◌, ◌∙◌, ℕ, List, length, drop, ap, sym, subst, arith}
use Rattle.pop3_wire.proofs.LineReaderLemmas.{no_line_skip, window_skip}
use Rattle.pop3_wire.proofs.line_reader.LineReader.skip.Goals as goal

pub invariant_of-self : goal.invariant_of-self
invariant_of-self c =
    let r = c.self.inside in
    let fits = window_skip r.bytes r.start r.end c.args.n (subst (λ (l : List ℕ). c.args.n ≤ length l) (sym c.self.view_is) c.requires) in
    let low : c.args.n ≤ r.end - r.start = fits.0 in
    let known = no_line_skip c.args.n r.searched _ c.self.invariant.3 in
    (omega arith, c.self.invariant.1, omega arith, rw (fits.1, c.saturating_sub-self-inside.ensures) known)

pub returns : goal.returns
returns c =
    let r = c.self.inside in
    let fits = window_skip r.bytes r.start r.end c.args.n (subst (λ (l : List ℕ). c.args.n ≤ length l) (sym c.self.view_is) c.requires) in
    fits.1 ∙ ap (drop c.args.n) c.self.view_is
