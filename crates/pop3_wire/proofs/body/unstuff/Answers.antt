use Rattle.std.proofs.{Common.{◌≡◌, refl, ap, subst, sym, ◌∙◌, ◌++◌, ◌∷◌, [], List, ℕ, append_assoc}, lemmas.Bool.false≢true}
use Rattle.pop3_wire.{specs.Body.{lf_line, unstuffed}, proofs.BodyLemmas.{ReadsLines, no_body, reads_end, reads_more}}
use Rattle.pop3_wire.proofs.body.unstuff.Goals as goal

pub returns-then-is_end_mark-clause-found : goal.returns-then-is_end_mark-clause-found
returns-then-is_end_mark-clause-found c =
    reads_end _ _ c.in-Some.line.now _ _ c.loop-line.invariant c.in-Some.ensures.found.1 (c.if-is_end_mark.ensures.0 refl)

pub loop-line-preserved : goal.loop-line-preserved
loop-line-preserved c =
    let text : c.push.new.self.items ≡ c.loop-line.text.items ++ lf_line c.in-Some.line.now =
    c.in_ok-push.ensures.items ∙ ap (λ (t : List ℕ). t ++ 10 ∷ []) (c.in_ok-extend_from_slice.ensures.items
    ∙ ap (λ (t : List ℕ). c.loop-line.text.items ++ t) c.without_dot.ensures)
    ∙ append_assoc c.loop-line.text.items (unstuffed c.in-Some.line.now) (10 ∷ []) in
    subst (λ (t : List ℕ). ReadsLines c.args.bytes.now c.in-Some.after.now t) (sym text)
    (reads_more _ _ _ _ _ c.loop-line.invariant c.in-Some.ensures.found.0 c.in-Some.ensures.found.1
    (λ e. false≢true (c.if-is_end_mark.ensures.1 e)))

pub returns-clause-none : goal.returns-clause-none
returns-clause-none c = no_body _ _ _ c.loop-line.invariant c.in_default.ensures.none
