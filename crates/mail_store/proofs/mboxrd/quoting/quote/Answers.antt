use Rattle.std.proofs.Common.{◌++◌, ◌∷◌, [], List, ℕ, ◌∙◌, sym, ap}
use Rattle.mail_store.{specs.Mboxrd.quoted, proofs.MboxLemmas.copies_changed}
use Rattle.mail_store.proofs.mboxrd.quoting.quote.Goals as goal

pub loop-rest-preserved-in_ok-push : goal.loop-rest-preserved-in_ok-push
loop-rest-preserved-in_ok-push c =
    copies_changed quoted _ _ _ _ _ _ (62 ∷ []) c.cut_line.result.0.now _ _ c.loop-rest.invariant c.cut_line.ensures.cuts
    (rw (sym c.is_marked.ensures ∙ c.if-is_marked.true))
    (c.in_ok-push.ensures.items ∙ ap (λ (o : List ℕ). o ++ 62 ∷ []) c.in_ok-extend_from_slice.ensures.items) c.cut_line.ensures.cuts.whole
