use Rattle.std.proofs.Common.{◌≡◌, ◌∙◌, ◌-◌, ℕ, List, ◌++◌, sym, ap, take, drop, append_assoc, length, take-append-drop}
use Rattle.std.proofs.{KnownBytes.Appends-kept, KnownBytes.Appends-trans, lemmas.List.take_rest}
use Rattle.getmail_setup.proofs.output.write_octets.Goals as goal
use Rattle.getmail_setup.proofs.output.write_octets.Goals.{in-Ok, in-Err}

front_grows : (all front rest : List ℕ) (n : ℕ) → all ≡ front ++ rest
    → all ≡ (front ++ take n rest) ++ take (length rest - n) (drop n rest)
front_grows all front rest n is = is ∙ ap (λ (l : List ℕ). front ++ l) (sym (take-append-drop n rest))
    ∙ sym (append_assoc front (take n rest) (drop n rest))
    ∙ ap (λ (l : List ℕ). (front ++ take n rest) ++ l) (sym (take_rest rest n))

pub loop-preserved : goal.loop-preserved
loop-preserved g c =
    let (front, split, wrote) = c.loop.invariant in
    let rest = c.loop.rest.now in
    elim c.match-write.branch [
      | in-Ok w ↦ (
        front ++ take w.in-Ok.taken rest,
        rw w.rest-is (front_grows _ front rest w.in-Ok.taken split),
        Appends-trans _ _ _ _ _ wrote (rw w.in-Ok.is at c.write.ensures.bytes),
      )
      | in-Err w ↦ (front, rw w.rest-is split, Appends-kept _ _ _ _ wrote (rw w.in-Err.is at c.write.ensures.bytes))
    ]
