use Rattle.std.proofs.{
  Common.{◌≡◌, inl, inr, ℕ, Bool, true, List, [], ◌∷◌, ◌++◌, length, take, drop, sym, ap, ◌∙◌, arith, length-append, bytes_eq},
  lemmas.{List.{drop_at, take-append-drop}, Slice.Eq.bytes_eq-Decides},
}
use Rattle.mail_store.{specs.{FlatFile.edges_of, Mboxrd.{from_words, begins_entry, MayGoOn}}, proofs.MboxLemmas.tail_is}
use Rattle.mail_store.proofs.mboxrd.entry.may_go_on.Goals as goal

heads_tell : (was : List ℕ) → (edges_of was).head ≡ from_words → begins_entry was ≡ true
heads_tell (a ∷ b ∷ c ∷ d ∷ f ∷ rest) e = ap (λ (head : List ℕ). begins_entry (head ++ rest)) e
heads_tell was e = absurd (grind arith)

tails_tell : (was : List ℕ) → drop (length was) (0 ∷ 0 ∷ was) ≡ 10 ∷ 10 ∷ [] → (front : List ℕ) × (was ≡ front ++ 10 ∷ 10 ∷ [])
tails_tell (a ∷ b ∷ rest) e =
    let front = take (length rest) (a ∷ b ∷ rest) in
    (front, sym (take-append-drop (length rest) (a ∷ b ∷ rest)) ∙ ap (λ (l : List ℕ). front ++ l) e)
tails_tell was e = absurd (grind arith)

-- if a file isn't empty and begins with `From `, its last two bytes decide whether an entry may follow
ends_decide : (was : List ℕ) (test : Bool) → (length was ≡ 0 → ⊥) → (edges_of was).head ≡ from_words
    → test ≡ bytes_eq (edges_of was).tail (10 ∷ 10 ∷ []) → (test ≡ true → MayGoOn was) × (MayGoOn was → test ≡ true)
ends_decide was test some head e =
    let same = bytes_eq-Decides (edges_of was).tail (10 ∷ 10 ∷ []) in (
      λ yes. inr (heads_tell was head, tails_tell was (sym (tail_is was) ∙ same.0 (sym e ∙ yes))),
      λ goes. elim goes [
        | inl none ↦ absurd (some (ap length none))
        | inr (_, (front, ends)) ↦ e ∙ same.1 (tail_is was
            ∙ rw ends (drop_at (0 ∷ 0 ∷ front) (10 ∷ 10 ∷ []) _ (omega (arith, length-append front (10 ∷ 10 ∷ [])))))
      ],
    )

pub returns-then-eq : goal.returns-then-eq
returns-then-eq c = λ was is.
    let head = (bytes_eq-Decides c.args.edges.now.head from_words).0 (sym c.eq.ensures ∙ c.if-eq.true) in
    ends_decide was c.eq-then-eq.result (rw is at c.if-edges-eq0.false) (rw is at head) (rw is at c.eq-then-eq.ensures)
