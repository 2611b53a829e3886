use Rattle.std.proofs.{
  Common.{◌∙◌, ◌≡◌, ◌||◌, ℕ, List, [], Bool, Bor, arith, append-nil, get_or, sym, not, refl},
  lemmas.List.Elements.filter_more,
}
use Rattle.mail_store.specs.Held.{has_text}
use Rattle.folder_store.{
  specs.FlushPass.{has_flushed, has_missed, was_flushed},
  proofs.flush_pass.unsettled.Goals.{then-is_left+in_ok-push, else-is_left},
}
use Rattle.folder_store.proofs.flush_pass.unsettled.Goals as goal

pub loop-stem-preserved : goal.loop-stem-preserved
loop-stem-preserved c =
    let p : Bor (List ℕ) → Bool = λ stem. not (was_flushed c.args.found.now stem.now) in
    let flushed : (q : List ℕ) → has_text c.add_stems.new.flushed q ≡ has_flushed c.args.found.now q =
    λ q. c.in_ok-add_stems.ensures.flushed q ∙ rw c.new-flushed.ensures.empty refl in
    let missed : (q : List ℕ) → has_text c.add_stems.new.missed q ≡ has_missed c.args.found.now q = λ q. c.in_ok-add_stems.ensures.missed q
    ∙ rw c.new-missed.ensures.empty refl in
    let is : (stem : Bor (List ℕ))
    → (not (has_text c.add_stems.new.flushed stem.now) || has_text c.add_stems.new.missed stem.now) ≡ p stem =
    λ stem. rw (flushed stem.now, missed stem.now) (grind arith) in
    let none : Bor (List ℕ) = record { ref_ptr = (0, 0); now = [] } in
    let stem = get_or c.args.stems.now c.loop-stem.stem-index none in
    let more = filter_more p c.args.stems.now c.loop-stem.stem-index none c.loop-stem-test.true in
    elim c.if-is_left.branch [
      | then-is_left+in_ok-push w ↦ rw (
        w.left-is,
        more,
        sym (is stem) ∙ sym c.is_left.ensures ∙ w.if-is_left.true,
        w.in_ok-push.ensures.items,
        c.loop-stem.invariant,
      ) refl
      | else-is_left w ↦ rw (
        w.left-is,
        more,
        sym (is stem) ∙ sym c.is_left.ensures ∙ w.if-is_left.false,
        c.loop-stem.invariant,
      ) (sym (append-nil _))
    ]
