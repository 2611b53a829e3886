-- What a loss of power may leave under a name, of what it leads to and of what it led to before.
use Rattle.std.proofs.{
  Common.{◌≡◌, ◌⊎◌, ◌≤◌, ◌∙◌, inl, inr, ⊎_elim, ℕ, List, [], ◌∷◌, Option, option_map, bytes_eq, ap, sym, subst, arith, map, length},
  Common.{get_or, string_bytes, Bor, Some, None, refl},
  lemmas.{Bool.cond_both, Slice.Eq.bytes_eq-Decides},
}
use Rattle.mail_store.specs.Durable.{Blob, IsLeftOf, IsLeftOfOne, MayLeave}
use Rattle.std.specs.Option.{option_copied}
use Rattle.test_devices.{
  specs.{declared.memory_folder.MemoryBlob.MemoryBlob, MemoryFolder.{blob_of, older_of}},
  proofs.{LeftLemmas.{behind, behind_first}, MemoryFiles.Before},
}
use Rattle.folder_store.specs.{FileFolder.{Directory, Older, find}, PowerLoss.{MayBe, WasOnce, older_at}}

once_of : (name : List ℕ) (older : List Older) (left : Option (List ℕ)) → IsLeftOfOne (older_at name older) left
    → WasOnce older name left
once_of name [] left is = is
once_of name (o ∷ older) left is = cond_both (bytes_eq o.name name) (o.was ∷ older_at name older) (older_at name older)
    (λ (was : List (Option Blob)). IsLeftOfOne was left → WasOnce (o ∷ older) name left)
    (λ same once. ⊎_elim (λ here. inl ((bytes_eq-Decides o.name name).0 same, here)) (λ later. inr (once_of name older left later)) once)
    (λ _ once. inr (once_of name older left once)) is

pub now_or_once : (d : Directory) (name : List ℕ) (left : Option (List ℕ)) → MayBe d name left
    → IsLeftOf (find name d.entries) left ⊎ WasOnce d.older name left
unfolding MayLeave
now_or_once d name left is = ⊎_elim inl (λ was. inr (once_of name d.older left was)) is

-- of the first change of several, this isn't left
pub once_later : (os : List Before) (o : Before) (name : List ℕ) (left : Option (List ℕ)) → 1 ≤ length os → o ≡ get_or os 0 o
    → (string_bytes o.0 ≡ name → IsLeftOf (option_map blob_of o.1) left → ⊥) → WasOnce (map older_of os) name left
    → WasOnce (map older_of (behind os)) name left
once_later [] _ _ _ some _ _ _ = absurd (omega (arith, some))
once_later (x ∷ os) o name left _ is isnt (inl (named, here)) =
    absurd (isnt (ap (λ (y : Before). string_bytes y.0) is ∙ named)
    (subst (λ (y : Before). IsLeftOf (option_map blob_of y.1) left) (sym is) here))
once_later (x ∷ os) _ name left _ _ _ (inr later) =
    subst (λ (zs : List Before). WasOnce (map older_of zs) name left) (sym (behind_first x os)) later

pub later_once : (os : List Before) (name : List ℕ) (left : Option (List ℕ)) → 1 ≤ length os
    → WasOnce (map older_of (behind os)) name left → WasOnce (map older_of os) name left
later_once [] _ _ some _ = absurd (omega (arith, some))
later_once (x ∷ os) name left _ later =
    inr (subst (λ (zs : List Before). WasOnce (map older_of zs) name left) (behind_first x os) later)

pub copied_blob : (o : Option (Bor MemoryBlob)) → option_map (λ (k : Bor MemoryBlob). blob_of k.now) o
    ≡ option_map blob_of (option_copied o)
copied_blob None = refl
copied_blob (Some _) = refl
