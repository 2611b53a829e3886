-- What is picked out of a list, one element after another.
use Rattle.std.{
  proofs.{
    Common.{◌≡◌, ◌∙◌, ◌+◌, ◌++◌, ◌<◌, ℕ, suc, List, [], ◌∷◌, None, Option, Some, ap, append-nil, arith, filter_map, get_or, length},
    Common.{option_to_list, refl, sym, take},
    Math.Seq.take-suc,
    lemmas.List.Elements.filter_map-append,
  },
  specs.List.cons_option,
}

cons_is : {Y : Type 0} (o : Option Y) (ys : List Y) → cons_option o ys ≡ option_to_list o ++ ys
cons_is None ys = refl
cons_is (Some y) ys = refl

pub picked_first : {X Y : Type 0} (h : X → Option Y) (x : X) (xs : List X)
    → filter_map h (x ∷ xs) ≡ option_to_list (h x) ++ filter_map h xs
picked_first h x xs = cons_is (h x) (filter_map h xs)

pub picked_last : {X Y : Type 0} (h : X → Option Y) (xs : List X) (i : ℕ) (d : X) → i < length xs
    → filter_map h (take (i + 1) xs) ≡ filter_map h (take i xs) ++ option_to_list (h (get_or xs i d))
picked_last h xs i d within =
    let next : i + 1 ≡ suc i = omega arith in
    ap (λ (k : ℕ). filter_map h (take k xs)) next ∙ ap (filter_map h) (take-suc xs i d within)
    ∙ filter_map-append h (take i xs) (get_or xs i d ∷ [])
    ∙ ap (λ ys. filter_map h (take i xs) ++ ys) (picked_first h (get_or xs i d) [] ∙ append-nil (option_to_list (h (get_or xs i d))))

pub picked_more : {X Y : Type 0} (h : X → Option Y) (xs : List X) (i : ℕ) (d : X) (o : Option Y) (ys zs : List Y) → i < length xs
    → ys ≡ filter_map h (take i xs) → o ≡ h (get_or xs i d) → zs ≡ ys ++ option_to_list o → zs ≡ filter_map h (take (i + 1) xs)
picked_more h xs i d o ys zs within begun is more =
    more ∙ ap (λ l. l ++ option_to_list o) begun ∙ ap (λ p. filter_map h (take i xs) ++ option_to_list p) is
    ∙ sym (picked_last h xs i d within)
