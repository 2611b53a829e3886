-- What is between a front and an end; and lists of names.
use Rattle.std.specs.List.{AllWithin}
use Rattle.std.proofs.{
  Common.{◌≡◌, ◌↔◌, ◌++◌, ◌∙◌, ◌<◌, ℕ, Bool, List, [], ◌∷◌, IsTrue, ap, arith, drop, length, length-append, map, subst, sym, take},
  Common.true,
  Math.Seq.{drop-append_seam, take-append_seam},
  lemmas.List.{get_or-map, length-map},
}
use Rattle.std.specs.Prelude.{IfNone, IfSome, None, Option, Some, option_map}
use Rattle.getmail_setup.specs.InPlace.{HasNone, IsFullList, TellsAmong}

same_between : (front end x y : List ℕ) → front ++ (x ++ end) ≡ front ++ (y ++ end) → x ≡ y
same_between front end x y same =
    let rest : x ++ end ≡ y ++ end =
    sym (drop-append_seam front (x ++ end)) ∙ (ap (drop (length front)) same ∙ drop-append_seam front (y ++ end)) in
    let whole = sym (length-append x end) ∙ (ap length rest ∙ length-append y end) in
    let sizes : length x ≡ length y = omega (arith, whole) in
    sym (take-append_seam x end) ∙ (ap (take (length x)) rest ∙ (ap (λ n. take n (y ++ end)) sizes ∙ take-append_seam y end))

-- a test of what is between them says whether a text is of that form
pub is_between : (P : List ℕ → Bool) (front text rest part end last : List ℕ) (r : Bool) → text ≡ front ++ rest → rest ≡ part ++ last
    → last ≡ end → r ≡ P part → IsTrue r ↔ ((x : List ℕ) × (P x ≡ true) × (text ≡ front ++ (x ++ end)))
is_between P front text rest part end last r begins ends same is =
    let whole : text ≡ front ++ (part ++ end) = begins ∙ ap (λ t. front ++ t) (ends ∙ ap (λ t. part ++ t) same) in (
      λ yes. (part, sym is ∙ yes, whole),
      λ found. is ∙ subst (λ t. P t ≡ true) (same_between front end found.0 part (sym found.2 ∙ whole)) found.1,
    )

-- what holds of the image of each item holds of each item of the images
pub images_all : {X Y : Type 0} (f : X → Y) (P : Y → Type 0) (xs : List X) → AllWithin (λ x. P (f x)) xs 0 (length xs)
    → AllWithin P (map f xs) 0 (length (map f xs))
images_all f P [] all = λ k d low high. absurd (omega (arith, high))
images_all f P (x ∷ xs) all = λ k d low high.
    let within = subst (λ n. k < n) (length-map (x ∷ xs) f) high in
    subst P (sym (get_or-map f (x ∷ xs) k x d within)) (all k x low within)

-- what is found among some names, by their octets
pub tells_among : {S : Type 0} (said : List ℕ → Bool → Type 0) (folder username : List ℕ) (bytes : S → List ℕ) (names : List S)
    (found : Option S) → IfSome found (λ path. IsFullList said folder username (bytes path))
    → IfNone found (AllWithin (λ name. HasNone said folder username (bytes name)) names 0 (length names))
    → TellsAmong said folder username (map bytes names) (option_map bytes found)
tells_among said folder username bytes names None some none = images_all bytes (HasNone said folder username) names none
tells_among said folder username bytes names (Some path) some none = some
