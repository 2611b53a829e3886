-- What was kept aside, piece by piece.
use Rattle.std.proofs.Common.{arith, ap, sym, ⊎_elim, ◌∙◌, ◌≡◌, ◌⊎◌, ◌<◌, ◌≤◌, ◌+◌, ◌-◌, ℕ, List, drop, inl, inr, length, take, slice_index}
use Rattle.std.proofs.lemmas.{Bool.cases_lt, List.{get_or-drop, get_or-take, length-take}}
use Rattle.mail_store.specs.FlatFile.{piece_at}
use Rattle.folder_store.specs.{CutOff.BeginsWith, declared.cut_off.CutOff.CutOff}

-- what of an entry comes behind
abbrev rest_at : ℕ → List ℕ → List ℕ
rest_at at entry = take (length entry - at) (drop at entry)

-- so far an entry has what was kept; zeros don't count
abbrev pub AgreesTo : ℕ → (entry was : List ℕ) → Type 0
AgreesTo at entry was =
    (k : ℕ) → k < at → k < length was → (slice_index was k ≡ 0) ⊎ (slice_index was k ≡ slice_index entry k)

agrees_at : (at count : ℕ) (entry was buf : List ℕ) → count ≡ length (piece_at at (length buf) was)
    → take count buf ≡ piece_at at (length buf) was → BeginsWith (rest_at at entry) (take count buf)
    → AgreesTo at entry was → (k : ℕ) → k < at + count → k < length was
    → (k < at) ⊎ (at ≤ k) → (slice_index was k ≡ 0) ⊎ (slice_index was k ≡ slice_index entry k)
agrees_at at count entry was buf counted piece begins agrees k below there (inl before) = agrees k before there
agrees_at at count entry was buf counted piece begins agrees k below there (inr behind) =
    let long : length (take count buf) ≡ count = ap (λ (xs : List ℕ). length xs) piece ∙ sym counted in
    let here = begins.1 (k - at) (omega (arith, long, below, behind)) in
    let back : at + (k - at) ≡ k = omega (arith, behind) in
    let within : k - at < length buf = omega (arith, counted, below, behind, length-take (length buf) (drop at was)) in
    let read : slice_index (take count buf) (k - at) ≡ slice_index was k =
    ap (λ (xs : List ℕ). slice_index xs (k - at)) piece ∙ get_or-take (length buf) (drop at was) (k - at) 0 within
    ∙ get_or-drop at was (k - at) 0 ∙ ap (slice_index was) back in
    let long_rest = length-take (length entry - at) (drop at entry) in
    let inside : k - at < length entry - at = omega (arith, long, below, behind, begins.0, long_rest) in
    let other : slice_index (rest_at at entry) (k - at) ≡ slice_index entry k =
    get_or-take (length entry - at) (drop at entry) (k - at) 0 inside ∙ get_or-drop at entry (k - at) 0
    ∙ ap (slice_index entry) back in
    ⊎_elim (λ none. inl (sym read ∙ none)) (λ same. inr (sym read ∙ same ∙ other)) here

-- one more piece
pub agrees_on : (at count : ℕ) (entry was buf : List ℕ) → count ≡ length (piece_at at (length buf) was)
    → take count buf ≡ piece_at at (length buf) was → BeginsWith (rest_at at entry) (take count buf)
    → AgreesTo at entry was → AgreesTo (at + count) entry was
agrees_on at count entry was buf counted piece begins agrees k below there =
    agrees_at at count entry was buf counted piece begins agrees k below there (cases_lt k at)

-- it is a piece of the entry
pub piece_fits : (at count : ℕ) (entry buf : List ℕ) → at ≤ length entry → count ≤ length buf
    → BeginsWith (rest_at at entry) (take count buf) → at + count ≤ length entry
piece_fits at count entry buf within room begins =
    omega (arith, within, room, begins.0, length-take count buf, length-take (length entry - at) (drop at entry))

-- only the folder changed, once more
pub folder_alone : {F : Type 0} (k was : CutOff F) (folder : F) → k ≡ record was { folder = k.folder }
    → record k { folder = folder } ≡ record was { folder = folder }
folder_alone k was folder is = cc is
