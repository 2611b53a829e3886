use Rattle.std.proofs.Common.{◌≡◌, ◌⊎◌, ◌∙◌, List, ℕ, subst}
use Rattle.hex.specs.Hex.{encode_lower}
use Rattle.trace.proofs.WayLemmas.{longer_to, way_is}
use Rattle.trace.specs.Masking.{IsLongest, IsMix, alone_first, alone_second, alone_third, lower}
use Rattle.trace.proofs.ways.Ways.longest.Goals as goal

pub returns : goal.returns
returns c password ways =
    let text = c.args.text.now in
    let hex : List ℕ → Type 0 = λ w. w ≡ encode_lower password in
    let first : List ℕ → Type 0 = λ w. w ≡ lower (alone_first password) in
    let second : List ℕ → Type 0 = λ w. w ≡ lower (alone_second password) in
    let third : List ℕ → Type 0 = λ w. w ≡ lower (alone_third password) in
    let mix = subst (λ (s : List ℕ). IsLongest (IsMix s) text c.mix-mix.result) ways.plain c.mix-mix.ensures in
    let by_hex = way_is text _ _ _ (c.as_bytes.ensures.value ∙ ways.hex) c.fixed-hex.ensures in
    let by_first = way_is text _ _ _ (c.as_slice.ensures.value ∙ ways.first) c.fixed-first.ensures in
    let by_second = way_is text _ _ _ (c.as_slice-2.ensures.value ∙ ways.second) c.fixed-second.ensures in
    let by_third = way_is text _ _ _ (c.as_slice-3.ensures.value ∙ ways.third) c.fixed-third.ensures in
    let late = longer_to second third text _ _ _ c.longer.ensures by_second by_third in
    let coded = longer_to first (λ w. second w ⊎ third w) text _ _ _ c.longer-2.ensures by_first late in
    let others = longer_to hex (λ w. first w ⊎ (second w ⊎ third w)) text _ _ _ c.longer-3.ensures by_hex coded in
    longer_to (IsMix password) (λ w. hex w ⊎ (first w ⊎ (second w ⊎ third w))) text _ _ _ c.longer-4.ensures mix others
