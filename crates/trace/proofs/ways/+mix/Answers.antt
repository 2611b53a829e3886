use Rattle.std.proofs.Common.{◌∙◌, ◌∷◌, ℕ, List, [], ap, arith, refl}
use Rattle.hex.{proofs.HexLemmas.length-encode_with, specs.Hex.{lower_digits}}
use Rattle.trace.specs.Masking.{IsMix}
use Rattle.trace.proofs.WayLemmas.{mix_is, step_to}
use Rattle.trace.proofs.ways.+mix.Goals as goal

pub returns-in-Some : goal.returns-in-Some
returns-in-Some t c =
    let rest = c.in-Some.rest.now in
    let text = c.in_ok-text.text.now in
    let lower = c.as_slice.ensures ∙ ap (λ (x : ℕ). x ∷ []) c.to_ascii_lowercase.ensures.value in
    let plain = step_to (IsMix rest) _ _ text _ _ _ 1 lower refl c.with_front.ensures c.after-plain.ensures c.mix.ensures in
    let two = length-encode_with lower_digits (c.in-Some.octet ∷ []) in
    let escape = c.as_slice-in-Some.ensures ∙ c.percent_encoded.ensures in
    let encoded = step_to (IsMix rest) _ _ text _ _ _ 3 escape (omega (arith, two)) c.with_front-in-Some.ensures
    c.after-encoded.ensures c.mix-in-Some.ensures in
    rw c.in_ok-text.was (mix_is c.args.password.now c.in-Some.octet rest text _ _ _ c.in-Some.ensures c.longer.ensures plain encoded)
