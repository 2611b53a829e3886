-- A digest in hexadecimal is a legal id.
use Rattle.std.{
  proofs.Common.{◌≡◌, ℕ, suc, ◌/◌, ◌%◌, ◌<◌, true, List, [], ◌∷◌, get_or, refl, arith, slice_index},
  proofs.lemmas.{Bool.and_from, List.Sums.AllPass-from_list_all},
  specs.List.list_all,
}
use Rattle.hex.specs.Hex.{encode_with, encode_lower, lower_digits}
use Rattle.mail_terms.specs.UniqueId.{is_id_byte}

digit_visible : (k : ℕ) → k < 16 → is_id_byte (slice_index lower_digits k) ≡ true
digit_visible k h = AllPass-from_list_all is_id_byte lower_digits refl k 0 h

-- each digit of bytes in hexadecimal is a character of an id
pub visible_hex : (bytes : List ℕ) → ((i : ℕ) → get_or bytes i 0 < 256) → list_all is_id_byte (encode_lower bytes) ≡ true
unfolding encode_with
visible_hex [] fits = refl
visible_hex (byte ∷ bytes) fits =
    let low : byte < 256 = fits 0 in
    and_from _ _ (digit_visible (byte / 16) (omega (arith, low)))
    (and_from _ _ (digit_visible (byte % 16) (omega arith)) (visible_hex bytes (λ i. fits (suc i))))
