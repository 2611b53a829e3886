-- Which octets are text.
use Rattle.std.{
  proofs.{
    Common.{◌≡◌, ℕ, List, false, refl, true},
    lemmas.Str.{IsUtf8-from_is_utf8, is_utf8-from_IsUtf8},
  },
  specs.Str.{IsUtf8, is_utf8},
}

pub text_of_utf8 : (octets : List ℕ) → IsUtf8 octets → true ≡ is_utf8 octets
text_of_utf8 octets is = rw (is_utf8-from_IsUtf8 octets is) refl

pub text_of_other : (octets : List ℕ) → (IsUtf8 octets → ⊥) → false ≡ is_utf8 octets
text_of_other octets broken =
    elim (is_utf8 octets) as (λ b. is_utf8 octets ≡ b → false ≡ b) [
      | true ↦ λ e. absurd (broken (IsUtf8-from_is_utf8 octets e))
      | false ↦ λ e. refl
    ] refl
