-- Unique-ids: their characters, and what compares them.
use Rattle.std.{
  proofs.Common.{All, Bool, Bor, IsUtf8, List, [], arith, bytes_eq, cond, false, get_or, inl, inr, is_eq, length, map, nat_cmp, nat_le, ℕ},
  proofs.Common.{refl, sym, true, ◌||◌, ◌∙◌, ◌∷◌, ◌≡◌, ◌≢◌, ◌≤◌},
  proofs.lemmas.{Bool.{and_parts, cases_lt, false_from_ne_true, leb-true}, Cmp.nat_list_eq_equiv, Map.Text.is_eq-slice_cmp},
  proofs.lemmas.{List.{get_or_past, Sums.AllPass-from_list_all}, Slice.Eq.bytes_eq-Decides, Str.IsUtf8-from_ascii},
  specs.{Cmp.Lexicographic.slice_cmp, List.{list_all, list_any}},
}
use Rattle.mail_terms.specs.{Listing.Item, UniqueId.{IsLegalId, has_id, is_id_byte}}

pub same_from_test : (a b : List ℕ) → bytes_eq a b ≡ true → a ≡ b
same_from_test a b test = (bytes_eq-Decides a b).0 test

pub test_from_same : (a b : List ℕ) → a ≡ b → bytes_eq a b ≡ true
test_from_same a b same = (bytes_eq-Decides a b).1 same

pub test_from_other : (a b : List ℕ) → a ≢ b → bytes_eq a b ≡ false
test_from_other a b other = false_from_ne_true _ (λ test. other (same_from_test a b test))

-- what a legal id holds
pub id_characters : (id : List ℕ) → IsLegalId id → All (λ byte. (0x21 ≤ byte) × (byte ≤ 0x7E)) id
id_characters id legal = λ k d inside.
    let parts = and_parts (nat_le 0x21 (get_or id k d)) (nat_le (get_or id k d) 0x7E)
    (AllPass-from_list_all is_id_byte id (and_parts _ (list_all is_id_byte id) legal).1 k d inside) in
    (leb-true 0x21 _ parts.0, leb-true _ 0x7E parts.1)

pub utf8_id : (id : List ℕ) → IsLegalId id → IsUtf8 id
utf8_id id legal = IsUtf8-from_ascii id (λ k. elim (cases_lt k (length id)) [
  | inl inside ↦ let within = id_characters id legal k 0 inside in omega (arith, within.1)
  | inr past ↦ let e = get_or_past id k 0 past in omega (arith, e)
])

abbrev pub has_key : List (Bor (List ℕ)) → List ℕ → Bool
has_key keys uid = list_any (λ other. is_eq (slice_cmp nat_cmp uid other.now)) keys

pub has_id_keys : (uid : List ℕ) (keys : List (Bor (List ℕ))) → has_key keys uid ≡ has_id (map (λ id. id.now) keys) uid
has_id_keys uid [] = refl
has_id_keys uid (key ∷ keys) = rw (is_eq-slice_cmp uid key.now, has_id_keys uid keys) refl

pub has_id_more : (id uid : List ℕ) (keys keys' : List (Bor (List ℕ))) (ids : List (List ℕ)) → map (λ key. key.now) keys ≡ ids
    → has_key keys' id ≡ cond (is_eq (slice_cmp nat_cmp uid id)) true (has_key keys id)
    → has_id (map (λ key. key.now) keys') id ≡ (bytes_eq id uid || has_id ids id)
has_id_more id uid keys keys' ids ids_are updated =
    sym (has_id_keys id keys') ∙ updated
    ∙ rw (is_eq-slice_cmp uid id, nat_list_eq_equiv.symm uid id, has_id_keys id keys, ids_are) (grind arith)

-- stands at the places past the end of a listing
abbrev pub nobody : Item
nobody = record { uid = []; size = 0 }
