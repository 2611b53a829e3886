-- The lines of the record's file: numerals, and how lines are cut.
use Rattle.std.{
  proofs.Common.{All, Bool, Bor, IfNone, IfSome, List, MatchOption, None, Option, Some, [], ap, append_assoc, ap₂, arith, decimal, drop, ℕ},
  proofs.Common.{false, get_or, if◌then◌else◌, inl, inr, length, lit<, nat_eq, nat_le, nat_lt, refl, subst, sym, take, true, ◌&&◌, ◌++◌},
  proofs.Common.{◌+◌, ◌-◌, ◌<◌, ◌^◌, ◌∙◌, ◌∷◌, ◌≡◌, ◌≢◌, ◌≤◌},
  proofs.lemmas.{Bool.{and_parts, cases_eq, leb-true, Decides.Decides-eqb}, List.{Elements.recursion_from_All, length-append}},
  proofs.lemmas.{Fmt.{decimal-digits_value, decimal_digit, decimal_injective, decimal_is_IsNumeral, first_decimal}, Str.Parse.digit_at},
  proofs.{Math.Seq.{drop-append_seam, take-append_seam}, lemmas.{Option.{cond_some, none-some}, Slice.Eq.strip_prefix_is}},
  specs.{Char.is_ascii_digit, Cmp.Lexicographic.pointwise, Str.Parse.digits_value, List.{AllByRecursion, list_all}},
}
use Rattle.mail_terms.{
  specs.{Numeral.{greatest_size, is_numeral, numeral_value}, UniqueId.IsLegalId},
  proofs.{IdLemmas.id_characters, NumeralLemmas.{HasNo, HasNo-decimal, by_test, digits_same, numeral_value-decimal}},
}
use Rattle.fetch_record.specs.{
  Record.{Intent, Row},
  RecordFile.{GroupLine, IntentLine, IsRecordLine, Line, RowLine, group_line, intent_line, record_row_line, delivered_octets, record_line},
}

-- ---- lines in front of others

-- what was appended and then turned to the front is in front
pub rotated : (xs ys : List ℕ)
    → drop (length (xs ++ ys) - length ys) (xs ++ ys) ++ take (length (xs ++ ys) - length ys) (xs ++ ys) ≡ ys ++ xs
rotated xs ys = rw (seam, drop-append_seam xs ys, take-append_seam xs ys) refl
  where
    seam : length (xs ++ ys) - length ys ≡ length xs
    seam = omega (arith, length-append xs ys)

-- ---- numerals without leading zeros

-- the bytes begin with a digit, the only byte if it is 0
abbrev pub BeginsAsNumeral : List ℕ → Type 0
BeginsAsNumeral field = (0 < length field) × (48 ≤ get_or field 0 0) × (get_or field 0 0 ≤ 57) × (get_or field 0 0 ≡ 48 → length field ≡ 1)

pub begins_as_numeral : (n : ℕ) → n < 2 ^ 64 → BeginsAsNumeral (decimal n)
begins_as_numeral n fits = elim (cases_eq n 0) [
  | inl none ↦ rw (none, decimal_digit 0 (lit< tt)) (omega arith, omega arith, omega arith, λ _. refl)
  | inr more ↦
      let numeral = (decimal_is_IsNumeral n fits).0 in
      let first = digit_at (decimal n) 0 numeral.1 numeral.0 in
      let above = first_decimal n (omega (arith, more)) fits in
      (numeral.0, first.0, first.1, λ same. absurd (omega (arith, same, above)))
]

-- what is read from a numeral without leading zeros is the number that it writes
decimal_from_numeral : (field : List ℕ) (number : ℕ) → BeginsAsNumeral field → numeral_value field ≡ Some number → field ≡ decimal number
decimal_from_numeral field number begins read =
    let found = cond_some _ _ _ read in
    let tests = and_parts (is_numeral field) (nat_le (digits_value 10 field) greatest_size) found.0 in
    let digits = (and_parts (nat_lt 0 (length field) && nat_le (length field) 20) (list_all is_ascii_digit field) tests.0).1 in
    cc (decimal-digits_value by_test field (sym (digits_same field) ∙ digits) begins.0 begins.3
    (omega (arith, leb-true (digits_value 10 field) greatest_size tests.1)))

pub number_found : (field : List ℕ) (read : Option ℕ) → BeginsAsNumeral field → read ≡ numeral_value field
    → IfSome read (λ number. field ≡ decimal number)
number_found _ None _ _ = tt
number_found _ (Some _) begins same = decimal_from_numeral _ _ begins (sym same)

pub no_number : (field : List ℕ) (read : Option ℕ) → read ≡ numeral_value field
    → IfNone read ((number : ℕ) → number < 2 ^ 64 → field ≢ decimal number)
no_number _ None same = λ number fits is. none-some number (cc (numeral_value-decimal number fits))
no_number _ (Some _) _ = tt

-- ---- what is cut at a byte that doesn't occur

pub same_cons : {c d : ℕ} {a b : List ℕ} → c ∷ a ≡ d ∷ b → (c ≡ d) × (a ≡ b)
same_cons e = (cc, cc)

pub cut_unique : (s t : ℕ) (a b x y : List ℕ) → HasNo t a → HasNo s b → a ++ s ∷ x ≡ b ++ t ∷ y → (a ≡ b) × (s ≡ t) × (x ≡ y)
cut_unique s t [] [] x y p q e = (refl, (same_cons e).0, (same_cons e).1)
cut_unique s t [] (d ∷ b) x y p q e = absurd (q.0 (sym (same_cons e).0))
cut_unique s t (c ∷ a) [] x y p q e = absurd (p.0 (same_cons e).0)
cut_unique s t (c ∷ a) (d ∷ b) x y p q e =
    let parts = same_cons e in
    let rest = cut_unique s t a b x y p.1 q.1 parts.1 in
    (ap₂ (λ k xs. k ∷ xs) parts.0 rest.0, rest.1, rest.2)

-- what lacks the byte isn't cut there
uncut : (s : ℕ) (a y : List ℕ) → HasNo s (a ++ s ∷ y) → ⊥
uncut s [] y none = none.0 refl
uncut s (c ∷ a) y none = uncut s a y none.1

HasNo-id : (s : ℕ) → s < 0x21 → (uid : List ℕ) → IsLegalId uid → HasNo s uid
HasNo-id s below uid legal =
    recursion_from_All _ uid (λ k d inside same. omega (arith, (id_characters uid legal k d inside).0, same, below))

-- ---- the fields of a line

pub line_split : (row : Row) (behind : List ℕ) → record_row_line row ++ behind ≡ row.uid
    ++ 32 ∷ (decimal row.first_seen ++ 32 ∷ (delivered_octets row.delivered ++ behind))
line_split _ _ = simp append_assoc

group_split : (n : ℕ) (behind : List ℕ) → group_line n ++ behind ≡ 43 ∷ 32 ∷ (decimal n ++ 10 ∷ behind)
group_split n _ = simp append_assoc

intent_split : (intent : Intent) (behind : List ℕ) → intent_line intent ++ behind
    ≡ 33 ∷ 32 ∷ (intent.uid ++ 32 ∷ (decimal intent.start ++ 32 ∷ (decimal intent.len ++ 10 ∷ behind)))
intent_split _ _ = simp append_assoc

abbrev digit : Bool → ℕ
digit d = if d then 49 else 48

state_text : (d : Bool) (behind : List ℕ) → delivered_octets d ++ behind ≡ digit d ∷ 10 ∷ behind
state_text true _ = refl
state_text false _ = refl

-- what follows the sign of a group's line
pub behind_sign : (bytes line : List ℕ) (count : ℕ) (behind : List ℕ) → bytes ≡ 43 ∷ 32 ∷ line
    → bytes ≡ group_line count ++ behind → line ≡ decimal count ++ 10 ∷ behind
behind_sign _ _ count behind bytes_are is = cc ((same_cons (same_cons (sym bytes_are ∙ is ∙ group_split count behind)).1).1)

-- and of an intent's line
pub behind_intent_sign : (bytes line : List ℕ) (intent : Intent) (behind : List ℕ) → bytes ≡ 33 ∷ 32 ∷ line
    → bytes ≡ intent_line intent ++ behind → line ≡ intent.uid ++ 32 ∷ (decimal intent.start ++ 32 ∷ (decimal intent.len ++ 10 ∷ behind))
behind_intent_sign _ _ intent behind bytes_are is = cc ((same_cons (same_cons (sym bytes_are ∙ is ∙ intent_split intent behind)).1).1)

-- ---- a line is its fields, with a space between two of them, and LF

-- the first field, and the others
abbrev fields : Line → List ℕ × List (List ℕ)
fields (RowLine row) = (row.uid, decimal row.first_seen ∷ (digit row.delivered ∷ []) ∷ [])
fields (GroupLine n) = (43 ∷ [], decimal n ∷ [])
fields (IntentLine i) = (33 ∷ [], i.uid ∷ decimal i.start ∷ decimal i.len ∷ [])

abbrev spaced : List ℕ → List (List ℕ) → List ℕ
spaced field [] = field
spaced field (next ∷ more) = field ++ 32 ∷ spaced next more

abbrev pub body : Line → List ℕ
body line = spaced (fields line).0 (fields line).1

-- no byte of a field is a space or below
clean_fields : (line : Line) → IsRecordLine line → (s : ℕ) → s ≤ 32 → AllByRecursion (HasNo s) ((fields line).0 ∷ (fields line).1)
clean_fields (RowLine row) is s low = (
  HasNo-id s (omega (arith, low)) _ is.legal,
  (
    HasNo-decimal s (omega (arith, low)) _ is.fits,
    (((λ same. grind (arith, low, same)), tt), tt),
  ),
)
clean_fields (GroupLine n) is s low =
    (((λ same. omega (arith, low, same)), tt), (HasNo-decimal s (omega (arith, low)) n (omega (arith, is.1)), tt))
clean_fields (IntentLine i) is s low = (
  ((λ same. omega (arith, low, same)), tt),
  (
    HasNo-id s (omega (arith, low)) _ is.legal,
    (
      HasNo-decimal s (omega (arith, low)) _ is.start,
      (HasNo-decimal s (omega (arith, low)) _ is.len, tt),
    ),
  ),
)

clean_joined : (s : ℕ) → s < 32 → (field : List ℕ) (more : List (List ℕ)) → AllByRecursion (HasNo s) (field ∷ more)
    → HasNo s (spaced field more)
clean_joined s _ _ [] each = each.0
clean_joined s low [] (next ∷ more) each = ((λ same. omega (arith, low, same)), clean_joined s low next more each.1)
clean_joined s low (_ ∷ field) (next ∷ more) each = (each.0.0, clean_joined s low field (next ∷ more) (each.0.1, each.1))

pub clean_body : (line : Line) → IsRecordLine line → (s : ℕ) → s < 32 → HasNo s (body line)
clean_body line is s low = clean_joined s low _ _ (clean_fields _ is s (omega (arith, low)))

pub body_text : (line : Line) (behind : List ℕ) → record_line line ++ behind ≡ body line ++ 10 ∷ behind
body_text (RowLine row) behind = line_split _ _ ∙ rw state_text (sym (simp append_assoc))
body_text (GroupLine n) _ = group_split n _
body_text (IntentLine i) behind = intent_split i _ ∙ sym (simp append_assoc)

same_fields : (a b : List ℕ) (fs gs : List (List ℕ)) → AllByRecursion (HasNo 32) (a ∷ fs)
    → AllByRecursion (HasNo 32) (b ∷ gs) → spaced a fs ≡ spaced b gs → (a ≡ b) × (fs ≡ gs)
same_fields a b [] [] p q e = (e, refl)
same_fields a b [] (d ∷ _) p q e = absurd (uncut 32 b _ (subst (HasNo 32) e p.0))
same_fields a b (c ∷ _) [] p q e = absurd (uncut 32 a _ (subst (HasNo 32) (sym e) q.0))
same_fields a b (c ∷ fs) (d ∷ gs) p q e =
    let parts = cut_unique 32 32 a b _ _ p.0 q.0 e in
    let rest = same_fields c d fs gs p.1 q.1 parts.2 in
    (parts.0, ap₂ (λ x xs. x ∷ xs) rest.0 rest.1)

same_line : (a b : Line) → IsRecordLine a → IsRecordLine b → (fields a).0 ≡ (fields b).0 → (fields a).1 ≡ (fields b).1 → a ≡ b
same_line (RowLine a) (RowLine b) is_a is_b first rest =
    let second : a.first_seen ≡ b.first_seen = decimal_injective _ _ is_a.fits is_b.fits cc in
    let third : digit a.delivered ≡ digit b.delivered = cc in
    let states : a.delivered ≡ b.delivered = grind (arith, third) in
    λ i. RowLine (record { uid = first i; first_seen = second i; delivered = states i })
same_line (GroupLine m) (GroupLine n) is_m is_n _ rest =
    ap GroupLine (decimal_injective m n (omega (arith, is_m.1)) (omega (arith, is_n.1)) cc)
same_line (IntentLine a) (IntentLine b) is_a is_b first rest =
    let second : a.uid ≡ b.uid = cc in
    let third : a.start ≡ b.start = decimal_injective _ _ is_a.start is_b.start cc in
    let fourth : a.len ≡ b.len = decimal_injective _ _ is_a.len is_b.len cc in
    λ i. IntentLine (record { uid = second i; start = third i; len = fourth i })
same_line a b is_a is_b first rest = absurd cc

pub text_unique : (a b : Line) (x y : List ℕ) → IsRecordLine a → IsRecordLine b
    → record_line a ++ x ≡ record_line b ++ y → (a ≡ b) × (x ≡ y)
text_unique a b x y is_a is_b e =
    let cut = cut_unique 10 10 _ _ x y (clean_body a is_a 10 (omega arith))
    (clean_body b is_b 10 (omega arith)) (cc (body_text a x, body_text b y)) in
    let same = same_fields _ _ _ _ (clean_fields a is_a 32 (omega arith)) (clean_fields b is_b 32 (omega arith)) cut.0 in
    (same_line a b is_a is_b same.0 same.1, cut.2)

-- what has no LF holds no line
pub no_line : (rest : List ℕ) → HasNo 10 rest → (line : Line) (behind : List ℕ) → IsRecordLine line → rest ≡ record_line line ++ behind → ⊥
no_line _ none _ _ _ e = uncut 10 _ _ (subst (HasNo 10) (e ∙ body_text _ _) none)

-- ---- the fields that a reader takes

-- what follows a legal id and a space
pub behind_id : (line uid rest expected tail : List ℕ) → IsLegalId uid → IsLegalId expected → line ≡ uid ++ 32 ∷ rest
    → line ≡ expected ++ 32 ∷ tail → rest ≡ tail
behind_id _ uid rest expected tail legal legal' cut e =
    cc ((cut_unique 32 32 uid expected rest tail (HasNo-id 32 (omega arith) uid legal)
    (HasNo-id 32 (omega arith) expected legal') (sym cut ∙ e)).2)

-- a number and what follows its separator
pub number_behind : (s : ℕ) (line : List ℕ) (number : ℕ) (rest : List ℕ) (expected : ℕ) (tail : List ℕ) → s < 48
    → number < 2 ^ 64 → expected < 2 ^ 64
    → line ≡ decimal number ++ s ∷ rest → line ≡ decimal expected ++ s ∷ tail → (number ≡ expected) × (rest ≡ tail)
number_behind s _ number rest expected tail small fits fits' cut e =
    let parts = cut_unique s s _ _ _ _ (HasNo-decimal s small _ fits) (HasNo-decimal s small _ fits') (cc) in
    (decimal_injective _ _ fits fits' parts.0, parts.2)

-- what was stripped
pub stripped : (prefix bytes : List ℕ) (rest : Bor (List ℕ))
    → MatchOption (Some rest) (pointwise nat_eq (take (length prefix) bytes) prefix ≡ false)
    (λ x. (pointwise nat_eq (take (length prefix) bytes) prefix ≡ true) × (x.now ≡ drop (length prefix) bytes)
    × (length x.now + length prefix ≡ length bytes)) → bytes ≡ prefix ++ rest.now
stripped prefix bytes rest cases = strip_prefix_is Decides-eqb bytes prefix (Some rest) cases

-- the fields that are cut at a separator
pub field_id : (line uid rest expected tail : List ℕ) → line ≡ uid ++ 32 ∷ rest → All (λ byte. byte ≢ 32) uid
    → IsLegalId expected → line ≡ expected ++ 32 ∷ tail → uid ≡ expected
field_id _ uid rest expected tail cut none legal e =
    cc ((cut_unique 32 32 uid expected rest tail (recursion_from_All _ uid none)
    (HasNo-id 32 (omega arith) expected legal) (sym cut ∙ e)).0)

pub field_number : (s : ℕ) (line number rest : List ℕ) (n : ℕ) (tail : List ℕ) → s < 48 → n < 2 ^ 64
    → line ≡ number ++ s ∷ rest → All (λ byte. byte ≢ s) number → line ≡ decimal n ++ s ∷ tail → number ≡ decimal n
field_number s _ number rest n tail small fits cut none e =
    cc ((cut_unique s s number (decimal n) rest tail (recursion_from_All _ number none) (HasNo-decimal s small n fits) (sym cut ∙ e)).0)

pub no_field : (s : ℕ) (line expected tail : List ℕ) → All (λ byte. byte ≢ s) line → line ≡ expected ++ s ∷ tail → ⊥
no_field s line _ _ none e = uncut s _ _ (subst (HasNo s) e (recursion_from_All _ line none))

pub ruleset number_laws = (begins_as_numeral, number_found, no_number)
