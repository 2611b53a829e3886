-- What a loss of power may leave of a file and of an entry in it, and what settling does to that file.
use Rattle.std.{
  proofs.Common.{◌≡◌, inl, inr, ℕ, ◌+◌, List, [], ◌∷◌, ◌++◌, length, take, Option, Some, None, is_some, take-append-drop, refl, sym, ap},
  proofs.Common.{◌∙◌, append_assoc, append-nil, false, ◌&&◌, drop, arith, length-append, ◌⊎◌, suc, ◌-◌, ◌≤◌, ◌%◌, true, subst, not, nat_eq},
  proofs.Common.◌==◌,
  proofs.lemmas.{Option.same_Some, List.{Elements.All-from_recursion, nil_from_length, same_from_push, Sums.list_all-from_AllPass}},
  proofs.lemmas.Bool.{and_cases, and_parts, and_right, eqb-true, ne_eqb, not-false, true≢false, false≢true, not_from_false, cases_Bool},
  proofs.lemmas.Bool.{cases_lt, or_right, true_from_ne_false, lt-ltb, le-leb, eq-eqb, Decides.{eqb_tells, Decides-eqb}},
  proofs.lemmas.Slice.Eq.ends_is,
  proofs.Math.{Logic.⊎_map, Seq.{take-append_seam, drop-append_seam}, Bool.{and-false, or-true}},
  specs.List.{list_all, starts_with, AllByRecursion},
}
use Rattle.memchr.{specs.Find.{FindsNeedle, OccursAt}, proofs.lemmas.MatchLemmas.{OccursAt-from_part, OccursAt-split}}
use Rattle.mail_terms.specs.Text.{HasNoLf, IsWhole}
use Rattle.mail_store.{
  specs.Power.{IsLonger, LeavesFront, LeavesLonger, LeavesAll, KeepsBytes},
  specs.Settling.{MayBeLeft, is_one_entry, block_size, is_lost, is_torn, begin_with, ends_empty, is_ours, is_entry, has_size, stands_whole},
  specs.Settling.{settled_file, LeftoversAreSettled, WholeEntriesCount},
  specs.Mboxrd.{lines_of, from_words, begins_entry, separator, quoted_text, entry_of, text_in, IsApart},
  proofs.MboxLemmas.{first_of, onto_parts, begins_with, unquotes_quoted, inner_apart, entry_bytes, entry_group, entry_lines, group_ends},
  proofs.MboxLemmas.entry_is_group,
}

-- what begins with these bytes
abbrev pub Begins : List ℕ → Option (List ℕ) → Type 0
Begins bytes left = (rest : List ℕ) × (left ≡ Some (bytes ++ rest))

-- still does if it is longer
begins_longer : (bytes : List ℕ) (was left : Option (List ℕ)) → Begins bytes was → IsLonger was left → Begins bytes left
begins_longer _ _ _ begins (inl same) = (begins.0, cc)
begins_longer bytes _ _ begins (inr (some, behind, is, longer)) = (
  begins.0 ++ behind,
  cc (same_Some some (bytes ++ begins.0) (sym is ∙ begins.1), append_assoc bytes begins.0 behind),
)

pub longer_keeps : (m m' : Option (List ℕ) → Type 0) → LeavesLonger m m' → KeepsBytes m m'
longer_keeps m _ longer = λ _ held _ may. let was = longer _ may in begins_longer _ _ _ (held was.0 was.1) was.2

-- durable bytes stay durable if more are appended and the file is cut back to them
pub cut_keeps : (m m' m'' : Option (List ℕ) → Type 0) (was front : List ℕ) (content : Option (List ℕ)) → LeavesAll m was
    → LeavesLonger m m' → content ≡ Some (was ++ front) → LeavesFront content (length was) m' m'' → LeavesAll m'' was
cut_keeps m m' _ was front _ durable longer is fronts = λ left may. elim (fronts (was ++ front) is left may) [
  | inl before ↦ longer_keeps m m' longer was durable left before
  | inr (behind, cut) ↦ (behind, cc (take-append_seam was front))
]

-- ---- what an append may leave

pub part_left : (place : ℕ) (part rest left : List ℕ) → MayBeLeft place part left → MayBeLeft place (part ++ rest) left
part_left _ _ _ [] _ = tt
part_left _ [] _ (_ ∷ _) may = absurd may
part_left place (_ ∷ words) rest (_ ∷ left) may = (may.0, part_left (place + 1) words rest left may.1)

pub all_left : (place : ℕ) (words : List ℕ) → MayBeLeft place words words
all_left _ [] = tt
all_left place (_ ∷ words) = (inl refl, all_left (place + 1) words)

-- an LF, and the bytes that an entry begins with
abbrev pub needle : List ℕ
needle = 10 ∷ from_words

-- the first line begins with words without LF exactly if the bytes do
first_begins : (words bytes : List ℕ) → HasNoLf words
    → starts_with nat_eq (first_of (lines_of bytes)) words ≡ starts_with nat_eq bytes words
first_begins [] _ _ = refl
first_begins (_ ∷ _) [] _ = refl
first_begins (word ∷ words) (byte ∷ rest) plain = elim (eqb_tells byte 10) [
  | inl p ↦ rw (p.1, ne_eqb word 10 plain.0) refl
  | inr p ↦ rw (p.0, (onto_parts byte (lines_of rest)).1) (cc (first_begins words rest plain.1))
]

lines_apart : (lines : List (List ℕ)) → list_all (λ line. not (begins_entry line)) lines ≡ (not (begins_entry (first_of lines)) && list_all
    (λ line. not (begins_entry line)) (drop 1 lines))
lines_apart [] = refl
lines_apart (_ ∷ _) = refl

one_entry_step : (byte : ℕ) (rest : List ℕ) → is_one_entry (byte ∷ rest) ≡ (not (byte == 10 && begins_entry rest) && is_one_entry rest)
one_entry_step byte rest = elim (eqb_tells byte 10) [
  | inl p ↦ rw (p.0, lines_apart, first_begins from_words rest (omega arith)) refl
  | inr p ↦ rw (p.0, (onto_parts byte (lines_of rest)).2) refl
]

-- if such a line follows, the needle is somewhere
needle_split : (bytes : List ℕ) → is_one_entry bytes ≡ false → (front : List ℕ) × (back : List ℕ) × (bytes ≡ front ++ (needle ++ back))
needle_split [] e = absurd (true≢false e)
needle_split (byte ∷ rest) e =
    elim (and_cases (not (byte == 10 && begins_entry rest)) (is_one_entry rest) (cc (one_entry_step byte rest))) [
      | inl here ↦
          let parts = and_parts (byte == 10) (begins_entry rest) (not-false _ here) in
          ([], drop 5 rest, cc (eqb-true byte 10 parts.0, begins_with rest parts.1))
      | inr later ↦
          let s = needle_split rest later in
          (byte ∷ s.0, s.1, cc)
    ]

-- and the other way round
needle_there : (front back : List ℕ) → is_one_entry (front ++ (needle ++ back)) ≡ false
needle_there [] back = one_entry_step 10 (from_words ++ back)
needle_there (byte ∷ front) back = one_entry_step byte (front ++ (needle ++ back)) ∙ and_right _ _ (needle_there front back)

needle_occurs : (front back : List ℕ) → OccursAt (front ++ (needle ++ back)) needle (length front)
needle_occurs front back = OccursAt-from_part (front ++ (needle ++ back)) needle (length front)
    (omega (arith, length-append front (needle ++ back))) (cc (drop-append_seam front (needle ++ back)))

-- a search for the needle finds such a line
pub found_entry : (bytes : List ℕ) (found : Option ℕ) → FindsNeedle bytes needle 0 found → is_some found ≡ not (is_one_entry bytes)
found_entry bytes (Some place) first = sym (ap not (rw (← OccursAt-split bytes needle place first.1, take-append-drop place bytes) at
    (needle_there (take place bytes) (drop (place + 6) bytes))))
found_entry bytes None none = sym (ap not (true_from_ne_false (is_one_entry bytes) (λ fails.
    let s = needle_split bytes fails in
    let occurs = subst (λ (l : List ℕ). OccursAt l needle (length s.0)) (sym s.2) (needle_occurs s.0 s.1) in
    none (length s.0) (omega arith) (omega (arith, occurs.fits)) occurs)))

-- ---- blocks

-- what is lost is zero, and what follows it within a block is lost too
pub lost_parts : (place byte : ℕ) (rest : List ℕ) → is_lost place (byte ∷ rest) ≡ true
    → (byte ≡ 0) × (((place + 1) % block_size ≡ 0 → ⊥) → is_lost (place + 1) rest ≡ true)
lost_parts place byte rest lost =
    let room : block_size - place % block_size ≡ suc (511 - place % block_size) = omega arith in
    let parts = and_parts (byte == 0) (list_all (λ b. b == 0) (take (511 - place % block_size) rest)) (rw room at lost) in (
      eqb-true byte 0 parts.0,
      λ inside. let next : block_size - (place + 1) % block_size ≡ 511 - place % block_size =
          omega (arith, inside) in rw next parts.1,
    )

-- the last byte is zero
abbrev pub EndsInZero : List ℕ → Type 0
EndsInZero bytes = (front : List ℕ) × (bytes ≡ front ++ 0 ∷ [])

-- a zero at the end of a block, or at the end of the bytes
abbrev Breaks : ℕ → List ℕ → Type 0
Breaks place bytes = (is_torn place bytes ≡ true) ⊎ EndsInZero bytes

breaks_later : (place byte : ℕ) (bytes : List ℕ) → Breaks (place + 1) bytes → Breaks place (byte ∷ bytes)
breaks_later place byte bytes = ⊎_map (or_right _ _) (λ last. (byte ∷ last.0, cc))

lost_breaks : (place byte : ℕ) (rest : List ℕ) → is_lost place (byte ∷ rest) ≡ true → Breaks place (byte ∷ rest)
lost_breaks place byte [] lost = inr ([], cc ((lost_parts place byte [] lost).0))
lost_breaks place byte (next ∷ more) lost = elim (eqb_tells ((place + 1) % block_size) 0) [
  | inl p ↦ inl (rw (p.0, eq-eqb byte 0 (lost_parts place byte (next ∷ more) lost).0) refl)
  | inr p ↦ breaks_later place byte (next ∷ more) (lost_breaks (place + 1) next more ((lost_parts place byte (next ∷ more) lost).1 p.1))
]

-- ---- what is left of an entry

left_short : (place : ℕ) (words left : List ℕ) → MayBeLeft place words left → length left ≤ length words
left_short place (_ ∷ words) (_ ∷ left) is = omega (arith, left_short (place + 1) words left is.1)
left_short _ _ [] _ = omega arith
left_short _ _ _ is = absurd is

same_or_broken : (place : ℕ) (words left : List ℕ) → MayBeLeft place words left → length left ≡ length words
    → (left ≡ words) ⊎ Breaks place left
same_or_broken _ [] [] _ _ = inl refl
same_or_broken place (word ∷ words) (byte ∷ left) is size = elim is.0 [
  | inr lost ↦ inr (lost_breaks _ _ _ lost)
  | inl same ↦ ⊎_map (λ all. ap (λ b. b ∷ left) same ∙ ap (λ l. word ∷ l) all) (breaks_later _ _ _)
      (same_or_broken (place + 1) words left is.1 (omega (arith, size)))
]
same_or_broken _ _ _ _ size = absurd (omega (arith, size))

left_begins : (place : ℕ) (words more left : List ℕ) → MayBeLeft place (words ++ more) left → begin_with place words left ≡ true
left_begins _ [] _ _ _ = refl
left_begins _ (_ ∷ _) _ [] _ = refl
left_begins place (word ∷ words) more (byte ∷ left) is = elim is.0 [
  | inl same ↦ rw (eq-eqb byte word same, left_begins (place + 1) words more left is.1) refl
  | inr lost ↦ rw (lost, or-true (byte == word), left_begins (place + 1) words more left is.1) refl
]

-- bytes without zeros were in the words
left_from : (place : ℕ) (front more words : List ℕ) → AllByRecursion (λ b. b ≡ 0 → ⊥) front
    → MayBeLeft place words (front ++ more) → (w : List ℕ) × (words ≡ front ++ w)
left_from _ [] _ words _ _ = (words, refl)
left_from _ (_ ∷ _) _ [] _ is = absurd is
left_from place (byte ∷ front) more (_ ∷ words) plain is = elim is.0 [
  | inl same ↦
      let w = left_from (place + 1) front more words plain.1 is.1 in
      (w.0, cc)
  | inr lost ↦ absurd (plain.0 (lost_parts _ _ _ lost).0)
]

-- nor do they get into the words from elsewhere
left_holds : (place : ℕ) (words front part more : List ℕ) → AllByRecursion (λ b. b ≡ 0 → ⊥) part
    → MayBeLeft place words (front ++ (part ++ more)) → (before : List ℕ) × (after : List ℕ) × (words ≡ before ++ (part ++ after))
left_holds _ _ [] _ _ plain is = let w = left_from _ _ _ _ plain is in ([], w.0, w.1)
left_holds place (word ∷ words) (_ ∷ front) part more plain is =
    let later = left_holds (place + 1) words front part more plain is.1 in
    (word ∷ later.0, later.1, cc)
left_holds _ _ _ _ _ _ is = absurd is

left_ours : (place : ℕ) (text left : List ℕ) → IsWhole text → MayBeLeft place (entry_of text) left → is_ours place left ≡ true
left_ours place text left whole is =
    let lines = (entry_group text).lines ++ (10 ∷ []) ∷ [] in
    let apart = inner_apart (entry_group text).lines (entry_is_group text whole).1 in
    let one = list_all-from_AllPass (λ line. not (begins_entry line)) lines
    (λ k d inside. not_from_false _ (All-from_recursion IsApart lines apart k d inside)) in
    let ours = true_from_ne_false (is_one_entry left) (λ fails.
    let found = needle_split left fails in
    let held = left_holds place (entry_of text) found.0 needle found.1 (omega arith) (subst (MayBeLeft place (entry_of text)) found.2 is) in
    true≢false (sym (rw (entry_lines text whole) one) ∙ ap is_one_entry held.2 ∙ needle_there held.0 held.1)) in
    rw (left_begins place separator (quoted_text text ++ 10 ∷ []) left is, ours) refl

-- ---- settling

-- it is whole
settles_whole : (start len : ℕ) (listed : Option ℕ) (was : List ℕ) → stands_whole start len listed was ≡ true
    → settled_file start len listed was ≡ was
settles_whole _ _ _ _ whole = simp (whole, and-false)

pub left_settled : LeftoversAreSettled
left_settled file text left listed whole is =
    let start = length file in
    let len = length (entry_of text) in
    let seam = drop-append_seam file left in
    elim (cases_Bool (stands_whole start len listed (file ++ left))) [
      | inl stands ↦
          let sized = and_parts (length left == len) (is_entry start left && has_size listed (text_in left)) (rw seam at stands) in
          let formed = and_parts (is_ours start left) (not (is_torn start left) && ends_empty left)
          (and_parts (is_entry start left) _ sized.1).0 in
          let ends = and_parts (not (is_torn start left)) (ends_empty left) formed.1 in
          elim (same_or_broken start (entry_of text) left is (eqb-true (length left) len sized.0)) [
            | inl same ↦ inl (stands, settles_whole _ _ _ _ stands, same)
            | inr (inl torn) ↦ absurd (true≢false (cc))
            | inr (inr last) ↦
                let front = take (length left - 2) left in
                let twice = (ends_is Decides-eqb left (10 ∷ 10 ∷ []) (ends_empty left) refl).0 ends.1 in
                absurd (omega (
                  arith,
                  (same_from_push last.0 (front ++ 10 ∷ []) 0 10 (sym last.1 ∙ twice ∙ sym (append_assoc front (10 ∷ []) (10 ∷ [])))).1,
                ))
          ]
      | inr fails ↦ inr (
        fails,
        elim (cases_lt 0 (length left)) [
          | inl some ↦ rw (
            fails,
            seam,
            lt-ltb 0 (length left) some,
            le-leb (length left) len (left_short start (entry_of text) left is),
            left_ours start text left whole is,
          ) (take-append_seam file left)
          | inr none ↦ rw (nil_from_length left (omega (arith, none)), drop-append_seam file []) (append-nil file)
        ],
      )
    ]

-- an entry has its text
entry_text : (text : List ℕ) → IsWhole text → text_in (entry_of text) ≡ text
entry_text text whole =
    let size : length (entry_of text) - (length separator + 1) ≡ length (quoted_text text) =
    omega (arith, length-append separator (quoted_text text ++ 10 ∷ []), length-append (quoted_text text) (10 ∷ [])) in
    rw (size, take-append_seam) (unquotes_quoted text whole)

pub whole_counts : WholeEntriesCount
whole_counts file text listed whole =
    let entry = entry_of text in
    let start = length file in
    let ends = group_ends _ (entry_is_group _ whole) in
    let empty = (ends_is Decides-eqb entry (10 ∷ 10 ∷ []) (ends_empty entry) refl).1 ends.0 (cc (entry_bytes text)) in
    let seam = drop-append_seam file entry in (
      λ sized unbroken.
          let stands : stands_whole start (length entry) listed (file ++ entry) ≡ true =
          rw (
            seam,
            eq-eqb (length entry) (length entry) refl,
            left_ours start text entry whole (all_left start entry),
            unbroken,
            empty,
            entry_text text whole,
            sized,
          ) in
          (stands, settles_whole _ _ _ _ stands, refl),
      λ other. elim (left_settled file text entry listed whole (all_left start entry)) [
        | inl is ↦ absurd (false≢true (rw (
          seam,
          entry_text text whole,
          other,
          and-false (is_entry start entry),
          and-false (length entry == length entry),
        ) at is.0))
        | inr is ↦ is
      ],
    )
