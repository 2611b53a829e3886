-- What the bytes of a record's file stand for, and what an appended group or intent does to that: whole, cut short, or
-- after a loss of power.
use Rattle.std.{
  proofs.Common.{Bool, List, None, Option, Some, ap, append-nil, append_assoc, ap₂, arith, cond, false, flat_map, get_or, inl, inr, length},
  proofs.Common.{length-append, not, refl, subst, suc, sym, true, true≢false, zero, ℕ, ◌++◌, ◌+◌, ◌==◌, ◌||◌, ◌∙◌, ◌∷◌, ◌≡◌, ◌≢◌, map, ◌-◌},
  proofs.Common.{ne_eqb, ◌<◌, ◌≤◌, ◌⊎◌, []},
  proofs.Math.Bool.{or-false, or-true},
  proofs.lemmas.Bool.{and_from, and_parts, cases_Bool, cond_both, or_cases, or_left, or_right, eq-eqb, not-false, not-true, or_parts},
  proofs.lemmas.Bool.Decides.eqb_tells,
  proofs.lemmas.List.{Concat.flat_map-append, Elements.{All-append, All-from_recursion, All-nil, recursion_from_All, All-map}},
  proofs.lemmas.List.Folds.{Any-from_list_any, list_any-from_Any, flat_map-map, list_any-append},
  specs.List.AllByRecursion,
}
use Rattle.fetch_record.{
  specs.{Intents.IsNoneOrOf, declared.seen.SeenFault.{SeenFault, TheVariants.{RepeatedId, BadRow}}},
  specs.{Record.{Intent, IntentHasRow, IsIntent, Row, has_row, IsRecord, IsRow}, RecordTorn.{IsPartOf, TornIsIgnoredOrSeen, ends_at_zero}},
  specs.RecordFile.{GroupLine, IntentLine, IsRecordLine, Line, One, RowLine, Two, Version, header, record_line, file_of, group_line},
  specs.RecordFile.{group_of, intent_line, record_row_line},
  specs.RecordGrowth.{OneIsRead, OneMeaning, OneRecord, OpenHasRow, AppendedCounts, BytesStand, CutIsIgnored, IsGroup, MayFollow},
  specs.RecordGrowth.taken_all,
  specs.RecordMeaning.{BeginsWithNoLine, BetweenGroups, ByLines, Ends, Fails, Fault, InBase, InGroup, IsCut, Judged, Meaning, Means, Rows},
  specs.RecordMeaning.{Progress, Stands, after_intent, after_line, at_end, counted, delivers, has_bytes, has_line_feed, lacks_rows, judged},
  specs.RecordMeaning.{left_open, line_after, may_take, with_taken},
  proofs.{LineLemmas.{text_unique, body, body_text, clean_body, cut_unique, no_line, same_cons}, RowLemmas.fresh},
}
use Rattle.mail_terms.proofs.{ListLemmas.both_none, NumeralLemmas.HasNo}

judged_fails : (version : Version) (n : ℕ) (fault : SeenFault) (lines : List Line) → judged version n (Fails fault) lines ≡ Fails fault
judged_fails _ n _ [] = refl
judged_fails _ n _ (_ ∷ lines) = refl

pub judged_append : (version : Version) (n : ℕ) (so_far : Judged) (xs ys : List Line)
    → judged version n so_far (xs ++ ys) ≡ judged version (n + length xs) (judged version n so_far xs) ys
judged_append version n so_far [] ys = ap (λ (k : ℕ). judged version k so_far ys) (omega arith)
judged_append _ n (Fails _) (x ∷ _) ys = sym (judged_fails _ _ _ ys)
judged_append version n (Stands progress) (x ∷ xs) ys =
    judged_append _ (n + 1) (after_line version n progress x) xs ys
    ∙ ap (λ (k : ℕ). judged version k (judged version (n + 1) (after_line version n progress x) xs) ys) (omega arith)

pub rows_no_fault : {version : Version} {rows : List Row} {intent : Option Intent} {torn : Bool} {fault : SeenFault}
    → Rows version rows intent torn ≡ Fault fault → ⊥
rows_no_fault e = cc

pub same_rows : {v w : Version} {r s : List Row} {i j : Option Intent} {a b : Bool} → Rows v r i a ≡ Rows w s j b
    → (v ≡ w) × (r ≡ s) × (i ≡ j) × (a ≡ b)
same_rows e = (cc, cc, cc, cc)

-- ---- bytes have one meaning

-- the same bytes, cut twice
same_ends : (version : Version) (n j k : ℕ) (so_far : Judged) (ls ms : List Line) (r s : List ℕ) (a b : Meaning)
    → AllByRecursion IsRecordLine ls → AllByRecursion IsRecordLine ms → flat_map record_line ls ++ r ≡ flat_map record_line ms ++ s
    → j ≡ n + length ls → k ≡ n + length ms → Ends version j (judged version n so_far ls) r a
    → Ends version k (judged version n so_far ms) s b → a ≡ b
same_ends _ n j k (Fails _) _ _ r s a b p q e _ _ x y = (rw judged_fails at x) ∙ sym (rw judged_fails at y)
same_ends version n j k (Stands progress) [] [] r s a b p q e j_is k_is x y = x.1
    ∙ ap₂ (λ (l : ℕ) (rest : List ℕ). at_end version l progress rest) (omega (arith, j_is, k_is)) e ∙ sym y.1
same_ends _ n j k (Stands progress) [] (m ∷ ms) r s a b p q e _ _ x y =
    absurd (x.0 m (flat_map record_line ms ++ s) q.0 (e ∙ append_assoc (record_line m) (flat_map record_line ms) s))
same_ends _ n j k (Stands progress) (l ∷ ls) [] r s a b p q e _ _ x y =
    absurd (y.0 l (flat_map record_line ls ++ r) p.0 (sym e ∙ append_assoc (record_line l) (flat_map record_line ls) r))
same_ends version n j k (Stands progress) (l ∷ ls) (m ∷ ms) r s a b p q e j_is k_is x y =
    let first = text_unique l m _ _ p.0 q.0 (sym (append_assoc (record_line l) (flat_map record_line ls) r) ∙ e
    ∙ append_assoc (record_line m) (flat_map record_line ms) s) in
    same_ends version (n + 1) j k (after_line version n progress m) ls ms r s a b p.1 q.1 first.1 (omega (arith, j_is))
    (omega (arith, k_is)) (rw first.0 at x) y

pub same_header : (v w : Version) (xs ys : List ℕ) → header v ++ xs ≡ header w ++ ys → (v ≡ w) × (xs ≡ ys)
same_header One Two _ _ e = absurd (omega (arith, ap (λ l. get_or l 13 0) e))
same_header Two One _ _ e = absurd (omega (arith, ap (λ (l : List ℕ). get_or l 13 0) e))
same_header v w _ _ e = (refl, cc)

no_header : (version : Version) (xs : List ℕ) → header version ++ xs ≡ [] → ⊥
no_header One _ e = cc
no_header Two _ e = cc

by_lines_same : (bytes : List ℕ) (m n : Meaning) → ByLines bytes m → ByLines bytes n → m ≡ n
by_lines_same _ m n a b =
    let parts = same_header _ _ _ _ (sym a.cut.whole ∙ b.cut.whole) in
    same_ends _ 0 _ _ _ _ _ _ _ m n (recursion_from_All _ a.lines a.cut.each) (recursion_from_All _ b.lines b.cut.each)
    parts.1 (omega arith) (omega arith) (rw parts.0 at a.ends) b.ends

pub one_meaning : OneMeaning
one_meaning _ m n (inl a) (inl b) = cc
one_meaning _ m n (inl a) (inr (inl b)) = absurd (b.0 a.0)
one_meaning _ m n (inl a) (inr (inr b)) = absurd (no_header _ _ (sym b.cut.whole ∙ a.0))
one_meaning _ m n (inr (inl a)) (inl b) = absurd (a.0 b.0)
one_meaning _ m n (inr (inl a)) (inr (inl b)) = cc
one_meaning _ m n (inr (inl a)) (inr (inr b)) = absurd (a.1 b.version _ b.cut.whole)
one_meaning _ m n (inr (inr a)) (inl b) = absurd (no_header _ _ (sym a.cut.whole ∙ b.0))
one_meaning _ m n (inr (inr a)) (inr (inl b)) = absurd (b.1 a.version _ a.cut.whole)
one_meaning _ m n (inr (inr a)) (inr (inr b)) = by_lines_same _ m n a b

pub one_record : OneRecord
one_record None a b i j x y = (cc, cc)
one_record (Some bytes) a b i j x y = let same =
    same_rows (one_meaning bytes (Rows x.0 a i x.1) (Rows y.0 b j y.1) x.2 y.2) in (same.1, same.2)

-- ---- lines that stand, and what follows them

-- n lines were taken, and none failed
pub record IsBehind (version : Version) (bytes : List ℕ) (n : ℕ) (progress : Progress) (rest : List ℕ) : Type 0 where
  pub lines : List Line
  pub cut : IsCut version bytes lines rest
  pub count : length lines ≡ n
  pub stands : judged version 0 (Stands (InBase [])) lines ≡ Stands progress

pub behind_header : (version : Version) (bytes rest : List ℕ) → bytes ≡ header version ++ rest → IsBehind version bytes 0 (InBase []) rest
behind_header _ _ rest is = record { lines = []; cut = record { each = All-nil IsRecordLine; whole = is }; count = refl; stands = refl }

module _ {version : Version} {bytes : List ℕ} {n : ℕ} {progress : Progress} {rest : List ℕ}
    (was : IsBehind version bytes n progress rest) where
  pub behind_tail : (tail : List ℕ) → IsBehind version (bytes ++ tail) n progress (rest ++ tail)
  behind_tail tail = record {
    lines = was.lines;
    cut = record { each = was.cut.each; whole = ap (λ xs. xs ++ tail) was.cut.whole ∙ simp append_assoc };
    count = was.count;
    stands = was.stands;
  }

  cut_more : (more : List Line) (behind : List ℕ) → AllByRecursion IsRecordLine more
      → rest ≡ flat_map record_line more ++ behind → IsCut version bytes (was.lines ++ more) behind
  cut_more more behind each rest_is = record {
    each = All-append IsRecordLine _ more was.cut.each (All-from_recursion _ more each);
    whole = was.cut.whole ∙ ap (λ xs. header version ++ (flat_map record_line was.lines ++ xs)) rest_is
        ∙ simp (flat_map-append, append_assoc);
  }

  judged_more : (more : List Line) → judged version 0 (Stands (InBase [])) (was.lines ++ more) ≡ judged version n (Stands progress) more
  judged_more more = judged_append _ 0 _ was.lines _ ∙ ap₂ (λ k j. judged version k j more) (omega (arith, was.count)) was.stands

  pub behind_lines : (more : List Line) (behind : List ℕ) (next : Progress) → AllByRecursion IsRecordLine more
      → rest ≡ flat_map record_line more ++ behind → judged version n (Stands progress) more ≡ Stands next
      → IsBehind version bytes (n + length more) next behind
  behind_lines more behind _ each rest_is after = record {
    lines = was.lines ++ more;
    cut = cut_more _ _ each rest_is;
    count = omega (arith, was.count, length-append was.lines more);
    stands = judged_more _ ∙ after;
  }

  pub behind_more : (line : Line) (behind : List ℕ) (next : Progress) → IsRecordLine line
      → rest ≡ record_line line ++ behind → after_line version n progress line ≡ Stands next → IsBehind version bytes (n + 1) next behind
  behind_more line behind next is rest_is after = behind_lines (line ∷ []) _ _ (is, tt) (rw append-nil rest_is) after

  pub behind_fails : (line : Line) (behind : List ℕ) (fault : SeenFault) → IsRecordLine line
      → rest ≡ record_line line ++ behind → after_line version n progress line ≡ Fails fault → Means bytes (Fault fault)
  behind_fails line behind _ is rest_is after = inr (inr (record {
    version = version;
    lines = was.lines ++ line ∷ [];
    rest = behind;
    cut = cut_more _ _ (is, tt) (rw append-nil rest_is);
    ends = rw (judged_more, after) refl;
  }))

  pub means_behind : (meaning : Meaning) → BeginsWithNoLine rest → meaning ≡ at_end version n progress rest → Means bytes meaning
  means_behind _ none is =
      inr (inr (record {
        version = version;
        lines = was.lines;
        rest = rest;
        cut = was.cut;
        ends =
            rw (was.count, was.stands) (none, is);
      }))

-- all lines stand, and no line follows them
pub record Stood (version : Version) (bytes : List ℕ) (rows : List Row) (intent : Option Intent)
    (torn : Bool) : Type 0 where
  pub n : ℕ
  pub progress : Progress
  pub rest : List ℕ
  pub behind : IsBehind version bytes n progress rest
  pub none : BeginsWithNoLine rest
  pub feedless : has_line_feed rest ≡ false
  pub rows_are : rows ≡ counted progress
  pub intent_is : intent ≡ left_open progress
  pub torn_is : torn ≡ (lacks_rows progress || has_bytes rest)

stood_by : (version : Version) (bytes : List ℕ) (rows : List Row) (intent : Option Intent) (torn : Bool)
    → ByLines bytes (Rows version rows intent torn) → Stood version bytes rows intent torn
stood_by version bytes rows intent torn by = go (judged by.version 0 (Stands (InBase [])) by.lines) refl by.ends
  where
    go : (so_far : Judged) → judged by.version 0 (Stands (InBase [])) by.lines ≡ so_far
        → Ends by.version (length by.lines) so_far by.rest (Rows version rows intent torn) → Stood version bytes rows intent torn
    go (Fails _) _ e = absurd (rows_no_fault e)
    go (Stands progress) is e = elim (cases_Bool (has_line_feed by.rest)) [
      | inl feed ↦ absurd (rows_no_fault (rw feed at e.1))
      | inr plain ↦
          let same = same_rows (rw plain at e.1) in
          record {
            n = length by.lines;
            progress = progress;
            rest = by.rest;
            behind = rw same.0 (record { lines = by.lines; cut = by.cut; count = refl; stands = is });
            none = e.0;
            feedless = plain;
            rows_are = same.1;
            intent_is = same.2;
            torn_is = same.3;
          }
    ]

pub stood : (version : Version) (bytes : List ℕ) (rows : List Row) (intent : Option Intent) (torn : Bool) → bytes ≢ []
    → Means bytes (Rows version rows intent torn) → Stood version bytes rows intent torn
stood _ _ _ _ _ some (inl none) = absurd (some none.0)
stood _ _ _ _ _ some (inr (inl wrong)) = absurd (rows_no_fault wrong.2)
stood _ _ _ _ _ some (inr (inr by)) = stood_by _ _ _ _ _ by

-- ---- an open intent has a legal id and numbers of 64 bits, and its id has a row

abbrev IsHeld : Judged → Type 0
IsHeld (Stands progress) = IntentHasRow (counted progress) (left_open progress)
IsHeld (Fails _) = Unit {0}

intent_held : (version : Version) (n : ℕ) (rows : List Row) (before : Option Intent) (intent : Intent) → IsIntent intent
    → IsHeld (after_intent version n rows before intent)
intent_held Two n rows None intent is = cond_both (has_row rows intent.uid) _ _ IsHeld (λ has. (is, has)) (λ _. tt)
intent_held _ n _ _ _ _ = tt

step_held : (version : Version) (n : ℕ) (p : Progress) (line : Line) → IsRecordLine line → IsHeld (Stands p)
    → IsHeld (after_line version n p line)
step_held _ n (InBase rows) (RowLine row) _ _ = cond_both (has_row rows row.uid) _ _ IsHeld (λ _. tt) (λ _. tt)
step_held _ n (InBase rows) (IntentLine intent) is _ = intent_held _ n rows _ intent is
step_held _ n (BetweenGroups _ _) (GroupLine count) _ held = held
step_held _ n (BetweenGroups rows _) (IntentLine intent) is _ = intent_held _ n rows _ intent is
step_held version n (InGroup _ _ rows zero) (RowLine row) _ _ = cond_both (may_take version rows row) _ _ IsHeld (λ _. tt) (λ _. tt)
step_held version n (InGroup _ _ rows (suc _)) (RowLine row) _ held = cond_both (may_take version rows row) _ _ IsHeld (λ _. held) (λ _. tt)
step_held _ n p _ _ _ = tt

lines_held : (version : Version) (n : ℕ) (j : Judged) (lines : List Line) → AllByRecursion IsRecordLine lines → IsHeld j
    → IsHeld (judged version n j lines)
lines_held _ n j [] each held = held
lines_held _ n (Fails _) (_ ∷ lines) each _ = tt
lines_held version n (Stands p) (line ∷ lines) each held = lines_held _ (n + 1) (after_line version n p line)
    lines each.1 (step_held version n p line each.0 held)

held_of : {version : Version} {bytes : List ℕ} {rows : List Row} {intent : Option Intent} {torn : Bool}
    → Stood version bytes rows intent torn → IntentHasRow rows intent
held_of {version} s = rw (s.rows_are, s.intent_is) (subst IsHeld s.behind.stands (lines_held _ 0 _ _
    (recursion_from_All _ s.behind.lines s.behind.cut.each) tt))

pub open_has_row : OpenHasRow
open_has_row _ v _ _ _ (inl none) = rw (same_rows none.1).2 tt
open_has_row _ v _ _ _ (inr (inl wrong)) = absurd (rows_no_fault wrong.2)
open_has_row _ v _ _ _ (inr (inr by)) = held_of (stood_by v _ _ _ _ by)

-- if the id has no row, its intent isn't open
pub none_without_row : (rows : List Row) (uid : List ℕ) (intent : Option Intent) → IntentHasRow rows intent
    → IsNoneOrOf uid intent → has_row rows uid ≡ false → intent ≡ None
none_without_row _ _ None _ _ none = refl
none_without_row rows _ (Some _) held one none = absurd (true≢false (cc none))

-- ---- the lines of a file of version 1 after the header of version 2

-- what a group may hold in version 1 it may hold in version 2
may_take_more : (rows : List Row) (row : Row) → may_take One rows row ≡ true → may_take Two rows row ≡ true
may_take_more rows row e = elim (or_cases (not (has_row rows row.uid)) (delivers One rows row) e) [
  | inl new ↦ or_left _ _ new
  | inr old ↦
      let parts = and_parts row.delivered _ old in
      let some = Any-from_list_any _ rows parts.1 in
      or_right _ _ (and_from _ _ parts.0 (list_any-from_Any _ rows (some.0, some.1, some.2, some.3, let e = some.4 in grind (arith, e))))
]

-- where the first stands with no intent open, so does the second
abbrev IsNewer : Judged → Judged → Type 0
IsNewer (Fails _) _ = Unit {0}
IsNewer (Stands q) new = (new ≡ Stands q) × (left_open q ≡ None)

newer_group : (rows : List Row) (row : Row) (q : Progress) (fault : SeenFault) → left_open q ≡ None
    → IsNewer (cond (may_take One rows row) (Stands q) (Fails fault)) (cond (may_take Two rows row) (Stands q) (Fails fault))
newer_group rows row q _ none = elim (cases_Bool (may_take One rows row)) [
  | inl h ↦ rw (h, may_take_more) (refl, none)
  | inr h ↦ rw h tt
]

newer_after_line : (n : ℕ) (p : Progress) (line : Line) → left_open p ≡ None → IsNewer (after_line One n p line) (after_line Two n p line)
newer_after_line n (InBase rows) (RowLine row) none = cond_both (has_row rows row.uid) _ _ (λ j. IsNewer j j) (λ _. tt) (λ _. (refl, refl))
newer_after_line n (InBase _) (GroupLine count) none = (refl, refl)
newer_after_line n (BetweenGroups _ _) (GroupLine count) none = (refl, none)
newer_after_line n (InGroup _ _ rows zero) (RowLine row) none =
    newer_group rows row (BetweenGroups (with_taken rows row) None) (RepeatedId (line_after n)) refl
newer_after_line n (InGroup old before rows (suc more)) (RowLine row) none =
    newer_group rows row (InGroup old before (with_taken rows row) more) (RepeatedId (line_after n)) none
newer_after_line n p _ none = tt

steps : (n : ℕ) (j k : Judged) (lines : List Line) → IsNewer j k → IsNewer (judged One n j lines) (judged Two n k lines)
steps n j k [] newer = newer
steps n (Fails _) k (_ ∷ lines) _ = tt
steps n (Stands p) k (line ∷ lines) newer = rw newer.0 (steps (n + 1) (after_line One n p line) _ lines (newer_after_line n p line newer.1))

older_read : (rest : List ℕ) (version : Version) (rows : List Row) (intent : Option Intent) (torn : Bool)
    → Stood version (header One ++ rest) rows intent torn
    → (version ≡ One) × (intent ≡ None) × Means (header Two ++ rest) (Rows Two rows None torn)
older_read rest Two _ _ _ s = absurd (let e = (same_header One Two rest _ s.behind.cut.whole).0 in cc)
older_read rest One _ _ _ s =
    let two = rw s.behind.stands at (steps 0 (Stands (InBase [])) (Stands (InBase [])) s.behind.lines (refl, refl)) in
    let whole = ap (λ (xs : List ℕ). header Two ++ xs) (same_header One One rest _ s.behind.cut.whole).1 in
    let now : IsBehind Two (header Two ++ rest) s.n s.progress s.rest =
    record {
      lines = s.behind.lines;
      cut = record { each = s.behind.cut.each; whole = whole };
      count =
          s.behind.count;
      stands = two.0;
    } in
    (refl, s.intent_is ∙ two.1, means_behind now _ s.none (rw (s.feedless, two.1, s.rows_are, s.torn_is) refl))

pub one_is_read : OneIsRead
one_is_read rest _ _ _ _ means = older_read _ _ _ _ _ (stood _ _ _ _ _ (no_header One rest) means)

-- a front of a group
group_open : (n : ℕ) (before : List Row) (intent : Option Intent) (rows : List Row) (more : ℕ) (xs : List Row)
    → MayFollow rows xs → length xs ≤ more → judged Two n (Stands (InGroup before intent rows more)) (map RowLine xs)
    ≡ Stands (InGroup before intent (taken_all rows xs) (more - length xs))
group_open n before intent rows _ [] follows _ = ap (λ (k : ℕ). Stands (InGroup before intent rows k)) (omega arith)
group_open n _ _ _ zero (x ∷ _) follows short = absurd (omega (arith, short))
group_open n before intent rows (suc more) (x ∷ xs) follows short =
    rw (judged, follows.0) (group_open (n + 1) _ _ (with_taken rows x) more xs follows.1 (omega (arith, short))
    ∙ ap (λ (k : ℕ). Stands (InGroup before intent (taken_all (with_taken rows x) xs) k)) (omega (arith, short)))

-- and a whole one
group_whole : (n : ℕ) (before : List Row) (intent : Option Intent) (rows : List Row) (more : ℕ) (xs : List Row)
    → MayFollow rows xs → length xs ≡ more + 1 → judged Two n (Stands (InGroup before intent rows more)) (map RowLine xs)
    ≡ Stands (BetweenGroups (taken_all rows xs) None)
group_whole n _ _ _ _ [] follows full = absurd (omega (arith, full))
group_whole n _ _ _ zero (x ∷ []) follows _ = rw follows.0 refl
group_whole n _ _ _ zero (x ∷ (y ∷ _)) follows full = absurd (omega (arith, full))
group_whole n before intent rows (suc more) (x ∷ xs) follows full =
    rw (judged, follows.0) (group_whole (n + 1) _ _ (with_taken rows x) more xs follows.1 (omega (arith, full)))

group_begins : (n : ℕ) (progress : Progress) (count : ℕ) → lacks_rows progress ≡ false → after_line Two n progress (GroupLine count)
    ≡ Stands (InGroup (counted progress) (left_open progress) (counted progress) (count - 1))
group_begins n (InGroup _ _ _ _) count free = absurd (true≢false free)
group_begins n progress count free = refl

intent_opens : (n : ℕ) (progress : Progress) (intent : Intent) → lacks_rows progress ≡ false → left_open progress ≡ None
    → has_row (counted progress) intent.uid ≡ true
    → after_line Two n progress (IntentLine intent) ≡ Stands (BetweenGroups (counted progress) (Some intent))
intent_opens n (InBase _) _ free none has = rw has refl
intent_opens n (BetweenGroups _ _) _ free none has = rw (none, has) refl
intent_opens n (InGroup _ _ _ _) _ free none _ = absurd (true≢false free)

no_bytes : (within : Bool) (rest : List ℕ) → false ≡ within || has_bytes rest → (within ≡ false) × (rest ≡ [])
no_bytes within [] e = (cc (or-false within), refl)
no_bytes within (x ∷ _) e = absurd (true≢false (cc (or-true within)))

feedless : (rest : List ℕ) → HasNo 10 rest → has_line_feed rest ≡ false
feedless [] plain = refl
feedless (x ∷ xs) plain = rw (ne_eqb x 10 plain.0) (feedless xs plain.1)

has_bytes_behind : (front : List ℕ) (byte : ℕ) (more : List ℕ) → has_bytes (front ++ byte ∷ more) ≡ true
has_bytes_behind [] _ _ = refl
has_bytes_behind (c ∷ front) _ _ = refl

-- a front of bytes that ends before the first LF, or after it
split_at_feed : (body tail front behind : List ℕ) → HasNo 10 body → front ++ behind ≡ body ++ 10 ∷ tail
    → HasNo 10 front ⊎ ((more : List ℕ) × (front ≡ body ++ 10 ∷ more) × (more ++ behind ≡ tail))
split_at_feed body _ [] behind plain e = inl tt
split_at_feed [] _ (c ∷ front) behind plain e =
    let parts = same_cons e in
    inr (front, cc, parts.1)
split_at_feed (d ∷ body) tail (c ∷ front) behind plain e =
    let parts = same_cons e in
    elim (split_at_feed body tail front behind plain.1 parts.1) [
      | inl none ↦ inl ((λ same. plain.0 (cc)), none)
      | inr more ↦ inr (more.0, ap₂ (λ k xs. k ∷ xs) parts.0 more.1, more.2)
    ]

-- a front of a line and more
split_at_line : (line : Line) → IsRecordLine line → (tail front behind : List ℕ) → front ++ behind ≡ record_line line ++ tail
    → HasNo 10 front ⊎ ((more : List ℕ) × (front ≡ record_line line ++ more) × (more ++ behind ≡ tail))
split_at_line line is tail front behind e =
    elim (split_at_feed (body line) tail front behind (clean_body line is 10 (omega arith)) (e ∙ body_text line tail)) [
      | inl none ↦ inl none
      | inr more ↦ inr (more.0, cc (body_text line more.0), more.2)
    ]

-- the lines of a group that a front of its bytes holds
record RowsFront (before rows : List Row) (front : List ℕ) : Type 0 where
  done : List Row
  rest : List ℕ
  each : AllByRecursion IsRecordLine (map RowLine done)
  follows : MayFollow before done
  some : length done < length rows
  front_is : front ≡ flat_map record_line (map RowLine done) ++ rest
  plain : HasNo 10 rest

rows_front : (before rows : List Row) (front behind : List ℕ) → AllByRecursion IsRow rows → MayFollow before rows
    → front ++ behind ≡ flat_map record_row_line rows → behind ≢ [] → RowsFront before rows front
rows_front before [] front behind each follows e some = absurd (some (both_none front behind e).1)
rows_front before (row ∷ rows) front behind each follows e some =
    elim (split_at_line (RowLine row) each.0 (flat_map record_row_line rows) front behind e) [
      | inl none ↦ record {
        done = [];
        rest = front;
        each = tt;
        follows = tt;
        some =
            omega arith;
        front_is = refl;
        plain = none;
      }
      | inr more ↦
          let next = rows_front (with_taken before row) rows more.0 behind each.1 follows.1 more.2 some in
          record {
            done = row ∷ next.done;
            rest = next.rest;
            each = (each.0, next.each);
            follows = (follows.0, next.follows);
            some = omega (arith, next.some);
            front_is = more.1 ∙ ap (λ (xs : List ℕ). record_row_line row ++ xs) next.front_is
                ∙ sym (append_assoc (record_row_line row) (flat_map record_line (map RowLine next.done)) next.rest);
            plain = next.plain;
          }
    ]

-- ---- what is appended to a file with no torn end

module _ {bytes : List ℕ} {rows : List Row} {intent : Option Intent} (was : Stood Two bytes rows intent false) where
  free : (lacks_rows was.progress ≡ false) × (was.rest ≡ [])
  free = no_bytes _ _ was.torn_is

  -- more lines and a torn piece
  grown : (more : List Line) (rest tail : List ℕ) (progress : Progress) (meaning : Meaning)
      → AllByRecursion IsRecordLine more → HasNo 10 rest → tail ≡ flat_map record_line more ++ rest
      → judged Two was.n (Stands was.progress) more ≡ Stands progress
      → meaning ≡ Rows Two (counted progress) (left_open progress) (lacks_rows progress || has_bytes rest) → Means (bytes ++ tail) meaning
  grown more rest tail progress meaning each plain tail_is judged_is meaning_is =
      means_behind (behind_lines (behind_tail was.behind tail) more rest progress each (rw free.1 tail_is) judged_is)
      meaning (no_line rest plain) (rw (feedless rest plain) meaning_is)

  group_counts : (group : List Row) → IsGroup rows group → Means (bytes ++ group_of group) (Rows Two (taken_all rows group) None false)
  group_counts group is = grown (GroupLine (length group) ∷ map RowLine group) [] (group_of group)
      (BetweenGroups (taken_all rows group) None) _
      (is.count, recursion_from_All _ (map RowLine group) (All-map IsRecordLine _ group is.each)) tt
      (rw (append-nil, flat_map-map record_line RowLine group) refl)
      (rw (judged, group_begins was.n was.progress (length group) free.0, ← was.rows_are) (group_whole _ _ _ _ _ _ is.follows
      (omega (arith, is.count.0)))) refl

  torn_piece : (front : List ℕ) → HasNo 10 front → Means (bytes ++ front) (Rows Two rows intent (has_bytes front))
  torn_piece front none = grown [] front front was.progress _ tt none refl refl (rw (← was.rows_are, ← was.intent_is, free.0) refl)

  group_cut : (group : List Row) (front behind : List ℕ) → IsGroup rows group → front ++ behind ≡ group_of group
      → behind ≢ [] → Means (bytes ++ front) (Rows Two rows intent (has_bytes front))
  group_cut group front behind is e left =
      elim (split_at_line (GroupLine (length group)) is.count (flat_map record_row_line group) front behind e) [
        | inl none ↦ torn_piece _ none
        | inr more ↦
            let f = rows_front _ _ _ _ (recursion_from_All _ group is.each) is.follows more.2 left in
            grown (GroupLine (length group) ∷ map RowLine f.done) _ front
            (InGroup rows (left_open was.progress) (taken_all rows f.done) (length group - 1 - length f.done)) _ (is.count, f.each) f.plain
            (more.1 ∙ ap (λ (xs : List ℕ). group_line (length group) ++ xs) f.front_is
            ∙ sym (append_assoc (group_line (length group)) (flat_map record_line (map RowLine f.done)) f.rest))
            (rw (judged, group_begins was.n was.progress (length group) free.0, ← was.rows_are) (group_open _ _ _ _ _ _ f.follows
            (omega (arith, f.some)))) (rw (was.intent_is, more.1) refl)
      ]

  -- a front of an intent's line that isn't the whole line has no LF
  intent_cut : (opened : Intent) (front behind : List ℕ) → IsIntent opened → front ++ behind ≡ intent_line opened
      → behind ≢ [] → Means (bytes ++ front) (Rows Two rows intent (has_bytes front))
  intent_cut opened front behind is e left =
      elim (split_at_line (IntentLine opened) is [] front behind (e ∙ sym (append-nil (intent_line opened)))) [
        | inl none ↦ torn_piece front none
        | inr more ↦ absurd (left (both_none more.0 behind more.2).1)
      ]

intent_counts : (bytes : List ℕ) (rows : List Row) (intent : Intent) → Stood Two bytes rows None false → IsIntent intent
    → has_row rows intent.uid ≡ true → Means (bytes ++ intent_line intent) (Rows Two rows (Some intent) false)
intent_counts _ rows intent was is has = grown was (IntentLine intent ∷ []) [] (intent_line intent) (BetweenGroups rows (Some intent)) _
    (is, tt) tt (sym (append-nil (intent_line intent ++ []) ∙ append-nil (intent_line intent))) (rw (
      intent_opens was.n was.progress intent (free was).0 (sym was.intent_is) (rw (← was.rows_are) has),
      ←
          was.rows_are,
    ) refl) refl

pub appended_counts : AppendedCounts
appended_counts bytes _ _ _ _ _ some means (inl (inl none)) = rw (none.0, none.1, none.2, append-nil) means
appended_counts bytes _ old _ before _ some means (inl (inr one)) =
    rw (one.2, one.3, one.4) (group_counts (stood _ _ _ _ _ some means) one.0 one.1)
appended_counts bytes _ old _ _ _ some means (inr opens) =
    rw (opens.bytes_are, opens.same, opens.opened) (intent_counts _ _ _ (stood _ _ _ _ _ some (rw opens.closed at means))
    opens.is_one opens.row)

pub cut_is_ignored : CutIsIgnored
cut_is_ignored bytes added front behind old new before after some means (inl (inl none)) cut left =
    absurd (left (both_none front behind (sym cut ∙ none.0)).1)
cut_is_ignored bytes added front behind old new before after some means (inl (inr one)) cut left =
    group_cut (stood Two bytes old before false some means) one.0 front behind one.1 (sym cut ∙ one.2) left
cut_is_ignored bytes added front behind old new before after some means (inr opens) cut left =
    intent_cut (stood Two bytes old before false some means) opens.intent front behind opens.is_one (sym cut ∙ opens.bytes_are) left

-- ---- what `bytes` writes stands for the record

judged_base : (n : ℕ) (front rows : List Row) → IsRecord (front ++ rows)
    → judged Two n (Stands (InBase front)) (map RowLine rows) ≡ Stands (InBase (front ++ rows))
judged_base n front [] _ = rw append-nil refl
judged_base n front (row ∷ rows) is =
    let whole = append_assoc front (row ∷ []) rows in
    rw (judged, fresh front rows row is) (cc (judged_base (n + 1) (front ++ row ∷ []) rows (rw whole is)))

base_stands : (rows : List Row) → IsRecord rows → Means (file_of rows None) (Rows Two rows None false)
base_stands rows is = means_behind (behind_lines (behind_header _ _ _ refl) (map RowLine rows) [] (InBase rows)
    (recursion_from_All IsRecordLine (map RowLine rows) (All-map IsRecordLine RowLine rows is.each))
    (rw (flat_map-map record_line RowLine rows) refl) (judged_base 0 [] rows is)) _ (no_line [] tt) refl

pub bytes_stand : BytesStand
bytes_stand _ None is _ = base_stands _ is
bytes_stand rows (Some intent) is held =
    let whole : file_of rows None ++ intent_line intent ≡ file_of rows (Some intent) = simp append-nil in
    rw whole at (intent_counts (file_of rows None) rows intent (stood Two (file_of rows None) rows None false
    (λ e. cc) (base_stands rows is)) held.0 held.1)

-- ---- a zero in what is left after a loss of power

no_feed : (rest : List ℕ) → has_line_feed rest ≡ false → HasNo 10 rest
no_feed [] e = tt
no_feed (byte ∷ rest) e = let parts = or_parts _ _ e in ((λ same. true≢false (cc (eq-eqb byte 10 same))), no_feed rest parts.1)

module _ {bytes : List ℕ} {rows : List Row} {intent : Option Intent} {torn : Bool}
    (p : Stood Two bytes rows intent torn) (more : List ℕ) where
  ended_by : (meaning : Meaning) → meaning ≡ at_end Two p.n p.progress (p.rest ++ 0 ∷ more) → Means (bytes ++ 0 ∷ more) meaning
  ended_by meaning is = means_behind (behind_tail p.behind (0 ∷ more)) meaning (λ line behind is' e. absurd (omega (
    arith,
    (cut_unique 0 10 p.rest (body line) more behind (no_feed p.rest p.feedless)
        (clean_body line is' 0 (omega arith)) (e ∙ body_text line behind)).1,
  ))) is

  feeds_behind : has_line_feed (p.rest ++ 0 ∷ more) ≡ has_line_feed more
  feeds_behind = cc (list_any-append (λ byte. byte == 10) p.rest (0 ∷ more))

  zero_ignored : has_line_feed more ≡ false → Means (bytes ++ 0 ∷ more) (Rows Two rows intent true)
  zero_ignored none = ended_by _ (rw (p.rows_are, p.intent_is, feeds_behind, none, has_bytes_behind, or-true) refl)

  zero_seen : has_line_feed more ≡ true → (line : ℕ) × Means (bytes ++ 0 ∷ more) (Fault (BadRow line))
  zero_seen feed = (line_after p.n, ended_by _ (rw (feeds_behind, feed) refl))

-- the bytes before the first zero, and the rest
record IsSplit (added left : List ℕ) : Type 0 where
  front : List ℕ
  behind : List ℕ
  added_is : added ≡ front ++ behind
  some : behind ≢ []
  kind : ((left ≡ front) × (ends_at_zero left ≡ true)) ⊎ ((more : List ℕ) × (left ≡ front ++ 0 ∷ more)
      × (ends_at_zero left ≡ not (has_line_feed more)))

split_at_zero : (added left : List ℕ) → IsPartOf added left → left ≢ added → IsSplit added left
split_at_zero [] [] _ other = absurd (other refl)
split_at_zero (word ∷ added) [] _ _ = record {
  front = [];
  behind = word ∷ added;
  added_is = refl;
  some =
      λ e. cc;
  kind = inl (refl, refl);
}
split_at_zero [] (_ ∷ _) part _ = absurd part
split_at_zero (word ∷ added) (byte ∷ left) part other = elim (eqb_tells byte 0) [
  | inl p ↦ record {
    front = [];
    behind = word ∷ added;
    added_is = refl;
    some = λ e. cc;
    kind =
        inr (left, cc, rw p.0 refl);
  }
  | inr p ↦ elim part.0 [
    | inr none ↦ absurd (p.1 none)
    | inl same ↦
        let s = split_at_zero added left part.1 (λ e. other (ap₂ (λ (b : ℕ) (xs : List ℕ). b ∷ xs) same e)) in
        record {
          front = byte ∷ s.front;
          behind = s.behind;
          added_is = ap₂ (λ (b : ℕ) (xs : List ℕ). b ∷ xs) (sym same) s.added_is;
          some = s.some;
          kind = elim s.kind [
            | inl k ↦ inl (ap (λ (xs : List ℕ). byte ∷ xs) k.0, rw p.0 k.1)
            | inr k ↦ inr (k.0, ap (λ (xs : List ℕ). byte ∷ xs) k.1, rw p.0 k.2)
          ];
        }
  ]
]

pub torn_ignored_or_seen : TornIsIgnoredOrSeen
torn_ignored_or_seen bytes added left old new before after some means grows part other = elim s.kind [
  | inl k ↦ (λ ends. rw k.0 cut, λ ends. absurd (true≢false (sym k.1 ∙ ends)))
  | inr k ↦ (
    λ ends. rw (k.1, has_bytes_behind s.front 0 k.0, ← append_assoc bytes s.front (0 ∷ k.0))
        (zero_ignored piece k.0 (not-true (has_line_feed k.0) (sym k.2 ∙ ends))),
    λ ends. rw (k.1, ← append_assoc bytes s.front (0 ∷ k.0)) (zero_seen piece k.0 (not-false (has_line_feed k.0) (sym k.2 ∙ ends))),
  )
]
  where
    s : IsSplit added left
    s = split_at_zero added left part other

    cut : Means (bytes ++ s.front) (Rows Two old before (has_bytes s.front))
    cut = cut_is_ignored bytes added s.front s.behind old new before after some means grows s.added_is s.some

    piece : Stood Two (bytes ++ s.front) old before (has_bytes s.front)
    piece = stood Two (bytes ++ s.front) old before (has_bytes s.front) (λ e. some (both_none bytes s.front e).0) cut

pub ruleset file_laws = (one_record, bytes_stand, open_has_row)
