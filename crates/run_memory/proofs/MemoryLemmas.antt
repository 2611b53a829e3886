-- What is written is read back as the same.
use Rattle.std.{
  proofs.Common.{All, Bool, Err, None, Ok, OnErr, OnOk, Result, List, Option, Some, [], ap, append-nil, append_assoc, arith, bytes_eq},
  proofs.Common.{decimal, drop, false, flat_map, inr, length, length-append, nat_lt, refl, remove, subst, suc, take, true, ℕ, ◌++◌, ◌+◌},
  proofs.Common.{◌<◌, ◌==◌, ◌^◌, ◌∙◌, ◌∷◌, ◌≡◌, ◌≢◌, ◌≤◌, option_map, filter, inl, set, sym, if◌then◌else◌},
  proofs.Math.Seq.take-append_seam,
  proofs.lemmas.{Fmt.length-decimal-le, Bool.{cases_lt, le-ltb, lt-ltb, Decides.{eqb_tells, nat_tests}}},
  proofs.lemmas.List.{length-drop, length-set, Edits.length-remove, Concat.{flat_map-cons, length-flat_map}},
  proofs.lemmas.List.Sums.{count_by-le-length, length-filter, list_all-from_AllPass, sum_by-le},
  proofs.lemmas.List.Elements.{All-append, All-drop, All-filter, All-push, All-set, All-take, recursion_from_All},
  specs.{List.{AllByRecursion, after_first, before_first, position_or_len}, Option.option_map_or},
}
use Rattle.mail_terms.{specs.Text.lines_of_text, proofs.NumeralLemmas.{HasNo, HasNo-decimal, numeral_value-decimal}}
use Rattle.run_memory.specs.{
  Fields.{IsFaultKey, is_digit, key_in, numbers_in},
  Lines.{AreNumbers, IsReadableFault, IsReadableNotice, known_fault_in, known_fault_line, large_line, left_line, left_marks_of},
  Lines.{line_in, marks_line, marks_of, notice_in, notice_line, numbers_text},
  Memory.{AreFew, IsKept, IsReadBack, Told, end, with_lf, nothing, room, memory_text, told_after, told_in, with_line},
  declared.{
    line.{KnownFault.KnownFault, SaidNotice.SaidNotice, Line.{Line, TheVariants.{Left, Marks, Fault, Notice, Large}}},
    run.{LeftMarks.LeftMarks, RunMarks.RunMarks},
  },
}

-- ---- a line that is read

pub line_taken : (told : Told) (text line rest : List ℕ) (said : Line) → lines_of_text text ≡ line ∷ lines_of_text rest
    → bytes_eq line end ≡ false → line_in line ≡ Some said
    → told_after told (lines_of_text text) ≡ told_after (with_line told said) (lines_of_text rest)
line_taken told text line rest said cut other is = rw (cut, other, is) refl

pub line_ends : (told : Told) (text line rest : List ℕ) → lines_of_text text ≡ line ∷ lines_of_text rest
    → bytes_eq line end ≡ true → told_after told (lines_of_text text) ≡ told
line_ends told text line rest cut is = rw (cut, is) refl

pub line_odd : (told : Told) (text line rest : List ℕ) → lines_of_text text ≡ line ∷ lines_of_text rest
    → bytes_eq line end ≡ false → line_in line ≡ None → told_after told (lines_of_text text) ≡ nothing
line_odd told text line rest cut other is = rw (cut, other, is) refl

pub text_over : (told : Told) (text : List ℕ) → (length text == 0) ≡ true → told_after told (lines_of_text text) ≡ nothing
text_over told [] over = refl
text_over told (octet ∷ text) over = absurd (grind (arith, nat_tests, over))

-- ---- octets that don't occur

HasNo-append : (s : ℕ) (a b : List ℕ) → HasNo s a → HasNo s b → HasNo s (a ++ b)
HasNo-append s [] b p q = q
HasNo-append s (x ∷ a) b p q = (p.0, HasNo-append s a b p.1 q)

digit_above : (octet s : ℕ) → is_digit octet ≡ true → s < 48 → octet ≢ s
digit_above octet s digit below same = grind (arith, nat_tests, digit, below, same)

HasNo-key : (s : ℕ) → s < 48 → (key : List ℕ) → IsFaultKey key → HasNo s key
HasNo-key s below key is = recursion_from_All (λ other. other ≢ s) key (λ k d inside. digit_above _ s (is.1 k d inside) below)

-- ---- what is cut at an octet that doesn't occur before

position_at : (mark : ℕ) (front rest : List ℕ) → HasNo mark front
    → position_or_len (λ octet. octet == mark) (front ++ mark ∷ rest) ≡ length front
position_at mark [] rest none = elim (eqb_tells mark mark) [
  | inl p ↦ rw p.0 refl
  | inr p ↦ absurd (p.1 refl)
]
position_at mark (octet ∷ front) rest none = elim (eqb_tells octet mark) [
  | inl p ↦ absurd (none.0 p.1)
  | inr p ↦ rw (p.0, position_at mark front rest none.1) (omega arith)
]

drop_past : (front : List ℕ) (mark : ℕ) (rest : List ℕ) → drop (length front + 1) (front ++ mark ∷ rest) ≡ rest
drop_past [] mark rest = refl
drop_past (octet ∷ front) mark rest =
    let step : suc (length front) + 1 ≡ suc (length front + 1) = omega arith in
    rw step (drop_past front mark rest)

before_mark : (mark : ℕ) (front rest : List ℕ) → HasNo mark front → before_first (λ octet. octet == mark) (front ++ mark ∷ rest) ≡ front
before_mark mark front rest none = ap (λ (n : ℕ). take n (front ++ mark ∷ rest)) (position_at mark front rest none)
    ∙ take-append_seam front (mark ∷ rest)

cut_rest : (mark : ℕ) (front rest : List ℕ) → HasNo mark front → after_first (λ octet. octet == mark) (front ++ mark ∷ rest) ≡ rest
cut_rest mark front rest none = ap (λ (n : ℕ). drop (n + 1) (front ++ mark ∷ rest)) (position_at mark front rest none)
    ∙ drop_past front mark rest

first_line : (line rest : List ℕ) → HasNo 10 line → lines_of_text (line ++ 10 ∷ rest) ≡ line ∷ lines_of_text rest
first_line [] rest none = refl
first_line (octet ∷ line) rest none = elim (eqb_tells octet 10) [
  | inl p ↦ absurd (none.0 p.1)
  | inr p ↦ rw (p.0, first_line line rest none.1) refl
]

-- ---- numbers and keys

length-number : (number : ℕ) → number < 2 ^ 64 → length (decimal number) ≤ 20
length-number number fits = length-decimal-le 20 number (omega arith) (omega (arith, fits)) fits

numbers_read : (a b c : ℕ) → AreNumbers a b c → numbers_in (numbers_text a b c) ≡ Some (a, b, c)
numbers_read a b c are =
    let no_a = HasNo-decimal 32 (omega arith) a are.one_fits in
    let no_b = HasNo-decimal 32 (omega arith) b are.two_fits in
    rw (
      cut_rest 32 (decimal a) (decimal b ++ 32 ∷ decimal c) no_a,
      before_mark 32 (decimal a) (decimal b ++ 32 ∷ decimal c) no_a,
      cut_rest 32 (decimal b) (decimal c) no_b,
      before_mark 32 (decimal b) (decimal c) no_b,
      numeral_value-decimal a are.one_fits,
      numeral_value-decimal b are.two_fits,
      numeral_value-decimal c are.three_fits,
    ) refl

HasNo-numbers : (a b c : ℕ) → AreNumbers a b c → HasNo 10 (numbers_text a b c)
HasNo-numbers a b c are =
    HasNo-append 10 (decimal a) _ (HasNo-decimal 10 (omega arith) a are.one_fits) (
      (λ same. omega (arith, same)),
      HasNo-append 10 (decimal b) _ (HasNo-decimal 10 (omega arith) b are.two_fits)
          ((λ same. omega (arith, same)), HasNo-decimal 10 (omega arith) c are.three_fits),
    )

length-numbers : (a b c : ℕ) → AreNumbers a b c → length (numbers_text a b c) ≤ 62
length-numbers a b c are =
    omega (
      arith,
      length-append (decimal a) (32 ∷ (decimal b ++ 32 ∷ decimal c)),
      length-append (decimal b) (32 ∷ decimal c),
      length-number a are.one_fits,
      length-number b are.two_fits,
      length-number c are.three_fits,
    )

key_read : (key : List ℕ) → IsFaultKey key → key_in key ≡ Some key
key_read key is = rw (is.0, list_all-from_AllPass is_digit key is.1) refl

-- ---- lines

fault_fields : (f : KnownFault) → IsReadableFault f
    → known_fault_in (f.key ++ 32 ∷ numbers_text f.times.since f.times.told f.times.runs) ≡ Some f
fault_fields f is =
    let none = HasNo-key 32 (omega arith) f.key is.key in
    let numbers = numbers_text f.times.since f.times.told f.times.runs in
    rw (
      cut_rest 32 f.key numbers none,
      before_mark 32 f.key numbers none,
      key_read f.key is.key,
      numbers_read f.times.since f.times.told f.times.runs is.times,
    ) refl

fault_read : (f : KnownFault) → IsReadableFault f → line_in (known_fault_line f) ≡ Some (Fault f)
fault_read f is = ap (λ (o : Option KnownFault). option_map Fault o) (fault_fields f is)

left_read : (left : LeftMarks) → AreNumbers left.unnamed left.limited left.repeated → line_in (left_line left) ≡ Some (Left left)
left_read left are = ap (λ (o : Option (ℕ × ℕ × ℕ)). option_map (λ numbers. Left (left_marks_of numbers)) o)
    (numbers_read left.unnamed left.limited left.repeated are)

marks_read : (marks : RunMarks) → AreNumbers marks.ended marks.failing marks.met → line_in (marks_line marks) ≡ Some (Marks marks)
marks_read marks are = ap (λ (o : Option (ℕ × ℕ × ℕ)). option_map (λ numbers. Marks (marks_of numbers)) o)
    (numbers_read marks.ended marks.failing marks.met are)

notice_fields : (n : SaidNotice) → IsReadableNotice n → notice_in (n.key ++ 32 ∷ decimal n.told) ≡ Some n
notice_fields n is =
    let none = HasNo-key 32 (omega arith) n.key is.key in
    rw (
      cut_rest 32 n.key (decimal n.told) none,
      before_mark 32 n.key (decimal n.told) none,
      key_read n.key is.key,
      numeral_value-decimal n.told is.told,
    ) refl

notice_read : (n : SaidNotice) → IsReadableNotice n → line_in (notice_line n) ≡ Some (Notice n)
notice_read n is = ap (λ (o : Option SaidNotice). option_map Notice o) (notice_fields n is)

large_read : (key : List ℕ) → IsFaultKey key → line_in (large_line key) ≡ Some (Large key)
large_read key is = ap (λ (o : Option (List ℕ)). option_map Large o) (key_read key is)

HasNo-fault : (f : KnownFault) → IsReadableFault f → HasNo 10 (known_fault_line f)
HasNo-fault f is =
    let rest = HasNo-append 10 f.key _ (HasNo-key 10 (omega arith) f.key is.key)
    ((λ same. omega (arith, same)), HasNo-numbers f.times.since f.times.told f.times.runs is.times) in (
      (λ same. omega (arith, same)),
      (
        (λ same. omega (arith, same)),
        (
          (λ same. omega (arith, same)),
          ((λ same. omega (arith, same)), ((λ same. omega (arith, same)), ((λ same. omega (arith, same)), rest))),
        ),
      ),
    )

HasNo-left : (left : LeftMarks) → AreNumbers left.unnamed left.limited left.repeated → HasNo 10 (left_line left)
HasNo-left left are = (
  (λ same. omega (arith, same)),
  (
    (λ same. omega (arith, same)),
    (
      (λ same. omega (arith, same)),
      (
        (λ same. omega (arith, same)),
        (
          (λ same. omega (arith, same)),
          HasNo-numbers left.unnamed left.limited left.repeated are,
        ),
      ),
    ),
  ),
)

HasNo-marks : (marks : RunMarks) → AreNumbers marks.ended marks.failing marks.met → HasNo 10 (marks_line marks)
HasNo-marks marks are = (
  (λ same. omega (arith, same)),
  (
    (λ same. omega (arith, same)),
    (
      (λ same. omega (arith, same)),
      (
        (λ same. omega (arith, same)),
        (
          (λ same. omega (arith, same)),
          ((λ same. omega (arith, same)), HasNo-numbers marks.ended marks.failing marks.met are),
        ),
      ),
    ),
  ),
)

HasNo-notice : (n : SaidNotice) → IsReadableNotice n → HasNo 10 (notice_line n)
HasNo-notice n is =
    let rest = HasNo-append 10 n.key _ (HasNo-key 10 (omega arith) n.key is.key)
    ((λ same. omega (arith, same)), HasNo-decimal 10 (omega arith) n.told is.told) in (
      (λ same. omega (arith, same)),
      (
        (λ same. omega (arith, same)),
        (
          (λ same. omega (arith, same)),
          ((λ same. omega (arith, same)), ((λ same. omega (arith, same)), rest)),
        ),
      ),
    )

HasNo-large : (key : List ℕ) → IsFaultKey key → HasNo 10 (large_line key)
HasNo-large key is = (
  (λ same. omega (arith, same)),
  (
    (λ same. omega (arith, same)),
    (
      (λ same. omega (arith, same)),
      (
        (λ same. omega (arith, same)),
        ((λ same. omega (arith, same)), ((λ same. omega (arith, same)), HasNo-key 10 (omega arith) key is)),
      ),
    ),
  ),
)

-- ---- a whole text

room_left : {X : Type 0} (most : ℕ) (items : List X) → length items < most → room most items ≡ items
room_left most items few = rw (lt-ltb (length items) most few) refl

shape : {X : Type 0} (g : X → List ℕ) (x : X) (xs : List X) (rest : List ℕ)
    → flat_map (λ y. with_lf (g y)) (x ∷ xs) ++ rest ≡ g x ++ 10 ∷ (flat_map (λ y. with_lf (g y)) xs ++ rest)
shape g x xs rest =
    ap (λ (text : List ℕ). text ++ rest) (flat_map-cons (λ y. with_lf (g y)) x xs)
    ∙ append_assoc (with_lf (g x)) (flat_map (λ y. with_lf (g y)) xs) rest
    ∙ append_assoc (g x) (10 ∷ []) (flat_map (λ y. with_lf (g y)) xs ++ rest)

faults_read : (told : Told) (faults : List KnownFault) (rest : List ℕ) → AllByRecursion IsReadableFault faults
    → length told.faults + length faults ≤ 16
    → told_after told (lines_of_text (flat_map (λ fault. with_lf (known_fault_line fault)) faults ++ rest))
    ≡ told_after (record told { faults = told.faults ++ faults }) (lines_of_text rest)
faults_read told [] rest known few = rw (append-nil told.faults) refl
faults_read told (f ∷ faults) rest known few =
    let more = flat_map (λ fault. with_lf (known_fault_line fault)) faults ++ rest in
    let whole : room 16 told.faults ≡ told.faults = room_left 16 told.faults (omega (arith, few)) in
    ap (λ (text : List ℕ). told_after told (lines_of_text text)) (shape known_fault_line f faults rest)
    ∙ ap (λ (lines : List (List ℕ)). told_after told lines) (first_line (known_fault_line f) more (HasNo-fault f known.0))
    ∙ ap (λ (o : Option Line). option_map_or (λ said. told_after (with_line told said) (lines_of_text more)) o nothing)
    (fault_read f known.0)
    ∙ ap (λ (items : List KnownFault). told_after (record told { faults = items ++ f ∷ [] }) (lines_of_text more)) whole
    ∙ faults_read (record told { faults = told.faults ++ f ∷ [] }) faults rest known.1
    (omega (arith, few, length-append told.faults (f ∷ [])))
    ∙ ap (λ (items : List KnownFault). told_after (record told { faults = items }) (lines_of_text rest))
    (append_assoc told.faults (f ∷ []) faults)

notices_read : (told : Told) (notices : List SaidNotice) (rest : List ℕ) → AllByRecursion IsReadableNotice notices
    → length told.notices + length notices ≤ 1000
    → told_after told (lines_of_text (flat_map (λ notice. with_lf (notice_line notice)) notices ++ rest))
    ≡ told_after (record told { notices = told.notices ++ notices }) (lines_of_text rest)
notices_read told [] rest are few = rw (append-nil told.notices) refl
notices_read told (n ∷ notices) rest are few =
    let more = flat_map (λ notice. with_lf (notice_line notice)) notices ++ rest in
    let whole : room 1000 told.notices ≡ told.notices = room_left 1000 told.notices (omega (arith, few)) in
    ap (λ (text : List ℕ). told_after told (lines_of_text text)) (shape notice_line n notices rest)
    ∙ ap (λ (lines : List (List ℕ)). told_after told lines) (first_line (notice_line n) more (HasNo-notice n are.0))
    ∙ ap (λ (o : Option Line). option_map_or (λ said. told_after (with_line told said) (lines_of_text more)) o nothing)
    (notice_read n are.0)
    ∙ ap (λ (items : List SaidNotice). told_after (record told { notices = items ++ n ∷ [] }) (lines_of_text more)) whole
    ∙ notices_read (record told { notices = told.notices ++ n ∷ [] }) notices rest are.1
    (omega (arith, few, length-append told.notices (n ∷ [])))
    ∙ ap (λ (items : List SaidNotice). told_after (record told { notices = items }) (lines_of_text rest))
    (append_assoc told.notices (n ∷ []) notices)

keys_read : (told : Told) (keys : List (List ℕ)) (rest : List ℕ) → AllByRecursion IsFaultKey keys
    → length told.large + length keys ≤ 1000 → told_after told (lines_of_text (flat_map (λ key. with_lf (large_line key)) keys ++ rest))
    ≡ told_after (record told { large = told.large ++ keys }) (lines_of_text rest)
keys_read told [] rest are few = rw (append-nil told.large) refl
keys_read told (key ∷ keys) rest are few =
    let more = flat_map (λ key. with_lf (large_line key)) keys ++ rest in
    let whole : room 1000 told.large ≡ told.large = room_left 1000 told.large (omega (arith, few)) in
    ap (λ (text : List ℕ). told_after told (lines_of_text text)) (shape large_line key keys rest)
    ∙ ap (λ (lines : List (List ℕ)). told_after told lines) (first_line (large_line key) more (HasNo-large key are.0))
    ∙ ap (λ (o : Option Line). option_map_or (λ said. told_after (with_line told said) (lines_of_text more)) o nothing)
    (large_read key are.0)
    ∙ ap (λ (items : List (List ℕ)). told_after (record told { large = items ++ key ∷ [] }) (lines_of_text more)) whole
    ∙ keys_read (record told { large = told.large ++ key ∷ [] }) keys rest are.1
    (omega (arith, few, length-append told.large (key ∷ [])))
    ∙ ap (λ (items : List (List ℕ)). told_after (record told { large = items }) (lines_of_text rest))
    (append_assoc told.large (key ∷ []) keys)

told_again : (told : Told) → IsKept told → told_in (memory_text told) ≡ told
told_again told kept =
    let keys = flat_map (λ key. with_lf (large_line key)) told.large ++ end in
    let notices = flat_map (λ notice. with_lf (notice_line notice)) told.notices ++ keys in
    let faults = flat_map (λ fault. with_lf (known_fault_line fault)) told.faults ++ notices in
    let more = with_lf (marks_line told.marks) ++ faults in
    let left_shape : with_lf (left_line told.left) ++ more ≡ left_line told.left ++ 10 ∷ more =
    append_assoc (left_line told.left) (10 ∷ []) more in
    let marks_shape : more ≡ marks_line told.marks ++ 10 ∷ faults = append_assoc (marks_line told.marks) (10 ∷ []) faults in
    let with_left = record nothing { left = told.left } in
    ap (λ (text : List ℕ). told_after nothing (lines_of_text text)) left_shape
    ∙ ap (λ (lines : List (List ℕ)). told_after nothing lines) (first_line (left_line told.left) more (HasNo-left told.left kept.left))
    ∙ ap (λ (o : Option Line). option_map_or (λ said. told_after (with_line nothing said) (lines_of_text more)) o
    nothing) (left_read told.left kept.left)
    ∙ ap (λ (text : List ℕ). told_after with_left (lines_of_text text)) marks_shape
    ∙ ap (λ (lines : List (List ℕ)). told_after with_left lines)
    (first_line (marks_line told.marks) faults (HasNo-marks told.marks kept.marks))
    ∙ ap (λ (o : Option Line). option_map_or (λ said. told_after (with_line with_left said) (lines_of_text faults)) o
    nothing) (marks_read told.marks kept.marks)
    ∙ faults_read (record nothing { left = told.left; marks = told.marks }) told.faults notices
    (recursion_from_All IsReadableFault told.faults kept.faults.each) (omega (arith, kept.faults.few))
    ∙ notices_read (record told { notices = []; large = [] }) told.notices keys
    (recursion_from_All IsReadableNotice told.notices kept.notices.each) (omega (arith, kept.notices.few))
    ∙ keys_read (record told { large = [] }) told.large end
    (recursion_from_All IsFaultKey told.large kept.large.each) (omega (arith, kept.large.few))

fault_fits : (f : KnownFault) → IsReadableFault f → length (with_lf (known_fault_line f)) ≤ 134
fault_fits f is =
    omega (
      arith,
      length-append (known_fault_line f) (10 ∷ []),
      length-append f.key (32 ∷ numbers_text f.times.since f.times.told f.times.runs),
      is.key.0,
      length-numbers f.times.since f.times.told f.times.runs is.times,
    )

notice_fits : (n : SaidNotice) → IsReadableNotice n → length (with_lf (notice_line n)) ≤ 91
notice_fits n is =
    omega (
      arith,
      length-append (notice_line n) (10 ∷ []),
      length-append n.key (32 ∷ decimal n.told),
      is.key.0,
      length-number n.told is.told,
    )

large_fits : (key : List ℕ) → IsFaultKey key → length (with_lf (large_line key)) ≤ 71
large_fits key is = omega (arith, length-append (large_line key) (10 ∷ []), is.0)

text_fits : (told : Told) → IsKept told → length (memory_text told) ≤ 196608
text_fits told kept =
    let keys = flat_map (λ key. with_lf (large_line key)) told.large in
    let notices = flat_map (λ notice. with_lf (notice_line notice)) told.notices in
    let faults = flat_map (λ fault. with_lf (known_fault_line fault)) told.faults in
    omega (
      arith,
      length-append (with_lf (left_line told.left)) (with_lf (marks_line told.marks) ++ (faults ++ (notices ++ (keys ++ end)))),
      length-append (with_lf (marks_line told.marks)) (faults ++ (notices ++ (keys ++ end))),
      length-append (left_line told.left) (10 ∷ []),
      length-append (marks_line told.marks) (10 ∷ []),
      length-numbers told.left.unnamed told.left.limited told.left.repeated kept.left,
      length-numbers told.marks.ended told.marks.failing told.marks.met kept.marks,
      length-append faults (notices ++ (keys ++ end)),
      length-append notices (keys ++ end),
      length-append keys end,
      length-flat_map (λ fault. with_lf (known_fault_line fault)) told.faults,
      length-flat_map (λ notice. with_lf (notice_line notice)) told.notices,
      length-flat_map (λ key. with_lf (large_line key)) told.large,
      sum_by-le (λ fault. length (with_lf (known_fault_line fault))) 134 told.faults
          (λ k d inside. fault_fits _ (kept.faults.each k d inside)),
      sum_by-le (λ notice. length (with_lf (notice_line notice))) 91 told.notices
          (λ k d inside. notice_fits _ (kept.notices.each k d inside)),
      sum_by-le (λ key. length (with_lf (large_line key))) 71 told.large (λ k d inside. large_fits _ (kept.large.each k d inside)),
      kept.faults.few,
      kept.notices.few,
      kept.large.few,
    )

pub read_back : (told value : Told) → IsKept told → told ≡ value → IsReadBack value
read_back told value kept same = subst IsReadBack same (record { again = told_again told kept; fits = text_fits told kept })

-- ---- what is kept

either : {X : Type 0} (P : X → Type 0) (b : Bool) (x y : X) → P x → P y → P (if b then x else y)
either P true x y p q = p
either P false x y p q = q

All-room : {X : Type 0} (P : X → Type 0) (most : ℕ) (items : List X) → All P items → All P (room most items)
All-room P most items each = either (All P) (nat_lt (length items) most) items (drop 1 items) each (All-drop P 1 items each)

length-room : {X : Type 0} (most : ℕ) (items : List X) → 0 < most → length items ≤ most → length (room most items) + 1 ≤ most
length-room most items some few = elim (cases_lt (length items) most) [
  | inl less ↦ rw (lt-ltb (length items) most less) (omega (arith, less))
  | inr full ↦ rw (le-ltb (length items) most full) (omega (arith, few, full, some, length-drop 1 items))
]

-- a list that an item was added to, or none for want of memory
few_pushed : {X T E : Type 0} (P : X → Type 0) (most : ℕ) (old items : List X) (item : X) (result : Result T E) → 0 < most
    → OnOk result (items ≡ room most old ++ item ∷ []) → OnErr result (items ≡ room most old) → P item → AreFew P most old
    → AreFew P most items
few_pushed P most old items item (Ok value) some ok err is kept = rw ok (record {
  each = All-push P (room most old) item (All-room P most old kept.each) is;
  few = omega (arith, length-append (room most old) (item ∷ []), length-room most old some kept.few);
})
few_pushed P most old items item (Err e) some ok err is kept = rw err (record {
  each = All-room P most old kept.each;
  few = omega (arith, length-room most old some kept.few);
})

few_filtered : {X : Type 0} (P : X → Type 0) (most : ℕ) (p : X → Bool) (items : List X) → AreFew P most items
    → AreFew P most (filter p items)
few_filtered P most p items kept = record {
  each = All-filter p P items kept.each;
  few = omega (arith, kept.few, length-filter p items, count_by-le-length p items);
}

pub fault_kept : {T E : Type 0} (told : Told) (items : List KnownFault) (fault : KnownFault) (result : Result T E)
    → OnOk result (items ≡ room 16 told.faults ++ fault ∷ []) → OnErr result (items ≡ room 16 told.faults) → IsReadableFault fault
    → IsKept told → IsKept (record told { faults = items })
fault_kept told items fault result ok err is kept = record {
  faults = few_pushed IsReadableFault 16 told.faults items fault result (omega arith) ok err is kept.faults;
  left = kept.left;
  marks = kept.marks;
  notices = kept.notices;
  large = kept.large;
}

pub notice_kept : {T E : Type 0} (told : Told) (items : List SaidNotice) (notice : SaidNotice) (result : Result T E)
    → OnOk result (items ≡ room 1000 told.notices ++ notice ∷ []) → OnErr result (items ≡ room 1000 told.notices)
    → IsReadableNotice notice → IsKept told → IsKept (record told { notices = items })
notice_kept told items notice result ok err is kept = record {
  faults = kept.faults;
  left = kept.left;
  marks = kept.marks;
  notices = few_pushed IsReadableNotice 1000 told.notices items notice result (omega arith) ok err is kept.notices;
  large = kept.large;
}

pub large_kept : {T E : Type 0} (told : Told) (items : List (List ℕ)) (key : List ℕ) (result : Result T E)
    → OnOk result (items ≡ room 1000 told.large ++ key ∷ []) → OnErr result (items ≡ room 1000 told.large)
    → IsFaultKey key → IsKept told → IsKept (record told { large = items })
large_kept told items key result ok err is kept = record {
  faults = kept.faults;
  left = kept.left;
  marks = kept.marks;
  notices = kept.notices;
  large = few_pushed IsFaultKey 1000 told.large items key result (omega arith) ok err is kept.large;
}

pub removed_kept : (told : Told) (place : ℕ) → place < length told.faults → IsKept told
    → IsKept (record told { faults = remove told.faults place })
removed_kept told place inside kept = record {
  faults = record {
    each = All-append IsReadableFault (take place told.faults) (drop (suc place) told.faults)
        (All-take IsReadableFault place told.faults kept.faults.each) (All-drop IsReadableFault (suc place) told.faults kept.faults.each);
    few = omega (arith, kept.faults.few, length-remove told.faults place inside);
  };
  left = kept.left;
  marks = kept.marks;
  notices = kept.notices;
  large = kept.large;
}

pub replaced_kept : (told : Told) (place : ℕ) (fault : KnownFault) → IsReadableFault fault → IsKept told
    → IsKept (record told { faults = set told.faults place fault })
replaced_kept told place fault is kept = record {
  faults = record {
    each = All-set IsReadableFault told.faults place fault is kept.faults.each;
    few = omega (arith, kept.faults.few, length-set told.faults place fault);
  };
  left = kept.left;
  marks = kept.marks;
  notices = kept.notices;
  large = kept.large;
}

pub faults_filtered : (told : Told) (items : List KnownFault) (p : KnownFault → Bool) → items ≡ filter p told.faults → IsKept told
    → IsKept (record told { faults = items })
faults_filtered told items p is kept = record {
  faults = subst (AreFew IsReadableFault 16) (sym is) (few_filtered IsReadableFault 16 p told.faults kept.faults);
  left = kept.left;
  marks = kept.marks;
  notices = kept.notices;
  large = kept.large;
}

pub notices_filtered : (told : Told) (items : List SaidNotice) (p : SaidNotice → Bool) → items ≡ filter p told.notices → IsKept told
    → IsKept (record told { notices = items })
notices_filtered told items p is kept = record {
  faults = kept.faults;
  left = kept.left;
  marks = kept.marks;
  notices = subst (AreFew IsReadableNotice 1000) (sym is) (few_filtered IsReadableNotice 1000 p told.notices kept.notices);
  large = kept.large;
}

pub large_filtered : (told : Told) (items : List (List ℕ)) (p : List ℕ → Bool) → items ≡ filter p told.large → IsKept told
    → IsKept (record told { large = items })
large_filtered told items p is kept = record {
  faults = kept.faults;
  left = kept.left;
  marks = kept.marks;
  notices = kept.notices;
  large = subst (AreFew IsFaultKey 1000) (sym is) (few_filtered IsFaultKey 1000 p told.large kept.large);
}

pub ruleset line_laws = (line_taken, line_ends, line_odd, text_over)
