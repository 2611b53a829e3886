-- Lines, quoting, entries and groups of lines of an mboxrd file.
use Rattle.std.{
  proofs.Common.{◌≡◌, ◌≢◌, inl, inr, ℕ, zero, suc, ◌+◌, ◌<◌, ◌≤◌, List, [], ◌∷◌, ◌++◌, length, take, drop, refl, sym, ap, ◌∙◌, arith, ◌-◌},
  proofs.Common.{append_assoc, ◌*◌, true, false, map, get_or, slice_index, ◌==◌, cond, codes},
  proofs.lemmas.{Bool.{ne_eqb, cond_both, true≢false, Decides.{eqb_tells, Decides-eqb}}, Slice.Eq.starts_is},
  proofs.lemmas.List.{drop-append-le, drop_all, drop_more, take_all, length-take-le, get_or-drop, get_or-take, get_or_default, length-take},
  proofs.lemmas.List.{length-drop, take-append-drop, take_more, append-nil, drop_at, length-append, take_at, append_cancel_right},
  proofs.lemmas.List.{flat_map_more, map-append, Elements.{recursion_from_All, All-from_recursion, All-map}, Sums.sum_by-append},
  proofs.lemmas.List.{Concat.flat_map-append, Folds.flat_map-map},
  specs.List.{flat_map, onto_first, AllByRecursion},
}
use Rattle.mail_terms.{specs.Text.{IsWhole, HasNoLf}, proofs.ListLemmas.all_append}
use Rattle.mail_store.specs.{
  FlatFile.{edges_of, piece_at},
  Mboxrd.{lines_of, IsMboxLine, from_words, begins_entry, is_marked, quoted, unquoted, quoted_text, unquoted_text, wire_size, separator},
  Mboxrd.{UnquotesQuoted, entry_of, Group, IsInner, IsMboxGroup, group_bytes, group_text, MboxFile, MayGoOn, EntryAddsText, OneListOfTexts},
  Mboxrd.{IsApart, OpensEntry, CutsGroup, CutsLine, HoldsText},
}

-- ---- lists of lines

abbrev pub joined : List (List ℕ) → List ℕ
joined lines = flat_map (λ (line : List ℕ). line) lines

-- the first line, empty if there is none
abbrev pub first_of : List (List ℕ) → List ℕ
first_of [] = []
first_of (line ∷ _) = line

pub onto_parts : (byte : ℕ) (parts : List (List ℕ)) → (joined (onto_first byte parts) ≡ byte ∷ joined parts)
    × (first_of (onto_first byte parts) ≡ byte ∷ first_of parts) × (drop 1 (onto_first byte parts) ≡ drop 1 parts)
onto_parts _ [] = (refl, refl, refl)
onto_parts _ (_ ∷ _) = (refl, refl, refl)

-- ---- the first line

pub plain_all : (text : List ℕ) → ((k : ℕ) → k < length text → slice_index text k ≢ 10) → HasNoLf text
plain_all text none = recursion_from_All _ text (λ k d inside. rw (get_or_default text k d 0 inside) (none k inside))

words_first : (words rest : List ℕ) → HasNoLf words → lines_of ((words ++ 10 ∷ []) ++ rest) ≡ (words ++ 10 ∷ []) ∷ lines_of rest
words_first [] _ _ = refl
words_first (byte ∷ words) rest plain = rw (ne_eqb byte 10 plain.0, words_first words rest plain.1) refl

-- a line and what follows it
pub line_first : (line rest : List ℕ) → IsMboxLine line → lines_of (line ++ rest) ≡ line ∷ lines_of rest
line_first _ rest is = cc (words_first is.words rest is.plain)

-- a last piece without LF
pub piece_alone : (piece : List ℕ) → HasNoLf piece → 0 < length piece → lines_of piece ≡ piece ∷ []
piece_alone [] plain some = absurd (omega arith)
piece_alone (byte ∷ []) plain _ = rw (ne_eqb byte 10 plain.0) refl
piece_alone (byte ∷ next ∷ rest) plain _ = rw (ne_eqb byte 10 plain.0, piece_alone (next ∷ rest) plain.1 (omega arith)) refl

-- the bytes up to the first LF are the first line
pub cut_at : (text : List ℕ) (n : ℕ) → n < length text → ((k : ℕ) → k < n → slice_index text k ≢ 10) → slice_index text n ≡ 10
    → CutsLine text (take (n + 1) text) (drop (n + 1) text)
cut_at text n inside none at = record {
  lines = cc (take-append-drop (n + 1) text, line_first (take (n + 1) text) (drop (n + 1) text) is);
  whole = sym (take-append-drop (n + 1) text);
  ended = inl is;
}
  where
    is : IsMboxLine (take (n + 1) text)
    is = record {
      words = take n text;
      plain = plain_all _ (λ k below.
          let early : k < n = omega (arith, below, length-take n text) in
          rw (get_or-take n text k 0 early) (none k early));
      ended = rw (take_more text n 0 inside, at) refl;
    }

-- what follows the last LF but the one at the end is a line
pub line_back : (front : List ℕ) (n : ℕ) → n ≤ length front
    → ((k : ℕ) → n ≤ k → k < length front → slice_index front k ≢ 10) → IsMboxLine (drop n (front ++ 10 ∷ []))
line_back front n within none = record {
  words = drop n front;
  plain = plain_all _ (λ k inside at. none (n + k) (omega arith) (omega (arith, inside, length-drop n front))
      (sym (get_or-drop n front k 0) ∙ at));
  ended = drop-append-le n front (10 ∷ []) within;
}

-- ---- whole texts

-- the lines make up the text
pub lines_joined : (text : List ℕ) → joined (lines_of text) ≡ text
lines_joined [] = refl
lines_joined (byte ∷ rest) = elim (eqb_tells byte 10) [
  | inl p ↦ rw (p.0, lines_joined rest) (cc)
  | inr p ↦ rw p.0 (cc ((onto_parts byte (lines_of rest)).0, lines_joined rest))
]

-- lines are the lines of what they make up
pub lines_kept : (lines : List (List ℕ)) (rest : List ℕ) → AllByRecursion IsMboxLine lines
    → lines_of (joined lines ++ rest) ≡ lines ++ lines_of rest
lines_kept [] _ _ = refl
lines_kept (line ∷ lines) rest all =
    cc (append_assoc line (joined lines) rest, line_first line (joined lines ++ rest) all.0, lines_kept lines rest all.1)

pub empty_line : IsMboxLine (10 ∷ [])
empty_line = record { words = []; plain = tt; ended = refl }

ended_lines : (front : List ℕ) → (line : List ℕ) × (lines : List (List ℕ))
    × (lines_of (front ++ 10 ∷ []) ≡ line ∷ lines) × AllByRecursion IsMboxLine (line ∷ lines)
ended_lines [] = (10 ∷ [], [], refl, (empty_line, tt))
ended_lines (byte ∷ front) =
    let (line, lines, are, (first, others)) = ended_lines front in elim (eqb_tells byte 10) [
      | inl p ↦ (10 ∷ [], line ∷ lines, rw (p.0, are) refl, (empty_line, (first, others)))
      | inr p ↦
          let more : IsMboxLine (byte ∷ line) = record { words = byte ∷ first.words; plain = (p.1, first.plain); ended = cc } in
          (byte ∷ line, lines, rw (p.0, are) refl, (more, others))
    ]

pub whole_lines : (text : List ℕ) → IsWhole text → AllByRecursion IsMboxLine (lines_of text)
whole_lines _ whole = elim whole [
  | inl e ↦ rw e tt
  | inr p ↦ let ended = ended_lines p.0 in rw (p.1, ended.2) ended.3
]

-- ---- marked lines

-- a line that begins with `From ` has these bytes
pub begins_with : (line : List ℕ) → begins_entry line ≡ true → line ≡ from_words ++ drop 5 line
begins_with line is = (starts_is Decides-eqb line from_words (begins_entry line) refl).0 is

pub marked_len : (line : List ℕ) → is_marked line ≡ true → 5 ≤ length line
marked_len [] is = absurd (true≢false (sym is))
marked_len (byte ∷ rest) is = elim (eqb_tells byte 62) [
  | inl p ↦ omega (arith, marked_len rest (rw p.0 at is))
  | inr p ↦ omega (arith, ap length (begins_with (byte ∷ rest) (rw p.0 at is)))
]

-- ---- one line

pub unquoted_other : (line : List ℕ) → is_marked line ≡ false → unquoted line ≡ line
unquoted_other [] is = refl
unquoted_other (byte ∷ _) is = elim (eqb_tells byte 62) [
  | inl p ↦ rw (p.0, rw p.0 at is) refl
  | inr p ↦ rw p.0 refl
]

-- unquoting a quoted line gives the line
pub line_read : (line : List ℕ) → unquoted (quoted line) ≡ line
line_read line = cond_both _ (62 ∷ line) line (λ l. unquoted l ≡ line) (λ is. rw is refl) (unquoted_other _)

-- a line that begins with `From ` is marked
pub entry_marked : (line : List ℕ) → is_marked line ≡ false → begins_entry line ≡ false
entry_marked [] is = refl
entry_marked (byte ∷ _) is = elim (eqb_tells byte 62) [
  | inl p ↦ rw p.1 refl
  | inr p ↦ rw p.0 at is
]

-- no quoted line begins with `From `
pub quoted_apart : (line : List ℕ) → begins_entry (quoted line) ≡ false
quoted_apart line = cond_both _ (62 ∷ line) line (λ l. begins_entry l ≡ false) (λ _. refl) (entry_marked line)

pub quoted_line : (line : List ℕ) → IsMboxLine line → IsMboxLine (quoted line)
quoted_line line is = cond_both _ (62 ∷ line) line IsMboxLine (λ _. record {
  words = 62 ∷ is.words;
  plain = (omega arith, is.plain);
  ended =
      cc;
}) (λ _. is)

-- ---- whole texts

pub quoted_lines : (lines : List (List ℕ)) → AllByRecursion IsMboxLine lines → lines_of (flat_map quoted lines) ≡ map quoted lines
quoted_lines [] _ = refl
quoted_lines (line ∷ lines) all =
    rw (line_first (quoted line) (flat_map quoted lines) (quoted_line line all.0), quoted_lines lines all.1) refl

pub lines_read : (lines : List (List ℕ)) → flat_map unquoted (map quoted lines) ≡ joined lines
lines_read [] = refl
lines_read (line ∷ lines) = rw (line_read, lines_read lines) refl

pub unquotes_quoted : UnquotesQuoted
unquotes_quoted text whole = cc (quoted_lines (lines_of text) (whole_lines text whole), lines_read (lines_of text), lines_joined text)

-- ---- copying a text in runs

-- `out` is the lines of the text as `shows` gives them, up to `rest`, without the front of `run`
pub record Copies (shows : List ℕ → List ℕ) (out run rest text : List ℕ) : Type 0 where
  pub front : List ℕ
  pub split : run ≡ front ++ rest
  pub fits : length rest ≤ length run
  pub shown : out ++ (front ++ flat_map shows (lines_of rest)) ≡ flat_map shows (lines_of text)

pub front_taken : (run front rest : List ℕ) → run ≡ front ++ rest → (take (length run - length rest) run ≡ front)
    × (drop (length run - length rest) run ≡ rest)
front_taken _ front rest e =
    let size : length front ≡ length (front ++ rest) - length rest = omega (arith, length-append front rest) in
    rw e (take_at front rest _ size, drop_at front rest _ size)

-- a line that is shown as it is
pub copies_plain : (shows : List ℕ → List ℕ) (out run rest text line after : List ℕ) → Copies shows out run rest text
    → CutsLine rest line after → shows line ≡ line → Copies shows out run after text
copies_plain shows _ _ _ _ line after was cut same = record {
  front = was.front ++ line;
  split = cc (append_assoc was.front line after);
  fits = omega (arith, was.fits, ap length cut.whole, length-append line after);
  shown = rw append_assoc (rw (cut.lines, same) at was.shown);
}

-- a line that is shown with other bytes at its front: the run ends before it
pub copies_changed : (shows : List ℕ → List ℕ) (out run rest text line after extra kept new later : List ℕ) → Copies shows out run rest text
    → CutsLine rest line after → shows line ≡ extra ++ kept → new ≡ (out ++ take (length run - length rest) run) ++ extra
    → later ≡ kept ++ after → Copies shows new later after text
copies_changed _ _ run rest _ _ after _ kept _ later was cut changed is split = record {
  front = kept;
  split = split;
  fits = omega (arith, ap length split, length-append kept after);
  shown = rw (is, (front_taken run was.front rest was.split).0)
      (simp append_assoc (simp append_assoc at (rw (cut.lines, changed) at was.shown)));
}

longer_lines : (lines : List (List ℕ)) → length (joined lines) ≤ length (flat_map quoted lines)
longer_lines [] = omega arith
longer_lines (line ∷ lines) =
    let one = cond_both (is_marked line) (62 ∷ line) line (λ l. length line ≤ length l) (λ _. omega arith) (λ _. omega arith) in
    omega (arith, longer_lines lines, length-append line (joined lines), length-append (quoted line) (flat_map quoted lines), one)

pub quoted_longer : (text : List ℕ) → length text ≤ length (quoted_text text)
quoted_longer text = omega (arith, longer_lines, ap length (lines_joined text))

pub quoted_first : (line after : List ℕ) → IsMboxLine line → quoted_text (line ++ after) ≡ quoted line ++ quoted_text after
quoted_first line after is = cc (line_first line after is)

pub quoted_last : (front line : List ℕ) → IsWhole front → IsMboxLine line → quoted_text (front ++ line) ≡ quoted_text front ++ quoted line
quoted_last front line whole is =
    let parts = lines_kept _ line (whole_lines _ whole) in
    ap (λ (l : List ℕ). quoted_text (l ++ line)) (sym (lines_joined front)) ∙ ap (flat_map quoted) parts
    ∙ flat_map-append quoted (lines_of front) (lines_of line)
    ∙ ap (λ (l : List ℕ). quoted_text front ++ l) (ap quoted_text (sym (append-nil line)) ∙ quoted_first _ [] is ∙ append-nil (quoted line))

-- of the text, the lines before `from` are where they were, and the others are quoted and end at `end`
pub record Quoting (text old bytes : List ℕ) (from to end : ℕ) : Type 0 where
  pub fits : from ≤ length text
  pub size : length bytes ≡ length old
  pub whole : IsWhole (take from text)
  pub front : take from bytes ≡ take from text
  pub room : length (quoted_text (take from text)) ≤ to
  pub place : to + length (quoted_text (drop from text)) ≡ end
  pub back : drop to bytes ≡ quoted_text (drop from text) ++ drop end old

-- ---- the length of a quoted text

-- of the lines of a text before `rest`, `marked` are marked
pub record Counts (text rest : List ℕ) (marked : ℕ) : Type 0 where
  pub total : length (quoted_text text) + length rest ≡ length text + (marked + length (quoted_text rest))
  pub few : 5 * marked + length rest ≤ length text

-- one more line, of which so many are marked
pub counts_line : (text rest line after : List ℕ) (marked more : ℕ) → Counts text rest marked → CutsLine rest line after
    → length (quoted line) ≡ more + length line → 5 * more ≤ length line → Counts text after (marked + more)
counts_line _ _ line after _ _ was cut one five =
    let shown = ap (λ ls. length (flat_map quoted ls)) cut.lines ∙ length-append (quoted line) (quoted_text after) in
    let whole = ap length cut.whole ∙ length-append line after in
    record { total = omega (arith, was.total, shown, one, whole); few = omega (arith, was.few, whole, five) }

-- ---- the size of an unquoted text

-- the lines of a text before `rest` take this many octets on the wire
pub record Sizes (text rest : List ℕ) (size : ℕ) : Type 0 where
  pub total : size + wire_size (unquoted_text rest) ≡ wire_size (unquoted_text text)
  pub few : size + 2 * length rest ≤ 2 * length text

-- one more line
pub sizes_line : (text rest line after : List ℕ) (size more : ℕ) → Sizes text rest size → CutsLine rest line after
    → more ≡ wire_size (unquoted line) → more ≤ 2 * length line → Sizes text after (size + more)
sizes_line _ _ line after size _ was cut is bound =
    let show = unquoted line in
    let shown = ap (λ (ls : List (List ℕ)). wire_size (flat_map unquoted ls)) cut.lines in
    let parts = sum_by-append (λ (byte : ℕ). cond (byte == 10) 1 0) show (unquoted_text after) in
    let whole = ap length cut.whole ∙ length-append line after in
    record {
      total = omega (arith, was.total, shown, parts, length-append show (unquoted_text after), is);
      few =
          omega (arith, was.few, whole, bound);
    }

-- ---- groups as lists of lines

-- the lines of a group, with the empty one after them
abbrev pub group_lines : Group → List (List ℕ)
group_lines group = group.head ∷ (group.lines ++ (10 ∷ []) ∷ [])

pub inner_lines : (lines : List (List ℕ)) → AllByRecursion IsInner lines → AllByRecursion IsMboxLine lines
inner_lines lines all = recursion_from_All _ lines (λ k d inside. (All-from_recursion _ lines all k d inside).0)

-- the lines of bytes that begin with a group
pub group_first : (group : Group) (rest : List ℕ) → IsMboxLine group.head → AllByRecursion IsMboxLine group.lines
    → lines_of (group_bytes group ++ rest) ≡ group_lines group ++ lines_of rest
group_first group rest head lines = rw (flat_map_more (λ (line : List ℕ). line) [] group.lines (10 ∷ []))
    (lines_kept (group_lines group) rest (head, all_append IsMboxLine group.lines ((10 ∷ []) ∷ []) lines (empty_line, tt)))

pub groups_lines : (groups : List Group) → AllByRecursion IsMboxGroup groups
    → lines_of (flat_map group_bytes groups) ≡ flat_map group_lines groups
groups_lines [] are = refl
groups_lines (group ∷ groups) (((head, _), inner), are) =
    rw (group_first group (flat_map group_bytes groups) head (inner_lines group.lines inner), groups_lines groups are) refl

-- ---- lists of lines are grouped in one way only

pub inner_apart : (lines : List (List ℕ)) → AllByRecursion IsInner lines → AllByRecursion IsApart (lines ++ (10 ∷ []) ∷ [])
inner_apart [] _ = (refl, tt)
inner_apart (_ ∷ lines) ((_, apart), all) = (apart, inner_apart lines all)

pub opens_groups : (groups : List Group) → AllByRecursion IsMboxGroup groups → OpensEntry (flat_map group_lines groups)
opens_groups [] are = tt
opens_groups (_ ∷ groups) (((_, opens), _), _) = opens

pub same_span : (xs ys rest other : List (List ℕ)) → AllByRecursion IsApart xs → AllByRecursion IsApart ys
    → OpensEntry rest → OpensEntry other → xs ++ rest ≡ ys ++ other → (xs ≡ ys) × (rest ≡ other)
same_span [] [] _ _ _ _ _ _ e = (refl, e)
same_span [] (y ∷ _) _ _ _ others opens _ e = absurd (true≢false (sym (rw e at opens) ∙ others.0))
same_span (x ∷ _) [] _ _ apart _ _ begins e = absurd (true≢false (sym (rw (← e) at begins) ∙ apart.0))
same_span (x ∷ xs) (y ∷ ys) rest other apart others opens begins e =
    let same = same_span xs ys rest other apart.1 others.1 opens begins (cc) in
    (cc, same.1)

same_texts : (groups others : List Group) → AllByRecursion IsMboxGroup groups → AllByRecursion IsMboxGroup others
    → flat_map group_lines groups ≡ flat_map group_lines others → map group_text groups ≡ map group_text others
same_texts [] [] are _ e = refl
same_texts (group ∷ groups) (other ∷ others) ((_, inner), are) ((_, also), be) e =
    let (same, rest) = same_span _ _ _ _ (inner_apart _ inner) (inner_apart _ also) (opens_groups _ are) (opens_groups _ be) (cc) in
    cc (append_cancel_right group.lines other.lines ((10 ∷ []) ∷ []) same, same_texts groups others are be rest)
same_texts groups _ are _ e = absurd (cc)

pub one_reading : OneListOfTexts
one_reading _ _ _ left right =
    let same = sym (groups_lines _ left.are) ∙ ap lines_of (sym left.whole ∙ right.whole) ∙ groups_lines _ right.are in
    cc (left.read, right.read, same_texts left.groups right.groups left.are right.are same)

-- ---- one more group

pub adds_group : (file : List ℕ) (texts : List (List ℕ)) (group : Group) → MboxFile file texts → IsMboxGroup group
    → MboxFile (file ++ group_bytes group) (texts ++ group_text group ∷ [])
adds_group _ _ group was is = record {
  groups = was.groups ++ group ∷ [];
  are = all_append _ _ _ was.are (is, tt);
  whole = ap (λ f. f ++ group_bytes group) was.whole ∙ flat_map_more group_bytes [] was.groups group;
  read = cc (map-append group_text was.groups (group ∷ []));
}

-- ---- entries

-- the group of a text's entry
abbrev pub entry_group : List ℕ → Group
entry_group text = record { head = separator; lines = map quoted (lines_of text) }

pub entry_is_group : (text : List ℕ) → IsWhole text → IsMboxGroup (entry_group text)
entry_is_group text whole = (
  (record { words = codes "From MAILER-DAEMON Thu Jan  1 00:00:00 1970"; plain = omega arith; ended = refl }, refl),
  recursion_from_All IsInner (map quoted (lines_of text)) (All-map IsInner quoted (lines_of text) (λ k d inside. (
    quoted_line _ (All-from_recursion _ (lines_of text) (whole_lines _ whole) k d inside),
    quoted_apart (get_or (lines_of text) k d),
  ))),
)

pub entry_bytes : (text : List ℕ) → group_bytes (entry_group text) ≡ entry_of text
entry_bytes text = cc (flat_map-map (λ (line : List ℕ). line) quoted (lines_of text))

pub entry_lines : (text : List ℕ) → IsWhole text → lines_of (entry_of text) ≡ group_lines (entry_group text)
entry_lines text whole =
    cc (
      entry_bytes text,
      append-nil (group_bytes (entry_group text)),
      groups_lines (entry_group text ∷ []) (entry_is_group text whole, tt),
      append-nil (group_lines (entry_group text)),
    )

pub adds_entry : EntryAddsText
adds_entry file text texts was whole = rw (entry_bytes, lines_read, lines_joined) at (adds_group _ _ _ was (entry_is_group _ whole))

-- ---- an entry may follow texts

lines_end : (line : List ℕ) (lines : List (List ℕ)) → IsMboxLine line → AllByRecursion IsMboxLine lines
    → (front : List ℕ) × (joined (line ∷ lines) ≡ front ++ 10 ∷ [])
lines_end line [] is _ = (is.words, cc (append-nil line))
lines_end line (next ∷ lines) is all =
    let later = lines_end _ lines all.0 all.1 in
    (line ++ later.0, cc (append_assoc line later.0 (10 ∷ [])))

pub joined_whole : (lines : List (List ℕ)) → AllByRecursion IsMboxLine lines → IsWhole (joined lines)
joined_whole [] _ = inl refl
joined_whole (_ ∷ _) all = inr (lines_end _ _ all.0 all.1)

abbrev pub EndsTwice : List ℕ → Type 0
EndsTwice bytes = (front : List ℕ) × (bytes ≡ front ++ 10 ∷ 10 ∷ [])

pub group_ends : (group : Group) → IsMboxGroup group → EndsTwice (group_bytes group)
group_ends group ((head, _), inner) =
    let (front, ends) = lines_end _ _ head (inner_lines _ inner) in
    (front, cc (append_assoc group.head (joined group.lines) (10 ∷ []), append_assoc front (10 ∷ []) (10 ∷ [])))

pub groups_go_on : (groups : List Group) → AllByRecursion IsMboxGroup groups → MayGoOn (flat_map group_bytes groups)
groups_go_on [] are = inl refl
groups_go_on (group ∷ groups) (((head, begins), inner), are) = inr (
  rw (begins_with group.head begins) refl,
  elim (groups_go_on groups are) [
    | inl none ↦ let (front, ends) = group_ends _ ((head, begins), inner) in (front, rw (none, append-nil (group_bytes group)) ends)
    | inr (_, (front, ends)) ↦ (group_bytes group ++ front, rw ends (sym (append_assoc (group_bytes group) front (10 ∷ 10 ∷ []))))
  ],
)

-- ---- the whole file

-- the front of the bytes stands for these texts; if the bytes stand for texts, the rest does too
pub record ReadsOn (bytes rest : List ℕ) (texts : List (List ℕ)) : Type 0 where
  pub front : List ℕ
  pub split : bytes ≡ front ++ rest
  pub read : MboxFile front texts
  pub later : (others : List (List ℕ)) → MboxFile bytes others → (more : List (List ℕ)) × MboxFile rest more

-- if the bytes stand for texts, the group that is cut off is their first
pub record Agrees (group after : List ℕ) : Type 0 where
  pub first : Group
  pub groups : List Group
  pub are : AllByRecursion IsMboxGroup (first ∷ groups)
  pub bytes : group ≡ group_bytes first
  pub whole : after ≡ flat_map group_bytes groups

pub agrees : (rest group after : List ℕ) (groups : List Group) → CutsGroup rest group after → 0 < length rest
    → AllByRecursion IsMboxGroup groups → rest ≡ flat_map group_bytes groups → Agrees group after
agrees rest group after [] cut some are whole = absurd (omega (arith, ap length whole))
agrees _ group after (first ∷ groups) (cut, opens) _ (is, are) whole =
    let lines : cut.head ∷ (cut.inner ++ lines_of after)
    ≡ first.head ∷ ((first.lines ++ (10 ∷ []) ∷ []) ++ flat_map group_lines groups) =
    cc (whole, groups_lines (first ∷ groups) (is, are)) in
    let (_, rest) = same_span _ _ _ _ cut.apart (inner_apart _ is.1) opens (opens_groups _ are) (cc) in
    let rest-is : after ≡ flat_map group_bytes groups =
    cc (lines_joined after, groups_lines groups are, lines_joined (flat_map group_bytes groups)) in
    record {
      first = first;
      groups = groups;
      are = (is, are);
      bytes = append_cancel_right group (group_bytes first) after (cc whole);
      whole = rest-is;
    }

-- the group of a quoted text
abbrev pub group_of : List ℕ → List ℕ → Group
group_of head text = record { head = head; lines = lines_of text }

pub group_of_bytes : (head text : List ℕ) → group_bytes (group_of head text) ≡ head ++ (text ++ 10 ∷ [])
group_of_bytes head text = cc (lines_joined text)

inner_from : (lines : List (List ℕ)) → AllByRecursion IsMboxLine lines → AllByRecursion IsApart (lines ++ (10 ∷ []) ∷ [])
    → AllByRecursion IsInner lines
inner_from [] _ _ = tt
inner_from (_ ∷ lines) all apart = ((all.0, apart.0), inner_from lines all.1 apart.1)

pub holds_group : (rest group after text : List ℕ) → CutsGroup rest group after → (held : HoldsText group text)
    → IsMboxGroup (group_of held.head text)
holds_group _ group after text cut held =
    let all = whole_lines _ held.whole in
    let same : group ≡ group_bytes (group_of held.head text) = cc (group_of_bytes held.head text) in
    let lines : cut.0.head ∷ (cut.0.inner ++ lines_of after) ≡ held.head ∷ ((lines_of text ++ (10 ∷ []) ∷ []) ++ lines_of after) =
    cc (group_first (group_of held.head text) after held.begins.0 all) in
    let inner = append_cancel_right cut.0.inner (lines_of text ++ (10 ∷ []) ∷ []) (lines_of after) (cc) in
    (held.begins, inner_from _ all (rw inner at cut.0.apart))

-- ---- the ends of a file

pub tail_is : (was : List ℕ) → (edges_of was).tail ≡ drop (length was) (0 ∷ 0 ∷ was)
tail_is was =
    let xs : List ℕ = 0 ∷ 0 ∷ was in
    rw (
      drop_more xs (length was) 0 (omega arith),
      drop_more xs (length was + 1) 0 (omega arith),
      drop_all (length was + 1 + 1) xs (omega arith),
    )

last_two : (n : ℕ) (was : List ℕ) → drop n (take (suc (suc n)) was) ≡ take 2 (drop n was)
last_two zero _ = refl
last_two (suc n) [] = refl
last_two (suc n) (a ∷ rest) = last_two n rest

front_tail : (n : ℕ) (was : List ℕ) → n ≤ length was → 2 ≤ n → (edges_of (take n was)).tail ≡ take 2 (drop (n - 2) was)
front_tail (suc (suc n)) was within _ =
    tail_is (take (suc (suc n)) was)
    ∙ ap (λ k. drop k (0 ∷ 0 ∷ take (suc (suc n)) was)) (length-take-le (suc (suc n)) was within) ∙ last_two n _
    ∙ ap (λ k. take 2 (drop k was)) (omega arith)
front_tail n was within two = absurd (grind arith)

front_head : (n : ℕ) (was : List ℕ) → 5 ≤ n → n ≤ length was → (edges_of (take n was)).head ≡ (edges_of was).head
front_head (suc (suc (suc (suc (suc n))))) (a ∷ b ∷ c ∷ d ∷ f ∷ _) _ _ = refl
front_head n was five within = absurd (grind arith)

-- the ends of the first bytes of a file
pub front_ends : (n : ℕ) (was : List ℕ) → 5 ≤ n → n ≤ length was
    → record { size = n; head = (edges_of was).head; tail = take 2 (drop (n - 2) was) } ≡ edges_of (take n was)
front_ends n was five within = sym (
    ap (λ size. record { size = size; head = (edges_of (take n was)).head; tail = (edges_of (take n was)).tail })
    (length-take-le n was within)
    ∙ ap (λ head. record { size = n; head = head; tail = (edges_of (take n was)).tail }) (front_head n _ five within)
    ∙ ap (λ tail. record { size = n; head = (edges_of was).head; tail = tail }) (front_tail n _ within (omega (arith, five))))

begins_long : (bytes : List ℕ) → begins_entry bytes ≡ true → 5 ≤ length bytes
begins_long (a ∷ b ∷ c ∷ d ∷ f ∷ _) is = omega arith
begins_long bytes is = absurd (grind arith)

-- no entry may follow some bytes, but fewer than `From ` has
pub few_are_other : (bytes : List ℕ) (n : ℕ) → n ≡ length bytes → (n ≡ 0 → ⊥) → n < 5 → MayGoOn bytes → ⊥
few_are_other bytes n is some few (inl none) = some (cc is)
few_are_other bytes n is _ few (inr begun) = omega (arith, is, few, begins_long)

-- a buffer of two bytes has what was read into it, if there was as much
pub read_whole : (start count : ℕ) (buf was : List ℕ) → length buf ≡ 2 → start + 2 ≤ length was
    → count ≡ length (piece_at start (length buf) was) → take count buf ≡ piece_at start (length buf) was → buf ≡ take 2 (drop start was)
read_whole start count buf was two within many read =
    let all = length-take-le (length buf) (drop start was) (omega (arith, two, within, length-drop start was)) in
    cc (take_all count buf (omega (arith, many, all)), read)
