-- Names of files and what they hold; the files of a Maildir in memory; which stems are flushed.
use Rattle.std.{
  proofs.Common.{◌≡◌, ℕ, zero, suc, ◌/◌, ◌%◌, ◌==◌, ◌<◌, Bool, true, false, List, [], ◌∷◌, ◌++◌, length, get_or, slice_index, refl, sym},
  proofs.Common.{ap, ◌∙◌, arith, Ok, inl, inr, All, not, codes, ◌+◌, take, map, String, string_bytes, HoldsAt, Contains, IsPermutation},
  proofs.Common.{◌||◌, ◌&&◌, bytes_eq, below_more, ◌≢◌, Vec, subst},
  proofs.lemmas.{Bool.{cases_lt, cond_both, Decides.nat_tests}, Simd.map-map, Cmp.nat_list_eq_equiv, Map.Views.any-filter_same},
  proofs.lemmas.List.{append-nil, append_cancel_left, take_all, take-append-le, get_or-take, get_or_past, length-take, append_assoc},
  proofs.lemmas.List.{length-map, get_or-map, map-append, take_more},
  proofs.lemmas.List.Elements.{All-nil, All-cons, All-append, All-from_recursion, All-map, Contains-get_or},
  proofs.lemmas.List.Elements.{Contains-append_left, Contains-append_right},
  proofs.lemmas.List.Sums.{AllPass-from_list_all, fails_before_first, position_or_len_is, prefix_len-le-length},
  proofs.lemmas.List.Folds.{prefix_len-append, list_any-append, list_any_at, Any-from_list_any},
  proofs.lemmas.List.Sorted.{IsPermutation-refl, IsPermutation-append_right, IsPermutation-middle, list_any-IsPermutation},
  proofs.lemmas.Slice.Eq.bytes_eq-Decides,
  proofs.Math.Bool.{or-false, or-true},
  specs.{List.{AllPass, AllZip, before_first, filter, position_or_len, list_any}, Fmt.{decimal, digits, digits_onto, digit_glyph}},
  specs.Int.{w32, to_be_bytes},
}
use Rattle.hex.{
  specs.Hex.{encode_lower, encode_with, lower_digits, IsBytes, decode_of},
  proofs.HexLemmas.{decode_of-encode_lower, length-encode_with},
}
use Rattle.sha2.{specs.Sha256.{sha256, digest_bytes, final_hash, initial_hash_256}, proofs.Facts256.length-sha256}
use Rattle.mail_terms.{
  specs.{UniqueId.{IsLegalId, HasIdRanges}, MaildirName.{base, is_colon}, Listing.{Item, has_item, is_flagged}},
  proofs.ListLemmas.{any_map, zip_on, zip_same},
}
use Rattle.mail_store.specs.{
  FileName.{account_text, is_comma, is_lower_hex_digit, name_of, stem, stem_of, IsAccountText, mail_file, names_id, is_held, is_odd},
  Maildir.{AllNamed, AreReached, AreTheirs, File, IsNamed, IsThere, IsWithout, Maildir, MayBeNamed, IsAsDurable, WereTaken, bases_told},
  Maildir.{memory_file, name_in, names_of, with_file},
  declared.maildir.disk.Folder.{Folder, TheVariants.{New, Cur}},
  MemoryMaildir.{MemoryMail, files_of_folder, shown},
  Held.{AreAmong, FoundDurable, HasDurable, HasStem, HasStems, any_name, flags_asked, flags_of, flags_sought, is_sought, odd_flags},
  Held.{ToldAreOdd, is_asked, sought_among},
  Loss.{with_flushed, flushed_by, is_among},
}

-- ---- digits

-- each place of the table below sixteen has a digit
digit_passes : (k : ℕ) → k < 16 → is_lower_hex_digit (slice_index lower_digits k) ≡ true
digit_passes k below = AllPass-from_list_all is_lower_hex_digit lower_digits refl k 0 below

-- what the digits of each byte are, all of the hexadecimal text is
hex_all : (P : ℕ → Type 0) (bytes : List ℕ)
    → ((k : ℕ) → P (slice_index lower_digits (slice_index bytes k / 16)) × P (slice_index lower_digits (slice_index bytes k % 16)))
    → All P (encode_lower bytes)
unfolding encode_with
hex_all P [] h = All-nil P
hex_all P (b ∷ rest) h =
    All-cons P _ (slice_index lower_digits (b % 16) ∷ encode_lower rest) (h 0).0
    (All-cons P _ (encode_lower rest) (h 0).1 (hex_all P rest (λ k. h (suc k))))

-- the hexadecimal text of bytes has only lower-case digits
digits_pass : (bytes : List ℕ) → IsBytes bytes → AllPass is_lower_hex_digit (encode_lower bytes)
digits_pass bytes h = hex_all (λ x. is_lower_hex_digit x ≡ true) bytes
    (λ k. (digit_passes (slice_index bytes k / 16) (omega (arith, h k)), digit_passes (slice_index bytes k % 16) (omega arith)))

-- the bytes of words are bytes
words_are_bytes : (h : List ℕ) (n : ℕ) → All (λ x. x < 256) (digest_bytes h n)
unfolding digest_bytes
words_are_bytes h zero = All-nil (λ x. x < 256)
words_are_bytes h (suc n) = All-append (λ x. x < 256) _ (to_be_bytes w32 (slice_index h n)) (words_are_bytes h n)
    (All-from_recursion (λ x. x < 256) (to_be_bytes w32 (slice_index h n)) (omega arith, (omega arith, (omega arith, (omega arith, tt)))))

IsBytes-from_all : (xs : List ℕ) → All (λ x. x < 256) xs → IsBytes xs
IsBytes-from_all xs all k = grind (arith, all k 0, get_or_past)

pub account_digits : (server : List ℕ) (port : ℕ) (username : List ℕ) → IsAccountText (account_text server port username)
unfolding sha256
account_digits server port username =
    let text = server ++ 0 ∷ [] ++ decimal port ++ 0 ∷ [] ++ username in
    let are = IsBytes-from_all (sha256 text) (words_are_bytes (final_hash initial_hash_256 text) 8) in
    (omega (arith, length-encode_with lower_digits (sha256 text), length-sha256 text), digits_pass (sha256 text) are)

-- ---- no colons and no commas

-- the byte ends neither a base nor a stem
abbrev IsPlain : ℕ → Type 0
IsPlain byte = (is_colon byte ≡ false) × (is_comma byte ≡ false)

-- a digit is plain
digit_is_plain : (byte : ℕ) → is_lower_hex_digit byte ≡ true → IsPlain byte
digit_is_plain _ h = (grind arith, grind arith)

-- a byte read from the table is plain, even past its end
table_is_plain : (k : ℕ) → IsPlain (slice_index lower_digits k)
table_is_plain k = elim (cases_lt k 16) [
  | inl below ↦ digit_is_plain _ (digit_passes k below)
  | inr past ↦ rw get_or_past (refl, refl)
]

-- a name in which no byte passes is whole before the first that does
all_before : (p : ℕ → Bool) (name : List ℕ) → All (λ byte. p byte ≡ false) name → before_first p name ≡ name
all_before p name h =
    rw (position_or_len_is p name (length name) 0 (omega arith) (λ k lt. h k 0 lt) (λ lt. absurd (omega arith)))
    (take_all (length name) name (omega arith))

stem_is_plain : (account uid : List ℕ) → IsAccountText account → All IsPlain (stem_of account uid)
stem_is_plain account uid h =
    All-append IsPlain account (46 ∷ encode_lower uid) (λ k d lt. digit_is_plain (get_or account k d) (h.1 k d lt))
    (All-cons IsPlain 46 (encode_lower uid) (refl, refl)
    (hex_all IsPlain uid (λ k. (table_is_plain (slice_index uid k / 16), table_is_plain (slice_index uid k % 16)))))

pub stem_stem_of : (account uid : List ℕ) → IsAccountText account → stem (stem_of account uid) ≡ stem_of account uid
stem_stem_of account uid h =
    cc (
      all_before is_colon (stem_of account uid) (λ k d lt. (stem_is_plain account uid h k d lt).0),
      all_before is_comma (stem_of account uid) (λ k d lt. (stem_is_plain account uid h k d lt).1),
    )

-- a decimal has only digits
glyph_is_no_colon : (d : ℕ) → d < 10 → is_colon (digit_glyph false d) ≡ false
glyph_is_no_colon d _ = grind (arith, nat_tests)

onto_has_no_colon : (k n : ℕ) (acc : List ℕ) → All (λ byte. is_colon byte ≡ false) acc
    → All (λ byte. is_colon byte ≡ false) (digits_onto k 10 false n acc)
onto_has_no_colon zero n _ h = h
onto_has_no_colon (suc k) n acc h =
    let more = All-cons (λ byte. is_colon byte ≡ false) (digit_glyph false (n % 10)) acc (glyph_is_no_colon (n % 10) (omega arith)) h in
    cond_both (n / 10 == 0) _ _ (All (λ byte. is_colon byte ≡ false)) (λ _. more)
    (λ _. onto_has_no_colon k (n / 10) (digit_glyph false (n % 10) ∷ acc) more)

decimal_has_no_colon : (n : ℕ) → All (λ byte. is_colon byte ≡ false) (decimal n)
unfolding digits
decimal_has_no_colon n = onto_has_no_colon 64 n [] (All-nil (λ byte. is_colon byte ≡ false))

pub base_name_of : (account uid : List ℕ) (size : ℕ) → IsAccountText account → base (name_of account uid size) ≡ name_of account uid size
base_name_of account uid size h =
    all_before is_colon (name_of account uid size)
    (All-append (λ byte. is_colon byte ≡ false) (stem_of account uid ++ codes ",S=") (decimal size)
    (All-append (λ byte. is_colon byte ≡ false) (stem_of account uid) (codes ",S=") (λ k d lt. (stem_is_plain account uid h k d lt).0)
    (All-from_recursion (λ byte. is_colon byte ≡ false) (codes ",S=") (refl, (refl, (refl, tt))))) (decimal_has_no_colon size))

-- what follows a byte that passes doesn't matter
before_first-cut : (p : ℕ → Bool) (front rest : List ℕ) (mark : ℕ) → p mark ≡ true
    → before_first p (front ++ mark ∷ rest) ≡ before_first p front
before_first-cut p front rest mark passes =
    let same : position_or_len p (front ++ mark ∷ rest) ≡ position_or_len p front = grind (arith, prefix_len-append, nat_tests) in
    rw same (take-append-le (position_or_len p front) front (mark ∷ rest) (prefix_len-le-length (λ x. not (p x)) front))

pub stem_name_of : (account uid : List ℕ) (size : ℕ) → IsAccountText account → stem (name_of account uid size) ≡ stem_of account uid
stem_name_of account uid size h =
    cc (
      base_name_of account uid size h,
      append_assoc (stem_of account uid) (codes ",S=") (decimal size),
      before_first-cut is_comma (stem_of account uid) (83 ∷ 61 ∷ decimal size) 44 refl,
      all_before is_comma (stem_of account uid) (λ k d lt. (stem_is_plain account uid h k d lt).1),
    )

-- a colon and what follows it are no part of the base
pub base_marked : (name marks : List ℕ) → base (name ++ 58 ∷ marks) ≡ base name
base_marked name marks = before_first-cut is_colon name marks 58 refl

pub base_suffixed : (name suffix : List ℕ) → slice_index suffix 0 ≡ 58 → base (name ++ suffix) ≡ base name
base_suffixed name [] first = absurd (omega (arith, first))
base_suffixed name (colon ∷ marks) first = rw first (base_marked name marks)

-- a base has no more to cut off
pub base_base : (name : List ℕ) → base (base name) ≡ base name
base_base name = all_before _ _ (λ k d inside.
    let below : k < position_or_len is_colon name = omega (arith, inside, length-take (position_or_len is_colon name) name) in
    rw (get_or-take (position_or_len is_colon name) name k d below) (fails_before_first is_colon name k d below))

-- a base has the stem of the name
pub stem_base : (name : List ℕ) → stem (base name) ≡ stem name
stem_base name = cc (base_base name)

-- ---- different names

-- what the law of legal ids says
abbrev pub HaveRanges : Type 0
HaveRanges = (id : List ℕ) → IsLegalId id → HasIdRanges id

-- the text of a legal id reads as that id
pub decode_of_legal : HaveRanges → (uid digits : List ℕ) → IsLegalId uid → encode_lower uid ≡ digits → decode_of digits ≡ Ok uid
decode_of_legal ranges uid digits legal same = cc (decode_of-encode_lower uid (IsBytes-from_all uid (λ k d inside. omega (
  arith,
  ((ranges uid legal).characters k d inside).1,
))))

pub stem_of_injective : HaveRanges → (account a b : List ℕ) → IsLegalId a → IsLegalId b → stem_of account a ≡ stem_of account b → a ≡ b
stem_of_injective ranges _ a b la lb same =
    grind (
      arith,
      append_cancel_left {A = ℕ},
      decode_of_legal ranges a (encode_lower a) la refl,
      decode_of_legal ranges b (encode_lower b) lb refl,
    )

pub Contains-map : {A B : Type 0} (f : A → B) (xs : List A) (x : A) → Contains xs x → Contains (map f xs) (f x)
Contains-map f xs x c = (c.0, omega (arith, c.1, length-map xs f), cc (get_or-map f xs c.0 x (f x) c.1))

-- ---- names that are told

-- the names that are told of files are those that the files are shown under
bases_shown : {Z : Type 0} (names : List (String Z)) (files : List File) → map string_bytes names ≡ names_of files
    → bases_told names ≡ names_of (map shown files)
bases_shown names files told = cc (map-map base string_bytes names, map-map base name_in files, map-map name_in shown files)

-- all that is in memory counts as durable
pub all_shown : (files : List File) → AllNamed (map shown files)
all_shown [] = tt
all_shown (f ∷ files) = (refl, all_shown files)

filter_named : (files : List File) → AllNamed files → filter (λ (f : File). f.is_named) files ≡ files
filter_named [] _ = refl
filter_named (f ∷ files) all = rw (all.0, filter_named files all.1) refl

-- names of a folder are those of files that are shown
pub theirs_of : {Z : Type 0} (known : MemoryMail) (folder : Folder) (names : List (String Z))
    → known.maildir.files ≡ map shown (known.in_cur ++ known.in_new) → map string_bytes names ≡ names_of (files_of_folder known folder)
    → AreTheirs known.maildir.files names
unfolding AreTheirs
theirs_of known folder names all told = λ k d inside.
    let name = get_or names k d in
    rw (all, filter_named (map shown (known.in_cur ++ known.in_new)) (all_shown (known.in_cur ++ known.in_new)))
    (in_both folder (rw (bases_shown names (files_of_folder known folder) told) at
    (Contains-map (λ n. base (string_bytes n)) names name (Contains-get_or names k d inside))))
  where
    both : names_of (map shown (known.in_cur ++ known.in_new)) ≡ names_of (map shown known.in_cur) ++ names_of (map shown known.in_new)
    both = ap names_of (map-append shown known.in_cur known.in_new) ∙ map-append name_in (map shown known.in_cur) (map shown known.in_new)

    in_both : {x : List ℕ} (folder : Folder) → Contains (names_of (map shown (files_of_folder known folder))) x
        → Contains (names_of (map shown (known.in_cur ++ known.in_new))) x
    in_both {x} New there = rw both (Contains-append_right (names_of (map shown known.in_cur)) (names_of (map shown known.in_new)) x there)
    in_both {x} Cur there = rw both (Contains-append_left (names_of (map shown known.in_cur)) (names_of (map shown known.in_new)) x there)

-- a file went to the other folder, and is shown as before
pub moved_shown : (cur front back : List File) (f g : File) → shown g ≡ shown f
    → IsPermutation (map shown (cur ++ (front ++ f ∷ back))) (map shown ((cur ++ g ∷ []) ++ (front ++ back)))
moved_shown cur front back f g same =
    let was : map shown (cur ++ (front ++ f ∷ back)) ≡ map shown cur ++ (map shown front ++ shown f ∷ map shown back) =
    map-append shown cur (front ++ f ∷ back) ∙ ap (λ (fs : List File). map shown cur ++ fs) (map-append shown front (f ∷ back)) in
    let is : map shown ((cur ++ g ∷ []) ++ (front ++ back)) ≡ map shown cur ++ shown f ∷ (map shown front ++ map shown back) =
    ap (map shown) (append_assoc cur (g ∷ []) (front ++ back)) ∙ map-append shown cur (g ∷ (front ++ back))
    ∙ ap (λ (fs : List File). map shown cur ++ shown g ∷ fs) (map-append shown front back)
    ∙ ap (λ (s : File). map shown cur ++ s ∷ (map shown front ++ map shown back)) same in
    rw (was, is) (IsPermutation-append_right (map shown cur) _ _ (IsPermutation-middle (map shown front) (shown f) (map shown back)))

-- ---- names that are looked up

-- if nothing reads as the text, it isn't among what is read
pub not_read : {A : Type 0} (read : A → List ℕ) (xs : List A) (text : List ℕ) → All (λ x. read x ≢ text) xs
    → Contains (map read xs) text → ⊥
not_read read xs text none c = All-map (λ t. t ≢ text) read xs none c.0 text c.1 c.2

-- the name of a file that was found is among the names
pub named_there : {Z Y : Type 0} (pairs : List (String Z × Vec ℕ Y)) (name : List ℕ) (k : ℕ) (p : String Z × Vec ℕ Y) → k < length pairs
    → p ≡ get_or pairs k p → string_bytes p.0 ≡ name → Contains (names_of (map memory_file pairs)) name
named_there pairs name k p below is named =
    subst (λ (names : List (List ℕ)). Contains names name) (sym (map-map name_in memory_file pairs))
    (rw named at (Contains-map (λ q. string_bytes q.0) pairs p (k, below, sym is)))

-- ---- files that readers took away

pub reaches_same : (f : File) → IsAsDurable f f
reaches_same f = record { name = refl; content = refl; named = λ is. is; flushed = λ is. is }

reaches_on : (f g h : File) → IsAsDurable f g → IsAsDurable g h → IsAsDurable f h
reaches_on f g h first next = record {
  name = cc;
  content = cc;
  named = λ is. next.named (first.named is);
  flushed = λ is. next.flushed (first.flushed is);
}

pub reached_same : (files : List File) → AreReached files files
reached_same = zip_same _ reaches_same

pub named_same : (files : List File) → AllZip MayBeNamed files files
named_same = zip_same _ (λ f. inl refl)

reached_on : (files mid left : List File) → AreReached files mid → AreReached mid left → AreReached files left
reached_on = zip_on _ reaches_on

-- more was durable first, and then some were taken
without_reached : (gone files mid left : List File) → AreReached files mid → IsWithout mid gone left → IsWithout files gone left
without_reached [] _ _ _ are is = reached_on _ _ _ are is
without_reached (f ∷ _) _ _ _ are (front, back, then, is) = (front, back, reached_on _ _ _ are then, is)

-- some were taken, and then more was durable
reached_without : (gone files mid left : List File) → IsWithout files gone mid → AreReached mid left → IsWithout files gone left
reached_without [] _ _ _ is are = reached_on _ _ _ is are
reached_without (f ∷ gone) _ _ _ (front, back, first, is) are = (front, back, first, reached_without gone _ _ _ is are)

-- what was taken first, and then of the rest
pub without_on : (first next files mid left : List File) → IsWithout files first mid → IsWithout mid next left
    → IsWithout files (first ++ next) left
without_on [] _ _ _ _ are second = without_reached _ _ _ _ are second
without_on (f ∷ first) _ _ _ _ (front, back, are, is) second = (front, back, are, without_on first _ _ _ _ is second)

-- nothing was taken of one more
pub without_more : (gone files left : List File) (f g : File) → IsAsDurable f g → IsWithout files gone left
    → IsWithout (f ∷ files) gone (g ∷ left)
without_more [] _ _ f g one are = (one, are)
without_more (h ∷ gone) _ _ f g one (front, back, are, is) = (f ∷ front, back, (reaches_same f, are), without_more gone _ _ f g one is)

pub none_taken : (maildir : Maildir) → WereTaken maildir maildir
none_taken maildir = record { gone = []; files = reached_same _; odd = λ new cur. refl; told = λ none. refl; is = rw append-nil refl }

pub taken_on : (a b c : Maildir) → WereTaken a b → WereTaken b c → WereTaken a c
taken_on a b c first next = record {
  gone = first.gone ++ next.gone;
  files = without_on _ _ _ _ _ first.files next.files;
  odd = λ new cur. next.odd (ap (λ (m : Maildir). m.there.new) first.is ∙ new)
      (ap (λ (m : Maildir). m.there.cur) first.is ∙ cur) ∙ first.odd new cur;
  told = λ none. next.told (ap (λ (m : Maildir). m.there.new) first.is ∙ none) ∙ first.told none;
  is = cc (append_assoc a.taken first.gone next.gone);
}

pub same_digits : (account a b : List ℕ) → bytes_eq (account ++ 46 ∷ a) (account ++ 46 ∷ b) ≡ bytes_eq a b
same_digits account a b =
    grind (
      arith,
      bytes_eq-Decides,
      bytes_eq-Decides,
      append_cancel_left,
    )

-- ---- all names and all items

-- if all are asked for
pub sought_all : (account : List ℕ) (maildir : Maildir) (items : List Item) (flags : List Bool)
    → flags ≡ map (λ (item : Item). true) items → flags_sought account maildir items flags ≡ flags_of account maildir items
sought_all account maildir items _ all = rw all (each items)
  where
    each : (items : List Item) → flags_sought account maildir items (map (λ (item : Item). true) items) ≡ flags_of account maildir items
    each [] = refl
    each (item ∷ items) = rw (each items) refl

-- ---- odd names

odd_by_names : {Z : Type 0} (account : List ℕ) (maildir : Maildir) (found : List ℕ → Bool) (names : List (String Z))
    → ((q : List ℕ) → found q ≡ any_name account q names) → map string_bytes names ≡ maildir.told → ToldAreOdd maildir
    → (uid : List ℕ) → found (encode_lower uid) ≡ is_odd account maildir uid
odd_by_names account maildir found names texts told are uid =
    texts (encode_lower uid) ∙ sym (any_map (names_id account uid) string_bytes names) ∙ ap (list_any (names_id account uid)) told
    ∙ sym (list_any-IsPermutation (names_id account uid) maildir.odd maildir.told are)

-- the digits in the stems of these names show which of the items are odd
pub odd_found : {Z : Type 0} (account : List ℕ) (maildir : Maildir) (items : List Item) (found : List ℕ → Bool) (names : List (String Z))
    → ((q : List ℕ) → found q ≡ any_name account q names) → map string_bytes names ≡ maildir.told → ToldAreOdd maildir
    → map (λ (item : Item). found (encode_lower item.uid)) items ≡ odd_flags account maildir items
odd_found account maildir _ found names texts told are = simp (odd_by_names account maildir found names texts told are)

-- ---- the names with some stems

-- a base has one of them exactly if its name has
pub sought_bases : (seeks : List ℕ → Bool) (names : List (List ℕ))
    → map base (filter (is_sought seeks) names) ≡ filter (is_sought seeks) (map base names)
sought_bases _ [] = refl
sought_bases seeks (name ∷ names) = let rest = sought_bases seeks names in let same = stem_base name in grind (arith, rest, same)

-- the names that have one of these stems tell all of these
pub told_sought : {A : Type 0} (seeks : List ℕ → Bool) (files : List File) (kept : List (String A))
    → map string_bytes kept ≡ filter (is_sought seeks) (names_of files) → AreAmong seeks (names_of (map shown files)) (bases_told kept)
told_sought seeks files kept is = (
  names_of (map shown files),
  IsPermutation-refl (names_of (map shown files)),
  cc (map-map base string_bytes kept, sought_bases seeks (names_of files), map-map base name_in files, map-map name_in shown files),
)

-- whether the item at a place is asked for and has this stem
abbrev pub asks_at : List ℕ → List ℕ → List Item → List Bool → ℕ → Bool
asks_at account text items flags k =
    get_or flags k false && bytes_eq (stem_of account (get_or items k (record { uid = []; size = 0 })).uid) text

pub asked_at : (account text : List ℕ) (items : List Item) (flags : List Bool) (k : ℕ) → k < length items → k < length flags
    → asks_at account text items flags k ≡ true → is_asked account items flags text ≡ true
asked_at _ _ [] _ _ below _ _ = absurd (omega (arith, below))
asked_at _ _ (_ ∷ _) [] _ _ below _ = absurd (omega (arith, below))
asked_at _ _ (_ ∷ _) (_ ∷ _) zero _ _ is = rw is refl
asked_at account text (_ ∷ items) (_ ∷ flags) (suc k) a b is =
    rw (asked_at account text items flags k (omega (arith, a)) (omega (arith, b)) is) (or-true _)

pub asked_nowhere : (account text : List ℕ) (items : List Item) (flags : List Bool)
    → ((k : ℕ) → k < length items → k < length flags → asks_at account text items flags k ≡ false)
    → is_asked account items flags text ≡ false
asked_nowhere _ _ [] _ _ = refl
asked_nowhere _ _ (_ ∷ _) [] _ = refl
asked_nowhere account text (_ ∷ items) (_ ∷ flags) none = rw (
  none 0 (omega arith) (omega arith),
  asked_nowhere account text items flags (λ k a b. none (suc k) (omega (arith, a)) (omega (arith, b))),
) refl

-- the digits in the stems of the names show which of the items that are asked for are held
pub flags_among : {A : Type 0} (account : List ℕ) (maildir : Maildir) (seeks : List ℕ → Bool) (items : List Item)
    (flags : List Bool) (found : List ℕ → Bool) (names : List (String A))
    → ((q : List ℕ) → found q ≡ any_name account q names) → AreAmong seeks (names_of maildir.files) (bases_told names)
    → ((text : List ℕ) → is_asked account items flags text ≡ true → seeks text ≡ true)
    → sought_among found items flags ≡ flags_sought account maildir items flags
flags_among account maildir seeks [] flags found names texts told has = refl
flags_among account maildir seeks (item ∷ items) [] found names texts told has = refl
flags_among account maildir seeks (item ∷ items) (false ∷ flags) found names texts told has =
    ap (λ (bs : List Bool). false ∷ bs) (flags_among account maildir seeks items flags found names texts told has)
flags_among {A} account maildir seeks (item ∷ items) (true ∷ flags) found names texts (order, same, told) has =
    rw (
      held (has (stem_of account item.uid) (rw ((bytes_eq-Decides (stem_of account item.uid) _).1 refl) refl)),
      flags_among account maildir seeks items flags found names texts (order, same, told) (λ text is. has text (rw is (or-true _))),
    ) refl
  where
    held : seeks (stem_of account item.uid) ≡ true → found (encode_lower item.uid) ≡ is_held account maildir item.uid
    held among =
        let ids = names_id account item.uid in
        let of_one : (name : List ℕ) → ids name ≡ true → is_sought seeks name ≡ true =
        λ name is. rw (← (bytes_eq-Decides (stem_of account item.uid) (stem name)).0 is, among) refl in
        let any = list_any-IsPermutation ids (names_of maildir.files) order same
        ∙ sym (any-filter_same ids (is_sought seeks) true of_one order) ∙ ap (list_any ids) (sym told) in
        texts (encode_lower item.uid) ∙ sym (simp (any_map, stem_base) at any)

-- of one item more
sought_pushed : (found : List ℕ → Bool) (items : List Item) (flags : List Bool) (item : Item) (flag : Bool) → length flags ≡ length items
    → sought_among found (items ++ item ∷ []) (flags ++ flag ∷ []) ≡ sought_among found items flags
    ++ (flag && found (encode_lower item.uid)) ∷ []
sought_pushed _ [] [] _ _ _ = refl
sought_pushed _ [] (f ∷ _) _ _ same = absurd (omega (arith, same))
sought_pushed _ (i ∷ _) [] _ _ same = absurd (omega (arith, same))
sought_pushed found (i ∷ items) (f ∷ flags) item flag same = cc (sought_pushed found items flags item flag (omega (arith, same)))

pub sought_more : (found : List ℕ → Bool) (items : List Item) (flags : List Bool) (i : ℕ) (none : Item) (unset : Bool)
    → i < length items → length flags ≡ length items → sought_among found (take (i + 1) items) (take (i + 1) flags)
    ≡ sought_among found (take i items) (take i flags) ++ (get_or flags i unset && found (encode_lower (get_or items i none).uid)) ∷ []
sought_more found items flags i none unset inside same =
    rw (take_more items i none inside, take_more flags i unset (omega (arith, inside, same)))
    (sought_pushed found _ (take i flags) (get_or items i none) (get_or flags i unset)
    (rw (length-take i flags, length-take i items, same) refl))

pub length-sought : (found : List ℕ → Bool) (items : List Item) (flags : List Bool) → length flags ≡ length items
    → length (sought_among found items flags) ≡ length items
length-sought _ [] _ _ = refl
length-sought _ (_ ∷ _) [] same = same
length-sought found (_ ∷ items) (_ ∷ flags) same = cc (length-sought found items flags (omega (arith, same)))

-- ---- names that are there

-- an id is held if a file has its name
pub held_where_there : (account uid : List ℕ) (size : ℕ) (maildir : Maildir) → IsAccountText account
    → IsThere maildir (name_of account uid size) → is_held account maildir uid ≡ true
held_where_there account uid size maildir a c =
    let same = (bytes_eq-Decides (stem_of account uid) _).1 (sym (stem_base (name_of account uid size)
    ∙ stem_name_of account uid size a)) in
    rw any_map at (list_any_at (names_id account uid) (names_of maildir.files) c.0 _ c.1 (ap (names_id account uid) c.2 ∙ same))

-- a file that came under an id's name makes that id held, and no other
pub held_with_file : HaveRanges → (account a b content : List ℕ) (maildir : Maildir) → IsAccountText account → IsLegalId a → IsLegalId b
    → is_held account (with_file maildir (mail_file account a content)) b ≡ (is_held account maildir b || bytes_eq b a)
held_with_file ranges account a b content maildir h la lb =
    let f = mail_file account a content in
    let one : names_id account b f.name ≡ bytes_eq b a =
    ap (bytes_eq (stem_of account b)) (stem_base (name_of account a (length content)) ∙ stem_name_of account a (length content) h) ∙ grind (
      arith,
      bytes_eq-Decides (stem_of account b) (stem_of account a),
      bytes_eq-Decides b a,
      stem_of_injective ranges account b a lb la,
    ) in
    rw (list_any-append (λ (f : File). names_id account b f.name) maildir.files (f ∷ []), one, or-false (bytes_eq b a))

-- ---- flags of a listing

-- one item more, before items whose flags are known
and_more : (flag turned same rest among held : Bool) → turned ≡ same → (same ≡ true → flag ≡ held) → rest ≡ (among && held)
    → ((flag && turned) || rest) ≡ ((same || among) && held)
and_more _ _ _ _ among held turn agree later = grind arith

pub flagged_where_held : (account : List ℕ) (maildir : Maildir) (items : List Item) (uid : List ℕ)
    → is_flagged items (flags_of account maildir items) uid ≡ (has_item items uid && is_held account maildir uid)
flagged_where_held _ _ [] _ = refl
flagged_where_held account maildir (item ∷ items) uid =
    and_more _ _ _ _ _ _ (nat_list_eq_equiv.symm item.uid uid)
    (λ same. ap (is_held account maildir) (sym ((bytes_eq-Decides _ _).0 same))) (flagged_where_held account maildir items _)

-- ---- the stems

-- the stem of one item more was added
pub stems_more : {A : Type 0} (account : List ℕ) (items : List Item) (held flags : List Bool) (i : ℕ)
    (stems : List (String A)) (x : String A) (uid : List ℕ)
    → HasStems account items held flags i stems → HoldsAt (λ (item : Item). uid ≡ item.uid) items i → string_bytes x ≡ stem_of account uid
    → HasStems account items held flags (i + 1) (stems ++ x ∷ [])
stems_more account items held flags i stems x _ has at is = below_more (HasStem account items held flags (stems ++ x ∷ [])) i
    (λ k below item here h f. rw (pushed, has k below item here h f) refl) (λ item here h f.
    let same = (bytes_eq-Decides _ _).1
    (ap (λ y. stem_of account y.uid) (sym (here item)) ∙ ap (stem_of account) (sym (at item)) ∙ sym is) in
    rw (pushed, same) (or-true _))
  where
    pushed : (q : List ℕ) → is_among (stems ++ x ∷ []) (stem_of account q)
        ≡ (is_among stems (stem_of account q) || (bytes_eq (stem_of account q) (string_bytes x) || false))
    pushed q = list_any-append _ stems (x ∷ [])

-- ---- the files

-- a flush changes only what is durable
held_flushed : {A : Type 0} (account : List ℕ) (maildir : Maildir) (stems : List (String A)) (uid : List ℕ)
    → is_held account (with_flushed stems maildir) uid ≡ is_held account maildir uid
held_flushed account maildir stems uid = any_map (λ (f : File). names_id account uid f.name) (flushed_by stems) maildir.files

pub flags_flushed : {A : Type 0} (account : List ℕ) (maildir : Maildir) (stems : List (String A)) (items : List Item)
    → flags_of account (with_flushed stems maildir) items ≡ flags_of account maildir items
flags_flushed _ _ _ [] = refl
flags_flushed account maildir stems (item ∷ items) =
    rw (held_flushed account maildir stems item.uid, flags_flushed account maildir stems items) refl

sought_flushed : {A : Type 0} (account : List ℕ) (maildir : Maildir) (stems : List (String A)) (items : List Item) (flags : List Bool)
    → flags_sought account (with_flushed stems maildir) items flags ≡ flags_sought account maildir items flags
sought_flushed _ _ _ [] _ = refl
sought_flushed _ _ _ (_ ∷ _) [] = refl
sought_flushed account maildir stems (item ∷ items) (_ ∷ flags) =
    rw (held_flushed account maildir stems item.uid, sought_flushed account maildir stems items flags) refl

pub asked_flushed : {A : Type 0} (all : Bool) (account : List ℕ) (maildir : Maildir) (stems : List (String A))
    (items : List Item) (flags : List Bool)
    → flags_asked all account (with_flushed stems maildir) items flags ≡ flags_asked all account maildir items flags
asked_flushed true account maildir stems _ _ = flags_flushed account maildir stems _
asked_flushed false account maildir stems _ flags = sought_flushed account maildir stems _ flags

pub named_flushed : {A : Type 0} (stems : List (String A)) (files : List File) → AllNamed files → AllNamed (map (flushed_by stems) files)
named_flushed _ [] _ = tt
named_flushed _ (f ∷ files) all = (all.0, named_flushed _ files all.1)

reached_flushed : {A : Type 0} (stems : List (String A)) (files : List File) → AreReached files (map (flushed_by stems) files)
reached_flushed _ [] = tt
reached_flushed stems (f ∷ files) =
    (record { name = refl; content = refl; named = λ is. is; flushed = λ is. rw is refl }, reached_flushed _ files)

-- what readers left and was then flushed is what they left
pub taken_flushed : {A : Type 0} (stems : List (String A)) (old left : Maildir) → WereTaken old left
    → WereTaken old (with_flushed stems left)
taken_flushed stems old left taken = record {
  gone = taken.gone;
  files = reached_without _ _ _ _ taken.files (reached_flushed _ _);
  odd = taken.odd;
  told = taken.told;
  is = cc;
}

-- the files of these stems were flushed, so that of each id whose stem is among them a file is durable
durable_flushed : {A : Type 0} (account : List ℕ) (maildir : Maildir) (stems : List (String A)) → AllNamed maildir.files
    → (uid : List ℕ) → is_among stems (stem_of account uid) ≡ true → is_held account maildir uid ≡ true
    → HasDurable account (with_flushed stems maildir) uid
durable_flushed account maildir stems all uid among held =
    let of = Any-from_list_any _ maildir.files held in
    let same = (bytes_eq-Decides (stem_of account uid) (stem of.1.name)).0 of.4 in
    let named : of.1.is_named ≡ true = rw of.3 at (All-from_recursion IsNamed maildir.files all of.0 of.1 of.2) in (
      flushed_by stems of.1,
      Contains-map (flushed_by stems) maildir.files of.1 (of.0, of.2, of.3),
      of.4,
      (named, rw (rw same at among) (or-true _)),
    )

-- the same of what the flush left
pub durable_left : {A : Type 0} (account : List ℕ) (maildir : Maildir) (stems : List (String A)) → AllNamed maildir.files
    → (uid : List ℕ) → is_among stems (stem_of account uid) ≡ true → is_held account (with_flushed stems maildir) uid ≡ true
    → HasDurable account (with_flushed stems maildir) uid
durable_left account maildir stems all uid among held =
    durable_flushed account maildir stems all uid among (rw (held_flushed account maildir stems uid) at held)

pub found_durable : {A : Type 0} (all : Bool) (account : List ℕ) (maildir : Maildir) (stems : List (String A))
    → ((uid : List ℕ) → is_among stems (stem_of account uid) ≡ true → is_held account maildir uid ≡ true → HasDurable account maildir uid)
    → (items : List Item) (flags : List Bool)
    → HasStems account items (flags_asked all account maildir items flags) flags (length items) stems
    → FoundDurable account maildir items flags
found_durable true account maildir stems durable (item ∷ items) (_ ∷ flags) has = (
  λ is held. durable item.uid (has 0 (omega arith) item (λ d. refl) (λ d. held) (λ d. is)) held,
  found_durable true _ maildir _ durable items flags (λ k below. has (suc k) (omega (arith, below))),
)
found_durable false account maildir stems durable (item ∷ items) (_ ∷ flags) has = (
  λ is held. durable item.uid (has 0 (omega arith) item (λ d. refl) (λ d. rw (is, held) refl) (λ d. is)) held,
  found_durable false _ maildir _ durable items flags (λ k below. has (suc k) (omega (arith, below))),
)
found_durable _ _ _ _ _ _ _ _ = tt

-- a flush of a device in memory changes nothing
pub all_flushed : {A : Type 0} (stems : List (String A)) (files : List File) → map (flushed_by stems) (map shown files) ≡ map shown files
all_flushed _ [] = refl
all_flushed stems (f ∷ files) = cc (all_flushed stems files)
