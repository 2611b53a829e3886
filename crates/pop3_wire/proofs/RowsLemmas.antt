-- Rows of listings and lines of commands: what is read has the form, and what is written is read and holds no line break.
use Rattle.std.{
  proofs.Common.{ℕ, ◌+◌, ◌≤◌, ◌<◌, ◌≡◌, ◌≢◌, true, false, List, [], ◌∷◌, ◌++◌, length, take, drop, refl, sym, ap, ap₂, subst, ◌∙◌, arith},
  proofs.Common.{inl, inr, Result, Ok, Err, take-append-drop, nat_lt, nat_le, ◌&&◌, ◌==◌, Bool, IsTrue, cond, take_while, append-nil, ◌-◌},
  proofs.Common.{take_at, drop_at, get_or, length-drop, ◌*◌, ◌^◌, rules, length-append, append_assoc, not, codes, decimal, ne_eqb, ◌⊎◌},
  proofs.lemmas.Bool.{and_parts, and_from, cond-true, cond-false, leb-true, le-leb, ltb-true, not-true, le-ltb, eqb-false},
  proofs.lemmas.Bool.Decides.nat_tests,
  proofs.lemmas.List.{Folds.list_all-append, get_or-drop, get_or-append_right, take_all, nil_from_length},
  proofs.lemmas.List.Sums.{AllPass-from_list_all, list_all-from_AllPass, take_while-cons, prefix_len_stops, suffix_len_is},
  proofs.lemmas.List.Splits.{slice_split_none, slice_split_at, slice_split-cons_yes, length-slice_split},
  proofs.lemmas.Fmt.{digits_decimal, decimal_is_IsNumeral, length-decimal-le, decimal_nonempty},
  proofs.lemmas.Str.Parse.{IsNumeralModel, numerals_by_fold},
  proofs.Math.Logic.{⊎_elim, ⊎_map},
  specs.{List.{filter, prefix_len, list_all, before_first, suffix_len, All, AllByRecursion, slice_split, count_by}, Char.is_ascii_digit},
  specs.Str.Parse.digits_value,
}
use Rattle.pop3_wire.{
  specs.Fields.{◌>>=◌, is_space, is_in_field, past, number, next_field, message_number, number_and_size, legal_id, nothing_more},
  specs.Fields.number_and_id,
  specs.declared.{fault.WireFault.WireFault, command.Command.{Command, TheVariants.{User, Pass, UidlOne, ListOne, Retr, Dele, Top}}},
  specs.declared.reply.Status.TheVariants.{Positive, Negative},
  specs.Rows.{AreSpaces, StandsForNumber, HasNumber, HasScanForm, HasUidForm, NumbersAreRead, IsSentAsIs, ScanRowsAreRead, UidRowsAreRead},
  specs.{Commands.{line_of, can_be_sent, octets_of}, Line.{IsLine, is_no_lf, ended}},
  specs.CommandLine.{keyword_of, trimmed, arguments, after_keyword, text_argument, argument_number, no_argument, one_number, two_numbers},
  specs.CommandLine.{number_or_none, command_by, command_of, ReadAsWritten, HasNumbers, CommandsAreLines},
  specs.Honest.{FirstLinesAreRead, fields, HasFields, UidRowsHaveFields, ScanRowsHaveFields, HasSent, OneListOfCommands, FrontsAreAsked},
  proofs.BodyLemmas.{no_pair, first_line_same},
}
use Rattle.mail_terms.specs.{
  Numeral.{is_numeral, greatest_number, greatest_size},
  UniqueId.{is_id_byte, is_legal_id, IsLegalId},
  Credential.{is_credential, is_plain},
  Text.HasNoLf,
}

-- ---- the prefix of bytes that pass a test, and what follows

split_at : (test : ℕ → Bool) (bytes : List ℕ) → bytes ≡ take_while test bytes ++ past test bytes
split_at test bytes = sym (take-append-drop (prefix_len test bytes) bytes)

front_passes : (test : ℕ → Bool) (bytes : List ℕ) → list_all test (take_while test bytes) ≡ true
front_passes test [] = refl
front_passes test (byte ∷ bytes) = grind (arith, take_while-cons test byte bytes, front_passes test bytes)

behind_fails : (test : ℕ → Bool) (bytes : List ℕ) (next : ℕ) (rest : List ℕ) → past test bytes ≡ next ∷ rest → test next ≡ false
behind_fails test bytes next rest e =
    let first : get_or bytes (prefix_len test bytes) 0 ≡ next =
    ap (λ (n : ℕ). get_or bytes n 0) {y = prefix_len test bytes + 0} (omega arith)
    ∙ sym (get_or-drop (prefix_len test bytes) bytes 0 0) ∙ ap (λ (l : List ℕ). get_or l 0 0) e in
    let more : length (past test bytes) ≡ length (next ∷ rest) = ap length e in
    subst (λ (b : ℕ). test b ≡ false) first (prefix_len_stops test bytes 0 (omega (arith, more, length-drop (prefix_len test bytes) bytes)))

-- ---- the reader's steps, backwards

bind_ok : {A B E : Type 0} (r : Result A E) (f : A → Result B E) (b : B) → (r >>= f) ≡ Ok b → (a : A) × (r ≡ Ok a) × (f a ≡ Ok b)
bind_ok (Ok a) f b e = (a, refl, e)
bind_ok (Err fault) f b e = absurd (cc)

pair_ok : {A B E : Type 0} (a c : A) (b d : B) → ◌≡◌ {A = Result (A × B) E} (Ok (a, b)) (Ok (c, d)) → (a ≡ c) × (b ≡ d)
pair_ok {A} {B} a c b d e = let same : (a, b) ≡ (c, d) = cc in (ap (λ (x : A × B). x.0) same, ap (λ (x : A × B). x.1) same)

-- a test is passed or not, and then the answer is this or a fault
cond_ok : {A E : Type 0} (test : Bool) (a b : A) (fault : E) → cond test (Ok a) (Err fault) ≡ Ok b → (test ≡ true) × (a ≡ b)
cond_ok true a b fault e = (refl, cc)
cond_ok false a b fault e = absurd (cc)

next_ok : (bytes rest : List ℕ) → next_field bytes ≡ Ok rest → (past is_space bytes ≡ rest) × (rest ≢ [])
unfolding next_field
next_ok bytes rest e = (grind (arith, e), λ empty. grind (arith, nat_tests, e, empty))

number_ok : (limit : ℕ) (field : List ℕ) (n : ℕ) → number limit field ≡ Ok n → StandsForNumber limit field n
unfolding number
number_ok limit field n e =
    let (good, same) = cond_ok (is_numeral field && nat_le (digits_value 10 field) limit) _ _ _ e in
    let parts = and_parts (is_numeral field) (nat_le (digits_value 10 field) limit) good in
    record { numeral = parts.0; value = sym same; within = rw (← same) (leb-true (digits_value 10 field) limit parts.1) }

-- a message number was read, and another field follows it
has_number : (line : List ℕ) (n : ℕ) (rest next : List ℕ) → message_number line ≡ Ok (n, rest)
    → next_field rest ≡ Ok next → HasNumber line n next
has_number line n rest next e there =
    let (field, read, first) = bind_ok (next_field line) _ (n, rest) e in
    let (m, counted, last) = bind_ok (number greatest_number (take_while is_in_field field)) _ (n, rest) first in
    let (same, ends) = pair_ok m n (past is_in_field field) rest last in
    let goes_on = next_ok rest next there in
    record {
      indent = take_while is_space line;
      digits = take_while is_in_field field;
      gap = take_while is_space rest;
      whole = split_at is_space line ∙ ap (λ (l : List ℕ). take_while is_space line ++ l)
          ((next_ok line field read).0 ∙ split_at is_in_field field
          ∙ ap (λ (l : List ℕ). take_while is_in_field field ++ l) (ends ∙ behind rest next goes_on.0));
      before = front_passes is_space line;
      counted = rw same at (number_ok greatest_number (take_while is_in_field field) m counted);
      apart = front_passes is_space rest;
      some = λ none. no_gap field rest next ends goes_on.0 goes_on.1 (behind rest next goes_on.0 ∙ ap (λ (l : List ℕ). l ++ next) none);
    }
  where
    behind : (rest next : List ℕ) → past is_space rest ≡ next → rest ≡ take_while is_space rest ++ next
    behind rest next e = split_at is_space rest ∙ ap (λ (l : List ℕ). take_while is_space rest ++ l) e

    -- what follows a field begins with a space, and what follows spaces doesn't
    no_gap : (field rest next : List ℕ) → past is_in_field field ≡ rest → past is_space rest ≡ next → next ≢ [] → rest ≡ next → ⊥
    no_gap field rest [] ends begins some same = some refl
    no_gap field rest (byte ∷ more) ends begins some same =
        absurd (grind (
          arith,
          nat_tests,
          behind_fails is_in_field field byte more (ends ∙ same),
          behind_fails is_space rest byte more begins,
        ))

same_number : {line : List ℕ} {m n : ℕ} {rest next : List ℕ} → m ≡ n → rest ≡ next → HasNumber line m rest → HasNumber line n next
same_number same is form = rw (same, is) at form

pub scan_form : (line : List ℕ) (n size : ℕ) → number_and_size line ≡ Ok (n, size) → HasScanForm line n size
unfolding number_and_size
scan_form line n size e =
    let (first, numbered, e1) = bind_ok (message_number line) _ (n, size) e in
    let (field, next, e2) = bind_ok (next_field first.1) _ (n, size) e1 in
    let (m, sized, e3) = bind_ok (number greatest_size (take_while is_ascii_digit field)) _ (n, size) e2 in
    let (same, same') = pair_ok first.0 n m size e3 in
    record {
      digits = take_while is_ascii_digit field;
      behind = past is_ascii_digit field;
      front = same_number same (split_at is_ascii_digit field) (has_number line first.0 first.1 field numbered next);
      sized = rw same' at (number_ok greatest_size _ m sized);
      over = behind_fails is_ascii_digit field;
    }

id_ok : (field id : List ℕ) → legal_id field ≡ Ok id → (field ≡ id) × IsLegalId id
unfolding legal_id
id_ok field id e = let (legal, same) = cond_ok (is_legal_id field) _ _ _ e in (same, rw same at legal)

more_ok : (id bytes whole : List ℕ) → nothing_more id bytes ≡ Ok whole → (id ≡ whole) × AreSpaces bytes
unfolding nothing_more
more_ok id bytes whole e = let (none, same) = cond_ok (length (past is_space bytes) == 0) _ _ _ e
    in (same, all_spaces (past is_space bytes) refl none)
  where
    all_spaces : (rest : List ℕ) → past is_space bytes ≡ rest → (length rest == 0) ≡ true → AreSpaces bytes
    all_spaces [] is none = subst AreSpaces (sym (split_at is_space bytes
        ∙ ap (λ (l : List ℕ). take_while is_space bytes ++ l) is ∙ append-nil _)) (front_passes is_space bytes)
    all_spaces (byte ∷ rest) is none = absurd (grind (arith, nat_tests))

-- what the steps of `read_uid` have read
pub small_and_legal : (line rest field bytes id whole : List ℕ) (n : ℕ) → message_number line ≡ Ok (n, rest)
    → legal_id field ≡ Ok id → nothing_more id bytes ≡ Ok whole → (n ≤ greatest_number) × IsLegalId whole
small_and_legal line rest field bytes id whole n first second third =
    let (next, read, e) = bind_ok (next_field line) _ (n, rest) first in
    let (m, counted, last) = bind_ok (number greatest_number (take_while is_in_field next)) _ (n, rest) e in
    let (same, _) = pair_ok m n (past is_in_field next) rest last in
    (rw (← same) (number_ok greatest_number _ m counted).within, rw (more_ok id bytes whole third).0 at (id_ok field id second).1)

pub uid_form : (line : List ℕ) (n : ℕ) (uid : List ℕ) → number_and_id line ≡ Ok (n, uid) → HasUidForm line n uid
unfolding number_and_id
uid_form line n uid e =
    let (first, numbered, e1) = bind_ok (message_number line) _ (n, uid) e in
    let (field, next, e2) = bind_ok (next_field first.1) _ (n, uid) e1 in
    let (id, named, e3) = bind_ok (legal_id (take_while is_in_field field)) _ (n, uid) e2 in
    let (whole, ends, e4) = bind_ok (nothing_more id (past is_in_field field)) _ (n, uid) e3 in
    let (same, same') = pair_ok first.0 n whole uid e4 in
    let legal = id_ok _ id named in
    let over = more_ok id _ whole ends in
    record {
      behind = past is_in_field field;
      front = same_number same (split_at is_in_field field ∙ ap (λ (l : List ℕ). l ++ past is_in_field field) (legal.0
          ∙ over.0 ∙ same')) (has_number line first.0 first.1 field numbered next);
      legal = rw (over.0 ∙ same') at legal.1;
      over = over.1;
    }

-- ---- the fields of a line

-- what follows doesn't begin with a byte that passes
abbrev Stops : (ℕ → Bool) → List ℕ → Type 0
Stops test rest = (byte : ℕ) (more : List ℕ) → rest ≡ byte ∷ more → test byte ≡ false

spaces_first : (front rest : List ℕ) → AreSpaces front → fields (front ++ rest) ≡ fields rest
spaces_first [] rest all = refl
spaces_first (byte ∷ front) rest all =
    let parts = and_parts (is_space byte) (list_all is_space front) all in
    ap (filter _) (slice_split-cons_yes is_space byte (front ++ rest) parts.0) ∙ spaces_first front rest parts.1

no_fields : (rest : List ℕ) → AreSpaces rest → fields rest ≡ []
no_fields rest all = ap fields (sym (append-nil rest)) ∙ spaces_first rest [] all

no_spaces : (word : List ℕ) → list_all is_in_field word ≡ true → All (λ byte. is_space byte ≡ false) word
no_spaces word all = λ k other inside. not-true _ (AllPass-from_list_all is_in_field word all k other inside)

some_kept : (byte : ℕ) (word : List ℕ) (parts : List (List ℕ))
    → filter (λ field. nat_lt 0 (length field)) ((byte ∷ word) ∷ parts) ≡ (byte ∷ word) ∷ filter (λ field. nat_lt 0 (length field)) parts
some_kept byte word parts = let some : nat_lt 0 (length (byte ∷ word)) ≡ true = grind (arith, nat_tests) in cond-true _ _ _ some

word_first : (word rest : List ℕ) → word ≢ [] → list_all is_in_field word ≡ true → Stops is_in_field rest
    → fields (word ++ rest) ≡ word ∷ fields rest
word_first [] rest some all stops = absurd (some refl)
word_first (byte ∷ word) [] some all stops =
    ap fields (append-nil (byte ∷ word))
    ∙ ap (filter _) (slice_split_none is_space (byte ∷ word) (no_spaces (byte ∷ word) all)) ∙ some_kept byte word []
word_first (byte ∷ word) (next ∷ rest) some all stops =
    let space : is_space next ≡ true = grind (arith, nat_tests, stops next rest refl) in
    ap (filter _) (slice_split_at is_space (byte ∷ word) next rest (no_spaces (byte ∷ word) all) space)
    ∙ some_kept byte word (slice_split is_space rest)
    ∙ ap (λ (l : List (List ℕ)). (byte ∷ word) ∷ l) (sym (spaces_first (next ∷ []) rest (and_from _ _ space refl)))

next_fields : (line field : List ℕ) → next_field line ≡ Ok field
    → fields line ≡ take_while is_in_field field ∷ fields (past is_in_field field)
next_fields line [] e = absurd ((next_ok line [] e).1 refl)
next_fields line (byte ∷ more) e =
    let field = byte ∷ more in
    let is = (next_ok line field e).0 in
    let some : take_while is_in_field field ≢ [] =
    (λ none. grind (
      arith,
      nat_tests,
      take_while-cons is_in_field byte more,
      behind_fails is_space line byte more is,
      none,
    )) in
    ap fields (split_at is_space line) ∙ spaces_first (take_while is_space line) (past is_space line) (front_passes is_space line)
    ∙ ap fields (is ∙ split_at is_in_field field)
    ∙ word_first (take_while is_in_field field) (past is_in_field field) some (front_passes is_in_field field)
    (behind_fails is_in_field field)

number_fields : (line rest : List ℕ) (n : ℕ) → message_number line ≡ Ok (n, rest) → HasFields n (fields rest) line
number_fields line rest n e =
    let (field, read, first) = bind_ok (next_field line) _ (n, rest) e in
    let (m, counted, last) = bind_ok (number greatest_number (take_while is_in_field field)) _ (n, rest) first in
    let (same, ends) = pair_ok m n (past is_in_field field) rest last in (
      take_while is_in_field field,
      next_fields line field read ∙ ap (λ (l : List ℕ). take_while is_in_field field ∷ fields l) ends,
      sym (number_ok greatest_number _ m counted).value ∙ same,
    )

-- the digits that a field begins with are those that the rest of the line begins with
digits_first : (rest : List ℕ) → take_while is_ascii_digit (take_while is_in_field rest) ≡ take_while is_ascii_digit rest
digits_first [] = refl
digits_first (byte ∷ rest) =
    grind (
      arith,
      nat_tests,
      take_while-cons is_in_field byte rest,
      take_while-cons is_ascii_digit byte rest,
      take_while-cons is_ascii_digit byte (take_while is_in_field rest),
      digits_first rest,
    )

pub scan_fields : ScanRowsHaveFields
unfolding number_and_size
scan_fields row n message e =
    let (first, numbered, e1) = bind_ok (message_number row) _ (n, message.size) e in
    let (field, next, e2) = bind_ok (next_field first.1) _ (n, message.size) e1 in
    let (m, sized, e3) = bind_ok (number greatest_size (take_while is_ascii_digit field)) _ (n, message.size) e2 in
    let (same, same') = pair_ok first.0 n m message.size e3 in
    let (word, are, value) = number_fields row first.1 first.0 numbered in (
      take_while is_in_field field,
      fields (past is_in_field field),
      (word, are ∙ ap (λ (l : List (List ℕ)). word ∷ l) (next_fields first.1 field next), value ∙ same),
      ap (digits_value 10) (digits_first field) ∙ sym (number_ok greatest_size _ m sized).value ∙ same',
    )

pub uid_fields : UidRowsHaveFields
unfolding number_and_id
uid_fields row n message e =
    let (first, numbered, e1) = bind_ok (message_number row) _ (n, message.uid) e in
    let (field, next, e2) = bind_ok (next_field first.1) _ (n, message.uid) e1 in
    let (id, named, e3) = bind_ok (legal_id (take_while is_in_field field)) _ (n, message.uid) e2 in
    let (whole, ends, e4) = bind_ok (nothing_more id (past is_in_field field)) _ (n, message.uid) e3 in
    let (same, same') = pair_ok first.0 n whole message.uid e4 in
    let over = more_ok id _ whole ends in
    let none = no_fields (past is_in_field field) over.1 in
    let uid : take_while is_in_field field ≡ message.uid = (id_ok _ id named).0 ∙ over.0 ∙ same' in
    let (word, are, value) = number_fields row first.1 first.0 numbered in (
      word,
      are ∙ ap (λ (l : List (List ℕ)). word ∷ l) (next_fields first.1 field next)
          ∙ ap₂ (λ (x : List ℕ) (l : List (List ℕ)). word ∷ x ∷ l) uid none,
      value ∙ same,
    )

-- ---- the other direction: a line of the form is read

front_length : (test : ℕ → Bool) (front rest : List ℕ) → list_all test front ≡ true → Stops test rest
    → prefix_len test (front ++ rest) ≡ length front
front_length test [] [] all stops = refl
front_length test [] (byte ∷ rest) all stops = cond-false _ _ _ (stops byte rest refl)
front_length test (byte ∷ front) rest all stops =
    grind (arith, all, λ (h : list_all test front ≡ true). front_length test front rest h stops)

taken_while : (test : ℕ → Bool) (front rest : List ℕ) → list_all test front ≡ true → Stops test rest
    → take_while test (front ++ rest) ≡ front
taken_while test front rest all stops = ap (λ (n : ℕ). take n (front ++ rest)) (front_length test front rest all stops)
    ∙ take_at front rest (length front) refl

front_passed : (test : ℕ → Bool) (front rest : List ℕ) → list_all test front ≡ true → Stops test rest → past test (front ++ rest) ≡ rest
front_passed test front rest all stops = ap (λ (n : ℕ). drop n (front ++ rest)) (front_length test front rest all stops)
    ∙ drop_at front rest (length front) refl

-- the field begins with a byte that isn't a space
BeginsField : List ℕ → Type 0
BeginsField field = (byte : ℕ) × (more : List ℕ) × (field ≡ byte ∷ more) × (is_space byte ≡ false)

next_read : (spaces field : List ℕ) → AreSpaces spaces → BeginsField field → next_field (spaces ++ field) ≡ Ok field
unfolding next_field BeginsField
next_read spaces field blank (byte, more, is, other) =
    rw (front_passed is_space spaces field blank (λ c after e. let same : byte ≡ c = cc in rw (← same) other)) (cond-false _ _ _ some)
  where
    some : (length field == 0) ≡ false
    some = let size : length field ≡ length (byte ∷ more) = ap length is in grind (arith, nat_tests)

number_read : (limit : ℕ) (digits : List ℕ) (n : ℕ) → StandsForNumber limit digits n → number limit digits ≡ Ok n
unfolding number
number_read limit digits n stands = grind (arith, nat_tests, stands.numeral, stands.value, stands.within)

-- bytes that pass one test pass another
pub all_pass : (p q : ℕ → Bool) → ((b : ℕ) → p b ≡ true → q b ≡ true) → (bytes : List ℕ) → list_all p bytes ≡ true → list_all q bytes ≡ true
all_pass p q h bytes all = list_all-from_AllPass q bytes (λ k d inside. h _ (AllPass-from_list_all p bytes all k d inside))

digits_in_field : (digits : List ℕ) → list_all is_ascii_digit digits ≡ true → list_all is_in_field digits ≡ true
digits_in_field = all_pass is_ascii_digit is_in_field (λ byte e. grind (arith, nat_tests))

-- bytes of a field, one or more of them, and what follows
begins : (front rest : List ℕ) → nat_lt 0 (length front) ≡ true → list_all is_in_field front ≡ true → BeginsField (front ++ rest)
unfolding BeginsField
begins [] rest some all = absurd (let none : 0 < 0 = ltb-true 0 0 some in omega arith)
begins (byte ∷ front) rest some all = (
  byte,
  front ++ rest,
  refl,
  grind (arith, nat_tests, (and_parts (is_in_field byte) (list_all is_in_field front) all).0),
)

spaces_end_field : (spaces rest : List ℕ) → AreSpaces spaces → spaces ≢ [] → Stops is_in_field (spaces ++ rest)
spaces_end_field [] rest blank some byte more e = absurd (some refl)
spaces_end_field (space ∷ spaces) rest blank some byte more e =
    let same : space ≡ byte = cc in grind (arith, nat_tests, (and_parts (is_space space) (list_all is_space spaces) blank).0, same)

-- a numeral is one digit or more, and so is an id
digits_of : (digits : List ℕ) → IsTrue (is_numeral digits) → (nat_lt 0 (length digits) ≡ true) × (list_all is_ascii_digit digits ≡ true)
digits_of digits numeral = (grind (arith, numeral), grind (arith, numeral))

pub bytes_of : (uid : List ℕ) → IsLegalId uid → (nat_lt 0 (length uid) ≡ true) × (list_all is_id_byte uid ≡ true)
bytes_of uid legal = (grind (arith, legal), grind (arith, legal))

message_read : (line : List ℕ) (n : ℕ) (rest : List ℕ) (form : HasNumber line n rest) → message_number line ≡ Ok (n, form.gap ++ rest)
message_read line n rest form =
    let digits = digits_of form.digits form.counted.numeral in
    let field : list_all is_in_field form.digits ≡ true = digits_in_field form.digits digits.1 in
    let ends : Stops is_in_field (form.gap ++ rest) = spaces_end_field form.gap rest form.apart form.some in
    ap message_number form.whole ∙ rw (next_read form.indent (form.digits ++ (form.gap ++ rest)) form.before
    (begins form.digits (form.gap ++ rest) digits.0 field)) (rw (
      taken_while is_in_field form.digits (form.gap ++ rest) field ends,
      number_read greatest_number form.digits n form.counted,
      front_passed is_in_field form.digits (form.gap ++ rest) field ends,
    ))

-- a line's number and the next field, however the line goes on
field_read : {B : Type 0} (line : List ℕ) (n : ℕ) (front behind : List ℕ) → HasNumber line n (front ++ behind)
    → nat_lt 0 (length front) ≡ true → list_all is_in_field front ≡ true → (f : ℕ × List ℕ → List ℕ → Result B WireFault) → (rest : List ℕ)
    × ((message_number line >>= (λ first. next_field first.1 >>= f first)) ≡ f (n, rest) (front ++ behind))
field_read line n front behind form some field f = (
  form.gap ++ (front ++ behind),
  rw (message_read line n (front ++ behind) form, next_read form.gap (front ++ behind) form.apart (begins front behind some field)),
)

pub scan_form_read : (line : List ℕ) (n size : ℕ) → HasScanForm line n size → number_and_size line ≡ Ok (n, size)
unfolding number_and_size
scan_form_read line n size form =
    let digits = digits_of form.digits form.sized.numeral in
    (field_read line n form.digits form.behind form.front digits.0 (digits_in_field form.digits digits.1) _).1
    ∙ rw (taken_while is_ascii_digit form.digits form.behind digits.1 form.over, number_read greatest_size form.digits size form.sized)

pub uid_form_read : (line : List ℕ) (n : ℕ) (uid : List ℕ) → HasUidForm line n uid → number_and_id line ≡ Ok (n, uid)
unfolding number_and_id legal_id nothing_more
uid_form_read line n uid form =
    let bytes = bytes_of uid form.legal in
    let field : list_all is_in_field uid ≡ true = all_pass is_id_byte is_in_field (λ byte e. grind (arith, nat_tests)) uid bytes.1 in
    let ends : Stops is_in_field form.behind = λ byte more e. spaces_end_field form.behind [] form.over
    (λ none. cc) byte more (append-nil form.behind ∙ e) in
    (field_read line n uid form.behind form.front bytes.0 field _).1 ∙ rw (
      taken_while is_in_field uid form.behind field ends,
      form.legal,
      front_passed is_in_field uid form.behind field ends,
      ap (past is_space) (sym (append-nil form.behind)) ∙ front_passed is_space form.behind [] form.over (λ byte more e. absurd (cc)),
    )

-- ---- the line that asks for a command is read as that command

read_on : ℕ → List ℕ → ℕ
read_on n [] = n
read_on n (c ∷ cs) = read_on (10 * n + (c - 48)) cs

own : IsNumeralModel (λ ds. list_all is_ascii_digit ds ≡ true) (read_on 0)
unfolding read_on
own = numerals_by_fold _ (search rules) read_on (search rules)

-- a number is written with digits alone
pub digits_of_decimal : (n : ℕ) → n < 2 ^ 64 → list_all is_ascii_digit (decimal n) ≡ true
digits_of_decimal n few = digits_decimal own n few

-- it holds no space
abbrev Word : List ℕ → Type 0
Word ds = All (λ x. is_space x ≡ false) ds

word_by : (ds : List ℕ) → list_all (λ x. not (is_space x)) ds ≡ true → Word ds
word_by ds e = λ k d inside. not-true _ (AllPass-from_list_all (λ x. not (is_space x)) ds e k d inside)

number_word : (n : ℕ) → n < 2 ^ 32 → Word (decimal n)
number_word n few = word_by (decimal n) (all_pass is_ascii_digit (λ x. not (is_space x))
    (λ d e. grind (arith, nat_tests)) (decimal n) (digits_of_decimal n (omega arith)))

few_digits : (n : ℕ) → n < 2 ^ 32 → length (decimal n) ≤ 10
few_digits n few = length-decimal-le 10 n (omega arith) (omega arith) (omega arith)

-- a number is read as it was written
read_number : (n : ℕ) → n < 2 ^ 32 → argument_number (decimal n) ≡ Ok n
unfolding argument_number number
read_number n few =
    let value : digits_value 10 (decimal n) ≡ n = (decimal_is_IsNumeral n (omega arith)).1 in
    let fits : digits_value 10 (decimal n) ≤ 4294967295 = omega arith in
    let good : (is_numeral (decimal n) && nat_le (digits_value 10 (decimal n)) 4294967295) ≡ true =
    grind (arith, nat_tests, decimal_nonempty n (omega arith), few_digits n few, digits_of_decimal n (omega arith), fits) in
    cond-true _ _ _ (le-leb (length (decimal n)) 10 (few_digits n few)) ∙ cond-true _ _ _ good ∙ ap (λ (v : ℕ). Ok v) value

-- a line that doesn't end in a space stays as it is
kept_end : (front ds : List ℕ) → Word ds → 0 < length ds → trimmed (front ++ ds) ≡ front ++ ds
kept_end front ds none some =
    let size : length (front ++ ds) ≡ length front + length ds = length-append front ds in
    let last : get_or (front ++ ds) (length (front ++ ds) - 1) 0 ≡ get_or ds (length ds - 1) 0 =
    get_or-append_right front ds (length front) (length (front ++ ds) - 1) 0 refl (omega arith)
    ∙ ap (λ (k : ℕ). get_or ds k 0) (omega arith) in
    let no : suffix_len is_space (front ++ ds) ≡ length (front ++ ds) - length (front ++ ds) =
    suffix_len_is is_space (front ++ ds) (length (front ++ ds)) 0 (omega arith) (λ k low high. absurd (omega arith))
    (λ h. rw last (none (length ds - 1) 0 (omega arith))) in
    take_all (length (front ++ ds) - suffix_len is_space (front ++ ds)) (front ++ ds) (omega arith)

-- a keyword and a word
arguments_one : (front ds : List ℕ) → Word front → Word ds → 0 < length ds → arguments (front ++ 32 ∷ ds) ≡ ds ∷ []
unfolding arguments
arguments_one front ds word none some =
    let end : trimmed (front ++ 32 ∷ ds) ≡ front ++ 32 ∷ ds = rw append_assoc at (kept_end (front ++ 32 ∷ []) ds none some) in
    rw (end, slice_split_at is_space front 32 ds word refl) (slice_split_none is_space ds none)

-- a keyword and two words
arguments_two : (front ds es : List ℕ) → Word front → Word ds → Word es → 0 < length es
    → arguments (front ++ 32 ∷ (ds ++ 32 ∷ es)) ≡ ds ∷ es ∷ []
unfolding arguments
arguments_two front ds es word first second some =
    let end : trimmed (front ++ 32 ∷ (ds ++ 32 ∷ es)) ≡ front ++ 32 ∷ (ds ++ 32 ∷ es) =
    simp append_assoc at (kept_end (front ++ 32 ∷ (ds ++ 32 ∷ [])) es second some) in
    rw (end, slice_split_at is_space front 32 (ds ++ 32 ∷ es) word refl) (slice_split_at is_space ds 32 es first refl
    ∙ ap (λ (parts : List (List ℕ)). ds ∷ parts) (slice_split_none is_space es second))

short_line : (line : List ℕ) → length line ≤ 510
    → command_of line ≡ command_by (keyword_of (before_first is_space line)) (after_keyword line) (arguments line)
unfolding command_of
short_line line short = cond-false _ _ _ (le-ltb 510 (length line) short)

-- a keyword and a number
keyword_numbered : (front : List ℕ) (n : ℕ) → list_all (λ x. not (is_space x)) front ≡ true → length front ≤ 4 → n < 2 ^ 32
    → command_of (front ++ 32 ∷ decimal n) ≡ command_by (keyword_of (before_first is_space (front ++ 32 ∷ decimal n)))
    (after_keyword (front ++ 32 ∷ decimal n)) (decimal n ∷ [])
keyword_numbered front n word short few =
    short_line (front ++ 32 ∷ decimal n) (omega (arith, length-append front (32 ∷ decimal n), few_digits n few))
    ∙ rw (arguments_one front (decimal n) (word_by front word) (number_word n few) (decimal_nonempty n (omega arith)))

-- a keyword and two numbers
numbered_twice : (front : List ℕ) (n k : ℕ) → list_all (λ x. not (is_space x)) front ≡ true → length front ≤ 4 → n < 2 ^ 32 → k < 2 ^ 32
    → (line : List ℕ) → line ≡ front ++ 32 ∷ (decimal n ++ 32 ∷ decimal k)
    → command_of line ≡ command_by (keyword_of (before_first is_space line)) (after_keyword line) (decimal n ∷ decimal k ∷ [])
numbered_twice front n k word short few less line is =
    short_line line (omega (
      arith,
      ap length is,
      length-append front (32 ∷ (decimal n ++ 32 ∷ decimal k)),
      length-append (decimal n) (32 ∷ decimal k),
      few_digits n few,
      few_digits k less,
    )) ∙ ap (command_by (keyword_of (before_first is_space line)) (after_keyword line))
    (ap arguments is ∙ arguments_two front (decimal n) (decimal k) (word_by front word) (number_word n few)
    (number_word k less) (decimal_nonempty k (omega arith)))

text_short : (text : List ℕ) → is_credential text ≡ true → length text ≤ 500
text_short text good = grind (arith, nat_tests, good)

pub round_trip : ReadAsWritten
unfolding line_of command_by keyword_of arguments text_argument no_argument one_number number_or_none two_numbers command_of
round_trip (User name) few good = short_line (85 ∷ 83 ∷ 69 ∷ 82 ∷ 32 ∷ name) (omega (arith, text_short name good))
    ∙ ap (λ (r : Result (List ℕ) WireFault). r >>= (λ t. Ok (User t))) (cond-true _ _ _ good)
round_trip (Pass password) few good = short_line (80 ∷ 65 ∷ 83 ∷ 83 ∷ 32 ∷ password) (omega (arith, text_short password good))
    ∙ ap (λ (r : Result (List ℕ) WireFault). r >>= (λ t. Ok (Pass t))) (cond-true _ _ _ good)
round_trip (UidlOne n) few good = keyword_numbered (codes "UIDL") n refl (omega arith) few ∙ rw (read_number n few)
round_trip (ListOne n) few good = keyword_numbered (codes "LIST") n refl (omega arith) few ∙ rw (read_number n few)
round_trip (Retr n) few good = keyword_numbered (codes "RETR") n refl (omega arith) few ∙ rw (read_number n few)
round_trip (Dele n) few good = keyword_numbered (codes "DELE") n refl (omega arith) few ∙ rw (read_number n few)
round_trip (Top n k) few good = numbered_twice (codes "TOP") n k refl (omega arith) few.0 few.1 (line_of (Top n k))
    (simp append_assoc) ∙ rw (read_number n few.0, read_number k few.1)
round_trip other few good = refl

-- ---- rows of listings are read as a server means them

-- if all bytes pass and there are any, the first one passes
starts : (test : ℕ → Bool) (ds : List ℕ) → 0 < length ds → list_all test ds ≡ true → (d : ℕ) × (rest : List ℕ)
    × (ds ≡ d ∷ rest) × (test d ≡ true)
starts test [] some e = absurd (omega arith)
starts test (d ∷ ds) some e = (d, ds, refl, (and_parts (test d) (list_all test ds) e).0)

pub numbers_are_read : NumbersAreRead
numbers_are_read limit n within fits =
    record {
      numeral = grind (
        arith,
        nat_tests,
        decimal_nonempty n (omega arith),
        length-decimal-le 20 n (omega arith) (omega arith) (omega arith),
        digits_of_decimal n (omega arith),
      );
      value = sym (decimal_is_IsNumeral n (omega arith)).1;
      within = within;
    }

numbered : (k : ℕ) (row rest : List ℕ) → k ≤ greatest_number → row ≡ rest → HasNumber (decimal k ++ 32 ∷ row) k rest
numbered k row rest few same = record {
  indent = [];
  digits = decimal k;
  gap = 32 ∷ [];
  whole = ap (λ (l : List ℕ). decimal k ++ 32 ∷ l) same;
  before = refl;
  counted = numbers_are_read greatest_number k few (omega arith);
  apart = refl;
  some = λ none. cc;
}

-- ---- these hold no line break

each_no_lf : (line : List ℕ) → list_all is_no_lf line ≡ true → HasNoLf line
each_no_lf [] e = tt
each_no_lf (byte ∷ line) e =
    let parts = and_parts (is_no_lf byte) (list_all is_no_lf line) e in
    (eqb-false byte 10 (not-true _ parts.0), each_no_lf line parts.1)

pub line_without_lf : (line : List ℕ) → list_all is_no_lf line ≡ true → IsLine line
line_without_lf line e = no_pair line (each_no_lf line e)

pub no_lf_append : (xs ys : List ℕ) → list_all is_no_lf xs ≡ true → list_all is_no_lf ys ≡ true → list_all is_no_lf (xs ++ ys) ≡ true
no_lf_append xs ys a b = list_all-append is_no_lf xs ys ∙ and_from _ _ a b

pub no_lf_decimal : (n : ℕ) → n < 2 ^ 64 → list_all is_no_lf (decimal n) ≡ true
no_lf_decimal n fits = all_pass is_ascii_digit is_no_lf (λ d e. grind (arith, nat_tests)) (decimal n) (digits_of_decimal n fits)

-- a row begins with a digit, so it isn't the end mark and has no full stop to drop
digit_content : (k : ℕ) (rest : List ℕ) → k < 2 ^ 64 → list_all is_no_lf rest ≡ true → IsSentAsIs (decimal k ++ rest)
digit_content k rest fits none =
    let (d, ds, begin, digit) = starts is_ascii_digit (decimal k) (decimal_nonempty k fits) (digits_of_decimal k fits) in
    let line : IsLine (decimal k ++ rest) =
    line_without_lf (decimal k ++ rest) (no_lf_append (decimal k) rest (no_lf_decimal k fits) none) in
    let other : d ≢ 46 = (λ e. grind (arith, nat_tests, digit, e)) in
    rw begin ((rw begin at line, λ e. other (cc)), cond-false _ _ _ (ne_eqb d 46 other))

-- ---- what is written is read

pub scan_rows_are_read : ScanRowsAreRead
scan_rows_are_read number size few fits = rw (append_assoc (decimal number) (32 ∷ []) (decimal size)) (
  digit_content number (32 ∷ decimal size) (omega arith) (no_lf_append (32 ∷ []) (decimal size) refl (no_lf_decimal size (omega arith))),
  scan_form_read _ number size (record {
    digits = decimal size;
    behind = [];
    front = numbered number (decimal size) (decimal size ++ []) few (sym (append-nil (decimal size)));
    sized = numbers_are_read greatest_size size fits fits;
    over = λ byte rest e. absurd (cc);
  }),
)

pub uid_rows_are_read : UidRowsAreRead
uid_rows_are_read number uid few legal = rw (append_assoc (decimal number) (32 ∷ []) uid) (
  digit_content number (32 ∷ uid) (omega arith)
      (no_lf_append (32 ∷ []) uid refl (all_pass is_id_byte is_no_lf (λ d e. grind (arith, nat_tests)) uid (bytes_of uid legal).1)),
  uid_form_read _ number uid (record {
    behind = [];
    front = numbered number uid (uid ++ []) few (sym (append-nil uid));
    legal = legal;
    over =
        refl;
  }),
)

pub first_lines_are_read : FirstLinesAreRead
first_lines_are_read Positive after none = (line_without_lf (codes "+OK" ++ after) none, (after, refl, refl))
first_lines_are_read Negative after none = (line_without_lf (codes "-ERR" ++ after) none, (after, refl, refl))

-- ---- the octets sent determine the commands

argument_no_lf : (bytes : List ℕ) → is_credential bytes ≡ true → list_all is_no_lf bytes ≡ true
argument_no_lf bytes h = all_pass is_plain is_no_lf (λ b e. grind (arith, nat_tests)) bytes (and_parts _ (list_all is_plain bytes) h).1

number_no_lf : (word : List ℕ) (n : ℕ) → list_all is_no_lf word ≡ true → n < 2 ^ 32 → list_all is_no_lf (word ++ decimal n) ≡ true
number_no_lf word n h l = no_lf_append word (decimal n) h (no_lf_decimal n (omega (arith, l)))

line_no_lf : (c : Command) → HasNumbers c → can_be_sent c ≡ true → list_all is_no_lf (line_of c) ≡ true
unfolding line_of
line_no_lf (User name) h s = no_lf_append (codes "USER ") name refl (argument_no_lf name s)
line_no_lf (Pass password) h s = no_lf_append (codes "PASS ") password refl (argument_no_lf password s)
line_no_lf (Top n k) h s =
    number_no_lf ((codes "TOP " ++ decimal n) ++ codes " ") k (no_lf_append (codes "TOP " ++ decimal n) (codes " ")
    (number_no_lf (codes "TOP ") n refl h.0) refl) h.1
line_no_lf other h s = search (rules, number_no_lf)

pub is_line : CommandsAreLines
is_line c h s = line_without_lf (line_of c) (line_no_lf c h s)

same_commands : (cs ds : List Command) (part other : List ℕ) → AllByRecursion HasNumbers cs → AllByRecursion HasNumbers ds
    → AllByRecursion (λ c. can_be_sent c ≡ true) cs → AllByRecursion (λ c. can_be_sent c ≡ true) ds → IsLine part → IsLine other
    → octets_of cs ++ part ≡ octets_of ds ++ other → cs ≡ ds
same_commands [] [] part other hc hd sc sd lp lo e = refl
same_commands [] (d ∷ ds) part other hc hd sc sd lp lo e = absurd (lp (line_of d) (octets_of ds ++ other) (simp append_assoc at e))
same_commands (c ∷ cs) [] part other hc hd sc sd lp lo e = absurd (lo (line_of c) (octets_of cs ++ part) (simp append_assoc at (sym e)))
same_commands (c ∷ cs) (d ∷ ds) part other hc hd sc sd lp lo e =
    let both = first_line_same (line_of c) (line_of d) (is_line c hc.0 sc.0) (is_line d hd.0 sd.0) (simp append_assoc at e) in
    let head : c ≡ d = cc (round_trip c hc.0 sc.0, round_trip d hd.0 sd.0, both.0) in
    let tail = same_commands cs ds part other hc.1 hd.1 sc.1 sd.1 lp lo both.1 in
    cc

pub one_list_of_commands : OneListOfCommands
one_list_of_commands commands others sent asked again =
    same_commands commands others asked.part again.part asked.numbers again.numbers asked.sendable again.sendable
    asked.no_line again.no_line (sym asked.whole ∙ again.whole)

-- ---- prefixes of the octets of some commands

-- if a list is split in two ways, one of the two first parts begins the other
meets : (a b c d : List ℕ) → a ++ b ≡ c ++ d → ((m : List ℕ) × (c ≡ a ++ m) × (b ≡ m ++ d)) ⊎ ((x : ℕ) × (m : List ℕ) × (a ≡ c ++ x ∷ m))
meets [] b c d e = inl (c, refl, e)
meets (x ∷ a) b [] d e = inr (x, a, refl)
meets (x ∷ a) b (y ∷ c) d e = ⊎_map (λ (m, front, behind). (m, cc, behind)) (λ (z, m, front). (z, m, cc)) (meets a b c d (cc))

-- all but the last of a list
without_last : (a m : List ℕ) (x z : ℕ) (b : List ℕ) → a ++ x ∷ m ≡ b ++ z ∷ [] → (k : List ℕ) × (b ≡ a ++ k)
without_last [] m x z b e = (b, refl)
without_last (y ∷ a) m x z [] e = let none : a ++ x ∷ m ≡ [] = cc in absurd (omega (arith, ap length none, length-append a (x ∷ m)))
without_last (y ∷ a) m x z (w ∷ b) e = let later = without_last a m x z b (cc) in (later.0, cc)

-- a command's line that isn't sent whole holds no LF
part_no_lf : (c : Command) (part m : List ℕ) (x : ℕ) → HasNumbers c → can_be_sent c ≡ true
    → ended (line_of c) ≡ part ++ x ∷ m → list_all is_no_lf part ≡ true
part_no_lf c part m x h s e =
    let k = without_last part m x 10 (line_of c ++ 13 ∷ []) (sym e ∙ sym (append_assoc (line_of c) (13 ∷ []) (10 ∷ []))) in
    (and_parts (list_all is_no_lf part) (list_all is_no_lf k.0) (rw (← list_all-append is_no_lf part k.0, ← k.1)
    (no_lf_append (line_of c) (13 ∷ []) (line_no_lf c h s) refl))).0

abbrev nothing_asked : (part : List ℕ) → list_all is_no_lf part ≡ true → HasSent [] part
nothing_asked part none = record { sendable = tt; numbers = tt; part = part; no_line = line_without_lf part none; whole = refl }

pub fronts_are_asked : FrontsAreAsked
fronts_are_asked [] front rest sendable numbers e =
    let none = nil_from_length front (omega (arith, ap length e, length-append front rest))
    in ([], [], refl, nothing_asked front (ap (list_all is_no_lf) none), none)
fronts_are_asked (c ∷ cs) front rest sendable numbers e = ⊎_elim (λ (m, is, behind).
    let (whole, later, are, asked, next) = fronts_are_asked cs m rest sendable.1 numbers.1 behind in
    let first : HasSent (c ∷ whole) front = record {
      sendable = (sendable.0, asked.sendable);
      numbers = (numbers.0, asked.numbers);
      part = asked.part;
      no_line = asked.no_line;
      whole = is ∙ ap (λ (l : List ℕ). ended (line_of c) ++ l) asked.whole
          ∙ sym (append_assoc (ended (line_of c)) (octets_of whole) asked.part);
    } in
    (c ∷ whole, later, cc, first, next)) (λ (x, m, is). (
      [],
      c ∷ cs,
      refl,
      nothing_asked front (part_no_lf c front m x numbers.0 sendable.0 is),
      (x ∷ m, is),
    )) (meets (ended (line_of c)) (octets_of cs) front rest e)

-- ---- lines split at spaces

-- a line that is split has at least one part
pub some_part : (rest : List ℕ) → slice_split is_space rest ≡ get_or (slice_split is_space rest) 0 [] ∷ drop 1 (slice_split is_space rest)
some_part rest = elim (slice_split is_space rest) as (λ all. length all ≡ count_by is_space rest + 1 → all ≡ get_or all 0 [] ∷ drop 1 all) [
  | [] ↦ λ size. absurd (omega (arith, size))
  | first ∷ more ↦ λ size. refl
] (length-slice_split is_space rest)
