-- Lists and what holds of each element; ids of messages; what a record says of an id; and what is left of an id's files
-- once readers took some away.
use Rattle.std.{
  proofs.Common.{◌≡◌, ℕ, List, [], ◌∷◌, ◌++◌, Bool, true, false, ◌&&◌, ◌||◌, length, take, drop, map, refl, ap, arith, ◌∙◌, ◌≢◌, ◌≤◌, ◌<◌},
  proofs.Common.{take-append-drop, inl, zero, suc, cond, sym, ◌⊎◌, Some, Option},
  proofs.Math.{Bool.or-false, Logic.⊎_elim},
  proofs.lemmas.List.{Kept.AllPairs-cons, take_at, map-append, take-take, nil_from_length},
  proofs.lemmas.List.Folds.{list_any-append, list_any_at, list_any_none},
  proofs.lemmas.{Option.same_Some, Slice.Eq.bytes_eq-Decides},
  proofs.lemmas.Bool.{both_ways, or_cases, or_left, or_right, false_from_ne_true, Decides.{same_from_decides, Decides-like}},
  specs.{List.{filter, list_any, AllByRecursion}, Prelude.{bytes_eq, slice_get}},
}
use Rattle.pop3_wire.specs.World.{Message}
pub use Rattle.mail_terms.proofs.ListLemmas.{all_append, all_back, all_front, any_map, both_none}
pub use Rattle.mail_terms.proofs.IdLemmas.{same_from_test as bytes_same}
use Rattle.mail_terms.specs.{Distinct.AreDistinct, UniqueId.has_id, Listing.{Item, has_item, is_flagged}}
use Rattle.fetch_record.{
  specs.{Record.{RecordState, Row, has_row, is_delivered, marked, merged, marked_all}, RecordGrowth.OneRecord},
  proofs.MergeLemmas.has_id-kept,
}
use Rattle.mail_store.specs.{FileName.{is_held, names_id, stem, stem_of}, Held.flags_of, Maildir.{AreReached, File, IsPart, Maildir}}
use Rattle.session_parts.specs.{Record.{Keeps, KeepsRows}, Target.none_held}
use Rattle.fetch_runs.specs.{Accounts.{copies, message_ids, texts_of}, Below.Below}

pub filter-filter : {X : Type 0} (p q : X → Bool) (xs : List X) → filter p (filter q xs) ≡ filter (λ x. q x && p x) xs
filter-filter p q [] = refl
filter-filter p q (x ∷ xs) = grind (arith, filter-filter p q xs)

pub filter-swap : {X : Type 0} (p q : X → Bool) (xs : List X) → filter p (filter q xs) ≡ filter q (filter p xs)
filter-swap p q [] = refl
filter-swap p q (x ∷ xs) = grind (arith, filter-swap p q xs)

pub filter-map : {X Y : Type 0} (p : Y → Bool) (f : X → Y) (xs : List X) → filter p (map f xs) ≡ map f (filter (λ x. p (f x)) xs)
filter-map p f [] = refl
filter-map p f (x ∷ xs) = grind (arith, filter-map p f xs)

-- whether a list has elements
abbrev pub is_some : {X : Type 0} → List X → Bool
is_some [] = false
is_some (x ∷ _) = true

pub any_filter : {X Y : Type 0} (p : X → Bool) (f : X → Y) (xs : List X) → list_any p xs ≡ is_some (map f (filter p xs))
any_filter p f [] = refl
any_filter p f (x ∷ xs) = grind (arith, any_filter p f xs)

-- what a list begins with
pub front_is : {X : Type 0} {xs : List X} (ys zs : List X) → xs ≡ ys ++ zs → take (length ys) xs ≡ ys
front_is ys zs e = ap (take (length ys)) e ∙ take_at ys zs (length ys) refl

-- from which element an element of a mapped list comes
pub mapped_at : {A B : Type 0} (f : A → B) (xs : List A) (n : ℕ) (y : B) → slice_get (map f xs) n ≡ Some y
    → (x : A) × (slice_get xs n ≡ Some x) × (f x ≡ y)
mapped_at f [] n y e = absurd cc
mapped_at f (x ∷ _) zero y e = (x, refl, same_Some (f x) y e)
mapped_at f (x ∷ xs) (suc n) y e = mapped_at f xs n y e

-- a list that is empty or one element of a kind
pub none_or_one : {A : Type 0} {P : A → Type 0} {xs : List A} → (xs ≡ []) ⊎ ((x : A) × P x × (xs ≡ x ∷ [])) → length xs ≤ 1
none_or_one once = ⊎_elim (λ none. rw none (omega arith)) (λ (x, p, one). rw one (omega arith)) once

-- what stands after those before it
pub at_length : {A : Type 0} (xs : List A) (y : A) (ys : List A) → slice_get (xs ++ y ∷ ys) (length xs) ≡ Some y
at_length [] y _ = refl
at_length (x ∷ xs) y ys = at_length xs y ys

-- ---- what holds of each

module _ {X : Type 0} where
  pub all_both : {P Q R : X → Type 0} (xs : List X) → AllByRecursion P xs → AllByRecursion Q xs
      → ((x : X) → P x → Q x → R x) → AllByRecursion R xs
  all_both [] h k f = tt
  all_both (x ∷ xs) h k f = (f x h.0 k.0, all_both xs h.1 k.1 f)

  pub all_map : {P Q : X → Type 0} (xs : List X) → AllByRecursion P xs → ((x : X) → P x → Q x) → AllByRecursion Q xs
  all_map xs h f = all_both xs h h (λ x p q. f x p)

  pub all_filter : (P : X → Type 0) (p : X → Bool) (xs : List X) → AllByRecursion P xs → AllByRecursion P (filter p xs)
  all_filter P p [] h = tt
  all_filter P p (x ∷ xs) h = grind (arith, h.0, all_filter P p xs h.1)

  -- what a filter keeps passes its test
  pub all_passing : (p : X → Bool) (xs : List X) → AllByRecursion (λ x. p x ≡ true) (filter p xs)
  all_passing p [] = tt
  all_passing p (x ∷ xs) = grind (arith, all_passing p xs)

  pub filter_all : (p : X → Bool) (xs : List X) → AllByRecursion (λ x. p x ≡ true) xs → filter p xs ≡ xs
  filter_all p [] h = refl
  filter_all p (x ∷ xs) h = grind (arith, filter_all p xs h.1)

  pub all_take : (P : X → Type 0) (n : ℕ) (xs : List X) → AllByRecursion P xs → AllByRecursion P (take n xs)
  all_take P n xs h = all_front P _ (drop n xs) (rw take-append-drop h)

  pub all_mapped : {Y : Type 0} (P : Y → Type 0) (f : X → Y) (xs : List X) → AllByRecursion (λ x. P (f x)) xs → AllByRecursion P (map f xs)
  all_mapped P f [] h = tt
  all_mapped P f (x ∷ xs) h = (h.0, all_mapped P f xs h.1)

-- ---- ids of messages

pub bytes_self : (a : List ℕ) → bytes_eq a a ≡ true
bytes_self a = (bytes_eq-Decides a a).1 refl

-- two tests are the same if what they tell is
pub bytes_eq_alike : {a b c d : List ℕ} → (a ≡ b → c ≡ d) → (c ≡ d → a ≡ b) → bytes_eq a b ≡ bytes_eq c d
bytes_eq_alike {a} {b} {c} {d} there back =
    same_from_decides (bytes_eq a b) (bytes_eq c d) (bytes_eq-Decides a b) (Decides-like _ back there (bytes_eq-Decides c d))

pub bytes_swap : (a b : List ℕ) → bytes_eq a b ≡ bytes_eq b a
bytes_swap a b = bytes_eq_alike {b = b} sym sym

-- ---- whether an id is among these

pub ids_filtered : (p : List ℕ → Bool) (ms : List Message) (id : List ℕ)
    → has_id (message_ids (filter (λ (m : Message). p m.uid) ms)) id ≡ (has_id (message_ids ms) id && p id)
ids_filtered p ms id = rw (← filter-map p (λ (m : Message). m.uid) ms) (has_id-kept p (message_ids ms) id)

pub has_texts : (ms : List Message) (id : List ℕ) → has_id (message_ids ms) id ≡ is_some (texts_of ms id)
has_texts ms id = any_map (bytes_eq id) (λ (m : Message). m.uid) ms
    ∙ any_filter (λ (m : Message). bytes_eq id m.uid) (λ (m : Message). m.text) ms

pub ids_both : (ms ns : List Message) (id : List ℕ)
    → has_id (message_ids (ms ++ ns)) id ≡ (has_id (message_ids ms) id || has_id (message_ids ns) id)
ids_both _ _ _ = simp (map-append, list_any-append)

pub all_ids_at : (P : List ℕ → Type 0) (ids : List (List ℕ)) {id : List ℕ} → AllByRecursion P ids → has_id ids id ≡ true → P id
all_ids_at P [] h e = absurd (both_ways false refl e)
all_ids_at P (x ∷ xs) {id} h e = ⊎_elim (λ same. rw (bytes_same id x same) h.0)
    (all_ids_at P xs h.1) (or_cases (bytes_eq id x) (has_id xs id) e)

-- what holds of each message's id holds of any id among them
pub all_at : (P : List ℕ → Type 0) (ms : List Message) {id : List ℕ} → AllByRecursion (λ (m : Message). P m.uid) ms
    → has_id (message_ids ms) id ≡ true → P id
all_at P ms h = all_ids_at P _ (all_mapped P _ ms h)

-- the id of each is among the ids of all
pub members : (ms : List Message) → AllByRecursion (λ (m : Message). has_id (message_ids ms) m.uid ≡ true) ms
members [] = tt
members (m ∷ ms) = (or_left _ _ (bytes_self m.uid), all_map ms (members ms) (λ x h. or_right _ _ h))

-- the ids of a shorter prefix are among those of a longer one
pub taken_more : {X : Type 0} (f : X → List ℕ) {m n : ℕ} (xs : List X) (id : List ℕ) → m ≤ n
    → has_id (map f (take m xs)) id ≡ true → has_id (map f (take n xs)) id ≡ true
taken_more f {m} {n} xs id l e =
    rw (
      ← take-append-drop m (take n xs),
      take-take,
      map-append f (take m xs) (drop m (take n xs)),
      list_any-append (bytes_eq id) (map f (take m xs)) (map f (drop m (take n xs))),
    ) (or_left _ _ e)

-- ---- distinct ids

abbrev pub Distinct : List (List ℕ) → Type 0
Distinct [] = Unit {0}
Distinct (id ∷ ids) = (has_id ids id ≡ false) × Distinct ids

pub distinct_is : (ms : List Message) → AreDistinct (message_ids ms) → Distinct (message_ids ms)
distinct_is [] h = tt
distinct_is (m ∷ ms) h = (
  list_any_none _ (message_ids ms) (λ k d l. false_from_ne_true _ (λ t. h 0 (suc k) d (omega arith) (omega (arith, l)) (bytes_same _ _ t))),
  distinct_is ms (λ j k d before inside. h (suc j) (suc k) d (omega (arith, before)) (omega (arith, inside))),
)

pub are_distinct : (ids : List (List ℕ)) → Distinct ids → AreDistinct ids
are_distinct [] d = λ i j e _ inside. absurd (omega arith)
are_distinct (id ∷ ids) d = AllPairs-cons (λ (a b : List ℕ). a ≢ b) id ids
    (λ k e l same. both_ways _ d.0 (list_any_at (bytes_eq id) ids k e l (ap (bytes_eq id) (sym same) ∙ bytes_self id)))
    (are_distinct ids d.1)

pub distinct_take : (n : ℕ) (ms : List Message) → Distinct (message_ids ms) → Distinct (message_ids (take n ms))
distinct_take zero _ d = tt
distinct_take (suc n) [] d = tt
distinct_take (suc n) (m ∷ ms) d = (grind (arith, d.0, ids_both, take-append-drop n ms), distinct_take n ms d.1)

pub distinct_filter : (p : Message → Bool) (ms : List Message) → Distinct (message_ids ms) → Distinct (message_ids (filter p ms))
distinct_filter p [] d = tt
distinct_filter p (m ∷ ms) d = grind (arith, none_filter, distinct_filter p ms d.1)
  where
    none_filter : (ms : List Message) (id : List ℕ) → has_id (message_ids ms) id ≡ false → has_id (message_ids (filter p ms)) id ≡ false
    none_filter [] _ e = refl
    none_filter (m ∷ ms) id e = grind (arith, e, none_filter ms id)

pub no_texts : (ms : List Message) (id : List ℕ) → has_id (message_ids ms) id ≡ false → texts_of ms id ≡ []
no_texts [] _ e = refl
no_texts (m ∷ ms) id e = grind (arith, e, no_texts ms id)

-- an id that an earlier message has isn't among these
pub other_id : (m : Message) (ms : List Message) (id : List ℕ) → has_id (message_ids ms) m.uid ≡ false
    → bytes_eq id m.uid ≡ true → has_id (message_ids ms) id ≡ false
other_id m _ id none same = rw (bytes_same id m.uid same) none

-- ---- the texts of an id in a part of a list

-- of messages picked by their ids an id has all its texts, or none
pub texts_filtered : (p : List ℕ → Bool) (ms : List Message) (id : List ℕ)
    → texts_of (filter (λ (m : Message). p m.uid) ms) id ≡ cond (p id) (texts_of ms id) []
texts_filtered p [] _ = grind arith
texts_filtered p (m ∷ ms) id = grind (arith, texts_filtered p ms id, λ (e : bytes_eq id m.uid ≡ true). ap p (bytes_same id m.uid e))

-- the message's text is the only one of its id
abbrev pub HasOneText : List Message → Message → Type 0
HasOneText ms m = texts_of ms m.uid ≡ m.text ∷ []

pub each_text : (ms : List Message) → Distinct (message_ids ms) → AllByRecursion (HasOneText ms) ms
each_text [] d = tt
each_text (m ∷ ms) d = (
  rw (bytes_self, no_texts ms m.uid d.0),
  all_both ms (each_text ms d.1) (members ms) (λ x e there. grind (arith, e, there, other_id m ms x.uid d.0)),
)

-- ---- what a record says of an id after it was merged and marked

-- an id that is recorded after these were marked was so before, or is one of them
pub delivered_marked : Below → (rows : List Row) (uids : List (List ℕ)) (id : List ℕ) → is_delivered (marked_all rows uids) id ≡ true
    → (is_delivered rows id ≡ true) ⊎ (has_id uids id ≡ true)
delivered_marked _ _ [] _ e = inl e
delivered_marked laws rows (uid ∷ uids) id e =
    grind (arith, delivered_marked laws (marked rows uid) uids id e, laws.marks rows uid id, bytes_swap)

-- what is recorded stays so after others were marked
pub marks_stay : Below → (rows : List Row) (uids : List (List ℕ)) (id : List ℕ) → is_delivered rows id ≡ true
    → is_delivered (marked_all rows uids) id ≡ true
marks_stay _ _ [] _ e = e
marks_stay laws rows (uid ∷ uids) id e = marks_stay laws (marked rows uid) uids id (laws.marks rows uid id ∙ or_left _ _ e)

-- after a merge an id is recorded exactly if it was before, or is listed and held
pub delivered_merged : Below → (account : List ℕ) (maildir : Maildir) (rows : List Row) (items : List Item) (now : ℕ) (id : List ℕ)
    → is_delivered (merged rows items (flags_of account maildir items) now) id
    ≡ (is_delivered rows id || (has_item items id && is_held account maildir id))
delivered_merged laws account maildir rows items now id = laws.merges rows items (flags_of account maildir items) now id
    ∙ rw (laws.flags account maildir items id)

-- ---- with nothing held, and marks of ids that have rows

module _ (laws : Below) (rows : List Row) where
  -- after such a merge an id is recorded exactly if it was before
  pub delivered_unheld : (listing : List Item) (now : ℕ) (id : List ℕ)
      → is_delivered (merged rows listing (none_held listing) now) id ≡ is_delivered rows id
  delivered_unheld listing now id = laws.merges rows listing (none_held listing) now id ∙ rw none_flagged (or-false _)
    where
      none_flagged : (listing : List Item) → is_flagged listing (none_held listing) id ≡ false
      none_flagged [] = refl
      none_flagged (_ ∷ listing) = none_flagged listing

  -- after a mark an id is recorded exactly if it was before, or is the one that was marked
  pub delivered_one : (uid id : List ℕ) → has_row rows uid ≡ true
      → is_delivered (marked rows uid) id ≡ (is_delivered rows id || bytes_eq id uid)
  delivered_one uid id has = grind (arith, laws.marks rows uid id, bytes_swap, has, λ (e : bytes_eq id uid ≡ true). bytes_same id uid e)

-- the same for several ids
pub delivered_all : Below → (rows : List Row) (uids : List (List ℕ)) (id : List ℕ) → AllByRecursion (λ uid. has_row rows uid ≡ true) uids
    → is_delivered (marked_all rows uids) id ≡ (is_delivered rows id || has_id uids id)
delivered_all _ _ [] _ h = sym (or-false _)
delivered_all laws rows (uid ∷ uids) id h =
    grind (
      arith,
      delivered_all laws (marked rows uid) uids id (all_map _ h.1 (λ u k. laws.keeps rows uid u ∙ k)),
      delivered_one,
    )

-- ---- a file stands for one record

pub same_held : OneRecord → (content : Option (List ℕ)) (a b : RecordState) → Keeps content a → Keeps content b → a ≡ b
same_held one content a b x y = let same = one _ _ b.rows a.intent b.intent x y in rw (same.0, same.1)

pub same_kept_rows : OneRecord → (content : Option (List ℕ)) (a b : List Row) → KeepsRows content a → KeepsRows content b → a ≡ b
same_kept_rows one _ a b x y = (one _ a b x.0 y.0 x.1 y.1).0

-- ---- files of an id

-- an id is held if it has files
pub held_is : (front : List ℕ) (fs : List File) → list_any (λ (f : File). bytes_eq front (stem f.name)) fs ≡ is_some (copies fs front)
held_is _ fs = any_filter _ _ fs

-- one file fewer
pub fewer_copies : (front : List ℕ) (a b : List File) (f : File) → (copies (a ++ b) front ≡ copies (a ++ f ∷ b) front)
    ⊎ (length (copies (a ++ b) front) < length (copies (a ++ f ∷ b) front))
fewer_copies _ [] b f = grind arith
fewer_copies front (x ∷ a) b f = let fewer = fewer_copies front a b f in grind (arith, fewer)

-- of which more may be durable
pub reached_copies : (front : List ℕ) (fs left : List File) → AreReached fs left → copies left front ≡ copies fs front
reached_copies _ [] [] _ = refl
reached_copies front (f ∷ fs) (g ∷ left) (same, are) = let rest = reached_copies front fs left are
    in grind (arith, same.name, same.content, rest)
reached_copies _ _ _ never = absurd never

-- all that an id's files held, or less
pub part_copies : (front : List ℕ) (fs left : List File) → IsPart fs left → (copies left front ≡ copies fs front)
    ⊎ (length (copies left front) < length (copies fs front))
part_copies _ fs _ ([], are) = inl (reached_copies _ fs _ are)
part_copies front fs left (f ∷ gone, (a, b, are, is)) =
    let less = part_copies front (a ++ b) left (gone, is) in let fewer = fewer_copies front a b f in
    let same = reached_copies front fs (a ++ f ∷ b) are in rw (← same) (grind (arith, less, fewer))

-- if it was one file, that is left, or nothing is
pub left_or_none : (front : List ℕ) (fs left : List File) → IsPart fs left → length (copies fs front) ≤ 1
    → (copies left front ≡ copies fs front) ⊎ ((copies left front ≡ []) × (copies fs front ≢ []))
left_or_none front fs left part once = let less = part_copies front fs _ part in grind (arith, once, less, nil_from_length)

pub some_held : (account id : List ℕ) (fs : List File) → copies fs (stem_of account id) ≢ []
    → list_any (λ (f : File). names_id account id f.name) fs ≡ true
some_held account id fs some = grind (arith, some, held_is (stem_of account id) fs)

pub held_some : (front : List ℕ) (fs : List File) → list_any (λ (f : File). bytes_eq front (stem f.name)) fs ≡ true → copies fs front ≢ []
held_some front fs held none = both_ways (is_some (copies fs front)) (ap is_some none) (sym (held_is _ fs) ∙ held)
