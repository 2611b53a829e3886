-- Loops over a listing, ids that occur once in it, and the plan, item by item with a count of what is fetched.
use Rattle.std.{
  proofs.Common.{Bool, List, [], ap, append_assoc, arith, cond, false, filter, get_or, inl, inr, length, length-append, map, refl, subst},
  proofs.Common.{suc, sym, take, take_all, take_at, true, zero, zip, ℕ, ◌&&◌, ◌++◌, ◌+◌, ◌-◌, ◌<◌, ◌==◌, ◌||◌, ◌∙◌, ◌∷◌, ◌≡◌, ◌≤◌, ◌⊎◌},
  proofs.Common.{Less, All, Option, Some, None, bytes_eq, drop, if◌then◌else◌, is_none, length-set, nat_cmp, nat_le, not, replicate, set},
  proofs.Common.{true≢false, ◌≢◌},
  proofs.Math.Bool.{and-true, or_comm},
  proofs.lemmas.Bool.{and_parts, cases_Bool, cond_both, not-true, cases_lt, not_from_false, Decides.{nat_tests, Decides-at}},
  proofs.lemmas.{Cmp.nat_list_cmp_total, Slice.Eq.bytes_eq-Decides},
  proofs.lemmas.List.{Filters.length-filter_more, length-take, map_more, drop-set, drop_all, drop_more, ext_get_or, get_or-drop},
  proofs.lemmas.List.{get_or-map, get_or-take, length-drop, length-map, Elements.{All-head, All-tail}},
  proofs.lemmas.List.{Folds.{list_any_none, list_any_more}, FromFn.{get_or-enumerate_from, length-enumerate_from}},
  proofs.lemmas.Map.{Made.AllPairs-from_IsDistinct, Keys.{IsDistinct-from_sorted, sorted_from_all_adjacent}, Text.is_eq-slice_cmp},
  specs.{Cmp.Lexicographic.slice_cmp, List.enumerate_from, Option.option_or},
}
use Rattle.mail_terms.{
  specs.{Listing.{Item, has_item, is_first, numbered, HasDistinctIds, Joins, ids_of, is_last, UidRow}, Numbering.IsNumbering},
  specs.{UniqueId.has_id, declared.listing.ScanRow.ScanRow},
  proofs.IdLemmas.{nobody, test_from_other},
}
use Rattle.rc_file.specs.declared.settings.Settings.{Settings}
use Rattle.fetch_record.specs.Record.{Row, is_delivered}
use Rattle.fetch_rules.specs.{
  Due.{is_due, may_delete},
  Laws.{FetchesAsked, FetchesFirsts},
  Limits.{AllowsAlone, SetsSizeLimit, SetsLimits, SetsNoLimits},
  Plan.{fetches, is_deleted, may_be_deleted, planned, retrieved, step_of},
  Wanted.{WantedAreFirst, allows_size, at_most, is_candidate, is_full, is_within, none_odd, own_skip, skip_for, skip_of, limit_or_all},
  Wanted.wanted,
  declared.plans.{Skip.{Skip, TheVariants.{Delivered, Obstructed, TooLarge, PastLimit, SameId}}, Step.Step},
}

-- a message with its number
abbrev pub Message : Type 0
Message = ℕ × Item

-- a message has no reason of its own exactly if it is within the limit on sizes, isn't obstructed, and isn't known or all are
-- to be read
pub own_passes : (settings : Settings) (odd : Bool) (is_known : List ℕ → Bool) (uid : List ℕ) (size : ℕ)
    → is_none (own_skip settings odd is_known uid size)
    ≡ not (not settings.read_all && is_known uid) && (not odd && allows_size settings size)
own_passes settings odd is_known uid size = by (not settings.read_all && is_known uid) odd (allows_size settings size)
  where
    by : (known odd within : Bool)
        → is_none (if known then Some Delivered else if odd then Some Obstructed else if not within then Some TooLarge else None)
        ≡ not known && (not odd && within)
    by true odd within = refl
    by false true within = refl
    by false false true = refl
    by false false false = refl

-- it is fetched exactly if it has none, is the first with its id and no session is full before it
pub passes_for : (settings : Settings) (is_odd : List ℕ → Bool) (rows : List Row) (first full : Bool) (item : Item)
    → is_none (skip_for settings is_odd rows first full item)
    ≡ (is_none (own_skip settings (is_odd item.uid) (is_delivered rows) item.uid item.size) && first) && not full
passes_for settings is_odd rows first full item = by (own_skip settings (is_odd item.uid) (is_delivered rows) item.uid item.size) first full
  where
    by : (own : Option Skip) (first full : Bool)
        → is_none (option_or own (if full then Some PastLimit else if first then None else Some SameId))
        ≡ (is_none own && first) && not full
    by (Some why) first full = refl
    by None true true = refl
    by None true false = refl
    by None false true = refl
    by None false false = refl

pub parts_for : (settings : Settings) (is_odd : List ℕ → Bool) (rows : List Row) (first full : Bool) (item : Item)
    → is_none (skip_for settings is_odd rows first full item) ≡ true
    → (is_none (own_skip settings (is_odd item.uid) (is_delivered rows) item.uid item.size) ≡ true) × (first ≡ true)
parts_for settings is_odd rows first full item fetched =
    let own = is_none (own_skip settings (is_odd item.uid) (is_delivered rows) item.uid item.size) in
    and_parts own first (and_parts (own && first) (not full) (sym (passes_for settings is_odd rows first full item) ∙ fetched)).0

-- what steps fetch
retrieved_steps : (f : Message → Step) (messages : List Message)
    → map (λ pair. pair.1) (filter (λ pair. fetches pair.0) (zip (map f messages) messages)) ≡ filter
    (λ message. fetches (f message)) messages
retrieved_steps f [] = refl
retrieved_steps f (message ∷ messages) = elim (cases_Bool (fetches (f message))) [
  | inl hit ↦ rw (hit, retrieved_steps f messages) refl
  | inr miss ↦ rw miss (retrieved_steps f messages)
]

pub retrieved-planned : (settings : Settings) (is_odd : List ℕ → Bool) (rows : List Row) (listing : List Item) (now : ℕ)
    → retrieved (planned settings is_odd rows listing now) listing ≡ wanted settings is_odd rows listing
retrieved-planned settings is_odd rows listing now = retrieved_steps (step_of settings is_odd rows listing now) (numbered listing)

pub message_at : (listing : List Item) (i : ℕ) (d : Item) → i < length listing
    → get_or (numbered listing) i (0, d) ≡ (i + 1, get_or listing i d)
message_at listing i d inside = get_or-enumerate_from 1 listing i (0, d) inside ∙ ap (λ (n : ℕ). (n, get_or listing i d)) (omega arith)

-- ---- what is fetched are the first of the messages that may be

-- a session that is full stays so
full_more : (settings : Settings) (c d : ℕ) → is_full settings c ≡ true → c ≤ d → is_full settings d ≡ true
full_more settings c d full more = grind (arith, nat_tests)

module _ (settings : Settings) (is_odd : List ℕ → Bool) (rows : List Row) (listing : List Item) where
  -- those of the first i messages that may be fetched
  abbrev before : ℕ → List Message
  before i = filter (is_candidate settings is_odd rows listing) (take i (numbered listing))

  abbrev gets : Message → Bool
  gets message = is_none (skip_of settings is_odd rows listing message)

  within : (i : ℕ) → i < length listing → i < length (numbered listing)
  within i inside = omega (arith, inside, length-enumerate_from 1 listing)

  pub before_more : (i : ℕ) → i < length listing → length (before (i + 1))
      ≡ length (before i) + cond (is_candidate settings is_odd rows listing (i + 1, get_or listing i nobody)) 1 0
  before_more i inside = length-filter_more (is_candidate settings is_odd rows listing) (numbered listing) i (0, nobody) (within i inside)
      ∙ ap (λ (m : Message). length (before i) + cond (is_candidate settings is_odd rows listing m) 1 0)
      (message_at listing i nobody inside)

  gets_at : (i : ℕ) → gets (i + 1, get_or listing i nobody)
      ≡ is_candidate settings is_odd rows listing (i + 1, get_or listing i nobody) && not (is_full settings (length (before i)))
  gets_at i = let place : i + 1 - 1 ≡ i = omega arith in
      ap (λ (k : ℕ). is_none (skip_for settings is_odd rows (is_first listing (i + 1, get_or listing i nobody))
      (is_full settings (length (before k))) (get_or listing i nobody))) place
      ∙ passes_for settings is_odd rows (is_first listing (i + 1, get_or listing i nobody)) (is_full settings (length (before i)))
      (get_or listing i nobody)

module _ (settings : Settings) where
  -- what may be left of these if so many were before them
  abbrev left_of : ℕ → List Message → List Message
  left_of c ms = if settings.max_count == 0 then ms else take (settings.max_count - c) ms

  none_left : (c : ℕ) → left_of c [] ≡ []
  none_left c = cond_both (settings.max_count == 0) [] (take (settings.max_count - c) []) (λ l. l ≡ []) (λ e. refl)
      (λ e. take_all (settings.max_count - c) [] (omega arith))

  left_more : (c : ℕ) (may : Bool) (m : Message) (ms : List Message) → cond (may && not (is_full settings c))
      (m ∷ left_of (c + cond may 1 0) ms) (left_of (c + cond may 1 0) ms) ≡ left_of c (cond may (m ∷ ms) ms)
  left_more c false m ms = ap (λ (k : ℕ). left_of k ms) (omega arith)
  left_more c true m ms = elim (cases_Bool (settings.max_count == 0)) [
    | inl none ↦ rw none refl
    | inr some ↦ elim (cases_Bool (nat_le settings.max_count c)) [
      | inl full ↦
          let here : settings.max_count - c ≡ 0 = grind (arith, nat_tests, full) in
          let later : settings.max_count - (c + 1) ≡ 0 = grind (arith, nat_tests, full) in
          rw (some, full) (ap (λ (k : ℕ). take k ms) later ∙ sym (ap (λ (k : ℕ). take k (m ∷ ms)) here))
      | inr room ↦
          let here : settings.max_count - c ≡ suc (settings.max_count - (c + 1)) = grind (arith, nat_tests, room) in
          rw (some, room) (sym (ap (λ (k : ℕ). take k (m ∷ ms)) here))
    ]
  ]

  left_all : (ms : List Message) → left_of 0 ms ≡ at_most settings (λ m. m.1.size) ms
  left_all ms = elim (cases_Bool (settings.max_count == 0)) [
    | inl none ↦ rw none (sym (take_all _ ms (omega (arith, length-map ms (λ m. m.1.size)))))
    | inr some ↦ let all : settings.max_count - 0 ≡ settings.max_count = omega arith in rw (some, all) refl
  ]

  -- of a list what passes `gets`, if that is what passes `may` until a session is full
  module _ (may gets : Message → Bool) (ms : List Message) (d : Message) (at : (i : ℕ) → i < length ms
      → gets (get_or ms i d) ≡ may (get_or ms i d) && not (is_full settings (length (filter may (take i ms))))) where
    firsts_after : (n i : ℕ) → i + n ≡ length ms
        → filter gets (drop i ms) ≡ left_of (length (filter may (take i ms))) (filter may (drop i ms))
    firsts_after zero i all = rw (drop_all i ms (omega (arith, all))) (sym (none_left (length (filter may (take i ms)))))
    firsts_after (suc n) i all =
        let inside : i < length ms = omega (arith, all) in
        rw (
          drop_more ms i d inside,
          at i inside,
          firsts_after n (i + 1) (omega (arith, all)),
          length-filter_more may ms i d inside,
        ) (left_more (length (filter may (take i ms))) (may (get_or ms i d)) (get_or ms i d) (filter may (drop (i + 1) ms)))

    firsts : filter gets ms ≡ at_most settings (λ m. m.1.size) (filter may ms)
    firsts = firsts_after (length ms) 0 (omega arith) ∙ left_all (filter may ms)

-- two tests that agree on these keep the same
agree_on : (p q : Message → Bool) (ms : List Message) → All (λ m. p m ≡ q m) ms → filter p ms ≡ filter q ms
agree_on p q [] all = refl
agree_on p q (m ∷ ms) all = rw (
  All-head (λ m. p m ≡ q m) m ms all,
  agree_on p q ms (All-tail (λ m. p m ≡ q m) m ms all),
) refl

-- and two functions that agree on these have the same values
same_on : {X : Type 0} (f g : Message → X) (ms : List Message) → All (λ m. f m ≡ g m) ms → map f ms ≡ map g ms
same_on f g [] all = refl
same_on f g (m ∷ ms) all = rw (All-head (λ m. f m ≡ g m) m ms all, same_on f g ms (All-tail (λ m. f m ≡ g m) m ms all)) refl

-- ---- a loop over the listing: the steps of the first i messages, and how many of these are fetched

-- so many are fetched of so many that may be
abbrev pub IsCounted : Settings → ℕ → ℕ → Type 0
IsCounted settings may fetched = (fetched ≡ may) ⊎ ((is_full settings fetched ≡ true) × (is_full settings may ≡ true))

pub record HasPlanned (settings : Settings) (is_odd : List ℕ → Bool) (rows : List Row) (listing : List Item) (now i : ℕ) (steps : List Step)
    (fetched : ℕ) : Type 0 where
  pub steps_are : steps ≡ map (step_of settings is_odd rows listing now) (take i (numbered listing))
  pub count : IsCounted settings (length (before settings is_odd rows listing i)) fetched
  pub few : fetched ≤ i

full_same : (settings : Settings) (may fetched : ℕ) → IsCounted settings may fetched → is_full settings fetched ≡ is_full settings may
full_same settings may fetched (inl same) = ap (is_full settings) same
full_same settings may fetched (inr (full, past)) = full ∙ sym past

counted_more : (settings : Settings) (may fetched : ℕ) (candidate : Bool) → IsCounted settings may fetched
    → IsCounted settings (may + cond candidate 1 0) (fetched + cond (candidate && not (is_full settings fetched)) 1 0)
counted_more settings may fetched candidate was = elim (cases_Bool (is_full settings fetched)) [
  | inl full ↦ inr (
    full_more settings fetched _ full (omega arith),
    full_more settings may _ (sym (full_same settings may fetched was) ∙ full) (omega arith),
  )
  | inr room ↦ elim was [
    | inl same ↦ inl (rw (room, and-true) (omega (arith, same)))
    | inr (full, past) ↦ absurd (true≢false (sym full ∙ room))
  ]
]

pub HasPlanned-more : (settings : Settings) (is_odd : List ℕ → Bool) (rows : List Row) (listing : List Item) (now i : ℕ) (steps : List Step)
    (fetched : ℕ) (full : Bool) (skip : Option Skip) (deleted : Bool) (next : ℕ)
    → HasPlanned settings is_odd rows listing now i steps fetched → i < length listing
    → full ≡ is_full settings fetched
    → ((d : Item) → skip ≡ skip_for settings is_odd rows (is_first listing (i + 1, get_or listing i d)) full (get_or listing i d))
    → ((d : Item) → deleted ≡ is_deleted settings rows listing now skip (i + 1, get_or listing i d))
    → next ≡ fetched + cond (is_none skip) 1 0
    → HasPlanned settings is_odd rows listing now (i + 1) (steps ++ record { number = i + 1; skip = skip; delete = deleted } ∷ []) next
HasPlanned-more settings is_odd rows listing now i steps fetched full skip deleted next has inside as_full skip_is deleted_is
    next_is = record {
      steps_are = rw (
        has.steps_are,
        map_more (step_of settings is_odd rows listing now) (numbered listing) i (0, nobody) (within settings is_odd rows listing i inside),
        message_at listing i nobody inside,
        deleted_is nobody,
        skip_there,
      ) refl;
      count = subst (λ (n : ℕ). IsCounted settings n next) (sym (before_more settings is_odd rows listing i inside))
          (subst (λ (n : ℕ). IsCounted settings (length (before settings is_odd rows listing i)
          + cond (is_candidate settings is_odd rows listing (i + 1, get_or listing i nobody)) 1 0) n)
          (sym (next_is ∙ ap (λ (b : Bool). fetched + cond b 1 0) gets_it))
          (counted_more settings (length (before settings is_odd rows listing i)) fetched
          (is_candidate settings is_odd rows listing (i + 1, get_or listing i nobody)) has.count));
      few = grind (arith, has.few, next_is);
    }
  where
    place : i + 1 - 1 ≡ i
    place = omega arith

    gets_it : is_none skip ≡ is_candidate settings is_odd rows listing (i + 1, get_or listing i nobody) && not (is_full settings fetched)
    gets_it = ap (λ (s : Option Skip). is_none s) (skip_is nobody)
        ∙ passes_for settings is_odd rows (is_first listing (i + 1, get_or listing i nobody)) full (get_or listing i nobody)
        ∙ ap (λ (b : Bool). is_candidate settings is_odd rows listing (i + 1, get_or listing i nobody) && not b) as_full

    skip_there : skip ≡ skip_of settings is_odd rows listing (i + 1, get_or listing i nobody)
    skip_there = skip_is nobody
        ∙ ap (λ (b : Bool). skip_for settings is_odd rows (is_first listing (i + 1, get_or listing i nobody)) b (get_or listing i nobody))
        (as_full ∙ full_same settings (length (before settings is_odd rows listing i)) fetched has.count
        ∙ ap (λ (k : ℕ). is_full settings (length (before settings is_odd rows listing k))) (sym place))

pub HasPlanned-all : (settings : Settings) (is_odd : List ℕ → Bool) (rows : List Row) (listing : List Item) (now i : ℕ) (steps : List Step)
    (fetched : ℕ) → HasPlanned settings is_odd rows listing now i steps fetched → length listing ≤ i
    → steps ≡ planned settings is_odd rows listing now
HasPlanned-all settings is_odd rows listing now i steps fetched has past =
    rw (← take_all i (numbered listing) (omega (arith, length-enumerate_from 1 listing))) has.steps_are

-- the same of whatever these flags say to be odd
pub record PlansSoFar (settings : Settings) (rows : List Row) (listing : List Item) (odd : List Bool) (now i : ℕ)
    (steps : List Step) (fetched : ℕ) : Type 0 where
  pub few : fetched ≤ i
  pub has : (is_odd : List ℕ → Bool) → odd ≡ map (λ (item : Item). is_odd item.uid) listing
      → HasPlanned settings is_odd rows listing now i steps fetched

-- the flag of a message says whether it is odd
pub odd_at : (is_odd : List ℕ → Bool) (listing : List Item) (odd : List Bool) (i : ℕ) (unset : Bool)
    → odd ≡ map (λ (item : Item). is_odd item.uid) listing → i < length listing
    → (item : Item) → get_or odd i unset ≡ is_odd (get_or listing i item).uid
odd_at is_odd listing odd i unset are inside item = ap (λ (bs : List Bool). get_or bs i unset) are
    ∙ get_or-map (λ (item : Item). is_odd item.uid) listing i item unset inside

-- if each listed id is recorded as delivered and only what is new is fetched, it doesn't matter what is odd
pub all_known : (settings : Settings) (is_odd : List ℕ → Bool) (rows : List Row) (listing : List Item) (now : ℕ)
    → settings.read_all ≡ false → All (λ (item : Item). is_delivered rows item.uid ≡ true) listing
    → planned settings none_odd rows listing now ≡ planned settings is_odd rows listing now
all_known settings is_odd rows listing now not_all known = same_on _ _ (numbered listing) (λ k d inside.
    let there : k < length listing = omega (arith, inside, length-enumerate_from 1 listing) in
    rw (get_or-enumerate_from 1 listing k d there, not_all, known k d.1 there) refl)

-- nothing is due if the settings let nothing be deleted
pub never_due : (settings : Settings) (now since : ℕ) → may_delete settings ≡ false → is_due settings now since ≡ false
never_due settings now since never = grind arith

-- ---- A plan fetches only messages whose id no earlier message has

first_at : (settings : Settings) (is_odd : List ℕ → Bool) (rows : List Row) (listing front rest : List Item) (i : Item) (k : ℕ)
    → listing ≡ front ++ i ∷ rest → k ≡ length front + 1 → is_none (skip_of settings is_odd rows listing (k, i)) ≡ true
    → (has_item front i.uid ≡ false) × ((settings.read_all || not (is_delivered rows i.uid)) ≡ true)
first_at settings is_odd rows listing front rest i k is at fetched =
    let full = is_full settings (length (before settings is_odd rows listing (k - 1))) in
    let parts = parts_for settings is_odd rows (is_first listing (k, i)) full i fetched in (
      rw (is, at, take_at front (i ∷ rest) (length front + 1 - 1) (omega arith)) at
          (not-true (has_item (take (k - 1) listing) i.uid) parts.1),
      asked settings.read_all (is_delivered rows i.uid) (and_parts (not (not settings.read_all && is_delivered rows i.uid))
          (not (is_odd i.uid) && allows_size settings i.size)
          (sym (own_passes settings (is_odd i.uid) (is_delivered rows) i.uid i.size) ∙ parts.0)).0,
    )
  where
    asked : (all delivered : Bool) → not (not all && delivered) ≡ true → (all || not delivered) ≡ true
    asked true delivered is = refl
    asked false delivered is = is

asked_from : (settings : Settings) (is_odd : List ℕ → Bool) (rows : List Row) (listing front rest : List Item) (now k : ℕ)
    → listing ≡ front ++ rest → k ≡ length front + 1
    → FetchesAsked settings rows (map (step_of settings is_odd rows listing now) (enumerate_from k rest)) rest
asked_from settings is_odd rows listing front [] now k is at = tt
asked_from settings is_odd rows listing front (i ∷ rest) now k is at = (
  λ fetched. (first_at settings is_odd rows listing front rest i k is at fetched).1,
  asked_from settings is_odd rows listing (front ++ i ∷ []) rest now (k + 1) (is ∙ sym (append_assoc front (i ∷ []) rest))
      (omega (arith, at, length-append front (i ∷ []))),
)

pub asked_planned : (settings : Settings) (is_odd : List ℕ → Bool) (rows : List Row) (listing : List Item) (now : ℕ)
    → FetchesAsked settings rows (planned settings is_odd rows listing now) listing
asked_planned settings is_odd rows listing now = asked_from settings is_odd rows listing [] listing now 1 refl (omega arith)

firsts_from : (settings : Settings) (is_odd : List ℕ → Bool) (rows : List Row) (listing front rest : List Item) (now k : ℕ)
    → listing ≡ front ++ rest → k ≡ length front + 1
    → FetchesFirsts front (map (step_of settings is_odd rows listing now) (enumerate_from k rest)) rest
firsts_from settings is_odd rows listing front [] now k is at = tt
firsts_from settings is_odd rows listing front (i ∷ rest) now k is at = (
  λ fetched. (first_at settings is_odd rows listing front rest i k is at fetched).0,
  firsts_from settings is_odd rows listing (front ++ i ∷ []) rest now (k + 1) (is ∙ sym (append_assoc front (i ∷ []) rest))
      (omega (arith, at, length-append front (i ∷ []))),
)

pub firsts_planned : (settings : Settings) (is_odd : List ℕ → Bool) (rows : List Row) (listing : List Item) (now : ℕ)
    → FetchesFirsts [] (planned settings is_odd rows listing now) listing
firsts_planned settings is_odd rows listing now = firsts_from settings is_odd rows listing [] listing now 1 refl (omega arith)

-- ---- loops that fill a set of ids from the front or from the back

-- the ids of the first i messages, and which of these are the first with their id
pub record HasFirsts (listing : List Item) (i : ℕ) (ids : List (List ℕ)) (flags : List Bool) : Type 0 where
  pub same : (uid : List ℕ) → has_id ids uid ≡ has_item (take i listing) uid
  pub flags_are : flags ≡ map (is_first listing) (take i (numbered listing))

pub HasFirsts-more : (listing : List Item) (i : ℕ) (ids ids' : List (List ℕ)) (flags : List Bool) (uid : List ℕ) (new : Bool)
    → HasFirsts listing i ids flags → i < length listing → uid ≡ (get_or listing i nobody).uid → new ≡ not (has_id ids uid)
    → ((id : List ℕ) → has_id ids' id ≡ (bytes_eq id uid || has_id ids id)) → HasFirsts listing (i + 1) ids' (flags ++ new ∷ [])
HasFirsts-more listing i ids ids' flags uid new was inside uid_is new_is grown =
    let number : i + 1 - 1 ≡ i = omega arith in
    let within : i < length (numbered listing) = omega (arith, length-enumerate_from 1 listing) in
    record {
      same = λ id. grown id ∙ rw (
        was.same id,
        list_any_more (λ (item : Item). bytes_eq id item.uid) listing i nobody inside,
        ← uid_is,
      ) (or_comm (bytes_eq id uid) (has_item (take i listing) id));
      flags_are = rw (
        was.flags_are,
        map_more (is_first listing) (numbered listing) i (0, nobody) within,
        message_at listing i nobody inside,
        number,
        new_is,
        was.same uid,
        uid_is,
      ) refl;
    }

pub HasFirsts-all : (listing : List Item) (i : ℕ) (ids : List (List ℕ)) (flags : List Bool)
    → HasFirsts listing i ids flags → length listing ≤ i → flags ≡ map (is_first listing) (numbered listing)
HasFirsts-all listing i ids flags was past =
    was.flags_are ∙ ap (map (is_first listing)) (take_all i (numbered listing) (omega (arith, past, length-enumerate_from 1 listing)))

-- the ids of the messages from place i on, and which of these are the last with their id
pub record HasLasts (listing : List Item) (i : ℕ) (ids : List (List ℕ)) (flags : List Bool) : Type 0 where
  pub same : (uid : List ℕ) → has_id ids uid ≡ has_item (drop i listing) uid
  pub count : length flags ≡ length listing
  pub flags_are : drop i flags ≡ map (is_last listing) (drop i (numbered listing))

pub HasLasts-none : (listing : List Item) (i : ℕ) (ids : List (List ℕ)) (flags : List Bool) → i ≡ length listing
    → ((uid : List ℕ) → has_id ids uid ≡ has_item [] uid) → length flags ≡ length listing → HasLasts listing i ids flags
HasLasts-none listing i ids flags all none count = record {
  same = λ uid. rw (drop_all i listing (omega (arith, all))) (none uid);
  count = count;
  flags_are = rw (
    drop_all i flags (omega (arith, all, count)),
    drop_all i (numbered listing) (omega (arith, all, length-enumerate_from 1 listing)),
  ) refl;
}

pub HasLasts-more : (listing : List Item) (i : ℕ) (ids ids' : List (List ℕ)) (flags : List Bool) (uid : List ℕ) (new : Bool)
    → HasLasts listing (i + 1) ids flags → i < length listing → uid ≡ (get_or listing i nobody).uid → new ≡ not (has_id ids uid)
    → ((id : List ℕ) → has_id ids' id ≡ (bytes_eq id uid || has_id ids id)) → HasLasts listing i ids' (set flags i new)
HasLasts-more listing i ids ids' flags uid new was inside uid_is new_is grown =
    let within : i < length (numbered listing) = omega (arith, length-enumerate_from 1 listing) in
    record {
      same = λ id. grown id ∙ rw (was.same id, drop_more listing i nobody inside, uid_is) refl;
      count = length-set flags i new ∙ was.count;
      flags_are = rw (
        drop-set flags i new (omega (arith, was.count)),
        was.flags_are,
        drop_more (numbered listing) i (0, nobody) within,
        message_at listing i nobody inside,
        new_is,
        was.same uid,
        uid_is,
      ) refl;
    }

pub flags_count : (test : ℕ × Item → Bool) (listing : List Item) (flags : List Bool)
    → flags ≡ map test (numbered listing) → length flags ≡ length listing
flags_count test listing flags are = ap length are ∙ length-map (numbered listing) test ∙ length-enumerate_from 1 listing

pub flag_at : (test : ℕ × Item → Bool) (listing : List Item) (flags : List Bool) (i : ℕ) (flag : Bool)
    → flags ≡ map test (numbered listing) → i < length listing
    → flag ≡ get_or flags i flag → (item : Item) → flag ≡ test (i + 1, get_or listing i item)
flag_at test listing flags i flag are inside is item =
    is ∙ ap (λ (bs : List Bool). get_or bs i flag) are
    ∙ get_or-map test (numbered listing) i (0, item) flag (omega (arith, inside, length-enumerate_from 1 listing))
    ∙ ap test (message_at listing i item inside)

-- ---- ids that ascend are distinct

abbrev pub uid_at : List Item → ℕ → List ℕ
uid_at listing k = (get_or listing k nobody).uid

-- of the first i messages each id is below the next one
abbrev pub Ascends : List Item → ℕ → Type 0
Ascends listing i = (k : ℕ) → k + 1 < i → slice_cmp nat_cmp (uid_at listing k) (uid_at listing (k + 1)) ≡ Less

pub Ascends-more : (listing : List Item) (i : ℕ) (last next : List ℕ) → Ascends listing i
    → last ≡ uid_at listing (i - 1) → next ≡ uid_at listing i → slice_cmp nat_cmp last next ≡ Less → Ascends listing (i + 1)
Ascends-more listing i last next was last_is next_is less = λ k within. elim (cases_lt (k + 1) i) [
  | inl before ↦ was k before
  | inr past ↦ let here : k ≡ i - 1 = omega (arith, past, within) in let there : i - 1 + 1 ≡ i =
      omega (arith, past, within) in rw (here, there, ← last_is, ← next_is) less
]

pub Ascends-all : (listing : List Item) (i : ℕ) → Ascends listing i → length listing ≤ i → HasDistinctIds listing
Ascends-all listing i was past =
    AllPairs-from_IsDistinct (λ a b. Decides-at _ _ (is_eq-slice_cmp a b) (bytes_eq-Decides a b)) (ids_of listing)
    (IsDistinct-from_sorted (slice_cmp nat_cmp) (ids_of listing)
    (sorted_from_all_adjacent nat_list_cmp_total (ids_of listing) [] (λ k within.
    let inside : k + 1 < length listing = omega (arith, within, length-map listing (λ (item : Item). item.uid)) in
    rw (
      get_or-map (λ (item : Item). item.uid) listing k nobody [] (omega arith),
      get_or-map (λ (item : Item). item.uid) listing (k + 1) nobody [] inside,
    ) (was k (omega arith)))))

-- ---- if no id occurs twice, each message is the first with its id, and the last

other_ids : (listing : List Item) (j k : ℕ) (d e : Item) → HasDistinctIds listing → j < k → k < length listing
    → (get_or listing j d).uid ≢ (get_or listing k e).uid
other_ids listing j k d e distinct before inside same =
    distinct j k [] before (omega (arith, inside, length-map listing (λ (item : Item). item.uid)))
    (get_or-map (λ (item : Item). item.uid) listing j d [] (omega (arith, before, inside)) ∙ same
    ∙ sym (get_or-map (λ (item : Item). item.uid) listing k e [] inside))

pub are_first : (listing : List Item) → HasDistinctIds listing → All (λ message. is_first listing message ≡ true) (numbered listing)
are_first listing distinct = λ k d inside.
    let there : k < length listing = omega (arith, inside, length-enumerate_from 1 listing) in
    let number : 1 + k - 1 ≡ k = omega arith in
    rw (get_or-enumerate_from 1 listing k d there, number) (not_from_false _ (list_any_none _ (take k listing) (λ j e within.
    let before : j < k = omega (arith, within, length-take k listing) in
    rw (get_or-take k listing j e before) (test_from_other _ _ (λ same. other_ids listing j k e d.1 distinct before there (sym same))))))

pub are_last : (listing : List Item) → HasDistinctIds listing → All (λ message. is_last listing message ≡ true) (numbered listing)
are_last listing distinct = λ k d inside.
    let there : k < length listing = omega (arith, inside, length-enumerate_from 1 listing) in
    rw (get_or-enumerate_from 1 listing k d there) (not_from_false _ (list_any_none _ (drop (1 + k) listing) (λ j e within.
    rw (get_or-drop (1 + k) listing j e) (test_from_other _ _ (other_ids listing k (1 + k + j) d.1 e distinct (omega arith)
    (omega (arith, within, length-drop (1 + k) listing)))))))

map_all_true : {X : Type 0} (test : X → Bool) (xs : List X) → All (λ x. test x ≡ true) xs → map test xs ≡ replicate (length xs) true
map_all_true test [] all = refl
map_all_true test (x ∷ xs) all = rw (
  All-head (λ y. test y ≡ true) x xs all,
  map_all_true test xs (All-tail (λ y. test y ≡ true) x xs all),
) refl

pub all_flags : (test : Message → Bool) (listing : List Item) (n : ℕ) (flags : List Bool)
    → All (λ message. test message ≡ true) (numbered listing)
    → n ≡ length listing → flags ≡ replicate n true → flags ≡ map test (numbered listing)
all_flags test listing n flags all count are = rw (are, count, ← length-enumerate_from 1 listing)
    (sym (map_all_true test (numbered listing) all))

pub wanted-first : WantedAreFirst
wanted-first settings is_odd rows listing distinct =
    firsts settings (is_candidate settings is_odd rows listing) (gets settings is_odd rows listing) (numbered listing)
    (0, nobody) (λ i inside.
    let there = message_at listing i nobody (omega (arith, inside, length-enumerate_from 1 listing)) in
    ap (gets settings is_odd rows listing) there ∙ gets_at settings is_odd rows listing i
    ∙ ap (λ (m : Message). is_candidate settings is_odd rows listing m
    && not (is_full settings (length (before settings is_odd rows listing i)))) (sym there))
    ∙ ap (at_most settings (λ m. m.1.size)) (agree_on (is_candidate settings is_odd rows listing) own (numbered listing)
    (λ k d inside. same (get_or (numbered listing) k d) (are_first listing distinct k d inside)))
  where
    own : Message → Bool
    own m = is_none (own_skip settings (is_odd m.1.uid) (is_delivered rows) m.1.uid m.1.size)

    same : (m : Message) → is_first listing m ≡ true → is_candidate settings is_odd rows listing m ≡ own m
    same m first = ap (λ (b : Bool). own m && b) first ∙ and-true (own m)

-- ---- what the rules are under limits that are known

pub sizes_within : (settings : Settings) (limit : ℕ) → SetsSizeLimit settings limit → (size : ℕ)
    → allows_size settings size ≡ is_within limit size
sizes_within settings limit limits size = rw limits refl

pub at_most_firsts : {X : Type 0} {settings : Settings} {size count : ℕ} → SetsLimits settings size count → (size_of : X → ℕ) (xs : List X)
    (n : ℕ) → length xs ≤ n → at_most settings size_of xs ≡ take (limit_or_all count n) xs
at_most_firsts {count = count} limits size_of xs n fits = rw limits.number (elim (cases_Bool (count == 0)) [
  | inl none ↦ rw none (take_all _ xs (omega (arith, length-map xs size_of)) ∙ sym (take_all n xs fits))
  | inr some ↦ rw some refl
])

pub at_most_all : {X : Type 0} {settings : Settings} → SetsNoLimits settings → (size_of : X → ℕ) (xs : List X)
    → at_most settings size_of xs ≡ xs
at_most_all limits size_of xs = at_most_firsts limits size_of xs (length xs) (omega arith) ∙ take_all (length xs) xs (omega arith)

some_taken : {X : Type 0} (count : ℕ) (x : X) → (count == 0) ≡ false → take count (x ∷ []) ≡ x ∷ []
some_taken zero x never = absurd (true≢false never)
some_taken (suc zero) x some = refl
some_taken (suc (suc count)) x some = refl

pub at_most_one : {X : Type 0} (settings : Settings) (size_of : X → ℕ) (x : X) → AllowsAlone settings (size_of x)
    → at_most settings size_of (x ∷ []) ≡ x ∷ []
at_most_one settings size_of x fits = elim (cases_Bool (settings.max_count == 0)) [
  | inl none ↦ rw none refl
  | inr some ↦ rw some (some_taken settings.max_count x some)
]

pub allows_alone : (settings : Settings) (size : ℕ) → AllowsAlone settings size → allows_size settings size ≡ true
allows_alone settings size fits = fits

-- if all is deleted at once, without limits and with nothing obstructed, each message is deleted
module _ (settings : Settings) (is_odd : List ℕ → Bool) (rows : List Row) (listing : List Item) (now : ℕ)
    (delete : settings.delete ≡ true) (limits : SetsNoLimits settings) (clear : (id : List ℕ) → is_odd id ≡ false) where
  known_or_not : (all known : Bool) → (may_be_deleted known (option_or (if not all && known then Some Delivered
      else if false then Some Obstructed else if not true then Some TooLarge else None)
      (if false then Some PastLimit else if true then None else Some SameId)) && (true && true)) ≡ true
  known_or_not true true = refl
  known_or_not true false = refl
  known_or_not false true = refl
  known_or_not false false = refl

  deletes : (message : Message) → is_first listing message ≡ true → is_last listing message ≡ true
      → (step_of settings is_odd rows listing now message).delete ≡ true
  deletes message first last = rw (delete, limits.sizes, limits.number, first, last, clear message.1.uid)
      (known_or_not settings.read_all (is_delivered rows message.1.uid))

  pub all_deleted : HasDistinctIds listing → All (λ message. (step_of settings is_odd rows listing now message).delete ≡ true)
      (numbered listing)
  all_deleted distinct = λ k d inside. deletes (get_or (numbered listing) k d) (are_first listing distinct k d inside)
      (are_last listing distinct k d inside)

-- ---- rows are joined in one way

-- an element of a list that has one
some_of : {X : Type 0} (xs : List X) (place : ℕ) → place < length xs → X
some_of [] place inside = absurd (omega (arith, inside))
some_of (x ∷ xs) place inside = x

-- what the row of a message's number says is the same in two lists
same_at : {R X : Type 0} (number : R → ℕ) (value : R → X) (rows : List R) (n k : ℕ) (f g : ℕ → X) → IsNumbering n (map number rows) → k < n
    → All (λ row. f (number row - 1) ≡ value row) rows → All (λ row. g (number row - 1) ≡ value row) rows → f k ≡ g k
same_at number value rows n k f g is inside p q =
    let there = is.complete (k + 1) (omega arith) (omega (arith, inside)) in
    let within : there.0 < length rows = omega (arith, there.1, length-map rows number) in
    let some = some_of rows there.0 within in
    let place_is : number (get_or rows there.0 some) - 1 ≡ k = omega (arith, get_or-map number rows there.0 some (k + 1) within, there.2) in
    subst (λ (j : ℕ). f j ≡ g j) place_is (p there.0 some within ∙ sym (q there.0 some within))

pub joined_once : (n : ℕ) (uids : List UidRow) (sizes : List ScanRow) (a b : List Item) → Joins n uids sizes a
    → Joins n uids sizes b → a ≡ b
joined_once n uids sizes a b p q = ext_get_or nobody a b (p.count ∙ sym q.count) (λ k inside.
    let within : k < n = omega (arith, inside, p.count) in
    let ids = same_at (λ (row : UidRow). row.number) (λ row. row.uid) uids n k (uid_at a) (uid_at b) p.agree.0 within
    (λ j row below. p.ids j row below nobody) (λ j row below. q.ids j row below nobody) in
    let sizes' = same_at (λ (row : ScanRow). row.number) (λ row. row.size) sizes n k (λ j. (get_or a j nobody).size)
    (λ j. (get_or b j nobody).size) p.agree.1 within (λ j row below. p.octets j row below nobody)
    (λ j row below. q.octets j row below nobody) in
    λ i. record { uid = ids i; size = sizes' i })

pub ruleset plan_laws = (firsts_planned, asked_planned, retrieved-planned, wanted-first)
