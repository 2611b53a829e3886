-- Which messages are wanted, and that a session fetches the next of the selected ones if a prefix of them is done.
-- Stores don't come in here.
use Rattle.std.{
  proofs.Common.{◌≡◌, ◌≤◌, ◌<◌, ◌+◌, ◌-◌, ℕ, zero, suc, List, [], ◌∷◌, ◌++◌, Bool, not, ◌&&◌, length, take, drop, map, refl, sym, ◌∙◌, ap},
  proofs.Common.{arith, append_assoc, take-append-drop, Some, slice_get, inl, inr, true, false},
  proofs.lemmas.{Bool.{cases_Bool, false_from_ne_true}, Option.{same_Some, slice_get-get_or}, Simd.map-map},
  proofs.lemmas.List.{take-map, take_all, length-map, Elements.{recursion_from_All, filter-append}},
  proofs.lemmas.List.FromFn.{length-enumerate_from, get_or-enumerate_from},
  specs.{Prelude.{bytes_eq, is_none, zip}, List.{filter, enumerate_from, AllByRecursion}},
}
use Rattle.pop3_wire.specs.{World.{Message, maildrop_of}, declared.command.Command.Command}
use Rattle.mail_terms.specs.{Distinct.AreDistinct, Listing.{Item, has_item}, UniqueId.{has_id, is_legal_id}}
use Rattle.fetch_record.specs.Record.{Row, is_delivered}
use Rattle.fetch_rules.{
  specs.Wanted.{WantedAreFirst, allows_size, at_most, fitting, is_within, own_skip, wanted},
  proofs.PlanLemmas.own_passes,
}
use Rattle.rc_file.specs.declared.settings.Settings.{Settings}
use Rattle.mail_store.specs.{Maildir.{File, Maildir}, FileName.{is_held, mail_file}}
use Rattle.fetch_runs.{
  specs.Accounts.{message_ids, item_of, listing_of, is_selected, selected, without, AccountMail},
  specs.Promises.may_fetch,
  specs.Sessions.{AreTexts, file_for, is_unheld, Effect, IsHonest, ids_wanted, StoresTexts, MboxMail, MboxStores},
  proofs.Lists.{filter-map, filter-swap, any_map, all_append, all_map, all_take, all_filter, Distinct, are_distinct, front_is, filter_all},
  proofs.Lists.{filter-filter, all_both, all_passing, all_front, distinct_is, distinct_take, distinct_filter, ids_both, all_at, all_ids_at},
  proofs.Lists.{bytes_self, bytes_same, members, other_id},
}
use Rattle.session_parts.specs.declared.report.Report.{Report}

pub has_listed : {listing : List Item} (ms : List Message) → listing ≡ listing_of ms → (id : List ℕ)
    → has_item listing id ≡ has_id (message_ids ms) id
has_listed ms e id = rw e (any_map (λ (i : Item). bytes_eq id i.uid) item_of ms ∙ sym (any_map (bytes_eq id) (λ (m : Message). m.uid) ms))

-- ---- numbered messages

abbrev pub num_item : ℕ × Message → ℕ × Item
num_item q = (q.0, item_of q.1)

abbrev pub asked : Settings → (List ℕ → Bool) → List Row → Message → Bool
asked settings is_odd rows = may_fetch settings is_odd (is_delivered rows)

abbrev pub offered : Settings → (List ℕ → Bool) → List Row → List Message → List Message
offered settings is_odd rows ms = filter (asked settings is_odd rows) ms

abbrev pub message_size : Message → ℕ
message_size m = m.size

abbrev pub wants : Settings → (List ℕ → Bool) → List Row → List Message → List Message
wants settings is_odd rows ms = at_most settings message_size (offered settings is_odd rows ms)

abbrev pub offered_by_number : Settings → (List ℕ → Bool) → List Row → List Message → List (ℕ × Message)
offered_by_number settings is_odd rows ms = filter (λ (q : ℕ × Message). asked settings is_odd rows q.1) (enumerate_from 1 ms)

abbrev pub wants_by_number : Settings → (List ℕ → Bool) → List Row → List Message → List (ℕ × Message)
wants_by_number settings is_odd rows ms = at_most settings (λ q. message_size q.1) (offered_by_number settings is_odd rows ms)

abbrev pub snd : ℕ × Message → Message
snd q = q.1

at_most-map : {X Y : Type 0} (f : X → Y) (settings : Settings) (size : Y → ℕ) (xs : List X)
    → at_most settings size (map f xs) ≡ map f (at_most settings (λ x. size (f x)) xs)
at_most-map f settings size xs = take-map f _ xs ∙ ap (λ sizes. map f (take (fitting settings sizes) xs)) (map-map size f xs)

module _ (settings : Settings) (is_odd : List ℕ → Bool) (rows : List Row) where
  pub wanted_are : WantedAreFirst → {listing : List Item} (ms : List Message) → listing ≡ listing_of ms → Distinct (message_ids ms)
      → wanted settings is_odd rows listing ≡ map num_item (wants_by_number settings is_odd rows ms)
  wanted_are firsts ms e d =
      rw e (firsts settings is_odd rows (listing_of ms) (rw map-map (are_distinct (message_ids ms) d))
      ∙ ap (at_most settings (λ q. q.1.size)) (ap (filter may) (enumerated 1 ms) ∙ filter-map may num_item (enumerate_from 1 ms)
      ∙ ap (λ (p : ℕ × Message → Bool). map num_item (filter p (enumerate_from 1 ms))) passes)
      ∙ at_most-map num_item settings (λ q. q.1.size) (offered_by_number settings is_odd rows ms))
    where
      may : ℕ × Item → Bool
      may message = is_none (own_skip settings (is_odd message.1.uid) (is_delivered rows) message.1.uid message.1.size)

      passes : ◌≡◌ {A = ℕ × Message → Bool} (λ q. may (num_item q)) (λ q. asked settings is_odd rows q.1)
      passes = λ i q. own_passes settings (is_odd q.1.uid) (is_delivered rows) q.1.uid q.1.size i

      enumerated : (n : ℕ) (ms : List Message) → enumerate_from n (listing_of ms) ≡ map num_item (enumerate_from n ms)
      enumerated n [] = refl
      enumerated n (m ∷ ms) = ap (λ (l : List (ℕ × Item)). (n, item_of m) ∷ l) (enumerated (n + 1) ms)

  pub offered_snd : (ms : List Message) → map snd (offered_by_number settings is_odd rows ms) ≡ offered settings is_odd rows ms
  offered_snd ms = snds 1 ms
    where
      snds : (n : ℕ) (ms : List Message) → map snd (filter (λ (q : ℕ × Message). asked settings is_odd rows q.1) (enumerate_from n ms))
          ≡ offered settings is_odd rows ms
      snds n [] = refl
      snds n (m ∷ ms) = grind (arith, snds (n + 1) ms)

  pub wants_snd : (ms : List Message) → map snd (wants_by_number settings is_odd rows ms) ≡ wants settings is_odd rows ms
  wants_snd ms = sym (at_most-map snd settings message_size _) ∙ ap (at_most settings message_size) (offered_snd ms)

-- ---- each is at its number

-- a number counts from 1, and its element is at that place
abbrev pub IsNumbered : {X : Type 0} → List X → ℕ × X → Type 0
IsNumbered xs q = (0 < q.0) × (slice_get xs (q.0 - 1) ≡ Some q.1)

pub are_numbered : {X : Type 0} (xs : List X) → AllByRecursion (IsNumbered xs) (enumerate_from 1 xs)
are_numbered xs = recursion_from_All _ (enumerate_from 1 xs) (λ k d l.
    let inside : k < length xs = omega (arith, l, length-enumerate_from) in
    let place : 1 + k - 1 ≡ k = omega arith in
    rw get_or-enumerate_from (omega arith, ap (slice_get xs) place ∙ slice_get-get_or xs k _ inside))

pub wants_placed : (settings : Settings) (is_odd : List ℕ → Bool) (rows : List Row) (ms : List Message)
    → AllByRecursion (IsNumbered ms) (wants_by_number settings is_odd rows ms)
wants_placed _ _ _ ms = all_take _ _ _ (all_filter _ _ _ (are_numbered ms))

-- ---- texts

abbrev pub with_text : ℕ × Message → (ℕ × Item) × List ℕ
with_text q = (num_item q, q.1.text)

pub first_texts : (drop' : List Message) (qs : List (ℕ × Message)) (texts : List (List ℕ)) (n : ℕ)
    → AllByRecursion (IsNumbered drop') qs → AreTexts drop' (map num_item qs) texts → n ≤ length texts
    → (zip (take n (map num_item qs)) texts ≡ map with_text (take n qs))
    × (take n texts ≡ map (λ (m : Message). m.text) (map snd (take n qs)))
first_texts _ qs _ zero h t l = (refl, refl)
first_texts drop' (q ∷ qs) (_ ∷ texts) (suc n) ((_, at), numbered) ((_, there, text_is), are) l =
    let same = same_Some _ _ (sym there ∙ at) in
    let more = first_texts _ qs texts n numbered are (omega (arith, l)) in
    (grind (arith, same, text_is, more.0), grind (arith, same, text_is, more.1))
first_texts _ qs [] n h t l = absurd (omega (arith, l))
first_texts _ qs _ n h t l = absurd t

-- the file of a message
abbrev pub message_file : List ℕ → Message → File
message_file account m = mail_file account m.uid m.text

-- what is stored of numbered messages is a filter of the messages
pub stored_files : (account : List ℕ) (maildir : Maildir) (qs : List (ℕ × Message))
    → map (file_for account) (filter (is_unheld account maildir) (map with_text qs))
    ≡ map (message_file account) (filter (λ (m : Message). not (is_held account maildir m.uid)) (map snd qs))
stored_files _ _ [] = refl
stored_files account maildir (q ∷ qs) = grind (arith, stored_files account maildir qs)

-- ---- prefixes

-- the list begins with these
abbrev pub BeginsWith : List Message → List Message → Type 0
BeginsWith front all = (more : List Message) × (all ≡ front ++ more)

taken_then_dropped : {X : Type 0} (n k : ℕ) (xs : List X) → take n (take k xs) ++ (drop n (take k xs) ++ drop k xs) ≡ xs
taken_then_dropped n k xs = rw (← append_assoc, take-append-drop) (take-append-drop k xs)

-- the ids of the second part are distinct, and none is among those of the first
pub parts_apart : (front rest : List Message) → Distinct (message_ids (front ++ rest))
    → Distinct (message_ids rest) × ((m : Message) → has_id (message_ids rest) m.uid ≡ true → has_id (message_ids front) m.uid ≡ false)
parts_apart [] _ d = (d, λ m _. refl)
parts_apart (f ∷ front) rest d = let more = parts_apart front _ d.1 in (
  more.0,
  λ m there. grind (
    arith,
    there,
    d.0,
    ids_both,
    more.1 m there,
    λ (e : bytes_eq m.uid f.uid ≡ true). bytes_same m.uid f.uid e,
  ),
)

-- ---- the messages that are left

-- the messages that are left, which are those that fit and aren't done, are the next of those that fit
pub bridge : (fit left : Message → Bool) (done ms later rest : List Message) → Distinct (message_ids ms)
    → filter fit ms ++ later ≡ done ++ rest → AllByRecursion (λ (m : Message). left m ≡ (fit m && not (has_id (message_ids done) m.uid))) ms
    → BeginsWith (filter left ms) rest
bridge fit _ _ [] _ rest d e h = (rest, refl)
bridge fit left [] (m ∷ ms) later _ d e h =
    let more = bridge fit left [] ms later (filter fit ms ++ later) d.1 refl h.1 in (more.0, grind (arith, e, h.0, more.1))
bridge fit left (x ∷ xs) (m ∷ ms) later rest d e h = elim (cases_Bool (fit m)) [
  | inl t ↦
      let e' : m ∷ (filter fit ms ++ later) ≡ x ∷ (xs ++ rest) = rw t at e in
      let same : m ≡ x = cc in
      let tail : filter fit ms ++ later ≡ xs ++ rest = cc in
      let more = bridge fit left xs ms later rest d.1 tail
      (all_both _ h.1 (members ms) (λ y l there. grind (arith, l, there, same, other_id m ms y.uid d.0))) in
      (more.0, grind (arith, t, h.0, same, bytes_self x.uid, more.1))
  | inr f ↦
      let more = bridge fit left (x ∷ xs) ms later rest d.1 (rw f at e) h.1 in
      (more.0, grind (arith, f, h.0, more.1))
]

-- ---- the first of the selected messages

abbrev pub IsLegal : Message → Type 0
IsLegal m = is_legal_id m.uid ≡ true

-- messages with legal and distinct ids
pub record AreLegal (all : List Message) : Type 0 where
  pub each : AllByRecursion IsLegal all
  pub distinct : AreDistinct (message_ids all)

-- they have distinct and legal ids
module _ (limit : ℕ) {all : List Message} (done rest : List Message) (mail : AreLegal all)
    (prefix : selected limit all ≡ done ++ rest) where
  pub done_distinct : Distinct (message_ids done)
  done_distinct = rw (← front_is done rest prefix) (distinct_take _ _ (distinct_filter _ _ (distinct_is _ mail.distinct)))

  pub done_legal : (id : List ℕ) → has_id (message_ids done) id ≡ true → is_legal_id id ≡ true
  done_legal _ = all_at (λ x. is_legal_id x ≡ true) done (all_front IsLegal done rest (rw prefix at
      (all_filter IsLegal (is_selected limit) all mail.each)))

-- ---- messages that are withdrawn

-- if none of these is done, the same messages are done
pub prefix_left : (limit : ℕ) (all done rest : List Message) (ids : List (List ℕ)) → selected limit all ≡ done ++ rest
    → ((id : List ℕ) → has_id (message_ids done) id ≡ true → has_id ids id ≡ true → ⊥)
    → selected limit (without ids all) ≡ done ++ without ids rest
prefix_left limit all done rest ids prefix stays = let stay = λ (m : Message). not (has_id ids m.uid)
    in filter-swap (is_selected limit) stay all ∙ rw (
      prefix,
      filter-append stay done rest,
      filter_all stay done (all_map _ (members done) (λ m is. ap not (false_from_ne_true _ (stays m.uid is)))),
    )

-- ---- how many messages a session stored

pub order : {settings : Settings} {account : List ℕ} {before : AccountMail} {effect : Effect} {after : AccountMail}
    {report : Report} {commands : List Command} {part : List ℕ}
    (s : StoresTexts settings account before effect after report commands part) → s.recorded ≤ s.stored
order s = grind (arith, s.kept, s.marks)

pub fetched_within : {settings : Settings} {account : List ℕ} {before : AccountMail} {effect : Effect} {after : AccountMail}
    {report : Report} {commands : List Command} {part : List ℕ}
    (s : StoresTexts settings account before effect after report commands part) → s.stored ≤ length effect.texts
fetched_within s = grind (arith, s.kept, s.number)

pub mbox_fetched : {settings : Settings} {before : MboxMail} {effect : Effect} {after : MboxMail} {report : Report}
    (s : MboxStores settings before effect after report) → s.stored ≤ length effect.texts
mbox_fetched s = grind (arith, s.marks, s.number)

-- ---- a session over a maildrop

-- no two messages of the maildrop share an id, and the server was honest
pub record Fetch (settings : Settings) (is_odd : List ℕ → Bool) (rows : List Row) (drop' : List Message) (effect : Effect) : Type 0 where
  pub firsts : WantedAreFirst
  pub distinct : Distinct (message_ids drop')
  pub honest : IsHonest (wanted settings is_odd rows effect.listing) drop' effect

module _ {settings : Settings} {is_odd : List ℕ → Bool} {rows : List Row} {drop' : List Message} {effect : Effect}
    (is : Fetch settings is_odd rows drop' effect) where
  abbrev os : List Message
  os = offered settings is_odd rows drop'

  abbrev ws : List Message
  ws = wants settings is_odd rows drop'

  abbrev pub qs : List (ℕ × Message)
  qs = wants_by_number settings is_odd rows drop'

  -- what holds of all messages of the maildrop holds of those that are wanted
  pub all_wanted : (P : Message → Type 0) → AllByRecursion P drop' → AllByRecursion P ws
  all_wanted P h = all_take P _ os (all_filter P _ _ h)

  pub distinct_wanted : (n : ℕ) → Distinct (message_ids (take n ws))
  distinct_wanted n = distinct_take n ws (distinct_take _ os (distinct_filter _ _ is.distinct))

  -- if only what is new is read, no message that is wanted is recorded
  pub none_recorded : settings.read_all ≡ false → AllByRecursion (λ (m : Message). is_delivered rows m.uid ≡ false) ws
  none_recorded only_new = all_take _ _ _ (all_map _ (all_passing (asked settings is_odd rows) drop')
      (λ m a. grind (arith, a, only_new)))

  -- ---- numbers and texts

  pub wanted_is : wanted settings is_odd rows effect.listing ≡ map num_item qs
  wanted_is = wanted_are settings is_odd rows is.firsts drop' is.honest.listing is.distinct

  pub taken_is : (n : ℕ) → map snd (take n qs) ≡ take n ws
  taken_is n = sym (take-map snd n qs) ∙ ap (take n) (wants_snd settings is_odd rows drop')

  -- the first texts, and these messages
  pub texts_are : {n : ℕ} → n ≤ length effect.texts
      → (zip (take n (wanted settings is_odd rows effect.listing)) effect.texts ≡ map with_text (take n qs))
      × (take n effect.texts ≡ map (λ (m : Message). m.text) (take n ws))
  texts_are {n} l =
      let both = first_texts drop' qs effect.texts n (wants_placed settings is_odd rows drop') (rw wanted_is at is.honest.texts) l in
      (rw wanted_is both.0, rw (← taken_is n) both.1)

  pub wanted_ids : (n : ℕ) → ids_wanted (take n (wanted settings is_odd rows effect.listing)) ≡ message_ids (take n ws)
  wanted_ids n = rw (wanted_is, ← wants_snd) (simp (take-map, map-map))

  pub length_is : length (wanted settings is_odd rows effect.listing) ≡ length ws
  length_is = ap length wanted_is ∙ length-map qs num_item ∙ sym (length-map qs snd) ∙ ap length (wants_snd settings is_odd rows drop')

  -- ---- what an uncut session wants

  asked_as : (is_known : List ℕ → Bool) (ms : List Message) → AllByRecursion (λ (m : Message). is_delivered rows m.uid ≡ is_known m.uid) ms
      → filter (may_fetch settings is_odd is_known) ms ≡ offered settings is_odd rows ms
  asked_as is_known [] known = refl
  asked_as is_known (m ∷ ms) known = rw (known.0, asked_as is_known ms known.1) refl

  -- all of it is among the first n that were fetched
  pub fetches_wanted : (is_known : List ℕ → Bool) → AllByRecursion (λ (m : Message). is_delivered rows m.uid ≡ is_known m.uid) drop'
      → (n : ℕ) {retrieved : ℕ} → length (wanted settings is_odd rows effect.listing) ≤ n
      → retrieved ≡ length (wanted settings is_odd rows effect.listing) → (Is : Message → Type 0)
      → ((m : Message) → has_id (message_ids (take n ws)) m.uid ≡ true → Is m) → ((m : Message) → is_delivered rows m.uid ≡ true → Is m)
      → let all = at_most settings message_size (filter (may_fetch settings is_odd is_known) drop') in (retrieved ≡ length all)
      × AllByRecursion Is (filter (λ (m : Message). is_known m.uid) drop' ++ all)
  fetches_wanted is_known known n l counted Is got old = rw (asked_as is_known drop' known) (
    counted ∙ length_is,
    all_append Is (filter (λ (m : Message). is_known m.uid) drop') ws
        (all_both _ (all_filter _ _ drop' known) (all_passing (λ (m : Message). is_known m.uid) drop') (λ m same is. old m (same ∙ is)))
        (all_map ws (members ws) (λ m there. got m (rw (take_all n ws (omega (arith, l, length_is))) there))),
  )

-- ---- what a session stores is the next

-- what is selected and isn't done
abbrev pub next_in : (ℕ → Bool) → List Message → List Message → List Message
next_in allows done ms = filter (λ (m : Message). allows m.size && not (has_id (message_ids done) m.uid)) ms

-- of a maildrop that keeps its order it is the first of what is left
pub next_here : (limit : ℕ) {all : List Message} (come : ℕ) (gone : List (List ℕ)) (done rest : List Message)
    → AreLegal all → selected limit all ≡ done ++ rest → AllByRecursion (λ id. has_id (message_ids done) id ≡ true) gone
    → BeginsWith (next_in (is_within limit) done (maildrop_of all come gone)) rest
next_here limit {all} come gone done rest mail prefix all_gone =
    simp filter-filter (bridge fit
    (λ (m : Message). not (has_id gone m.uid) && (fit m && not (has_id (message_ids done) m.uid))) done (take come all)
    (filter fit (drop come all)) rest (distinct_take come all (distinct_is all mail.distinct))
    (sym (filter-append fit (take come all) (drop come all)) ∙ ap (filter fit) (take-append-drop come all) ∙ prefix)
    (all_map _ (all_take _ come all mail.each) (λ m _. grind (arith, λ (g : has_id gone m.uid ≡ true). all_ids_at _ _ all_gone g))))
  where
    fit : Message → Bool
    fit m = is_selected limit m

module _ {settings : Settings} {is_odd : List ℕ → Bool} {rows : List Row} {drop' : List Message} {effect : Effect}
    (is : Fetch settings is_odd rows drop' effect) (clear : (id : List ℕ) → is_odd id ≡ false) (done rest : List Message)
    (known : AllByRecursion (λ (m : Message). is_delivered rows m.uid ≡ true
    → has_id (message_ids done) m.uid ≡ true) drop') (next : BeginsWith (next_in (allows_size settings) done drop') rest)
  where
    abbrev undone : Message → Bool
    undone m = not (has_id (message_ids done) m.uid)

    -- the first n of what is wanted, without those that are done already
    abbrev pub added : ℕ → List Message
    added n = filter undone (take n (wants settings is_odd rows drop'))

    abbrev some' : List Message
    some' = offered settings is_odd rows drop'

    abbrev behind : ℕ → List Message
    behind n = drop n (wants settings is_odd rows drop') ++ drop (fitting settings (map message_size some')) some'

    undone_offered : (ms : List Message)
        → AllByRecursion (λ (m : Message). is_delivered rows m.uid ≡ true → has_id (message_ids done) m.uid ≡ true) ms
        → next_in (allows_size settings) done ms ≡ filter undone (offered settings is_odd rows ms)
    undone_offered [] h = refl
    undone_offered (m ∷ ms) h = grind (
      arith,
      h.0,
      clear m.uid,
      undone_offered ms h.1,
    )

    pub added_begins : (n : ℕ) → BeginsWith (added n) rest
    added_begins n = (
      filter undone (behind n) ++ next.0,
      next.1 ∙ ap (λ l. l ++ next.0) (undone_offered _ known ∙ ap (filter undone) (sym (taken_then_dropped n _ some'))
          ∙ filter-append undone (take n (wants settings is_odd rows drop')) (behind n))
          ∙ append_assoc (added n) (filter undone (behind n)) next.0,
    )

    pub prefix_after : {chosen : List Message} → chosen ≡ done ++ rest → (n : ℕ) → chosen ≡ (done ++ added n) ++ (added_begins n).0
    prefix_after prefix n = prefix ∙ ap (λ l. done ++ l) (added_begins n).1 ∙ sym (append_assoc done (added n) (added_begins n).0)

    -- if all that is done is recorded, and only what is new is read, none is done
    pub all_added : ((id : List ℕ) → is_delivered rows id ≡ has_id (message_ids done) id) → settings.read_all ≡ false
        → (n : ℕ) → added n ≡ take n (wants settings is_odd rows drop')
    all_added exact only_new n = filter_all _ _
        (all_take _ _ _ (all_map _ (none_recorded is only_new) (λ m k. ap not (sym (exact m.uid) ∙ k))))
