-- One session of an account with a Maildir, from a state with the invariant, keeps its promises and leaves a state with the
-- invariant, and so do others.
use Rattle.std.{
  proofs.Common.{◌≡◌, ◌⊎◌, inl, inr, ◌-◌, ◌==◌, ℕ, zero, suc, List, [], ◌∷◌, ◌++◌, Bool, true, false, length, map, refl, sym, subst},
  proofs.Common.{◌∙◌, ap, ap₂, arith, not, cond, ◌&&◌, ◌||◌, ◌≤◌, take, drop},
  proofs.lemmas.Bool.{cases_Bool, both_ways, or_left, or_right, or_cases, and_parts, false_from_ne_true, not-true},
  proofs.lemmas.List.{append-nil, length-map, map-append, take_all, Elements.filter-append, Filters.length-filter_both},
  proofs.Math.Logic.{⊎_elim, ⊎_map},
  specs.{Prelude.{bytes_eq, ◌↔◌}, List.{AllByRecursion, count_by, filter}},
}
use Rattle.mail_terms.specs.{UniqueId.{is_legal_id, has_id}, Listing.{Item, has_item}, MaildirName.base}
use Rattle.pop3_wire.specs.{World.Message, declared.command.Command.{Command, TheVariants.Dele}}
use Rattle.fetch_record.specs.Record.{has_row, is_delivered, Row}
use Rattle.mail_store.specs.{
  Held.flags_of,
  Maildir.{File, file as file_of},
  FileName.{names_id, name_of, stem, is_held, is_odd, stem_of, IsAccountText},
}
use Rattle.fetch_runs.{
  specs.{Accounts.{message_ids, item_of, listing_of, texts_of, AccountMail, copies, files, has_named, without_flags}, Below.Below},
  specs.Sessions.{Effect, Leaves, StoresTexts, IsHonest, wanted_at, merged_rows, ids_wanted, SendsOnly, IsBegun, Served, SessionOverLink},
  specs.Sessions.is_retr,
  specs.Promises.{ComesFor},
  specs.Promises.{Mail, IsOf, IsMaildrop, State, is_safe, IsSafe, state_with, DeletesOneOf, ShowsNext, IsFront, Promises, Invariant, Call},
  specs.{Order.AddsToFronts, Promises.IsBetween},
  proofs.Core.{added, added_begins, prefix_after, Fetch, all_wanted, distinct_wanted, texts_are, taken_is, wanted_ids, none_recorded},
  proofs.Core.{asked, fetches_wanted, length_is, IsLegal, message_size, offered, wants, stored_files, message_file, has_listed},
  proofs.Core.{fetched_within, order},
  proofs.Lists.{ids_both, ids_filtered, any_filter, bytes_eq_alike, is_some, Distinct, distinct_is, each_text, all_map, all_filter},
  proofs.Lists.{all_append, all_at, all_both, all_ids_at, all_passing, members, no_texts, has_texts, texts_filtered, taken_more, mapped_at},
  proofs.Lists.{all_mapped, all_take, delivered_all, delivered_marked, delivered_merged, marks_stay},
  proofs.Safety.served_session,
}
use Rattle.fetch_rules.specs.Wanted.{at_most, fitting}
use Rattle.rc_file.specs.declared.settings.Settings.{Settings}
use Rattle.session_parts.specs.declared.report.Outcome.TheVariants.{Ended}

-- ---- held

pub held_copies : (account : List ℕ) (state : AccountMail) (id : List ℕ)
    → is_held account state.maildir id ≡ is_some (copies (files state) (stem_of account id))
held_copies account state id = any_filter (λ f. names_id account id f.name) (λ f. f.content) (files state)

-- what is safe stays so, whatever becomes of the account
pub still_safe : (mail : Mail) (state : State) (after : AccountMail) (id : List ℕ) → IsSafe mail state id
    → IsSafe mail (state_with mail state [] after) id
still_safe _ _ after _ (l, safe) = (l, grind (arith, safe))

held_safe : (mail : Mail) (state : State) (after : AccountMail) (id : List ℕ)
    → is_held mail.account after.maildir id ≡ true → is_safe mail (state_with mail state [] after) id ≡ true
held_safe _ _ after _ held = or_left _ _ held

-- ---- copies

-- whatever of the files is durable
copies_same : (fs : List File) (front : List ℕ) → copies (without_flags fs) front ≡ copies fs front
copies_same [] _ = refl
copies_same (f ∷ fs) front = grind (arith, copies_same fs front)

-- if these came
pub copies_came : (old new added : List File) (front : List ℕ) → without_flags new ≡ without_flags old ++ added
    → copies new front ≡ copies old front ++ copies added front
copies_came old new added front came = sym (copies_same new front) ∙ ap (λ fs. copies fs front) came
    ∙ rw (filter-append, map-append) (ap (λ c. c ++ copies added front) (copies_same old front))

module _ (laws : Below) (account : List ℕ) (text : IsAccountText account) where
  its_stem : (m : Message) → stem (base (name_of account m.uid (length m.text))) ≡ stem_of account m.uid
  its_stem m = laws.own (name_of account m.uid (length m.text)) ∙ laws.stems account m.uid (length m.text) text

  pub copies_messages : (ms : List Message) (id : List ℕ) → is_legal_id id ≡ true
      → AllByRecursion IsLegal ms → copies (map (message_file account) ms) (stem_of account id) ≡ texts_of ms id
  copies_messages [] _ l h = refl
  copies_messages (m ∷ ms) id l h =
      let same = ap (bytes_eq (stem_of account id)) (its_stem m)
      ∙ bytes_eq_alike (laws.differ account id m.uid l h.0) (ap (stem_of account)) in
      grind (arith, same, copies_messages ms id l h.1)

  -- their names are their own bases
  pub named_messages : (ms : List Message)
      → map (message_file account) ms ≡ map (λ (m : Message). file_of (name_of account m.uid (length m.text)) m.text) ms
  named_messages [] = refl
  named_messages (m ∷ ms) = ap₂ (λ name fs. file_of name m.text ∷ fs) (laws.bases account m.uid (length m.text) text) (named_messages ms)

some_both : {X : Type 0} (xs ys : List X) → is_some (xs ++ ys) ≡ (is_some xs || is_some ys)
some_both [] _ = refl
some_both (x ∷ _) _ = refl

unheld_part : {X : Type 0} (held : Bool) (xs : List X) → (held || is_some (cond (not held) xs [])) ≡ (held || is_some xs)
unheld_part true _ = refl
unheld_part false _ = refl

-- of distinct messages each has one text, which comes for its id
pub one_text : (Comes : List ℕ → List ℕ → Type 0) (ms : List Message) → Distinct (message_ids ms)
    → AllByRecursion (IsOf Comes) ms → (id : List ℕ) → has_id (message_ids ms) id ≡ true
    → (text : List ℕ) × Comes id text × (texts_of ms id ≡ text ∷ [])
one_text Comes ms d each _ = all_at (λ x. (text : List ℕ) × Comes x text × (texts_of ms x ≡ text ∷ [])) ms
    (all_both ms (each_text ms d) each (λ m e h. (m.text, h.text, e)))

filter_within : (p q : Message → Bool) (ms : List Message)
    → AllByRecursion (λ (m : Message). p m ≡ true → q m ≡ true) ms → filter p (filter q ms) ≡ filter p ms
filter_within p q [] _ = refl
filter_within p q (m ∷ ms) all = grind (arith, all.0, filter_within p q ms all.1)

unsafe : (done held taken : Bool) → done ≡ (held || taken) → not done ≡ true → not held ≡ true
unsafe _ held _ e f = grind (arith, e, f)

more_done : (done held got taken held' named : Bool) → done ≡ (held || taken) → held' ≡ (held || got)
    → (done || (got && not done)) ≡ (held' || (((held || taken) && not held') || (taken && not named)))
more_done _ held got _ _ _ e f = grind (arith, e, f)

came_or_held : (held taken got came : Bool) → came ≡ (got && not held) → got ≡ true → ((held || taken) || came) ≡ true
came_or_held held taken got came is there = grind (arith, is, there)

pub no_more_than : {X : Type 0} (p : X → Bool) (xs : List X) → length (filter p xs) ≤ length xs
no_more_than p xs = let both = length-filter_both p (λ x. not (p x)) (λ x. refl) xs in omega (arith, both)

pub take_within : {X : Type 0} (n : ℕ) (xs : List X) → (length (take n xs) ≤ n) × (length (take n xs) ≤ length xs)
take_within zero xs = (omega arith, omega arith)
take_within (suc n) [] = (omega arith, omega arith)
take_within {X} (suc n) (x ∷ xs) =
    let l = take_within n xs in
    let most : length (x ∷ take n xs) ≤ suc n = omega (arith, l.0) in
    let all : length (x ∷ take n xs) ≤ length (x ∷ xs) = omega (arith, l.1) in
    (most, all)

-- of fewer messages no more are taken than a limit says of all
pub at_most_fits : (settings : Settings) (os all : List Message) → length os ≤ length all
    → length (at_most settings message_size os) ≤ fitting settings (map message_size all)
at_most_fits settings os all fewer = elim (cases_Bool (settings.max_count == 0)) [
  | inl none ↦
      let l = take_within (length (map message_size os)) os in
      let most : length (take (length (map message_size os)) os) ≤ length (map message_size all) =
      omega (arith, l.1, fewer, length-map all message_size) in
      rw none most
  | inr some ↦ rw some (take_within settings.max_count os).0
]

-- ---- what was sent

-- what holds for each id for which a DELE was begun holds for the id of the message at the number of each DELE that was sent
pub for_such : (P : List ℕ → Type 0) (drop : List Message) (effect : Effect) → (effect.listing ≡ listing_of drop)
    ⊎ (effect.begun ≡ []) → AllByRecursion P effect.begun
    → (command : Command) → IsBegun effect.listing effect.begun command → DeletesOneOf drop P command
for_such P drop effect (inl listed) all (Dele number) begun =
    let at = mapped_at item_of drop (number - 1) begun.0 (rw (← listed) begun.1) in
    (begun.3, at.0, at.1, subst (λ (i : Item). P i.uid) (sym at.2) (all_ids_at P effect.begun all begun.2))
for_such P drop effect (inr none) _ (Dele _) begun = absurd (let never = rw none at begun.2 in cc)
for_such P drop effect _ _ _ _ = tt

abbrev pub sends_such : (P : List ℕ → Type 0) (drop : List Message) (effect : Effect) {sent : List ℕ}
    → (effect.listing ≡ listing_of drop) ⊎ (effect.begun ≡ []) → AllByRecursion P effect.begun
    → SendsOnly (IsBegun effect.listing effect.begun) sent → SendsOnly (DeletesOneOf drop P) sent
sends_such P drop effect listed all sends = record {
  commands = sends.commands;
  asked = sends.asked;
  each = all_map _ sends.each (for_such P drop effect listed all);
  next = ⊎_map (λ none. none) (λ (command, unsent, is, begun). (command, unsent, is, for_such P drop effect listed all command begun))
      sends.next;
}

-- ---- one session

-- it kept its promises, the invariant, and the order of messages
abbrev KeepsAll : {W S F : Type 0} → Mail → State → Call W S F → List ℕ → AccountMail → Type 0
KeepsAll mail state call sent now = (promises : Promises mail state call sent now)
    × Invariant mail (state_with mail state call.vanished now) × AddsToFronts mail state call promises.came now

pub record IsSession {W S F : Type 0} (mail : Mail) (before : AccountMail) (call : Call W S F) (sent : List ℕ)
    (after : AccountMail) : Type 0 where
  pub got : List ℕ
  pub maildrop : IsMaildrop (ComesFor mail) call.maildrop
  pub served : Served call.maildrop sent got call.vanished
  pub effect : Effect
  pub odd : after.maildir.odd ≡ before.maildir.odd
  pub session : SessionOverLink call.settings mail.account before sent got call.report effect after

module _ {W S F : Type 0} (laws : Below) {mail : Mail} (account_is : IsAccountText mail.account) {state : State}
    (o : Call W S F) (now : AccountMail) (kept : Invariant mail state) (e : Effect)
    (is : IsMaildrop (ComesFor mail) o.maildrop) {commands : List Command} {part : List ℕ}
    (s : StoresTexts o.settings mail.account state.account e now o.report commands part)
    (honest : IsHonest (wanted_at o.settings mail.account state.account e) o.maildrop e)
    (same_odd : now.maildir.odd ≡ state.account.maildir.odd) where
  abbrev rows : List Row
  rows = merged_rows mail.account state.account e

  abbrev held : List ℕ → Bool
  held id = is_held mail.account state.account.maildir id

  abbrev odd : List ℕ → Bool
  odd = is_odd mail.account state.account.maildir

  abbrev ws : List Message
  ws = wants o.settings odd rows o.maildrop

  abbrev os : List Message
  os = offered o.settings odd rows o.maildrop

  abbrev after : State
  after = state_with mail state o.vanished now

  fetch : Fetch o.settings odd rows o.maildrop e
  fetch = record { firsts = laws.firsts; distinct = distinct_is o.maildrop is.distinct; honest = honest }

  -- ---- what came

  abbrev got : List Message
  got = take s.stored ws

  abbrev came : List Message
  came = filter (λ (m : Message). not (held m.uid)) got

  all_got : (P : Message → Type 0) → AllByRecursion P o.maildrop → AllByRecursion P got
  all_got P h = all_take P _ ws (all_wanted fetch P h)

  legal_drop : AllByRecursion IsLegal o.maildrop
  legal_drop = all_map _ is.each (λ m h. h.legal)

  legal_came : AllByRecursion IsLegal came
  legal_came = all_filter _ _ _ (all_got _ legal_drop)

  legal_got : (id : List ℕ) → has_id (message_ids got) id ≡ true → is_legal_id id ≡ true
  legal_got _ = all_at (λ x. is_legal_id x ≡ true) got (all_got IsLegal legal_drop)

  texts_got : (id : List ℕ) → has_id (message_ids got) id ≡ true
      → (text : List ℕ) × ComesFor mail id text × (texts_of got id ≡ text ∷ [])
  texts_got = one_text _ _ (distinct_wanted fetch s.stored) (all_got _ is.each)

  files_are : without_flags (files now) ≡ without_flags (files state.account) ++ map (message_file mail.account) came
  files_are = s.came ∙ rw ((texts_are fetch (fetched_within s)).0, stored_files mail.account state.account.maildir, taken_is fetch s.stored)

  copies_are : (id : List ℕ) → is_legal_id id ≡ true → copies (files now) (stem_of mail.account id)
      ≡ copies (files state.account) (stem_of mail.account id) ++ cond (not (held id)) (texts_of got id) []
  copies_are id l = copies_came (files state.account) (files now) (map (message_file mail.account) came) (stem_of mail.account id) files_are
      ∙ ap (λ c. copies (files state.account) (stem_of mail.account id) ++ c)
      (copies_messages laws mail.account account_is came id l legal_came ∙ texts_filtered (λ x. not (held x)) got id)

  held_now : (id : List ℕ) → is_legal_id id ≡ true → is_held mail.account now.maildir id ≡ (held id || has_id (message_ids got) id)
  held_now id l = held_copies mail.account now id ∙ ap is_some (copies_are id l)
      ∙ some_both (copies (files state.account) (stem_of mail.account id)) _
      ∙ ap (λ b. b || is_some (cond (not (held id)) (texts_of got id) [])) (sym (held_copies mail.account state.account id))
      ∙ unheld_part (held id) (texts_of got id) ∙ ap (λ b. held id || b) (sym (has_texts got id))

  holds_after : (id : List ℕ) → is_legal_id id ≡ true
      → (copies (files now) (stem_of mail.account id) ≡ [])
      ⊎ ((text : List ℕ) × ComesFor mail id text × (copies (files now) (stem_of mail.account id) ≡ text ∷ []))
  holds_after id l = elim (kept.holds id l) [
    | inl none ↦
        let all = copies_are id l ∙ rw (none, held_copies) (rw none refl) in
        ⊎_elim (λ there. let (text, comes, is) = texts_got id there in inr (text, comes, all ∙ is))
        (λ no. inl (all ∙ no_texts _ id no)) (cases_Bool (has_id (message_ids got) id))
    | inr (text, comes, is) ↦ inr (text, comes, copies_are id l ∙ rw (is, held_copies) (rw is refl))
  ]

  got_safe : (id : List ℕ) → has_id (message_ids got) id ≡ true → IsSafe mail after id
  got_safe id g = let l = legal_got id g in (l, held_safe mail state now id (held_now id l ∙ or_right _ _ g))

  -- ---- what is recorded

  known_parts : (id : List ℕ) → is_delivered rows id ≡ (is_delivered state.account.rows id || (has_item e.listing id && held id))
  known_parts = delivered_merged laws mail.account state.account.maildir _ _ e.now

  -- what is listed is recorded after the merge exactly if it is known before
  abbrev known : List ℕ → Bool
  known id = is_delivered state.account.rows id || held id

  known_listed : AllByRecursion (λ (m : Message). is_delivered rows m.uid ≡ known m.uid) o.maildrop
  known_listed = all_map _ (members o.maildrop) (λ m there. known_parts m.uid ∙ rw (has_listed o.maildrop honest.listing m.uid, there) refl)

  known_safe : (id : List ℕ) → is_delivered rows id ≡ true → IsSafe mail state id
  known_safe id d = ⊎_elim (kept.recorded id) (λ now'. let parts = and_parts _ _ now' in (
    all_at (λ x. is_legal_id x ≡ true) _ legal_drop (sym (has_listed _ honest.listing id) ∙ parts.0),
    or_left _ _ parts.1,
  )) (or_cases _ _ (sym (known_parts id) ∙ d))

  recorded_after : (id : List ℕ) → is_delivered now.rows id ≡ true → IsSafe mail after id
  recorded_after id d = elim s.rows [
    | inl old ↦ still_safe mail state now id (kept.recorded id (rw old.0 at d))
    | inr new ↦ ⊎_elim (λ was. still_safe mail state now id (known_safe id was))
        (λ more. got_safe id (taken_more (λ (m : Message). m.uid) ws id (order s) (rw (wanted_ids fetch s.recorded) at more)))
        (delivered_marked laws rows (ids_wanted (take s.recorded (wanted_at o.settings mail.account state.account e))) id (rw new at d))
  ]

  begun_safe : AllByRecursion (IsSafe mail after) e.begun
  begun_safe = all_map _ s.begun recorded_after

  -- what is recorded stays so
  stays_recorded : (id : List ℕ) → is_delivered state.account.rows id ≡ true → is_delivered now.rows id ≡ true
  stays_recorded id recorded = elim s.rows [
    | inl old ↦ rw old.0 recorded
    | inr marks ↦ rw marks (marks_stay laws _
        (ids_wanted (take s.recorded (wanted_at o.settings mail.account state.account e))) id (known_parts id ∙ or_left _ _ recorded))
  ]

  -- no more came than the limit says
  few : length came ≤ fitting o.settings (map message_size o.maildrop)
  few =
      let taken = take_within s.stored ws in
      let fits = at_most_fits o.settings os o.maildrop (no_more_than (asked o.settings odd rows) o.maildrop) in
      let unheld = no_more_than (λ (m : Message). not (held m.uid)) got in
      omega (arith, taken.1, fits, unheld)

  -- what is recorded afterwards was safe, or came
  safe_or_came : (id : List ℕ) → has_id (message_ids got) id ≡ true
      → (is_safe mail state id || has_id (message_ids came) id) ≡ true
  safe_or_came id there = came_or_held _ _ _ _ (ids_filtered (λ x. not (held x)) got id) there

  no_more : (id : List ℕ) → is_delivered now.rows id ≡ true
      → (is_safe mail state id || has_id (message_ids came) id) ≡ true
  no_more id d = elim s.rows [
    | inl old ↦ or_left _ _ (kept.recorded id (rw old.0 at d)).1
    | inr new ↦ ⊎_elim (λ was. or_left _ _ (known_safe id was).1)
        (λ more. safe_or_came id (taken_more (λ (m : Message). m.uid) ws id (order s) (rw (wanted_ids fetch s.recorded) at more)))
        (delivered_marked laws rows (ids_wanted (take s.recorded (wanted_at o.settings mail.account state.account e))) id (rw new at d))
  ]

  -- after an uncut session what was known, and what came, is recorded
  all_recorded : e.ended ≡ true → o.report.outcome ≡ Ended → (id : List ℕ)
      → (is_delivered rows id || has_id (message_ids got) id) ≡ true → is_delivered now.rows id ≡ true
  all_recorded ended uncut id is =
      let all = s.ended ended in
      let enough : length ws ≤ s.stored = grind (arith, all, s.kept, length_is fetch) in
      let marked : length ws ≤ s.recorded = omega (arith, all, saved, length_is fetch) in
      let whole = rw (take_all s.stored ws enough) at is in
      elim s.rows [
        | inl old ↦ absurd (both_ways e.ended old.3 ended)
        | inr marks ↦ rw (marks, wanted_ids fetch s.recorded, take_all s.recorded ws marked)
            (delivered_all laws rows (message_ids ws) id have_rows ∙ whole)
      ]
    where
      saved : s.recorded ≡ o.report.retrieved
      saved = elim s.marks [
        | inl same ↦ same
        | inr (less, unsaved) ↦ ⊎_elim (λ cut. absurd (let never = sym uncut ∙ cut in cc))
            (λ cut. absurd (let never = sym uncut ∙ cut in cc)) unsaved
      ]

      have_rows : AllByRecursion (λ uid. has_row rows uid ≡ true) (message_ids ws)
      have_rows = all_mapped _ (λ (m : Message). m.uid) ws (all_wanted fetch (λ m. has_row rows m.uid ≡ true)
          (all_map _ (members o.maildrop) (λ m there.
          laws.listed state.account.rows e.listing (flags_of mail.account state.account.maildir e.listing) e.now m.uid
          ∙ or_right _ _ (has_listed _ honest.listing _ ∙ there))))

  -- what isn't done isn't held
  new_unheld : (done : List Message) → ((id : List ℕ) → is_legal_id id ≡ true → has_id (message_ids done) id ≡ is_safe mail state id)
      → AllByRecursion (λ (m : Message). not (has_id (message_ids done) m.uid) ≡ true → not (held m.uid) ≡ true) got
  new_unheld _ is_done = all_map _ (all_got _ legal_drop) (λ m l undone. unsafe _ _ _ (is_done m.uid l) undone)

  -- what came is the next, if what could come is
  front_after : (all : List Message) → AllByRecursion IsLegal all → (front : IsFront mail state all)
      → ShowsNext o.settings o.maildrop front.done front.rest → now.maildir.odd ≡ [] → (later : IsFront mail after all)
      × (later.done ≡ front.done ++ filter (λ (m : Message). not (has_id (message_ids front.done) m.uid)) came)
  front_after _ _ front next none =
      let clear : (id : List ℕ) → odd id ≡ false = λ id. rw (sym same_odd ∙ none) refl in
      let known = all_map _ legal_drop (λ m l d. front.is_done m.uid l ∙ (known_safe m.uid d).1) in (
        record {
          done = front.done ++ added fetch clear front.done front.rest known next s.stored;
          rest = (added_begins fetch clear front.done front.rest known next s.stored).0;
          prefix = prefix_after fetch clear front.done front.rest known next front.prefix s.stored;
          is_done = λ id l. ids_both front.done (added fetch clear front.done front.rest known next s.stored) id
              ∙ ap (λ b. has_id (message_ids front.done) id || b) (ids_filtered (λ x. not (has_id (message_ids front.done) x)) got id)
              ∙ more_done _ _ _ _ _ (has_named mail.account now.maildir id) (front.is_done id l) (held_now id l);
        },
        ap (λ l. front.done ++ l) (sym (filter_within (λ (m : Message). not (has_id (message_ids front.done) m.uid))
            (λ (m : Message). not (held m.uid)) got (new_unheld front.done front.is_done))),
      )

  stored_kept : (e.ended ≡ true) ↔ (o.report.outcome ≡ Ended) → {sent : List ℕ} (sends : SendsOnly (IsBegun e.listing e.begun) sent)
      → (e.ended ≡ true → o.report.retrieved ≡ count_by is_retr sends.commands)
      → AllByRecursion (λ id. has_id e.begun id ≡ true) o.vanished → KeepsAll mail state o sent now
  stored_kept ended sends retrieves vanished = (
    record {
      wanted = rw same_odd (λ uncut. let all = s.ended (ended.1 uncut) in
          fetches_wanted fetch known known_listed s.stored (grind (arith, all, s.kept)) all
          (λ m. IsSafe mail after m.uid × (is_delivered now.rows m.uid ≡ true))
          (λ m came. (got_safe m.uid came, all_recorded (ended.1 uncut) uncut m.uid (or_right _ _ came)))
          (λ m old. (still_safe mail state now m.uid (known_safe m.uid old), all_recorded (ended.1 uncut) uncut m.uid (or_left _ _ old))));
      deletes = sends_such (IsSafe mail after) o.maildrop e (inl honest.listing) begun_safe sends;
      retrieved = λ uncut. retrieves (ended.1 uncut);
      vanished = all_map _ vanished (λ _ b. all_ids_at (λ x. is_delivered now.rows x ≡ true) e.begun s.begun b);
      came = came;
      added = files_are ∙ ap (λ fs. without_flags (files state.account) ++ fs) (named_messages laws mail.account account_is came);
      new = all_both _ shown_came (all_filter _ (λ (m : Message). not (held m.uid)) got unrecorded_got)
          (λ m both unrecorded. record { shown = both.0; unheld = both.1; unrecorded = unrecorded });
      few = few;
      recorded = stays_recorded;
      no_more = no_more;
    },
    record {
      holds = holds_after;
      recorded = recorded_after;
      gone = all_append _ _ _ (all_map _ vanished (λ id b. all_ids_at _ _ begun_safe b)) (all_map _ kept.gone (still_safe mail state now));
    },
    front_after,
  )
    where
      shown_came : AllByRecursion (λ (m : Message). (has_id (message_ids o.maildrop) m.uid ≡ true) × (held m.uid ≡ false)) came
      shown_came = all_both _ (all_filter _ _ got (all_got _ (members o.maildrop))) (all_passing _ got)
          (λ m there unheld. (there, not-true (held m.uid) unheld))

      new_unrecorded : o.settings.read_all ≡ false → (m : Message) → is_delivered rows m.uid ≡ false
          → is_delivered state.account.rows m.uid ≡ false
      new_unrecorded new m none = false_from_ne_true _ (λ d. both_ways (is_delivered rows m.uid) none (known_parts m.uid ∙ or_left _ _ d))

      by_setting : (read_all : Bool) → o.settings.read_all ≡ read_all → AllByRecursion (λ (m : Message). o.settings.read_all ≡ false
          → is_delivered state.account.rows m.uid ≡ false) got
      by_setting false new = all_map _ (all_take _ s.stored ws (none_recorded fetch new)) (λ m none _. new_unrecorded new m none)
      by_setting true all = all_map _ (all_got _ (members o.maildrop)) (λ m there new. absurd (both_ways _ new all))

      unrecorded_got : AllByRecursion (λ (m : Message). o.settings.read_all ≡ false → is_delivered state.account.rows m.uid ≡ false) got
      unrecorded_got = by_setting o.settings.read_all refl

-- a session that changed nothing
promised_unchanged : {W S F : Type 0} {mail : Mail} {state : State} (o : Call W S F) (now : AccountMail) (e : Effect)
    → Invariant mail state → Leaves state.account e now → (e.ended ≡ true) ↔ (o.report.outcome ≡ Ended)
    → {sent : List ℕ} → SendsOnly (IsBegun e.listing e.begun) sent
    → AllByRecursion (λ id. has_id e.begun id ≡ true) o.vanished → KeepsAll mail state o sent now
promised_unchanged {mail = mail} {state = state} o now e kept left ended sends vanished = (
  record {
    wanted = λ uncut. absurd (both_ways e.ended left.ended (ended.1 uncut));
    deletes = sends_such _ _ e (inr left.begun) (rw left.begun tt) sends;
    retrieved = λ uncut. absurd (both_ways e.ended left.ended (ended.1 uncut));
    vanished = all_map _ vanished (λ _ b. absurd (both_ways false refl (rw left.begun at b)));
    came = [];
    added = ap without_flags left.same ∙ sym (append-nil (without_flags (files state.account)));
    new = tt;
    few = omega arith;
    recorded = λ id recorded. rw left.rows recorded;
    no_more = λ id d. or_left _ _ (kept.recorded id (rw left.rows at d)).1;
  },
  record {
    holds = λ id l. rw left.same (kept.holds id l);
    recorded = λ id d. still_safe mail state now id (kept.recorded id (rw left.rows at d));
    gone = all_append _ _ _ (all_map _ vanished (λ _ b. absurd (both_ways false refl (rw left.begun at b))))
        (all_map _ kept.gone (still_safe mail state now));
  },
  λ _ _ front _ _. (
    record { done = front.done; rest = front.rest; prefix = front.prefix; is_done = λ id l. front.is_done id l ∙ unchanged id },
    sym (append-nil front.done),
  ),
)
  where
    same : (id : List ℕ) → is_held mail.account now.maildir id ≡ is_held mail.account state.account.maildir id
    same _ = rw left.same refl

    unchanged : (id : List ℕ) → is_safe mail state id ≡ is_safe mail (state_with mail state o.vanished now) id
    unchanged id = grind (arith, same)

-- ---- sessions and others

pub others_leave_kept : (mail : Mail) (state : State) (after : AccountMail) → Invariant mail state
    → IsBetween mail state.account after → Invariant mail (state_with mail state [] after)
others_leave_kept mail state after kept is = record {
  holds = is.holds;
  recorded = λ id d. still_safe mail state after id (kept.recorded id (is.shows_no_more id d));
  gone = all_map _ kept.gone (still_safe mail state after);
}

-- a session keeps its promises, and leads from a state with the invariant to a state with the
-- invariant
pub sessions_keep_promises : Below
    → {W S F : Type 0} (mail : Mail) (state : State) (call : Call W S F) (sent : List ℕ) (after : AccountMail)
    → IsAccountText mail.account → Invariant mail state → IsSession mail state.account call sent after
    → KeepsAll mail state call sent after
sessions_keep_promises laws mail state call _ after account_is kept is =
    let step = served_session laws is.session is.served in
    ⊎_elim (λ left. promised_unchanged call after is.effect kept left is.session.ended is.session.sends step.1)
    (λ (stores, honest). stored_kept laws account_is call after kept is.effect is.maildrop stores honest is.odd
    is.session.ended is.session.sends is.session.retrieves step.1) step.0
