-- Counting: over a maildrop that stays, but for messages that are done, each uncut call that reads only what is new records
-- as many more messages as its limit says, or all.
use Rattle.std.{
  proofs.Common.{◌≡◌, ◌≢◌, ◌⊎◌, inl, inr, ◌≤◌, ◌+◌, ◌*◌, ◌==◌, ℕ, zero, suc, List, [], ◌∷◌, ◌++◌, Bool, true, false, not, ◌&&◌, ◌||◌},
  proofs.Common.{take, refl, sym, subst, ap, arith, ◌∙◌, cond, Option, bytes_eq, length, map},
  proofs.lemmas.{Bool.{and_parts, both_ways, cases_Bool, not-false, not-true, or_left, Decides.nat_tests}, Nat.mul-le},
  proofs.lemmas.List.{length-map, Filters.length-filter_both},
  proofs.Math.Logic.⊎_elim,
  specs.List.{filter, AllByRecursion},
}
use Rattle.pop3_wire.specs.{declared.wire.Wire.Ghosts as WireGhosts, World.Message}
use Rattle.mail_terms.specs.UniqueId.{has_id}
use Rattle.rc_file.specs.declared.settings.Settings.{Settings}
use Rattle.fetch_rules.{specs.{Limits.SetsSizeLimit, Wanted.{at_most, fitting}}, proofs.PlanLemmas.{at_most_firsts, sizes_within}}
use Rattle.fetch_record.specs.{Record.{Intent, Row, is_delivered}, RecordMeaning.FileStandsFor}
use Rattle.mail_store.specs.{
  Devices.stored_in,
  Durable.Disk,
  declared.{maildir.disk.MaildirDisk.Ghosts as DiskGhosts, file.flat_file.FlatFile.Ghosts as FileGhosts},
  FileName.is_held,
  Maildir.{Maildir, WereTaken},
}
use Rattle.session_parts.specs.declared.report.Outcome.{Outcome, TheVariants.{Ended, Cut}}
use Rattle.fetch_runs.{
  specs.{Accounts.{has_named, is_selected, message_ids, selected, texts_of}, Below.Below, Losses.{IsFileLeft, KeepsRecorded, ShowsAll}},
  proofs.Calls.entered_more,
  specs.{Calls.{Called, CallsKeepPromises, Left, Lost, with_left}, Order.{CallsKeepOrder, MboxCallsKeepOrder}},
  specs.Promises.{Call, FetchesWanted, Invariant, Mail, State, is_entered, is_safe, may_fetch},
  specs.Progress.{Aim, CallsGetFar, CallsRecordTheLimit, CountsOn, HasCome, IsFar, IsTowards, MboxCallsGetFar, aimed, count_done},
  specs.Progress.{share, uncut_after},
  proofs.Core.message_size,
  proofs.Lists.{all_back, all_filter, all_front, all_ids_at, all_map, filter-filter, filter-swap, same_kept_rows, bytes_swap, Distinct},
  proofs.Lists.{all_at, distinct_filter, distinct_is, each_text, ids_both, no_texts},
  proofs.{Losses.held_back, Promised.{at_most_fits, no_more_than}},
}

-- ---- counting

-- one more in front
no_fewer : {X : Type 0} (p : X → Bool) (x : X) (xs : List X) → length (filter p xs) ≤ length (filter p (x ∷ xs))
no_fewer {X} p x xs = by (p x)
  where
    by : (passes : Bool) → length (filter p xs) ≤ length (cond passes (x ∷ filter p xs) (filter p xs))
    by true = let more : length (filter p xs) ≤ length (x ∷ filter p xs) = omega arith in more
    by false = let same : length (filter p xs) ≤ length (filter p xs) = omega arith in same

fewer : {X : Type 0} (p q : X → Bool) → ((x : X) → p x ≡ true → q x ≡ true) → (xs : List X)
    → length (filter p xs) ≤ length (filter q xs)
fewer {X} p q more [] = let none : length {A = X} [] ≤ length {A = X} [] = omega arith in none
fewer p q more (x ∷ xs) =
    let l = fewer p q more xs in
    let both : length (x ∷ filter p xs) ≤ length (x ∷ filter q xs) = omega (arith, l) in
    let one : length (filter p xs) ≤ length (filter q (x ∷ xs)) = omega (arith, l, no_fewer q x xs) in
    ⊎_elim (λ (is : p x ≡ true). rw (is, more x is) both) (λ (isnt : p x ≡ false). rw isnt one) (cases_Bool (p x))

-- so they are, if those are known of which it is so, and the first few of the others
kept_known : {X : Type 0} (known after : X → Bool) (xs : List X) → AllByRecursion (λ x. after x ≡ true) (filter known xs)
    → length (filter known xs) ≤ length (filter after xs)
kept_known {X} known after [] _ = let none : length {A = X} [] ≤ length {A = X} [] = omega arith in none
kept_known known after (x ∷ xs) old = ⊎_elim
    (λ (is : known x ≡ true). let o : (after x ≡ true) × AllByRecursion (λ x. after x ≡ true) (filter known xs) = rw is at old in
    let l = kept_known known after xs o.1 in
    let both : length (x ∷ filter known xs) ≤ length (x ∷ filter after xs) = omega (arith, l) in rw (is, o.0) both)
    (λ (isnt : known x ≡ false). let o : AllByRecursion (λ x. after x ≡ true) (filter known xs) = rw isnt at old in
    let l = kept_known known after xs o in
    let one : length (filter known xs) ≤ length (filter after (x ∷ xs)) = omega (arith, l, no_fewer after x xs) in rw isnt one)
    (cases_Bool (known x))

abbrev Counted : {X : Type 0} → (known after : X → Bool) → ℕ → List X → Type 0
Counted known after k xs = (length (filter known xs) + k ≤ length (filter after xs)) ⊎ (length xs ≤ length (filter after xs))

counted : {X : Type 0} (known after : X → Bool) (k : ℕ) (xs : List X)
    → AllByRecursion (λ x. after x ≡ true) (filter known xs)
    → AllByRecursion (λ x. after x ≡ true) (take k (filter (λ x. not (known x)) xs)) → Counted known after k xs
counted {X} known after k [] _ _ = let none : length {A = X} [] ≤ length {A = X} [] = omega arith in inr none
counted {X} known after k (x ∷ xs) old new = ⊎_elim
    (λ (is : known x ≡ true). let o : (after x ≡ true) × AllByRecursion (λ x. after x ≡ true) (filter known xs) = rw is at old in
    let n : AllByRecursion (λ x. after x ≡ true) (take k (filter (λ x. not (known x)) xs)) = rw is at new in
    ⊎_elim
    (λ l. let both : length (x ∷ filter known xs) + k ≤ length (x ∷ filter after xs) = omega (arith, l) in inl (rw (is, o.0) both))
    (λ l. let both : length (x ∷ xs) ≤ length (x ∷ filter after xs) = omega (arith, l) in inr (rw o.0 both))
    (counted known after k xs o.1 n))
    (λ (isnt : known x ≡ false).
    let o : AllByRecursion (λ x. after x ≡ true) (filter known xs) = rw isnt at old in
    let n : AllByRecursion (λ x. after x ≡ true) (take k (x ∷ filter (λ x. not (known x)) xs)) = rw isnt at new in
    unknown (λ k. counted known after k xs) k isnt o n)
    (cases_Bool (known x))
  where
    unknown : ((k : ℕ) → AllByRecursion (λ x. after x ≡ true) (filter known xs)
        → AllByRecursion (λ x. after x ≡ true) (take k (filter (λ x. not (known x)) xs)) → Counted known after k xs)
        → (k : ℕ) → known x ≡ false → AllByRecursion (λ x. after x ≡ true) (filter known xs)
        → AllByRecursion (λ x. after x ≡ true) (take k (x ∷ filter (λ x. not (known x)) xs)) → Counted known after k (x ∷ xs)
    unknown again zero isnt old _ =
        let l = kept_known known after xs old in
        let one : length (filter known xs) + 0 ≤ length (filter after (x ∷ xs)) = omega (arith, l, no_fewer after x xs) in inl (rw isnt one)
    unknown again (suc k) isnt old new = ⊎_elim
        (λ l. let one : length (filter known xs) + suc k ≤ length (x ∷ filter after xs) = omega (arith, l) in inl (rw (isnt, new.0) one))
        (λ l. let both : length (x ∷ xs) ≤ length (x ∷ filter after xs) = omega (arith, l) in inr (rw new.0 both))
        (again k old new.1)

-- ---- one call

-- what it may fetch is what is aimed at and isn't known
offered_are : (limit : ℕ) (settings : Settings) (is_odd known : List ℕ → Bool) → SetsSizeLimit settings limit
    → settings.read_all ≡ false → ((id : List ℕ) → is_odd id ≡ false) → (ms : List Message)
    → filter (may_fetch settings is_odd known) ms ≡ filter (λ (m : Message). is_selected limit m && not (known m.uid)) ms
offered_are limit settings is_odd known sizes only_new clear [] = refl
offered_are limit settings is_odd known sizes only_new clear (m ∷ ms) =
    rw (same, offered_are limit settings is_odd known sizes only_new clear ms) refl
  where
    swapped : (known within : Bool) → (not known && within) ≡ (within && not known)
    swapped true true = refl
    swapped true false = refl
    swapped false true = refl
    swapped false false = refl

    same : may_fetch settings is_odd known m ≡ (is_selected limit m && not (known m.uid))
    same = rw (only_new, clear m.uid, sizes_within settings limit sizes m.size) (swapped (known m.uid) (is_selected limit m))

-- of messages that are known none is among those that aren't
still_unknown : (p q : Message → Bool) → ((m : Message) → p m ≡ true → q m ≡ true) → (ms : List Message)
    → filter p (filter q ms) ≡ filter p ms
still_unknown p q within [] = refl
still_unknown p q within (m ∷ ms) = let stays = within m in grind (arith, stays, still_unknown p q within ms)

-- so it is of all, if it is of those that were left out
back_in : {X : Type 0} (P : X → Type 0) (p q : X → Bool) (xs : List X) → ((x : X) → q x ≡ false → P x)
    → AllByRecursion P (filter p (filter q xs)) → AllByRecursion P (filter p xs)
back_in P p q [] out all = tt
back_in P p q (x ∷ xs) out all = ⊎_elim (λ (within : q x ≡ true). ⊎_elim
    (λ (is : p x ≡ true). let a : P x × AllByRecursion P (filter p (filter q xs)) = rw (within, is) at all in
    rw is (a.0, back_in P p q xs out a.1))
    (λ (isnt : p x ≡ false). let a : AllByRecursion P (filter p (filter q xs)) = rw (within, isnt) at all in
    rw isnt (back_in P p q xs out a))
    (cases_Bool (p x)))
    (λ (outside : q x ≡ false). let a : AllByRecursion P (filter p (filter q xs)) = rw outside at all in ⊎_elim
    (λ (is : p x ≡ true). rw is (out x outside, back_in P p q xs out a))
    (λ (isnt : p x ≡ false). rw isnt (back_in P p q xs out a))
    (cases_Bool (p x)))
    (cases_Bool (q x))

-- an uncut call over the maildrop, which met no odd name, gets as much farther
module _ {W S F : Type 0} (aim : Aim) (call : Call W S F) (is_odd is_done known after : List ℕ → Bool)
    {Is : Message → Type 0} (is : IsTowards aim is_done call) (clear : (id : List ℕ) → is_odd id ≡ false)
    (wanted : FetchesWanted call is_odd known Is) (recorded : (m : Message) → Is m → after m.uid ≡ true)
    (knows : (id : List ℕ) → is_done id ≡ true → known id ≡ true)
    (stays : (id : List ℕ) → is_done id ≡ true → after id ≡ true) (uncut : call.report.outcome ≡ Ended) where
  abbrev IsDone : Message → Type 0
  IsDone m = after m.uid ≡ true

  abbrev is_known : Message → Bool
  is_known m = known m.uid

  abbrev unknown : List Message
  unknown = filter (λ (m : Message). not (known m.uid)) (aimed aim)

  abbrev is_there : Message → Bool
  is_there m = not (has_id is.gone m.uid)

  was_done : (m : Message) → is_there m ≡ false → is_done m.uid ≡ true
  was_done m outside = all_ids_at (λ id. is_done id ≡ true) is.gone is.done (not-false (has_id is.gone m.uid) outside)

  abbrev is_offered : Message → Bool
  is_offered m = is_selected aim.size_limit m && not (known m.uid)

  offered_there : (m : Message) → is_offered m ≡ true → is_there m ≡ true
  offered_there m is_new = ⊎_elim (λ there. there) (λ outside. absurd (both_ways (known m.uid)
      (not-true (known m.uid) (and_parts _ _ is_new).1) (knows m.uid (was_done m outside)))) (cases_Bool (is_there m))

  offered : filter (may_fetch call.settings is_odd known) call.maildrop ≡ unknown
  offered = offered_are aim.size_limit call.settings is_odd known is.limits.sizes is.only_new clear call.maildrop
      ∙ rw is.shown (still_unknown is_offered is_there offered_there aim.maildrop)
      ∙ sym (filter-filter (λ (m : Message). not (known m.uid)) (is_selected aim.size_limit) aim.maildrop)

  both : AllByRecursion IsDone (filter is_known call.maildrop ++ at_most call.settings message_size unknown)
  both = all_map _ (rw offered at (wanted uncut).1) recorded

  old : AllByRecursion IsDone (filter is_known (aimed aim))
  old = rw (filter-swap is_known (is_selected aim.size_limit) aim.maildrop)
      (all_filter IsDone (is_selected aim.size_limit) (filter is_known aim.maildrop)
      (back_in IsDone is_known is_there aim.maildrop (λ m outside. stays m.uid (was_done m outside))
      (rw is.shown at (all_front IsDone (filter is_known call.maildrop) _ both))))

  new : AllByRecursion IsDone (take (share aim) unknown)
  new =
      let all = length-filter_both (λ (m : Message). known m.uid) (λ m. not (known m.uid)) (λ m. refl) (aimed aim) in
      subst (AllByRecursion IsDone) (at_most_firsts is.limits message_size unknown (length (aimed aim)) (omega (arith, all)))
      (all_back IsDone (filter is_known call.maildrop) _ both)

  farther : (count_done aim known + share aim ≤ count_done aim after) ⊎ (length (aimed aim) ≤ count_done aim after)
  farther = counted is_known (λ (m : Message). after m.uid) (share aim) (aimed aim) old new

module _ (aim : Aim) where
  once_more : (calls : ℕ) → (calls + 1) * share aim ≡ calls * share aim + share aim
  once_more calls = grind arith

  stays_far : (calls : ℕ) {is_done after : List ℕ → Bool} → IsFar aim calls is_done
      → ((id : List ℕ) → is_done id ≡ true → after id ≡ true) → IsFar aim calls after
  stays_far calls {is_done} {after} far stays =
      let l = fewer (λ (m : Message). is_done m.uid) (λ (m : Message). after m.uid) (λ m. stays m.uid) (aimed aim) in
      ⊎_elim (λ enough. inl (omega (arith, enough, l))) (λ all. inr (omega (arith, all, l))) far

  gets_far : {W S F : Type 0} (call : Call W S F) (calls : ℕ) (is_odd : List ℕ → Bool) {is_done known after : List ℕ → Bool}
      {Is : Message → Type 0} → IsTowards aim is_done call → ((id : List ℕ) → is_odd id ≡ false) → FetchesWanted call is_odd known Is
      → ((m : Message) → Is m → after m.uid ≡ true) → ((id : List ℕ) → is_done id ≡ true → known id ≡ true)
      → ((id : List ℕ) → is_done id ≡ true → after id ≡ true) → IsFar aim calls is_done
      → IsFar aim (uncut_after calls call.report.outcome) after
  gets_far call calls is_odd {is_done} {known} {after} is clear wanted recorded knows stays far = by call.report.outcome refl
    where
      by : (outcome : Outcome) → call.report.outcome ≡ outcome → IsFar aim (uncut_after calls outcome) after
      by (Cut fault) _ = stays_far calls far stays
      by Ended uncut =
          let l = fewer (λ (m : Message). is_done m.uid) (λ (m : Message). known m.uid) (λ m. knows m.uid) (aimed aim) in
          let one = once_more calls in
          ⊎_elim (λ more. ⊎_elim (λ enough. inl (omega (arith, one, enough, l, more))) (λ all. inr (omega (arith, all, l, more))) far)
          (λ all. inr all) (farther aim call is_odd is_done known after is clear wanted recorded knows stays uncut)

-- ---- no call gets farther than its limit

-- of which one or the other is so
either_fewer : {X : Type 0} (p q r : X → Bool) → ((x : X) → p x ≡ true → (q x || r x) ≡ true) → (xs : List X)
    → length (filter p xs) ≤ length (filter q xs) + length (filter r xs)
either_fewer {X} p q r within [] = let none : length {A = X} [] ≤ length {A = X} [] + length {A = X} [] = omega arith in none
either_fewer {X} p q r within (x ∷ xs) = by (either_fewer p q r within xs) (p x) (q x) (r x) (within x)
  where
    by : length (filter p xs) ≤ length (filter q xs) + length (filter r xs) → (a b c : Bool) → (a ≡ true → (b || c) ≡ true)
        → length (cond a (x ∷ filter p xs) (filter p xs))
        ≤ length (cond b (x ∷ filter q xs) (filter q xs)) + length (cond c (x ∷ filter r xs) (filter r xs))
    by l true true true _ = let s : length (x ∷ filter p xs) ≤ length (x ∷ filter q xs) + length (x ∷ filter r xs) = omega (arith, l) in s
    by l true true false _ = let s : length (x ∷ filter p xs) ≤ length (x ∷ filter q xs) + length (filter r xs) = omega (arith, l) in s
    by l true false true _ = let s : length (x ∷ filter p xs) ≤ length (filter q xs) + length (x ∷ filter r xs) = omega (arith, l) in s
    by l true false false w = absurd (both_ways false refl (w refl))
    by l false true true _ = let s : length (filter p xs) ≤ length (x ∷ filter q xs) + length (x ∷ filter r xs) = omega (arith, l) in s
    by l false true false _ = let s : length (filter p xs) ≤ length (x ∷ filter q xs) + length (filter r xs) = omega (arith, l) in s
    by l false false true _ = let s : length (filter p xs) ≤ length (filter q xs) + length (x ∷ filter r xs) = omega (arith, l) in s
    by l false false false _ = l

-- of distinct messages at most one has an id
one_of_id : (xs : List Message) (id : List ℕ) → Distinct (message_ids xs)
    → length (filter (λ (m : Message). bytes_eq id m.uid) xs) ≤ 1
one_of_id xs id d = ⊎_elim
    (λ there. let (text, one) = all_at (λ x. (text : List ℕ) × (texts_of xs x ≡ text ∷ [])) xs
    (all_map _ (each_text xs d) (λ m e. (m.text, e))) there in
    let l : length (texts_of xs id) ≡ 1 = rw one refl in
    omega (arith, l, length-map (filter (λ (m : Message). bytes_eq id m.uid) xs) (λ (m : Message). m.text)))
    (λ none. let l : length (texts_of xs id) ≡ 0 = rw (no_texts xs id none) refl in
    omega (arith, l, length-map (filter (λ (m : Message). bytes_eq id m.uid) xs) (λ (m : Message). m.text)))
    (cases_Bool (has_id (message_ids xs) id))

none_pass : (xs : List Message) → length (filter (λ (m : Message). has_id (message_ids []) m.uid) xs) ≤ length {A = Message} []
none_pass [] = let none : length {A = Message} [] ≤ length {A = Message} [] = omega arith in none
none_pass (x ∷ xs) = none_pass xs

-- at most as many of them are among these as there are of these
pub among : (came xs : List Message) → Distinct (message_ids xs)
    → length (filter (λ (m : Message). has_id (message_ids came) m.uid) xs) ≤ length came
among [] xs d = none_pass xs
among (c ∷ came) xs d =
    let l = among came xs d in
    let one = one_of_id xs c.uid d in
    let both = either_fewer (λ (m : Message). has_id (message_ids (c ∷ came)) m.uid) (λ (m : Message). bytes_eq c.uid m.uid)
    (λ (m : Message). has_id (message_ids came) m.uid) (λ m is. rw (bytes_swap c.uid m.uid) is) xs in
    let all : length (filter (λ (m : Message). has_id (message_ids (c ∷ came)) m.uid) xs) ≤ length (c ∷ came) =
    omega (arith, l, one, both) in
    all

-- a call records no more of the maildrop than was safe, and as many as it may fetch
module _ {W S F : Type 0} (aim : Aim) (call : Call W S F) (is_done safe after : List ℕ → Bool) (came : List Message)
    (is : IsTowards aim is_done call) (distinct : Distinct (message_ids call.maildrop))
    (few : length came ≤ fitting call.settings (map message_size call.maildrop))
    (was : (id : List ℕ) → is_done id ≡ true → safe id ≡ true)
    (no_more : (id : List ℕ) → after id ≡ true → (safe id || has_id (message_ids came) id) ≡ true) where
  abbrev is_new : Message → Bool
  is_new m = has_id (message_ids came) m.uid && not (safe m.uid)

  abbrev is_left : Message → Bool
  is_left m = not (has_id is.gone m.uid)

  new_left : (m : Message) → is_new m ≡ true → is_left m ≡ true
  new_left m new = ⊎_elim (λ there. there) (λ outside. absurd (both_ways (safe m.uid) (not-true (safe m.uid) (and_parts _ _ new).1)
      (was m.uid (all_ids_at (λ id. is_done id ≡ true) is.gone is.done (not-false (has_id is.gone m.uid) outside)))))
      (cases_Bool (is_left m))

  new_are : filter is_new (aimed aim) ≡ filter is_new (selected aim.size_limit call.maildrop)
  new_are = sym (still_unknown is_new is_left new_left (aimed aim))
      ∙ ap (filter is_new) (filter-swap is_left (is_selected aim.size_limit) aim.maildrop)
      ∙ ap (λ ms. filter is_new (selected aim.size_limit ms)) (sym is.shown)

  most : count_done aim after ≤ count_done aim safe + length came
  most =
      let parts = either_fewer (λ (m : Message). after m.uid) (λ (m : Message). safe m.uid) is_new
      (λ m is. safe_or_new (safe m.uid) _ (no_more m.uid is)) (aimed aim) in
      let drop' = selected aim.size_limit call.maildrop in
      let new = fewer is_new (λ (m : Message). has_id (message_ids came) m.uid) (λ m is. (and_parts _ _ is).0) drop' in
      let few_are = among came drop' (distinct_filter (is_selected aim.size_limit) call.maildrop distinct) in
      let same = ap length new_are in
      omega (arith, parts, new, few_are, same)
    where
      safe_or_new : (safe came : Bool) → (safe || came) ≡ true → (safe || (came && not safe)) ≡ true
      safe_or_new safe came is = grind (arith, is)

  no_farther : count_done aim after ≤ count_done aim safe + share aim
  no_farther = elim (cases_Bool (aim.count_limit == 0)) [
    | inl none ↦ let all = no_more_than (λ (m : Message). after m.uid) (aimed aim) in
        rw none (omega (arith, all))
    | inr some ↦ let m = rw (is.limits.number, some) at few in
        let l = most in
        rw some (omega (arith, m, l))
  ]

-- what is safe once readers took files away was so before
safe_before : (mail : Mail) (state : State) (left : Maildir) → Invariant mail state → WereTaken state.account.maildir left
    → (id : List ℕ) → is_safe mail (with_left mail state left) id ≡ true → is_safe mail state id ≡ true
safe_before mail state left kept taken id safe = bits (is_held mail.account state.account.maildir id) (state.taken id)
    (is_held mail.account left id) (has_named mail.account left id) (held_back mail state left kept taken id) safe
  where
    bits : (held taken held' named : Bool) → (held' ≡ true → held ≡ true)
        → (held' || (((held || taken) && not held') || (taken && not named))) ≡ true → (held || taken) ≡ true
    bits held taken held' named back is = grind (arith, back, is)

-- ---- any list of calls

-- what is so of no call, and of fewer
far_of_fewer : (aim : Aim) (fewer calls : ℕ) (is_done : List ℕ → Bool) → fewer ≤ calls → IsFar aim calls is_done
    → IsFar aim fewer is_done
far_of_fewer aim fewer calls is_done less far = ⊎_elim (λ enough. inl (omega (arith, enough, times (share aim)))) (λ all. inr all) far
  where
    times : (c : ℕ) → fewer * c ≤ calls * c
    times c = mul-le fewer c calls c less (omega arith)

none_far : (aim : Aim) (is_done : List ℕ → Bool) → IsFar aim 0 is_done
none_far aim is_done = inl (omega arith)

more_calls : (calls : ℕ) (outcome : Outcome) → calls ≤ uncut_after calls outcome
more_calls calls Ended = omega arith
more_calls calls (Cut fault) = omega arith

-- what its file shows
shown_left : Below → (aim : Aim) (calls kept : ℕ) (content left : Option (List ℕ)) (rows shown : List Row)
    (intent intent' : Option Intent) → FileStandsFor content rows intent → FileStandsFor left shown intent' → left ≡ content
    → kept ≤ calls → IsFar aim calls (is_delivered rows) → IsFar aim kept (is_delivered shown)
shown_left laws aim calls kept content left rows shown intent intent' stands stands' is less far =
    let same = same_kept_rows laws.one content shown rows (intent', rw is at stands') (intent, stands) in
    far_of_fewer aim kept calls (is_delivered shown) less (rw same far)

-- what has come after a call
come_after : (aim : Aim) (disk disk' : Disk) (calls kept : ℕ) (outcome : Outcome) (rows rows' : List Row) {trusts : Type 0}
    → HasCome disk aim calls kept rows → (trusts → KeepsRecorded disk disk' rows rows' outcome)
    → IsFar aim (uncut_after calls outcome) (is_delivered rows') → (next : ℕ)
    → CountsOn trusts disk calls kept outcome rows rows' next → HasCome disk' aim (uncut_after calls outcome) next rows'
come_after aim disk disk' calls kept outcome rows rows' come keeps far next counts = record {
  far = far;
  fewer = ⊎_elim (λ none. omega (arith, none)) (λ (_, on). ⊎_elim
      (λ same. omega (arith, same, come.fewer, more_calls calls outcome))
      (λ (ended, _, all). rw ended (omega (arith, all))) on) counts;
  left = λ could shown intent may stands. ⊎_elim (λ none. rw none (none_far aim (is_delivered shown))) (λ (trust, on). ⊎_elim
      (λ same. rw same (⊎_elim (λ before. come.left could shown intent before stands)
      (λ shows. stays_far aim kept (far_of_fewer aim kept calls (is_delivered rows) come.fewer come.far) shows)
      ((keeps trust).left could shown intent may stands)))
      (λ (ended, counts, all). ⊎_elim (λ same. ⊎_elim (λ changed. absurd (changed same)) (λ durable.
      let shows : ShowsAll rows shown = ⊎_elim (λ before. durable could shown intent before stands) (λ shows. shows)
      ((keeps trust).left could shown intent may stands) in
      rw all (stays_far aim (calls + 1) (rw ended at far) (rw same shows))) counts)
      (λ shows. rw all (stays_far aim (calls + 1) (rw ended at far) (shows could shown intent may stands)))
      ((keeps trust).uncut ended)) on) counts;
}

-- what has come after a loss of power
come_back : Below → {F : Type 0} (file : FileGhosts F) (aim : Aim) (calls kept : ℕ) (from left : F) (rows now : List Row)
    (intent : Option Intent) → HasCome (file.disk from) aim calls kept rows → IsFileLeft file from left
    → FileStandsFor (stored_in file left).content now intent → HasCome (file.disk left) aim kept kept now
come_back laws file aim calls kept from left rows now intent come lost stands =
    let far = come.left (stored_in file left).content now intent lost.is stands in
    record {
      far = far;
      fewer = omega arith;
      left = λ could shown intent' may stands'. shown_left laws aim kept kept (stored_in file left).content could now shown intent intent'
          stands stands' (lost.durable could may) (omega arith) far;
    }

back_or_came : (before now came : Bool) → (now ≡ true → before ≡ true) → (now || came) ≡ true → (before || came) ≡ true
back_or_came before now came back is = grind (arith, back, is)

pub get_far : Below → {W D F : Type 0} (link : WireGhosts W) (disk : DiskGhosts D) (file : FileGhosts F)
    → CallsKeepOrder link disk file → CallsKeepPromises link disk file → CallsGetFar link disk file
get_far laws link disk file order law = go
  where
    go : CallsGetFar link disk file
    go mail aim calls kept state devices [] shows holds come = (holds, come)
    go mail aim calls kept state devices (Called call ∷ later) shows holds come = (
      holds,
      come,
      λ account_is is towards clear.
          let (promised, keeps, after_holds) = order.call mail state devices call shows holds account_is is in
          let clear' : promised.after.maildir.odd ≡ [] = ap (λ (m : Maildir). m.odd) promised.shows.maildir ∙ clear in
          let far = gets_far aim call calls _ towards (λ id. rw clear' refl) promised.promises.wanted (λ m both. both.1)
          (λ id recorded. or_left _ _ recorded) promised.promises.recorded come.far in (
            promised,
            no_farther aim call (is_delivered state.account.rows) (is_safe mail state) (is_delivered promised.after.rows)
                promised.promises.came towards (distinct_is call.maildrop is.maildrop.distinct) promised.promises.few
                (λ id recorded. (holds.recorded id recorded).1)
                (λ id recorded. back_or_came _ _ _ (safe_before mail state promised.left holds promised.taken id)
                (promised.promises.no_more id recorded)),
            λ next counts. go mail aim (uncut_after calls call.report.outcome) next _ call.after later promised.shows after_holds
                (come_after aim (file.disk devices.file) (file.disk call.after.file) calls kept call.report.outcome
                state.account.rows promised.after.rows come keeps.recorded far next counts),
          ),
    )
    go mail aim calls kept state devices (Left left account ∷ later) shows holds come =
        let (_, _, others) = law mail state devices (Left left account ∷ []) shows holds in (
          holds,
          come,
          λ then between stays next counts.
              let (_, (after_shows, after_holds)) = others then between in
              let far = stays_far aim calls come.far stays in
              go mail aim calls next _ left later after_shows after_holds (record {
                far = far;
                fewer = ⊎_elim (λ none. omega (arith, none)) (λ (_, same). omega (arith, same, come.fewer)) counts;
                left = λ could rows intent may stands. ⊎_elim (λ none. rw none (none_far aim (is_delivered rows)))
                    (λ (keeps, same). ⊎_elim (λ is. shown_left laws aim calls next (stored_in file left.file).content could
                    account.rows rows then.intent intent then.record_is stands is (omega (arith, same, come.fewer)) far)
                    (λ before. rw same (come.left could rows intent before stands)) (keeps.record_is could may)) counts;
              }),
        )
    go mail aim calls kept state devices (Lost left account ∷ later) shows holds come =
        let (_, _, loss) = law mail state devices (Lost left account ∷ []) shows holds in (
          holds,
          come,
          λ safe lost.
              let (_, (after_shows, after_holds)) = loss safe lost in (
                come_back laws file aim calls kept devices.file left.file state.account.rows account.rows lost.shows.intent come
                    lost.record_is lost.shows.record_is,
                λ since next again. go mail aim since next _ left later after_shows after_holds again,
              ),
        )

entered_or_text : (had done found text some all : Bool) → some ≡ (done || found) → all ≡ (done || (found || text))
    → (had || all) ≡ true → ((had || some) || text) ≡ true
entered_or_text had done found text some all is are both = grind (arith, is, are, both)

pub get_mbox_far : Below → {W D F : Type 0} (link : WireGhosts W) (disk : DiskGhosts D) (file : FileGhosts F)
    → MboxCallsKeepOrder link disk file → MboxCallsGetFar link disk file
get_mbox_far laws link disk file law = go
  where
    go : MboxCallsGetFar link disk file
    go aim calls kept base done account devices [] shows holds come = (holds, come)
    go aim calls kept base done account devices (Called call ∷ later) shows holds come = (
      holds,
      come,
      λ is towards.
          let (sent, after, _, shows', appends, keeps) = law base done account devices call shows holds towards.only_new is in
          let stays : (id : List ℕ) → is_delivered account.rows id ≡ true → is_delivered after.rows id ≡ true =
          λ id recorded. appends.kept.recorded id ∙ entered_more base done appends.more id (sym (holds.recorded id) ∙ recorded) in
          let far = gets_far aim call calls (λ id. false) towards (λ id. refl) appends.wanted
          (λ m entered. appends.kept.recorded m.uid ∙ entered)
          (λ id recorded. entered_more base done appends.found id (sym (holds.recorded id) ∙ recorded)) stays come.far in (
            sent,
            after,
            appends,
            λ ended.
                let (texts, more_are, count) = appends.fetched ended in
                let fits = at_most_fits call.settings
                (filter (may_fetch call.settings (λ id. false) (is_entered base (done ++ appends.found))) call.maildrop) call.maildrop
                (no_more_than (may_fetch call.settings (λ id. false) (is_entered base (done ++ appends.found))) call.maildrop) in
                let wanted = (appends.wanted ended).0 in
                let few : length texts ≤ fitting call.settings (map message_size call.maildrop) = omega (arith, count, wanted, fits) in
                no_farther aim call (is_delivered account.rows) (is_entered base (done ++ appends.found)) (is_delivered after.rows)
                texts towards (distinct_is call.maildrop is.maildrop.distinct) few
                (λ id recorded. entered_more base done appends.found id (sym (holds.recorded id) ∙ recorded))
                (λ id recorded. entered_or_text (base.had id) (has_id (message_ids done) id) (has_id (message_ids appends.found) id)
                (has_id (message_ids texts) id) _ _ (ids_both done appends.found id)
                (ids_both done appends.more id ∙ ap (λ ms. has_id (message_ids done) id || has_id (message_ids ms) id) more_are
                ∙ ap (λ b. has_id (message_ids done) id || b) (ids_both appends.found texts id))
                (sym (appends.kept.recorded id) ∙ recorded)),
            λ next counts. go aim (uncut_after calls call.report.outcome) next base (done ++ appends.more) after call.after later shows'
                appends.kept (come_after aim (file.disk devices.file) (file.disk call.after.file) calls kept call.report.outcome
                account.rows after.rows come keeps.recorded far next counts),
          ),
    )
    go aim calls kept base done account devices (Left left now ∷ later) shows holds come =
        (holds, come, λ then from first there since next again. go aim since next from first now left later then there again)
    go aim calls kept base done account devices (Lost left now ∷ later) shows holds come = (
      holds,
      come,
      λ lost. (
        come_back laws file aim calls kept devices.file left.file account.rows now.rows now.intent come lost.record_is
            lost.shows.record_is,
        λ from first there since next again. go aim since next from first now left later lost.shows there again,
      ),
    )

-- ---- exactly as many as the limit says

none_pass_of : {X : Type 0} (p : X → Bool) (xs : List X) → AllByRecursion (λ x. p x ≡ false) xs → length (filter p xs) ≡ 0
none_pass_of p [] all = refl
none_pass_of p (x ∷ xs) (isnt, all) = rw isnt (none_pass_of p xs all)

pub record_the_limit : {W D F : Type 0} (link : WireGhosts W) (disk : DiskGhosts D) (file : FileGhosts F)
    → CallsGetFar link disk file → CallsRecordTheLimit link disk file
record_the_limit link disk file law mail aim state devices call shows kept account_is is towards clear ended some enough none =
    let start : HasCome (file.disk devices.file) aim 0 0 state.account.rows = record {
      far = none_far aim (is_delivered state.account.rows);
      fewer = omega arith;
      left = λ could rows intent may stands. none_far aim (is_delivered rows);
    } in
    let (_, _, then) = law mail aim 0 0 state devices (Called call ∷ []) shows kept start in
    let (promised, most, on) = then account_is is towards clear in
    let (_, come) = on 0 (inl refl) in
    let far : IsFar aim 1 (is_delivered promised.after.rows) =
    subst (λ (o : Outcome). IsFar aim (uncut_after 0 o) (is_delivered promised.after.rows)) ended come.far in
    let few = none_pass_of (λ (m : Message). is_safe mail state m.uid) (aimed aim) none in
    let limit : share aim ≡ aim.count_limit = rw (isnt_zero aim.count_limit some) refl in
    let one : 1 * share aim ≡ share aim = grind arith in (
      promised.after,
      promised.shows,
      ⊎_elim (λ at_least. omega (arith, at_least, one, most, few, limit)) (λ all. omega (arith, all, most, few, limit, enough)) far,
      promised.promises.vanished,
    )
  where
    isnt_zero : (n : ℕ) → n ≢ 0 → (n == 0) ≡ false
    isnt_zero n some = ⊎_elim (λ (is : (n == 0) ≡ true). let none : n ≡ 0 = grind (arith, nat_tests, is) in absurd (some none))
        (λ isnt. isnt) (cases_Bool (n == 0))
