-- With an mboxrd file, each session that reads only what is new appends entries and keeps its promises.
use Rattle.std.{
  proofs.Common.{subst, not, length, None, Option, Some, map, ◌⊎◌, slice_get, zero, ◌≡◌, inl, inr, ℕ, List, [], ◌∷◌, ◌++◌, true, false, ap},
  proofs.Common.{Bool, refl, sym, ◌∙◌, suc, ◌||◌, take, arith, append_assoc},
  proofs.lemmas.{Bool.{both_ways, false_from_ne_true, or_left, or_right, or_parts}, Grind.flat_map-append, Option.same_Some},
  proofs.lemmas.List.{append-nil, append_cancel_left, map-append, take_all, Folds.flat_map-map},
  proofs.Math.{Bool.{or-false, or_assoc}, Logic.{⊎_elim, ⊎_map}},
  specs.{Prelude.{bytes_eq, ◌↔◌}, List.{AllByRecursion, count_by, filter}},
}
use Rattle.mail_terms.specs.{UniqueId.has_id, Listing.Item}
use Rattle.mail_store.{specs.{Mboxrd.entry_of, Settling.{MayBeLeft, listed_size}}, proofs.SettlingLemmas.{all_left, part_left}}
use Rattle.fetch_runs.{
  specs.Sessions.{AreTexts, Effect, IsHonest, SendsOnly, IsBegun, Served, is_retr, MboxMail, settled, mbox_rows, mbox_wanted, entries},
  specs.Sessions.{IsBroken, MboxLeaves, MboxStores, entries_of, MboxSessionOverLink},
  specs.{Accounts.message_ids, Below.Below},
  specs.Promises.{IsOf, IsMaildrop, ShowsNext, Call, Base, is_entered, IsOpenFor, Stands, HoldsEntries, IsMboxFront, MboxStarts},
  specs.Promises.{AppendsMail, DeletesOneOf, FetchesWanted, IsTextOf},
  proofs.{Promised.sends_such, Safety.mbox_served_session},
  proofs.Core.{BeginsWith, next_in, added, added_begins, prefix_after, all_added, parts_apart, IsNumbered, num_item, Fetch, all_wanted, qs},
  proofs.Core.{distinct_wanted, fetches_wanted, wanted_is, taken_is, texts_are, wanted_ids, none_recorded, wants, wants_placed, has_listed},
  proofs.Core.{length_is, mbox_fetched},
  proofs.Lists.{all_ids_at, distinct_filter, filter_all, other_id, bytes_self, Distinct, distinct_is, are_distinct, all_map, all_take},
  proofs.Lists.{all_append, all_back, all_mapped, members, ids_both, bytes_swap, delivered_unheld, delivered_one, delivered_all},
}
use Rattle.fetch_record.specs.{Record.{Intent, marked, is_delivered, Row, has_row, marked_all}, RecordMeaning.FileStandsFor}
use Rattle.pop3_wire.specs.World.{Message}
use Rattle.fetch_rules.specs.Wanted.{allows_size, none_odd}
use Rattle.session_parts.specs.{Target.none_held, declared.report.Outcome.TheVariants.Ended}

-- ---- distinct lists of messages

absent : (ns : List Message) (id : List ℕ) → AllByRecursion (λ (n : Message). bytes_eq n.uid id ≡ false) ns
    → has_id (message_ids ns) id ≡ false
absent [] _ h = refl
absent (n ∷ ns) id h = grind (arith, h.0, bytes_swap, absent ns id h.1)

distinct_both : (ms ns : List Message) → Distinct (message_ids ms) → Distinct (message_ids ns)
    → AllByRecursion (λ (n : Message). has_id (message_ids ms) n.uid ≡ false) ns → Distinct (message_ids (ms ++ ns))
distinct_both [] _ d e h = e
distinct_both (m ∷ ms) ns d e h = (
  grind (arith, d.0, ids_both, absent ns m.uid (all_map ns h (λ x k. (or_parts _ _ k).0))),
  distinct_both ms ns d.1 e (all_map ns h (λ x k. (or_parts _ _ k).1)),
)

-- ---- entries

pub entries-append : (ms ns : List Message) → entries_of (ms ++ ns) ≡ entries_of ms ++ entries_of ns
entries-append ms ns = flat_map-append (λ m. entry_of m.text) ms ns

-- an open intent has a row
pub open_row : Below → (content : Option (List ℕ)) (rows : List Row) (intent : Option Intent)
    → FileStandsFor content rows intent → (i : Intent) → intent ≡ Some i → has_row rows i.uid ≡ true
open_row _ None rows _ stands i is = absurd (let never = sym stands.1 ∙ is in cc)
open_row laws (Some bytes) rows intent (version, torn, means) i is = (rw is at (laws.rowed bytes version rows intent torn means)).1

-- what is left of an entry is all of it and counts, or is cut off
pub settled_is : Below → {base : Base} {bytes : List ℕ} {account : MboxMail} (listing : List Item) (o : IsOpenFor base bytes account)
    → (((settled listing account).rows ≡ marked account.rows o.next.uid) × ((settled listing account).file ≡ bytes ++ entry_of o.next.text))
    ⊎ (((settled listing account).rows ≡ account.rows) × ((settled listing account).file ≡ bytes))
settled_is laws {bytes = bytes} listing o =
    ⊎_map (λ counts. (rw (o.intent, o.file, counts.0), rw (o.intent, o.file) (counts.1 ∙ ap (λ l. bytes ++ l) counts.2)))
    (λ cut. (rw (o.intent, o.file, cut.0), rw (o.intent, o.file) cut.1))
    (laws.leftovers bytes o.next.text o.part (listed_size listing o.next.uid) o.is.text.1 o.left)

-- the message and the text at one place
pub at_place : (drop' : List Message) (qs : List (ℕ × Message)) (texts : List (List ℕ)) (n : ℕ) {message : ℕ
    × Item} {text : List ℕ} → AllByRecursion (IsNumbered drop') qs
    → AreTexts drop' (map num_item qs) texts → slice_get (map num_item qs) n ≡ Some message → slice_get texts n ≡ Some text
    → (q : ℕ × Message) × (message ≡ num_item q) × (text ≡ q.1.text) × (take (suc n) qs ≡ take n qs ++ q ∷ [])
at_place _ qs [] n h t w g = absurd cc
at_place _ [] (x ∷ _) n h t w g = absurd t
at_place _ (q ∷ qs) (x ∷ _) zero ((_, at), _) ((_, there, text_is), _) w g =
    let same = same_Some _ _ (sym there ∙ at) in
    (q, sym (same_Some _ _ w), sym (same_Some _ _ g) ∙ text_is ∙ ap (λ m. m.text) same, refl)
at_place _ (q ∷ qs) (x ∷ texts) (suc n) h t w g = let r = at_place _ qs texts n h.1 t.1 w g in (r.0, r.1, r.2, ap (λ l. q ∷ l) r.3)

-- ---- what is next

-- all but one
without_one : (n : Message) (ms later : List Message) → Distinct (message_ids ms) → BeginsWith ms (n ∷ later)
    → BeginsWith (filter (λ (m : Message). not (bytes_eq m.uid n.uid)) ms) later
without_one n [] later d _ = (later, refl)
without_one n (x ∷ xs) later d (more, e) =
    let same : n ≡ x = cc in
    let tail : later ≡ xs ++ more = cc in
    let apart = all_map _ (members xs)
    (λ m there. ap not (false_from_ne_true _ (λ equal. both_ways _ (other_id x xs _ d.0 equal) there))) in
    subst (λ (k : Message). BeginsWith (filter (λ (m : Message). not (bytes_eq m.uid k.uid)) (x ∷ xs)) later) (sym same)
    (more, rw bytes_self (tail ∙ ap (λ l. l ++ more) (sym (filter_all _ xs apart))))

next_less : (allows : ℕ → Bool) (done : List Message) (n : Message) (ms : List Message)
    → next_in allows (done ++ n ∷ []) ms ≡ filter (λ (m : Message). not (bytes_eq m.uid n.uid)) (next_in allows done ms)
next_less _ _ n [] = refl
next_less allows done n (m ∷ ms) = grind (arith, ids_both, next_less allows done n ms)

-- what holds of what stands on the right
of_right : {A B : Type 0} (P : B → Type 0) {both : A ⊎ B} {a b : B} → both ≡ inr a → P a → both ≡ inr b → P b
of_right P {a = a} {b = b} is holds other = let same : a ≡ b = cc in subst P same holds

-- what a call promises that leaves these entries
record Keeps {W S F : Type 0} (base : Base) (before done : List Message) (call : Call W S F) (sent : List ℕ) (after : MboxMail)
    : Type 0 where
  pub closed : call.report.outcome ≡ Ended → after.intent ≡ None
  pub found : List Message
  pub fetched : call.report.outcome ≡ Ended → (texts : List Message) × (done ≡ (before ++ found) ++ texts)
      × (length texts ≡ call.report.retrieved)
  pub wanted : FetchesWanted call (λ id. false) (is_entered base (before ++ found)) (λ m. is_entered base done m.uid ≡ true)
  pub deletes : SendsOnly (DeletesOneOf call.maildrop (λ id. is_entered base done id ≡ true)) sent
  pub retrieved : call.report.outcome ≡ Ended → call.report.retrieved ≡ count_by is_retr deletes.commands
  pub vanished : AllByRecursion (λ id. is_entered base done id ≡ true) call.vanished

-- ---- a state with the invariant

module _ (base : Base) where
  pub in_more : (done more : List Message) (id : List ℕ)
      → is_entered base (done ++ more) id ≡ (is_entered base done id || has_id (message_ids more) id)
  in_more done more id = ap (λ b. base.had id || b) (ids_both done more id)
      ∙ sym (or_assoc (base.had id) (has_id (message_ids done) id) (has_id (message_ids more) id))

  -- a maildrop, and none of it was recorded before the first session
  abbrev AreEntered : List Message → Type 0
  AreEntered done = IsMaildrop (IsTextOf base) done × AllByRecursion (λ (m : Message). base.had m.uid ≡ false) done

  -- more messages that aren't recorded
  grown : (done more : List Message) → AreEntered done → AllByRecursion (IsOf (IsTextOf base)) more
      → Distinct (message_ids more) → AllByRecursion (λ (m : Message). is_entered base done m.uid ≡ false) more → AreEntered (done ++ more)
  grown _ _ are each distinct fresh = (
    record {
      each = all_append _ _ _ are.0.each each;
      distinct = are_distinct _ (distinct_both _ _ (distinct_is _ are.0.distinct) distinct (all_map _ fresh (λ m f. (or_parts _ _ f).1)));
    },
    all_append _ _ _ are.1 (all_map _ fresh (λ m f. (or_parts _ _ f).0)),
  )

  abbrev pub bytes_of : List Message → List ℕ
  bytes_of done = base.start ++ entries_of done

  bytes_more : (done more : List Message) → bytes_of (done ++ more) ≡ bytes_of done ++ entries_of more
  bytes_more done more = ap (λ l. base.start ++ l) (entries-append _ _) ∙ sym (append_assoc base.start (entries_of done) (entries_of more))

  pub one_more : (done : List Message) (next : Message) → bytes_of done ++ entry_of next.text ≡ bytes_of (done ++ next ∷ [])
  one_more done next = rw bytes_more (simp append-nil)

  -- the entry of an open intent is whole, and the intent is closed
  pub entered : Below → {done : List Message} {was : MboxMail} → HoldsEntries base done was
      → (o : IsOpenFor base (bytes_of done) was) → has_row was.rows o.next.uid ≡ true → (now : MboxMail)
      → now.rows ≡ marked was.rows o.next.uid → now.intent ≡ None → now.file ≡ bytes_of done ++ entry_of o.next.text
      → HoldsEntries base (done ++ o.next ∷ []) now
  entered laws {done} kept o rowed _ rows closed file =
      let more = grown done _ (kept.are, kept.new) (o.is, tt) (refl, tt) (sym (kept.recorded o.next.uid) ∙ o.unrecorded, tt) in
      record {
        are = more.0;
        new = more.1;
        recorded = λ id. ap (λ r. is_delivered r id) rows ∙ delivered_one laws _ o.next.uid id rowed
            ∙ ap (λ b. b || bytes_eq id o.next.uid) (kept.recorded id) ∙ ap (λ b. is_entered base done id || b) (sym (or-false _))
            ∙ sym (in_more _ _ id);
        stands = inl (closed, file ∙ one_more _ o.next);
      }

  -- nothing more, or the message whose intent was open
  abbrev pub IsMore : (bytes : List ℕ) (account : MboxMail) → Stands base bytes account → List Message → Type 0
  IsMore _ account (inl _) more = more ≡ []
  IsMore _ account (inr o) more = (more ≡ []) ⊎ (more ≡ o.next ∷ [])

  -- without an open intent the file ends after these entries
  pub ends_whole : (done : List Message) (account : MboxMail) → HoldsEntries base done account → account.intent ≡ None
      → account.file ≡ bytes_of done
  ends_whole _ account holds closed = ⊎_elim (λ c. c.1) (λ o. absurd (let never = sym closed ∙ o.intent in cc)) holds.stands

  -- an open intent is that of the first of these
  abbrev pub IsNext : (bytes : List ℕ) (account : MboxMail) → List Message → Stands base bytes account → Type 0
  IsNext bytes account rest stands = (o : IsOpenFor base bytes account) → stands ≡ inr o → (more : List Message) × (rest ≡ o.next ∷ more)

  pub next_is : {bytes : List ℕ} {account : MboxMail} {rest : List Message} (o : IsOpenFor base bytes account)
      (more : List Message) → rest ≡ o.next ∷ more → IsNext bytes account rest (inr o)
  next_is {bytes} {account} o more first = λ p same. let is : o ≡ p = cc in (more, first ∙ ap (λ q. q.next ∷ more) is)

  -- after it was settled the next are these
  ahead : (allows : ℕ → Bool) (done ms : List Message) → Distinct (message_ids ms)
      → (bytes : List ℕ) (account : MboxMail) (stands : Stands base bytes account) (rest more : List Message)
      → IsNext bytes account rest stands → IsMore bytes account stands more → BeginsWith (next_in allows done ms) rest
      → (later : List Message) × (rest ≡ more ++ later) × BeginsWith (next_in allows (done ++ more) ms) later
  ahead _ _ _ d _ account (inl _) rest _ _ is begins = (rest, rw is refl, rw (is, append-nil) begins)
  ahead _ _ _ d _ account (inr o) rest _ _ (inl is) begins = (rest, rw is refl, rw (is, append-nil) begins)
  ahead allows done ms d _ account (inr o) _ _ next (inr is) begins = let (later, first) = next o refl in (
    later,
    rw is first,
    rw (is, next_less allows done o.next ms) (without_one _ _ _ (distinct_filter _ ms d) (rw first at begins)),
  )

  -- a closed account whose file is these bytes, with some more entries perhaps
  abbrev pub Settled : (done : List Message) (bytes : List ℕ) (before : MboxMail) → Stands base bytes before → MboxMail → Type 0
  Settled done bytes before stands account = (more : List Message) × HoldsEntries base (done ++ more) account
      × (account.file ≡ bytes_of (done ++ more)) × IsMore bytes before stands more

  module _ (laws : Below) {done : List Message} {before : MboxMail} (kept : HoldsEntries base done before)
      (rowed : (i : Intent) → before.intent ≡ Some i → has_row before.rows i.uid ≡ true) where
    no_more : (listing : List Item) → (settled listing before).rows ≡ before.rows → (settled listing before).file ≡ bytes_of done
        → HoldsEntries base (done ++ []) (settled listing before) × ((settled listing before).file ≡ bytes_of (done ++ []))
    no_more _ rows file = (
      rw append-nil (record { are = kept.are; new = kept.new; recorded = rw rows kept.recorded; stands = inl (refl, file) }),
      rw append-nil file,
    )

    settle_by : (listing : List Item) (stands : Stands base (bytes_of done) before)
        → Settled done (bytes_of done) before stands (settled listing before)
    settle_by listing (inl closed) = let same = no_more _ (rw closed.0 refl) (rw closed.0 closed.1) in ([], same.0, same.1, refl)
    settle_by listing (inr o) = elim (settled_is laws listing o) [
      | inr (rows, file) ↦ let same = no_more listing rows file in ([], same.0, same.1, inl refl)
      | inl (rows, file) ↦ (
        o.next ∷ [],
        entered laws kept o (rowed _ o.intent) (settled listing before) rows refl file,
        file ∙ one_more done o.next,
        inr refl,
      )
    ]

    pub settle : (listing : List Item) → Settled done (bytes_of done) before kept.stands (settled listing before)
    settle _ = settle_by _ _

    -- what there is of one more entry is as it was, or a front of it
    abbrev pub IsPart : MboxMail → Message → List ℕ → Type 0
    IsPart now next part = (now.file ≡ before.file) ⊎ ((behind : List ℕ) × (entry_of next.text ≡ part ++ behind))

    -- an account that is left, its file perhaps cut back
    module _ (now : MboxMail) (did : Effect) (h : MboxLeaves before did now) where
      pub reopened : (o : IsOpenFor base (bytes_of done) before) → (part : List ℕ)
          × MayBeLeft (length (bytes_of done)) (entry_of o.next.text) part × (now.file ≡ bytes_of done ++ part) × IsPart now o.next part
      reopened o = elim h.file [
        | inl same ↦ (o.part, o.left, same ∙ o.file, inl same)
        | inr cut ↦ elim (settled_is laws did.listing o) [
          | inl whole ↦ let entry = entry_of o.next.text in (
            entry,
            all_left _ entry,
            cut ∙ whole.1,
            inr ([], sym (append-nil entry)),
          )
          | inr none ↦ ([], tt, cut ∙ none.1 ∙ sym (append-nil (bytes_of done)), inr (entry_of o.next.text, refl))
        ]
      ]

      abbrev pub left_stands : Stands base (bytes_of done) before → Stands base (bytes_of done) now
      left_stands (inl closed) = inl (
        h.intent ∙ closed.0,
        elim h.file [
          | inl same ↦ same ∙ closed.1
          | inr cut ↦ cut ∙ rw closed.0 closed.1
        ],
      )
      left_stands (inr o) =
          let again = reopened o in
          inr (record {
            next = o.next;
            is = o.is;
            unrecorded = rw h.rows o.unrecorded;
            intent = h.intent ∙ o.intent;
            part = again.0;
            left = again.1;
            file = again.2;
          })

      part_stands : (stands : Stands base (bytes_of done) before) (o : IsOpenFor base (bytes_of done) now)
          → left_stands stands ≡ inr o → IsPart now o.next o.part
      part_stands (inl _) o is = absurd cc
      part_stands (inr was) o is = of_right (λ (p : IsOpenFor base (bytes_of done) now). IsPart now p.next p.part) refl (reopened was).3 is

      pub left_kept : HoldsEntries base done now
      left_kept = record { are = kept.are; new = kept.new; recorded = rw h.rows kept.recorded; stands = left_stands kept.stands }

      left_part : (o : IsOpenFor base (bytes_of done) now) → left_kept.stands ≡ inr o → IsPart now o.next o.part
      unfolding left_kept
      left_part = part_stands _

    -- ---- one session that stored something

    module _ {W S F : Type 0} (v : Call W S F) (now : MboxMail) (did : Effect) (is : IsMaildrop (IsTextOf base) v.maildrop)
        (only_new : v.settings.read_all ≡ false) (s : MboxStores v.settings before did now v.report)
        (honest : IsHonest (mbox_wanted v.settings before did) v.maildrop did) where
      abbrev pub rows : List Row
      rows = mbox_rows before did

      abbrev account : MboxMail
      account = settled did.listing before

      pub origin : Settled done (bytes_of done) before kept.stands account
      origin = settle _

      abbrev pub was : List Message
      was = done ++ origin.0

      pub fetch : Fetch v.settings none_odd rows v.maildrop did
      fetch = record { firsts = laws.firsts; distinct = distinct_is v.maildrop is.distinct; honest = honest }

      abbrev pub new : ℕ → List Message
      new n = take n (wants v.settings none_odd rows v.maildrop)

      abbrev done_now : List Message
      done_now = was ++ new s.stored

      abbrev Breaks : Type 0
      Breaks = IsBroken v.settings before did s.stored now

      abbrev Opens : Type 0
      Opens = IsOpenFor base (bytes_of done_now) now

      all_new : (P : Message → Type 0) (n : ℕ) → AllByRecursion P v.maildrop → AllByRecursion P (new n)
      all_new P n h = all_take P n _ (all_wanted fetch P h)

      pub known : (id : List ℕ) → is_delivered rows id ≡ is_entered base was id
      known id = delivered_unheld laws account.rows did.listing did.now id ∙ origin.1.recorded id

      fresh : (n : ℕ) → AllByRecursion (λ (m : Message). is_entered base was m.uid ≡ false) (new n)
      fresh n = all_take _ n _ (all_map _ (none_recorded fetch only_new) (λ m k. sym (known m.uid) ∙ k))

      has_rows : (n : ℕ) → AllByRecursion (λ (m : Message). has_row rows m.uid ≡ true) (new n)
      has_rows n = all_new _ n (all_map _ (members _) (λ m e. laws.listed account.rows did.listing (none_held did.listing) did.now m.uid
          ∙ or_right _ _ (has_listed _ honest.listing _ ∙ e)))

      rows_are : now.rows ≡ marked_all rows (message_ids (new s.stored))
      rows_are = s.rows ∙ ap (marked_all rows) (wanted_ids fetch s.stored)

      pub recorded_after : (id : List ℕ) → is_delivered now.rows id ≡ is_entered base done_now id
      recorded_after id = ap (λ r. is_delivered r id) rows_are ∙ delivered_all laws _ _ id (all_mapped _ _ _ (has_rows _))
          ∙ ap (λ b. b || has_id (message_ids (new s.stored)) id) (known id) ∙ sym (in_more _ _ id)

      pub bytes_are : account.file ++ entries (take s.stored did.texts) ≡ bytes_of done_now
      bytes_are = rw (
        origin.2,
        (texts_are fetch (mbox_fetched s)).1,
        flat_map-map entry_of (λ (m : Message). m.text) (new s.stored),
      ) (sym (bytes_more was (new s.stored)))

      placed : (b : Breaks) → (q : ℕ × Message) × (b.message ≡ num_item q)
          × (b.text ≡ q.1.text) × (take (suc s.stored) (qs fetch) ≡ take s.stored (qs fetch) ++ q ∷ [])
      placed b = at_place _ _ did.texts s.stored (wants_placed v.settings none_odd rows v.maildrop)
          (rw (wanted_is fetch) at honest.texts) (rw (wanted_is fetch) at b.wanted) b.got

      abbrev broken_next : Breaks → Message
      broken_next b = (placed b).0.1

      broken_taken : (b : Breaks) → new (suc s.stored) ≡ new s.stored ++ broken_next b ∷ []
      broken_taken b = rw (← taken_is fetch (suc s.stored), (placed b).3, map-append, taken_is fetch s.stored)

      pub broken : Breaks → Opens
      broken b =
          let place = placed b in
          let next = broken_next b in
          let taken = broken_taken b in
          record {
            next = next;
            is = (all_back _ (new s.stored) _ (rw taken at (all_new (IsOf (IsTextOf base)) (suc s.stored) is.each))).0;
            unrecorded = recorded_after next.uid ∙ in_more was (new s.stored) next.uid ∙ rw (
              (all_back _ (new s.stored) _ (rw taken at (fresh (suc s.stored)))).0,
              (parts_apart (new s.stored) (next ∷ []) (rw taken at (distinct_wanted fetch (suc s.stored)))).1 next (members (next ∷ [])).0,
            ) refl;
            intent = b.opened.intent ∙ simp (bytes_are, place.1, place.2);
            part = b.opened.front;
            left = subst (λ l. MayBeLeft (length (bytes_of done_now)) l b.opened.front)
                (sym (ap entry_of (sym place.2) ∙ b.opened.entry))
                (part_left (length (bytes_of done_now)) b.opened.front b.opened.behind b.opened.front
                (all_left (length (bytes_of done_now)) b.opened.front));
            file = b.opened.file ∙ rw bytes_are;
          }

      pub broken_more : (b : Breaks) → new (suc s.stored) ≡ new s.stored ++ (broken b).next ∷ []
      unfolding broken
      broken_more b = broken_taken b

      broken_part : (b : Breaks) → IsPart now (broken b).next (broken b).part
      unfolding broken
      broken_part b = inr (b.opened.behind, ap entry_of (sym (placed b).2) ∙ b.opened.entry)

      -- how the file stands once the session ended so
      abbrev Ending : Type 0
      Ending = ((now.intent ≡ None) × (now.file ≡ account.file ++ entries (take s.stored did.texts)))
          ⊎ Breaks

      abbrev stands_at : Ending → Stands base (bytes_of done_now) now
      stands_at (inl (closed, file)) = inl (closed, file ∙ bytes_are)
      stands_at (inr b) = inr (broken b)

      pub holds_after : HoldsEntries base done_now now
      holds_after = let more = grown was (new s.stored) (origin.1.are, origin.1.new)
          (all_new (IsOf (IsTextOf base)) s.stored is.each) (distinct_wanted fetch s.stored) (fresh s.stored) in record {
            are = more.0;
            new = more.1;
            recorded = recorded_after;
            stands = stands_at s.ending;
          }

      -- an open intent is that of the text that came
      pub opened_after : (b : Breaks) → s.ending ≡ inr b
          → (o : Opens) × (holds_after.stands ≡ inr o) × (o.next.text ≡ b.text)
      unfolding broken holds_after
      opened_after b is = (broken b, ap stands_at is, sym (placed b).2)

      part_of : (ending : Ending) (o : Opens) → stands_at ending ≡ inr o
          → IsPart now o.next o.part
      part_of (inl c) o is = absurd cc
      part_of (inr b) o is = of_right (λ (p : Opens). IsPart now p.next p.part) refl (broken_part b) is

      part_after : (o : Opens) → holds_after.stands ≡ inr o → IsPart now o.next o.part
      unfolding holds_after
      part_after = part_of _

      -- an uncut session retrieved all that was wanted
      all_retrieved : did.ended ≡ true → v.report.outcome ≡ Ended → v.report.retrieved ≡ length (mbox_wanted v.settings before did)
      all_retrieved ended uncut = elim s.marks [
        | inl same ↦ sym same ∙ sym (s.ended ended).0
        | inr (less, unsaved, last) ↦ ⊎_elim (λ cut. absurd (let never = sym uncut ∙ cut in cc))
            (λ cut. absurd (let never = sym uncut ∙ cut in cc)) unsaved
      ]

      promises_after : (did.ended ≡ true) ↔ (v.report.outcome ≡ Ended)
          → {sent : List ℕ} (sends : SendsOnly (IsBegun did.listing did.begun) sent)
          → (did.ended ≡ true → v.report.retrieved ≡ count_by is_retr sends.commands)
          → AllByRecursion (λ id. has_id did.begun id ≡ true) v.vanished → Keeps base done done_now v sent now
      promises_after ended sends retrieves vanished = record {
        closed = λ uncut. (s.ended (ended.1 uncut)).1;
        found = origin.0;
        fetched = λ uncut. let all = (s.ended (ended.1 uncut)).0 in (
          new s.stored,
          refl,
          ap length (take_all s.stored (wants v.settings none_odd rows v.maildrop) (omega (arith, all, length_is fetch)))
              ∙ sym (length_is fetch) ∙ sym (all_retrieved (ended.1 uncut) uncut),
        );
        wanted = λ uncut. fetches_wanted fetch (is_entered base was) (all_map _ (members v.maildrop) (λ m there. known m.uid))
            s.stored (let all = (s.ended (ended.1 uncut)).0 in omega (arith, all)) (all_retrieved (ended.1 uncut) uncut)
            (λ m. is_entered base done_now m.uid ≡ true) (λ m got. in_more was (new s.stored) m.uid ∙ or_right _ _ got)
            (λ m old. in_more was (new s.stored) m.uid ∙ or_left _ _ (sym (known m.uid) ∙ old));
        deletes = sends_such (λ id. is_entered base done_now id ≡ true) v.maildrop did
            (inl honest.listing) begun_entered sends;
        retrieved = λ uncut. retrieves (ended.1 uncut);
        vanished = all_map _ vanished (λ id b. all_ids_at _ _ begun_entered b);
      }
        where
          begun_entered : AllByRecursion (λ id. is_entered base done_now id ≡ true) did.begun
          begun_entered = all_map _ s.begun (λ id e. sym (recorded_after id) ∙ e)

      -- ---- in order

      module _ (all : List Message) (front : IsMboxFront base kept all)
          (next : ShowsNext v.settings v.maildrop (front.first ++ done) front.rest) where
        abbrev Next : Stands base (bytes_of done_now) now → Type 0
        Next stands = (rest : List Message) × (all ≡ (front.first ++ done_now) ++ rest)
            × IsNext (bytes_of done_now) now rest stands

        later : (rest : List Message) × (front.rest ≡ origin.0 ++ rest)
            × BeginsWith (next_in (allows_size v.settings) (front.first ++ was) v.maildrop) rest
        later =
            let l = ahead (allows_size v.settings) _ _ (distinct_is _ is.distinct)
            (bytes_of done) before kept.stands front.rest origin.0 front.next origin.3 next in
            (l.0, l.1, rw append_assoc at l.2)

        prefix_was : all ≡ (front.first ++ was) ++ later.0
        prefix_was = front.prefix ∙ ap (λ l. (front.first ++ done) ++ l) later.1 ∙ simp append_assoc

        known_was : (id : List ℕ) → is_delivered rows id ≡ has_id (message_ids (front.first ++ was)) id
        known_was id = known id ∙ ap (λ b. b || has_id (message_ids was) id) (front.had id) ∙ sym (ids_both _ _ id)

        done_known : AllByRecursion (λ (m : Message). is_delivered rows m.uid ≡ true
            → has_id (message_ids (front.first ++ was)) m.uid ≡ true) v.maildrop
        done_known = all_map _ (members _) (λ m _ d. sym (known_was _) ∙ d)

        abbrev rest_after : (n : ℕ) → BeginsWith (added fetch (λ id. refl) (front.first ++ was) later.0 done_known later.2 n) later.0
        rest_after = added_begins fetch (λ id. refl) (front.first ++ was) later.0 done_known later.2

        prefix_new : (n : ℕ) → all ≡ (front.first ++ (was ++ new n)) ++ (rest_after n).0
        prefix_new n = prefix_after fetch (λ id. refl) (front.first ++ was) later.0 done_known later.2 prefix_was n
            ∙ ap (λ (l : List Message). l ++ (rest_after n).0)
            (rw (all_added fetch (λ id. refl) (front.first ++ was) later.0 done_known later.2 known_was only_new n)
            (append_assoc front.first was (new n)))

        next_open : (b : Breaks) → Next (inr (broken b))
        next_open b =
            let o = broken b in
            let taken : new (suc s.stored) ≡ new s.stored ++ o.next ∷ [] = broken_more b in (
              o.next ∷ (rest_after (suc s.stored)).0,
              prefix_new (suc s.stored) ∙ rw taken (simp append_assoc),
              next_is o (rest_after (suc s.stored)).0 refl,
            )

        next_after : (ending : Ending) → Next (stands_at ending)
        next_after (inl c) = ((rest_after _).0, prefix_new _, λ o e. absurd cc)
        next_after (inr b) = next_open b

        pub front_after : IsMboxFront base holds_after all
        unfolding holds_after
        front_after = let next' = next_after _
            in record { first = front.first; rest = next'.0; prefix = next'.1; had = front.had; next = next'.2 }

    left_front : (now : MboxMail) (did : Effect) (h : MboxLeaves before did now) (all : List Message)
        → IsMboxFront base kept all → IsMboxFront base (left_kept now did h) all
    unfolding left_kept
    left_front now did h _ front = record {
      first = front.first;
      rest = front.rest;
      prefix = front.prefix;
      had = front.had;
      next = go kept.stands front.next;
    }
      where
        go : (stands : Stands base (bytes_of done) before) → IsNext (bytes_of done) before front.rest stands
            → IsNext (bytes_of done) now front.rest (left_stands now did h stands)
        go (inl _) _ = λ o e. absurd cc
        go (inr o) next = let (more, first) = next o refl in next_is _ more first

    -- ---- one session

    module _ {W S F : Type 0} (v : Call W S F) (sent : List ℕ) (after : MboxMail) where
      -- what it leaves, with the entries of these messages
      abbrev Leaves : List Message → Type 0
      Leaves now = (holds : HoldsEntries base now after) × Keeps base done now v sent after
          × ((all : List Message) → (front : IsMboxFront base kept all)
          → ShowsNext v.settings v.maildrop (front.first ++ done) front.rest → IsMboxFront base holds all)
          × ((o : IsOpenFor base (bytes_of now) after) → holds.stands ≡ inr o → IsPart after o.next o.part)

      -- it appends, and keeps the order of messages
      abbrev AppendsInOrder : Type 0
      AppendsInOrder = (one : AppendsMail base kept v sent after) × ((all : List Message) → (front : IsMboxFront base kept all)
          → ShowsNext v.settings v.maildrop (front.first ++ done) front.rest → IsMboxFront base one.kept all)

      pub appends : {got : List ℕ} (effect : Effect) → IsMaildrop (IsTextOf base) v.maildrop → v.settings.read_all ≡ false
          → Served v.maildrop sent got v.vanished
          → MboxSessionOverLink v.settings before sent got v.report effect after → AppendsInOrder
      appends effect maildrop only_new served session =
          let step = mbox_served_session laws session served in
          elim step.0 [
            | inl left ↦ by [] (subst Leaves (sym (append-nil done)) (
              left_kept after effect left,
              record {
                closed = λ uncut. absurd (both_ways effect.ended left.ended (session.ended.1 uncut));
                found = [];
                fetched = λ uncut. absurd (both_ways effect.ended left.ended (session.ended.1 uncut));
                wanted = λ uncut. absurd (both_ways effect.ended left.ended (session.ended.1 uncut));
                deletes = sends_such (λ id. is_entered base done id ≡ true) v.maildrop effect (inr left.begun)
                    (rw left.begun tt) session.sends;
                retrieved = λ uncut. session.retrieves (session.ended.1 uncut);
                vanished = all_map _ step.1 (λ id b. absurd (both_ways false refl (rw left.begun at b)));
              },
              λ all front next. left_front after effect left all front,
              left_part after effect left,
            ))
            | inr (s, honest) ↦
                let come : List Message = (origin v after effect maildrop only_new s honest).0 in
                let new' : List Message = new v after effect maildrop only_new s honest s.stored in
                by (come ++ new') (subst Leaves (append_assoc done come new') (
                  holds_after v after effect maildrop only_new s honest,
                  promises_after v after effect maildrop only_new s honest session.ended session.sends session.retrieves step.1,
                  front_after v after effect maildrop only_new s honest,
                  part_after v after effect maildrop only_new s honest,
                ))
          ]
        where
          by : (more : List Message) → Leaves (done ++ more) → AppendsInOrder
          by more (holds, keeps, in_order, part) = (
            record {
              more = more;
              kept = holds;
              closed = keeps.closed;
              found = keeps.found;
              fetched = λ uncut. let (texts, is, count) = keeps.fetched uncut in (
                texts,
                append_cancel_left done more (keeps.found ++ texts) (is ∙ append_assoc done keeps.found texts),
                count,
              );
              wanted = keeps.wanted;
              deletes = keeps.deletes;
              retrieved = keeps.retrieved;
              vanished = keeps.vanished;
              part = part;
            },
            in_order,
          )

pub mbox_begins : MboxStarts
mbox_begins _ account closed = record {
  are = record { each = tt; distinct = are_distinct [] tt };
  new = tt;
  recorded = λ _. sym (or-false _);
  stands = inl (closed, sym (append-nil account.file));
}
