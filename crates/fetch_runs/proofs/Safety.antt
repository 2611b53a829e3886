-- What a session sent and left is safe, whatever its server says; and what an honest one makes of it.
use Rattle.std.{
  proofs.Common.{◌≡◌, inl, inr, ◌≤◌, ◌<◌, ◌-◌, ℕ, suc, Bool, true, false, List, ◌∷◌, ◌++◌, map, take, zip, length, refl, sym, ap, ◌∙◌, ◌⊎◌},
  proofs.Common.{arith, append_assoc, length-take, get_or-take, Some, slice_get, slice_set, zero, subst, None, []},
  proofs.lemmas.{Bool.{or_cases, and_parts, cases_Bool, true≢false, both_ways}, Grind.flat_map-append},
  proofs.lemmas.List.{append-nil, map-append, take-map, length-map, take_all, Elements.filter-append, Folds.{list_any_at, flat_map-map}},
  proofs.lemmas.Option.{slice_get_within, get_or_from_slice_get, same_Some, slice_get-map},
  proofs.Math.Logic.{⊎_elim, ⊎_map},
  specs.{Prelude.{bytes_eq, is_none}, List.{filter, AllByRecursion}, Option.option_map},
}
use Rattle.mail_terms.specs.{Listing.{Item, numbered, is_first}, UniqueId.has_id, Text.IsWhole}
use Rattle.fetch_rules.{specs.Wanted.{none_odd, skip_of, wanted}, proofs.PlanLemmas.parts_for}
use Rattle.rc_file.specs.declared.settings.Settings.{Settings}
use Rattle.fetch_record.specs.Record.{Row, is_delivered}
use Rattle.mail_store.specs.{FileName.{is_held, is_odd, mail_file}, Mboxrd.{entry_of, MboxFile, EntryAddsText}, Maildir.File}
use Rattle.fetch_runs.{
  specs.{Accounts.{AccountMail, without_flags, item_of, listing_of}, Below.Below},
  specs.Sessions.{Effect, StoresTexts, file_for, is_unheld, ids_wanted, wanted_at, merged_rows, IsHonest, AreTexts, IsBegun, SendsOnly},
  specs.Sessions.{ReadsReplies, Served, IsNumbered, Leaves, Retrieves, SessionOverLink, MboxMail, settled, mbox_rows, mbox_wanted, entries},
  specs.Sessions.{IsBroken, MboxStores, MboxLeaves, AsksForNone, MboxSessionOverLink},
  specs.Steps.{IsAmong, WasFetched, DeletesAllowed, StandsAfter, IsIn, AddsTexts, AppendsMessages, BringsMessages, IsSafeSession},
  specs.Steps.MboxIsSafe,
  proofs.{Core.{IsNumbered as IsPlaced, are_numbered, fetched_within, mbox_fetched, order}, Turns.text_found},
  proofs.Listed.{honest_is_granted, listing_is_maildrop, texts_are_messages},
  proofs.Lists.{all_map, all_both, all_filter, all_passing, bytes_same, bytes_self, taken_more, all_ids_at, delivered_marked, all_back},
  proofs.Lists.{delivered_merged, delivered_unheld, all_take, all_mapped},
}
use Rattle.pop3_wire.specs.{
  declared.command.Command.{Command, TheVariants.{Dele, User, Pass, Stat, UidlAll, ListAll, Rset, Retr}},
  World.Message,
  Reading.WholeReply,
  Place.at,
  Honest.{Grants, Replies, no_marks, Honest},
}
use Rattle.session_parts.{specs.declared.report.{Outcome.TheVariants.Ended, Report.Report}, proofs.TextLemmas.text_whole}

-- ---- one message of an id

-- a message is at its number, and is the first with its id
abbrev pub IsFirstAt : List Item → ℕ × Item → Type 0
IsFirstAt listing message = (0 < message.0) × (slice_get listing (message.0 - 1) ≡ Some message.1) × (is_first listing message ≡ true)

one_number : (listing : List Item) (m n : ℕ × Item) → IsFirstAt listing m → IsFirstAt listing n → m.1.uid ≡ n.1.uid → m.0 ≡ n.0
one_number listing m n at at' same = grind (arith, not_before m n at at' same, not_before n m at' at (sym same))
  where
    -- no message before the first with an id has that id
    not_before : (m n : ℕ × Item) → IsFirstAt listing m → IsFirstAt listing n → m.1.uid ≡ n.1.uid → m.0 < n.0 → ⊥
    not_before (k, item) (n, _) (counted, at, first) (counted', at', first') same less =
        let before : k - 1 < n - 1 = omega arith in
        true≢false (sym (rw (
          ← same,
          list_any_at (λ (i : Item). bytes_eq item.uid i.uid) (take (n - 1) listing) (k - 1) item
              (omega (arith, slice_get_within listing (k - 1) item at, length-take (n - 1) listing))
              (rw (get_or-take (n - 1) listing (k - 1) item before, get_or_from_slice_get listing (k - 1) item item at)
              (bytes_self item.uid)),
        ) at first'))

-- ---- a wanted message is at its number

pub wanted_first : (settings : Settings) (is_odd : List ℕ → Bool) (rows : List Row) (listing : List Item)
    → AllByRecursion (IsFirstAt listing) (wanted settings is_odd rows listing)
wanted_first settings is_odd rows listing = all_both {P = IsPlaced listing} _ (all_filter _ _ _ (are_numbered listing))
    (all_passing (λ m. is_none (skip_of settings is_odd rows listing m)) (numbered listing))
    (λ q h e. (h.0, h.1, (parts_for settings is_odd rows (is_first listing q) _ q.1 e).1))

behind_one : {X : Type 0} {x : X} (y : X) (xs : List X) → IsAmong x xs → IsAmong x (y ∷ xs)
behind_one y _ (front, behind, is) = (y ∷ front, behind, ap (λ l. y ∷ l) is)

-- ---- the text of a wanted message

-- a message of the id, the first of the listing with it, and its text, among the first of these
record FoundIn (listing : List Item) (qs : List (ℕ × Item)) (texts : List (List ℕ)) (n : ℕ) (id : List ℕ) : Type 0 where
  message : ℕ × Item
  text : List ℕ
  first : IsFirstAt listing message
  among : IsAmong (message, text) (zip qs texts)
  id_is : message.1.uid ≡ id
  taken : IsAmong (message, text) (zip (take n qs) texts)
  listed : IsAmong text (take n texts)

wanted_id_found : (listing : List Item) (n : ℕ) (qs : List (ℕ × Item)) (texts : List (List ℕ)) (id : List ℕ)
    → AllByRecursion (IsFirstAt listing) qs → n ≤ length texts → has_id (ids_wanted (take n qs)) id ≡ true → FoundIn listing qs texts n id
wanted_id_found listing (suc n) (q ∷ qs) (t ∷ ts) id first less is = elim (or_cases _ _ is) [
  | inl same ↦ record {
    message = q;
    text = t;
    first = first.0;
    among = ([], _, refl);
    id_is = sym (bytes_same id _ same);
    taken = ([], _, refl);
    listed = ([], _, refl);
  }
  | inr more ↦
      let there = wanted_id_found _ n qs ts id first.1 (omega (arith, less)) more in
      record {
        message = there.message;
        text = there.text;
        first = there.first;
        among = behind_one _ _ there.among;
        id_is = there.id_is;
        taken = behind_one _ _ there.taken;
        listed = behind_one t _ there.listed;
      }
]
wanted_id_found _ n qs texts _ first less is = absurd (grind (arith, less, is))

-- what is made of an element that passes is among what is made of all that do
among_made : {X Y : Type 0} (p : X → Bool) (f : X → Y) {x : X} (xs : List X) → IsAmong x xs → p x ≡ true
    → IsAmong (f x) (map f (filter p xs))
among_made p f {x} _ (front, behind, is) passes = (
  map f (filter p front),
  map f (filter p behind),
  rw (is, filter-append, passes, map-append),
)

module _ (effect : Effect) (qs : List (ℕ × Item)) (Known : List ℕ → Type 0) (Kept : List ℕ → List ℕ → Type 0) where
  -- the id was known, or is that of one of the first n messages, whose text was kept, by whichever number
  abbrev IsKept : ℕ → List ℕ → Type 0
  IsKept n id = Known id ⊎ ((t : FoundIn effect.listing qs effect.texts n id) × Kept id t.text)

  abbrev MayBe : ℕ → List ℕ → Type 0
  MayBe number id = Known id ⊎ WasFetched qs effect.texts (Kept id) number id

  sends_allowed : (n : ℕ) → AllByRecursion (IsKept n) effect.begun → {sent : List ℕ} → SendsOnly (IsBegun effect.listing effect.begun) sent
      → SendsOnly (DeletesAllowed effect.listing MayBe) sent
  sends_allowed n kept sends = record {
    commands = sends.commands;
    asked = sends.asked;
    each = all_map _ sends.each allowed;
    next = ⊎_map (λ none. none) (λ r. (r.0, r.1, r.2, allowed r.0 r.3)) sends.next;
  }
    where
      allowed : (command : Command) → IsBegun effect.listing effect.begun command → DeletesAllowed effect.listing MayBe command
      allowed (Dele _) (item, at, is, counted, alone) = (
        counted,
        item,
        at,
        ⊎_map (λ known. known) (λ r. (
          r.0.message,
          r.0.text,
          r.0.among,
          one_number _ _ _ r.0.first (counted, at, (and_parts _ _ alone).0) r.0.id_is,
          r.0.id_is,
          r.1,
        )) (all_ids_at _ _ kept is),
      )
      allowed _ _ = tt

-- ---- with a Maildir

module _ (settings : Settings) (account : List ℕ) (before : AccountMail) (effect : Effect) where
  abbrev qs : List (ℕ × Item)
  qs = wanted_at settings account before effect

  abbrev IsKnown : List ℕ → Type 0
  IsKnown id = (is_delivered before.rows id ≡ true) ⊎ (is_held account before.maildir id ≡ true)

  -- the file of the text is among those that the first n of the wanted messages added
  abbrev IsAdded : ℕ → List ℕ → List ℕ → Type 0
  IsAdded n id text = IsAmong (mail_file account id text)
      (map (file_for account) (filter (is_unheld account before.maildir) (zip (take n qs) effect.texts)))

  kept_ids : Below → {after : AccountMail} {report : Report} {commands : List Command} {part : List ℕ}
      (s : StoresTexts settings account before effect after report commands part) (id : List ℕ)
      → is_delivered after.rows id ≡ true → IsKept effect qs IsKnown (IsAdded s.stored) s.stored id
  kept_ids laws s id is = elim s.rows [
    | inl old ↦ inl (inl (rw old.0 at is))
    | inr marks ↦ elim (delivered_marked laws (merged_rows account before effect) _ id (rw marks at is)) [
      | inl known ↦ inl (⊎_map (λ old. old) (λ held. (and_parts _ _ held).1)
          (or_cases _ _ (sym (delivered_merged laws account before.maildir before.rows effect.listing effect.now id) ∙ known)))
      | inr stored ↦ ⊎_map inr (λ (free : is_held account before.maildir id ≡ false).
          let t = wanted_id_found effect.listing s.stored qs effect.texts id
          (wanted_first settings (is_odd account before.maildir) (merged_rows account before effect) effect.listing)
          (fetched_within s) (taken_more (λ (q : ℕ × Item). q.1.uid) qs id (order s) stored) in (
            t,
            rw t.id_is at (among_made (is_unheld account before.maildir) (file_for account) _ t.taken (rw (t.id_is, free))),
          )) (cases_Bool (is_held account before.maildir id))
    ]
  ]

-- ---- with an mboxrd

module _ (settings : Settings) (before : MboxMail) (effect : Effect) (after : MboxMail) (report : Report) where
  abbrev old : List ℕ
  old = (settled effect.listing before).file

  -- what comes after the entries: nothing, or a beginning of the next one
  pub tail_of : (s : MboxStores settings before effect after report) → (rest : List ℕ)
      × (after.file ≡ old ++ (entries (take s.stored effect.texts) ++ rest))
      × ((rest ≡ []) ⊎ ((broken : IsBroken settings before effect s.stored after) × (entry_of broken.text ≡ rest ++ broken.opened.behind)))
  tail_of s = ⊎_elim (λ closed. ([], rw append-nil closed.1, inl refl)) (λ broken. (
    broken.opened.front,
    broken.opened.file ∙ append_assoc old (entries (take s.stored effect.texts)) broken.opened.front,
    inr (broken, broken.opened.entry),
  )) s.ending

  abbrev IsRecorded : List ℕ → Type 0
  IsRecorded id = is_delivered (settled effect.listing before).rows id ≡ true

  entered : Below → (s : MboxStores settings before effect after report) (id : List ℕ) → is_delivered after.rows id ≡ true
      → IsKept effect (mbox_wanted settings before effect) IsRecorded (λ id. StandsAfter effect.listing before after) s.stored id
  entered laws s id e = elim (delivered_marked laws (mbox_rows before effect) _ id (rw s.rows at e)) [
    | inl known ↦ inl (sym (delivered_unheld laws (settled effect.listing before).rows effect.listing effect.now id) ∙ known)
    | inr stored ↦
        let t = wanted_id_found effect.listing s.stored (mbox_wanted settings before effect) effect.texts id
        (wanted_first settings none_odd (mbox_rows before effect) effect.listing) (mbox_fetched s) stored in
        let tail = tail_of s in
        inr (
          t,
          (
            entries t.listed.0,
            entries t.listed.1 ++ tail.0,
            tail.1 ∙ rw (t.listed.2, flat_map-append entry_of t.listed.0 (t.text ∷ t.listed.1)) (simp append_assoc),
          ),
        )
  ]

-- ---- marks

set_marks : (marks : List Bool) (i place : ℕ) → slice_get (slice_set marks i true) place ≡ Some true
    → (slice_get marks place ≡ Some true) ⊎ (i ≡ place)
set_marks [] i _ e = inl e
set_marks (b ∷ marks) (suc i) (suc place) e = grind (arith, set_marks marks i place e)
set_marks (b ∷ _) i _ e = grind arith

none_true : {X : Type 0} (xs : List X) (place : ℕ) → slice_get (map (λ _. false) xs) place ≡ Some true → ⊥
none_true {X} xs place e = grind (arith, slice_get-map)

-- the number was marked before, or a DELE of it is among the commands
abbrev IsAsked : List Command → ℕ → Type 0
IsAsked commands place = (front behind : List Command) × (number : ℕ) × (commands ≡ front ++ Dele number ∷ behind) × (number - 1 ≡ place)

one_mark : (drop : List Message) (marks : List Bool) (command : Command) (commands : List Command) (bytes : List ℕ)
    (next : List Bool) (place : ℕ)
    → Grants drop marks command bytes next → slice_get next place ≡ Some true → (slice_get marks place ≡ Some true)
    ⊎ IsAsked (command ∷ commands) place
one_mark _ _ (Dele n) commands _ _ place g e = ⊎_map (λ old. old) (λ same. ([], commands, n, refl, same))
    (set_marks _ _ _ (ap (λ m. slice_get m place) (sym g.1) ∙ e))
one_mark _ marks Rset _ _ _ place g e = absurd (none_true marks place (ap (λ m. slice_get m place) (sym g.1) ∙ e))
one_mark _ _ _ _ _ _ _ g e = grind arith

marks_from : (drop : List Message) (marks last : List Bool) (commands : List Command) (bytes : List ℕ) (place : ℕ)
    → Replies drop marks commands bytes last → slice_get last place ≡ Some true
    → (slice_get marks place ≡ Some true) ⊎ IsAsked commands place
marks_from _ _ _ [] _ place said e = inl (ap (λ (m : List Bool). slice_get m place) (sym said.1) ∙ e)
marks_from drop marks last (command ∷ commands) bytes place said e =
    ⊎_elim (λ here. ⊎_elim (λ refused. inl (cc)) (λ grants. one_mark drop marks command commands said.0 said.2 place grants here) said.4)
    (λ later. inr (command ∷ later.0, later.1, later.2, ap (λ (cs : List Command). command ∷ cs) later.3, later.4))
    (marks_from drop said.2 last commands said.1 place said.5 e)

-- a message that is marked at the end was asked for
marks_are_asked : (drop : List Message) (sent got : List ℕ) (marks : List Bool) → (honest : Honest drop sent got marks)
    → (place : ℕ) → slice_get marks place ≡ Some true → IsAsked honest.commands place
marks_are_asked drop _ _ marks honest place e =
    ⊎_elim (λ old. absurd (none_true drop place old)) (λ asked. asked)
    (marks_from _ (no_marks drop) marks honest.commands honest.replies place honest.replied e)

-- ---- for each message that was removed a DELE was begun

pub item_at : (drop : List Message) (place : ℕ) (m : Message) → slice_get drop place ≡ Some m
    → slice_get (listing_of drop) place ≡ Some (item_of m)
item_at drop place m e = slice_get-map item_of drop place ∙ ap (option_map item_of) e

-- ---- what was read of an honest server

-- texts of a maildrop's messages, and these messages
messages_of : (drop : List Message) (wanted : List (ℕ × Item)) (texts : List (List ℕ)) → AreTexts drop wanted texts
    → (ms : List Message) × AllByRecursion (IsIn drop) ms × (texts ≡ map (λ (m : Message). m.text) ms)
messages_of _ wanted [] _ = ([], tt, refl)
messages_of _ [] (text ∷ texts) are = absurd are
messages_of drop (w ∷ wanted) (text ∷ texts) ((m, there, is), are) =
    let more = messages_of _ wanted texts are in (m ∷ more.0, ((w.0 - 1, there), more.1), cc (is, more.2))

-- the text at a place is that of a message
text_at : (drop : List Message) (wanted : List (ℕ × Item)) (texts : List (List ℕ)) (n : ℕ) (text : List ℕ)
    → AreTexts drop wanted texts → slice_get texts n ≡ Some text → (m : Message) × IsIn drop m × (text ≡ m.text)
text_at _ wanted [] n text _ e = absurd cc
text_at _ [] (t ∷ texts) n text are e = absurd are
text_at _ (w ∷ wanted) (t ∷ texts) zero text ((m, there, is), _) e = (m, (w.0 - 1, there), sym (same_Some t text e) ∙ is)
text_at _ (w ∷ wanted) (t ∷ texts) (suc n) text are e = text_at _ wanted texts n _ are.1 e

-- the file is that of a message of the maildrop
abbrev IsFileOf : List ℕ → List Message → File → Type 0
IsFileOf account drop f = (message : Message) × IsIn drop message × (f ≡ mail_file account message.uid message.text)

-- a numbered message of the listing, and its text
abbrev IsPair : List ℕ → List Message → (ℕ × Item) × List ℕ → Type 0
IsPair account drop pair = IsFileOf account drop (file_for account pair)

pairs : (account : List ℕ) (drop : List Message) (wanted : List (ℕ × Item)) (texts : List (List ℕ)) (n : ℕ)
    → AllByRecursion (IsFirstAt (listing_of drop)) wanted → AreTexts drop wanted texts
    → AllByRecursion (IsPair account drop) (zip (take n wanted) texts)
pairs _ _ wanted texts zero first _ = tt
pairs _ _ [] texts (suc n) first _ = tt
pairs _ _ (w ∷ wanted) [] (suc n) first _ = tt
pairs account drop (w ∷ wanted) (text ∷ texts) (suc n) ((_, at, _), first) ((m, there, is), are) =
    let same = same_Some _ _ (sym at ∙ item_at drop (w.0 - 1) m there) in
    ((m, (w.0 - 1, there), rw (same, is) refl), pairs account _ wanted texts n first are)

module _ (laws : Below) {sent got : List ℕ} (effect : Effect) {drop : List Message} {vanished : List (List ℕ)}
    (sends : SendsOnly (IsBegun effect.listing effect.begun) sent)
    (served : Served drop sent got vanished) where
  same : sends.commands ≡ served.honest.commands
  same = laws.commands sends.commands served.honest.commands sent sends.asked served.honest.asked

  -- if the listing is the maildrop's, or nothing was begun
  vanished_begun : (effect.begun ≡ []) ⊎ (effect.listing ≡ listing_of drop) → AllByRecursion (λ id. has_id effect.begun id ≡ true) vanished
  vanished_begun listing_is = all_map _ served.marked (λ _ m.
      let asked = marks_are_asked _ _ _ _ served.honest m.0 m.2 in
      let begun = (all_back _ asked.0 _ (rw (same, asked.3) at sends.each)).0 in
      elim listing_is [
        | inl none ↦ absurd (both_ways false refl (sym (ap (λ b. has_id b begun.0.uid) none) ∙ begun.2))
        | inr is ↦
            let item : begun.0 ≡ item_of m.1 = same_Some _ _ (sym begun.1 ∙ rw (asked.4, is) (item_at drop m.0 m.1 m.3)) in
            rw (item, m.4) at begun.2
      ])

  pub session_honest : (wanted : List (ℕ × Item)) → ReadsReplies wanted sends.commands sent got effect → IsHonest wanted drop effect
  session_honest wanted r =
      let asked = User r.name ∷ Pass r.word ∷ Stat ∷ UidlAll ∷ ListAll ∷ r.more in
      let replies = r.user ∷ r.pass ∷ r.stat ∷ r.uidl ∷ r.list ∷ r.replies in
      let granted = honest_is_granted laws drop sent got served.marks asked replies served.honest r.talked in
      let numbered = texts_are_messages laws drop (no_marks drop) asked replies r.found r.talked.good granted r.retrieves in
      record {
        listing = listing_is_maildrop laws drop r.name r.word r.more r.user r.pass r.stat r.uidl r.list r.replies
            effect.listing r.talked.good granted r.listed;
        texts = rw r.texts (texts r.found wanted r.numbers numbered);
      }
    where
      texts : (found : List (ℕ × List ℕ)) (wanted : List (ℕ × Item))
          → map (λ (p : ℕ × List ℕ). p.0) found ≡ map (λ (p : ℕ × Item). p.0) (take (length found) wanted)
          → AllByRecursion (IsNumbered drop) found → AreTexts drop wanted (map (λ (p : ℕ × List ℕ). p.1) found)
      texts [] wanted e h = tt
      texts (f ∷ found) [] e h = absurd cc
      texts (f ∷ found) (w ∷ wanted) e ((m, there, text_is), h) =
          let head : f.0 ≡ w.0 = cc in
          let tail : map (λ (p : ℕ × List ℕ). p.0) found ≡ map (λ (p : ℕ × Item). p.0) (take (length found) wanted) = cc in
          ((m, rw (← head) there, text_is), texts found wanted tail h)

  -- so a step that was read is an honest one
  one_visit : {A B C : Type 0} (wanted : List (ℕ × Item)) → A ⊎ (C × ReadsReplies wanted sends.commands sent got effect)
      → (A → B) → (A → effect.begun ≡ [])
      → (B ⊎ (C × IsHonest wanted drop effect)) × AllByRecursion (λ id. has_id effect.begun id ≡ true) vanished
  one_visit wanted (inl left) leaves none = (inl (leaves left), vanished_begun (inl (none left)))
  one_visit wanted (inr (stores, reads)) _ _ = let honest = session_honest wanted reads
      in (inr (stores, honest), vanished_begun (inr honest.listing))

-- what a session did over an honest link is what it read of the maildrop, and a DELE was begun for each message that
-- its QUIT removed
pub served_session : Below → {settings : Settings} {account : List ℕ} {before : AccountMail} {sent got : List ℕ} {report : Report}
    {effect : Effect} {after : AccountMail} {drop : List Message} {vanished : List (List ℕ)}
    → (session : SessionOverLink settings account before sent got report effect after) → Served drop sent got vanished
    → (Leaves before effect after ⊎ (StoresTexts settings account before effect after report session.sends.commands session.sends.asked.part
    × IsHonest (wanted_at settings account before effect) drop effect)) × AllByRecursion (λ id. has_id effect.begun id ≡ true) vanished
served_session laws {settings} {account} {before} {effect = effect} session served =
    one_visit laws effect session.sends served (wanted_at settings account before effect) session.step
    (λ left. left.0) (λ left. left.0.begun)

pub mbox_served_session : Below → {settings : Settings} {before : MboxMail} {sent got : List ℕ} {report : Report} {effect : Effect}
    {after : MboxMail} {drop : List Message} {vanished : List (List ℕ)}
    → MboxSessionOverLink settings before sent got report effect after → Served drop sent got vanished
    → (MboxLeaves before effect after ⊎ (MboxStores settings before effect after report
    × IsHonest (mbox_wanted settings before effect) drop effect)) × AllByRecursion (λ id. has_id effect.begun id ≡ true) vanished
mbox_served_session laws {settings} {before} {effect = effect} session served =
    one_visit laws effect session.sends served (mbox_wanted settings before effect) session.step (λ left. left.0) (λ left. left.0.begun)

-- ---- whatever the server says, and if it is honest

abbrev Holds : Settings → List ℕ → AccountMail → List ℕ → List ℕ → Effect → AccountMail → Type 0
Holds settings account before sent got effect after = (safe : IsSafeSession settings account before sent effect after)
    × ((drop : List Message) (marks : List Bool) → Honest drop sent got marks → Leaves before effect after
    ⊎ BringsMessages account drop effect safe.gained)

pub session_holds : Below → {settings : Settings} {account : List ℕ} {before : AccountMail} {sent got : List ℕ}
    {report : Report} {effect : Effect} {after : AccountMail}
    → SessionOverLink settings account before sent got report effect after → Holds settings account before sent got effect after
session_holds laws {settings} {account} {before} {sent} {got} {report} {effect} {after} session = by session.step
  where
    by : (Leaves before effect after × (report.retrieved ≡ 0))
        ⊎ (StoresTexts settings account before effect after report session.sends.commands session.sends.asked.part
        × ReadsReplies (wanted_at settings account before effect) session.sends.commands sent got effect)
        → Holds settings account before sent got effect after
    by (inl (leaves, _)) = (
      record {
        gained = [];
        came = ap without_flags leaves.same ∙ sym (append-nil (without_flags before.maildir.files));
        sends = sends_allowed effect (wanted_at settings account before effect) (IsKnown settings account before effect)
            (λ id text. IsAmong (mail_file account id text) []) 0 (rw leaves.begun tt) session.sends;
      },
      λ _ _ _. inl leaves,
    )
    by (inr (stores, reads)) = (
      record {
        gained = _;
        came = stores.came;
        sends = sends_allowed effect _ _ (IsAdded settings account before effect stores.stored) stores.stored
            (all_map _ stores.begun (kept_ids settings account before effect laws stores)) session.sends;
      },
      λ drop marks honest.
          let is = session_honest laws effect {drop = drop} {vanished = []} session.sends
          (record { marks = marks; honest = honest; marked = tt }) (wanted_at settings account before effect) reads in
          let first = subst (λ (l : List Item). AllByRecursion (IsFirstAt l) (wanted_at settings account before effect))
          is.listing (wanted_first settings (is_odd account before.maildir) (merged_rows account before effect) effect.listing) in
          inr (
            is.listing,
            all_mapped (IsFileOf account drop) (file_for account) _ (all_filter (IsPair account drop) (is_unheld account before.maildir) _
                (pairs account drop (wanted_at settings account before effect) effect.texts stores.stored first is.texts)),
          ),
    )

-- ---- after a session that ended, the mboxrd file also stands for the texts that came: these are whole

retrieved_whole : (commands : List Command) (replies : List WholeReply) (found : List (ℕ × List ℕ))
    → Retrieves commands replies found → AllByRecursion IsWhole (map text_found found)
retrieved_whole commands [] found none = rw none tt
retrieved_whole [] (reply ∷ replies) found never = absurd never
retrieved_whole (Retr number ∷ commands) (reply ∷ replies) found (text, more, body, is, later) =
    rw is (rw body.read (text_whole body.lines), retrieved_whole commands replies more later)
retrieved_whole (other ∷ commands) (reply ∷ replies) found later = retrieved_whole commands replies found later

-- ---- entries after a file that stands for texts

pub texts_stand : EntryAddsText → (file : List ℕ) (first texts : List (List ℕ)) → AllByRecursion IsWhole texts
    → MboxFile file first → MboxFile (file ++ entries texts) (first ++ texts)
texts_stand _ _ first [] _ stands = simp append-nil stands
texts_stand adds file first (text ∷ texts) whole stands =
    let more = texts_stand adds (file ++ entry_of text) (first ++ text ∷ []) texts whole.1 (adds file text first stands whole.0) in
    rw (← append_assoc file (entry_of text) (entries texts), ← append_assoc first (text ∷ []) texts) more

-- ---- with an mboxrd file

abbrev MboxHolds : Settings → MboxMail → List ℕ → List ℕ → Report → Effect → MboxMail → Type 0
MboxHolds settings before sent got report effect after = MboxIsSafe settings before sent effect after
    × (report.outcome ≡ Ended → AddsTexts settings before effect after)
    × ((drop : List Message) (marks : List Bool) → Honest drop sent got marks → MboxLeaves before effect after
    ⊎ AppendsMessages drop before effect after)

pub mbox_session_holds : Below → {settings : Settings} {before : MboxMail} {sent got : List ℕ} {report : Report}
    {effect : Effect} {after : MboxMail}
    → MboxSessionOverLink settings before sent got report effect after → MboxHolds settings before sent got report effect after
mbox_session_holds laws {settings} {before} {sent} {got} {report} {effect} {after} session = by session.step
  where
    by : (MboxLeaves before effect after × AsksForNone session.sends.commands session.sends.asked.part × (report.retrieved ≡ 0))
        ⊎ (MboxStores settings before effect after report
        × ReadsReplies (mbox_wanted settings before effect) session.sends.commands sent got effect)
        → MboxHolds settings before sent got report effect after
    by (inl (leaves, none, nothing)) = (
      record {
        file = ⊎_map (λ e. e) (λ cut. ([], cut ∙ sym (append-nil (settled effect.listing before).file))) leaves.file;
        sends = sends_allowed effect _ (IsRecorded settings before effect after report) (λ id. StandsAfter effect.listing before after) 0
            (rw leaves.begun tt) session.sends;
      },
      λ ended. absurd (both_ways effect.ended leaves.ended (session.ended.1 ended)),
      λ drop marks honest. inl leaves,
    )
    by (inr (stores, reads)) = (
      record {
        file = inr (_, (tail_of settings before effect after report stores).1);
        sends = sends_allowed effect _ (IsRecorded settings before effect after report)
            (λ id. StandsAfter effect.listing before after) stores.stored
            (all_map _ stores.begun (entered settings before effect after report laws stores)) session.sends;
      },
      λ ended.
          let same = simp length-map at (ap {B = ℕ} (λ (l : List (List ℕ)). length l) reads.texts) in
          let few = simp (length-map, length-take) at (ap {B = ℕ} (λ (l : List ℕ). length l) reads.numbers) in
          let (least, closed_is) = stores.ended (session.ended.1 ended) in
          let all : length effect.texts ≤ stores.stored = omega (arith, same, few, least) in
          let whole : AllByRecursion IsWhole effect.texts = rw reads.texts
          (retrieved_whole (User reads.name ∷ Pass reads.word ∷ Stat ∷ UidlAll ∷ ListAll ∷ reads.more)
          (reads.user ∷ reads.pass ∷ reads.stat ∷ reads.uidl ∷ reads.list ∷ reads.replies) reads.found reads.retrieves) in
          let file : after.file ≡ (settled effect.listing before).file ++ entries effect.texts = elim stores.ending [
            | inl closed ↦ rw (closed.1, take_all stores.stored effect.texts all) refl
            | inr broken ↦ absurd (let never : Some _ ≡ None = sym broken.opened.intent ∙ closed_is in cc)
          ] in
          record {
            all = omega (arith, same, few, least, mbox_fetched stores);
            texts =
                λ first stands. rw file (texts_stand laws.adds (settled effect.listing before).file first effect.texts whole stands);
          },
      λ drop marks honest.
          let is = session_honest laws effect {drop = drop} {vanished = []} session.sends
          (record { marks = marks; honest = honest; marked = tt }) (mbox_wanted settings before effect) reads in
          let (found, each, texts) = messages_of drop (mbox_wanted settings before effect) effect.texts is.texts in
          let (rest, file, at_most) = tail_of settings before effect after report stores in
          inr (record {
            listing = is.listing;
            messages = take stores.stored found;
            each = all_take _ _ found each;
            rest = rest;
            file = file ∙ ap (λ (l : List (List ℕ)). (settled effect.listing before).file ++ (entries l ++ rest))
                (ap (take stores.stored) texts ∙ take-map _ stores.stored found)
                ∙ ap (λ b. (settled effect.listing before).file ++ (b ++ rest))
                (flat_map-map entry_of (λ (m : Message). m.text) (take stores.stored found));
            at_most = ⊎_map (λ none. none) (λ b. let (m, there, same) =
                text_at drop (mbox_wanted settings before effect) effect.texts stores.stored b.0.text is.texts b.0.got
                in (m, b.0.opened.behind, there, rw (← same) b.1)) at_most;
          }),
    )
