-- What the laws come to follows from them.
use Rattle.std.{
  proofs.Common.{◌≡◌, ◌⊎◌, inl, inr, ◌++◌, ◌&&◌, ◌||◌, ◌≤◌, ◌==◌, ℕ, zero, suc, take, Bool, true, false, not, List, [], ◌∷◌, map, length},
  proofs.{Common.{refl, sym, ap, subst, ◌∙◌, arith, None, Some, append_assoc}, Math.Logic.⊎_elim},
  proofs.lemmas.{Bool.{both_ways, cases_Bool, false_from_ne_true, or_cases, or_left, or_right}, List.{append-nil, length-map, take_all}},
  specs.List.{AllByRecursion, filter, list_any},
}
use Rattle.pop3_wire.specs.{World.Message, declared.wire.Wire.Ghosts as WireGhosts}
use Rattle.mail_terms.specs.{Distinct.AreDistinct, Text.IsWhole, UniqueId.{has_id, is_legal_id}}
use Rattle.rc_file.specs.declared.settings.Settings.{Settings}
use Rattle.fetch_record.specs.Record.{is_delivered}
use Rattle.fetch_rules.specs.Wanted.{at_most, limit_or_all}
use Rattle.mail_store.specs.{
  Devices.stored_in,
  FileName.{is_held, names_id, stem_of},
  Loss.LosesPower,
  Maildir.{File, Maildir},
  Mboxrd.entry_of,
  declared.{file.flat_file.FlatFile.Ghosts as FileGhosts, maildir.disk.MaildirDisk.Ghosts as DiskGhosts},
}
use Rattle.session_parts.specs.{
  Account.digits_of,
  Target.mail_in,
  declared.{report.Outcome.TheVariants.Ended, work.Store.TheVariants.Mboxrd as InMbox},
}
use Rattle.fetch_runs.{
  specs.Accounts.{AccountMail, copies, files, has_named, is_selected, message_ids, selected, texts_of, without, without_flags},
  specs.{Below.Below, Calls.{Called, CallsKeepPromises, IsCall, IsLeftByLoss, IsPromised, KeepsEntries, Lost, with_left}},
  specs.Calls.{MboxCallsKeepPromises, ShowsMbox},
  specs.Headline.{Headline, HoldsAMboxPrefix, HoldsAPrefix, IsInOrder, MboxHeadline, World, selected_of, world_without},
  specs.Losses.{IsDurableFront, is_durable},
  specs.Outcomes.{FirstsAreEntries, FirstsArePrefixes, IsFirstCall, LossesKeepEntries, LossesKeepTheRecorded, LossesTakeOne, no_entries},
  specs.Promises.{AppendsMail, Base, Call, Devices, HoldsEntries, Invariant, IsOf, IsTextOf, Mail, Stands, State, is_entered},
  specs.Promises.{may_fetch, state_with},
  specs.{Sessions.{MboxMail, entries_of}, Witnesses.{HaveNamedTexts, mail_named}},
  proofs.Calls.{empty_is_kept, entered_more, mbox_fronts_begin, same_front, stands_as},
  proofs.Losses.{held_back, is_safe_after, same_bits},
  proofs.Progress.among,
  proofs.Core.{IsLegal, message_file, message_size},
  proofs.Lists.{Distinct, all_at, all_back, all_both, all_filter, all_front, all_ids_at, all_map, all_take, bytes_same, bytes_self},
  proofs.Lists.{distinct_filter, distinct_is, distinct_take, filter_all, has_texts, ids_both, is_some, members, reached_copies},
  proofs.Witnesses.{account_is, premises_hold},
  proofs.Promised.{copies_came, copies_messages, held_copies, named_messages, take_within},
}

pub none_gone : (taken gone : List File) → taken ++ gone ≡ taken → gone ≡ []
none_gone [] gone is = is
none_gone (f ∷ taken) gone is = none_gone taken gone cc

pub losses_keep_the_recorded : {W D F : Type 0} (link : WireGhosts W) (disk : DiskGhosts D) (files : FileGhosts F)
    → CallsKeepPromises link disk files → LossesKeepTheRecorded link disk files
losses_keep_the_recorded link disk files law mail state devices call first second account again shows kept safe none account_is is same
    trust lost lost_again id =
    let (_, _, then) = law mail state devices (Called call ∷ Lost first account ∷ Lost second again ∷ []) shows kept in
    let (done, (_, _, loss)) = then account_is is in
    let (safe', (_, kept', loss')) = loss (done.safe trust safe) lost in
    let (_, (_, kept'')) = loss' safe' lost_again in
    let taken_is : done.left.taken ≡ state.account.maildir.taken = sym done.taken_is ∙ ap (λ (m : Maildir). m.taken) done.shows.maildir
    ∙ same ∙ ap (λ (m : Maildir). m.taken) (sym shows.maildir) in
    let gone : done.taken.gone ≡ [] = none_gone state.account.maildir.taken done.taken.gone
    (sym (ap (λ (m : Maildir). m.taken) done.taken.is) ∙ taken_is) in
    let front = stem_of mail.account id in
    let reached : copies done.left.files front ≡ copies state.account.maildir.files front =
    reached_copies front state.account.maildir.files done.left.files (rw gone at done.taken.files) in
    let held : is_held mail.account done.left id ≡ is_held mail.account state.account.maildir id =
    held_copies mail.account (record state.account { maildir = done.left }) id ∙ ap is_some reached
    ∙ sym (held_copies mail.account state.account id) in
    let grown : is_held mail.account done.left id ≡ true → is_held mail.account done.after.maildir id ≡ true =
    λ there. held_copies mail.account done.after id
    ∙ ap is_some (copies_came done.left.files done.after.maildir.files _ front done.promises.added)
    ∙ still_some (copies done.left.files front) _
    (sym (held_copies mail.account (record state.account { maildir = done.left }) id) ∙ there) in
    let still = bits (is_held mail.account state.account.maildir id) (is_held mail.account done.left id)
    (is_held mail.account done.after.maildir id) (state.taken id) (has_named mail.account done.left id)
    (has_named mail.account done.after.maildir id) in (
      λ recorded. still (is_held mail.account account.maildir id) held (none id) grown (kept'.recorded id recorded).1,
      λ recorded. still (is_held mail.account again.maildir id) held (none id) grown (kept''.recorded id recorded).1,
    )
  where
    still_some : {X : Type 0} (xs ys : List X) → is_some xs ≡ true → is_some (xs ++ ys) ≡ true
    still_some [] ys never = absurd cc
    still_some (x ∷ xs) ys some = refl

    bits : (was held after taken named named' now : Bool) → held ≡ was → taken ≡ false → (held ≡ true → after ≡ true)
        → (now || (((held || (((was || taken) && not held) || (taken && not named))) && not after)
        || ((((was || taken) && not held) || (taken && not named)) && not named'))) ≡ true → now ≡ true
    bits was held after taken named named' now same none grown is = grind (arith, same, none, grown, is)

-- ---- a first call

without_none : (ms : List Message) → without [] ms ≡ ms
without_none [] = refl
without_none (m ∷ ms) = ap (λ (rest : List Message). m ∷ rest) (without_none ms)

-- all messages without limits are in order
all_in_order : {IsDone : List ℕ → Type 0} (settings : Settings) (all maildrop : List Message) → maildrop ≡ all
    → IsInOrder settings.max_size (without [] all) IsDone settings maildrop
all_in_order settings all maildrop shown = record {
  sizes = refl;
  come = length all;
  gone = [];
  done = tt;
  shown = shown ∙ sym (rw (without_none all, take_all (length all) all (omega arith)) (without_none all));
}

-- as many are taken, if these are no fewer than those, and no more than asked for
same_take : {X : Type 0} (j n : ℕ) (xs : List X) → length (take n xs) ≤ length (take j xs) → length (take j xs) ≤ n
    → take j xs ≡ take n xs
same_take zero zero xs few most = refl
same_take zero (suc n) [] few most = refl
same_take zero (suc n) (x ∷ xs) few most = absurd (omega (arith, few))
same_take (suc j) zero [] few most = refl
same_take (suc j) zero (x ∷ xs) few most = absurd (omega (arith, most))
same_take (suc j) (suc n) [] few most = refl
same_take {X} (suc j) (suc n) (x ∷ xs) few most =
    let few' : length (x ∷ take n xs) ≤ length (x ∷ take j xs) = few in
    let most' : length (x ∷ take j xs) ≤ suc n = most in
    ap (λ (rest : List X). x ∷ rest) (same_take j n xs (omega (arith, few')) (omega (arith, most')))

-- what may be fetched of messages that aren't known, whose names are free
may_all : (settings : Settings) (is_odd known : List ℕ → Bool) → ((id : List ℕ) → is_odd id ≡ false)
    → ((id : List ℕ) → known id ≡ false) → (ms : List Message)
    → filter (may_fetch settings is_odd known) ms ≡ selected settings.max_size ms
may_all settings is_odd known clear none [] = refl
may_all settings is_odd known clear none (m ∷ ms) =
    rw (same, may_all settings is_odd known clear none ms) refl
  where
    same : may_fetch settings is_odd known m ≡ is_selected settings.max_size m
    same = elim (cases_Bool settings.read_all) [
      | inl is ↦ rw (is, clear m.uid) refl
      | inr isnt ↦ rw (isnt, none m.uid, clear m.uid) refl
    ]

-- what is held or taken away, and isn't taken away, is held
untaken : (held taken : Bool) → (held || taken) ≡ true → taken ≡ false → held ≡ true
untaken held taken is none = grind (arith, is, none)

empty_of : {X : Type 0} (xs : List X) → is_some xs ≡ false → xs ≡ []
empty_of [] none = refl
empty_of (x ∷ xs) never = absurd cc

module _ (laws : Below) {W D F : Type 0} (link : WireGhosts W) (disk : DiskGhosts D) (files : FileGhosts F)
    (law : Headline link disk files) (text : List ℕ → List ℕ) (all : List Message) (devices : Devices D F) (call : Call W D F)
    (one : IsFirstCall link disk files text all devices call) where
  abbrev mail : Mail
  mail = mail_named call.settings text

  abbrev state : State
  state = record { account = record { rows = []; maildir = disk.maildir devices.store }; gone = []; taken = λ id. false }

  abbrev world : World Mail
  world = record { start = mail; size_limit = call.settings.max_size; all = all }

  abbrev fit : List Message
  fit = selected call.settings.max_size all

  kept : Invariant mail state
  kept = empty_is_kept mail state refl refl (λ id l. rw one.no_file refl)

  legal_all : AllByRecursion IsLegal all
  legal_all = all_map _ one.each (λ m named. named.0)

  -- nothing is held yet
  start : IsDurableFront mail state (selected_of world)
  start = record {
    is = record { done = []; rest = selected_of world; prefix = refl; is_done = λ id l. rw one.no_file refl };
    first = [];
    last = [];
    done = refl;
    at_most_one = omega arith;
    named = tt;
  }

  record First : Type 0 where
    done : IsPromised link disk files mail state devices call
    durable : IsDurableFront mail (state_with mail (with_left mail state done.left) call.vanished done.after)
        (selected_of (world_without [] world))
    prefix : HoldsAPrefix (world_without [] world) (state_with mail (with_left mail state done.left) call.vanished done.after)

  first : First
  first =
      let (_, _, then) = law world state devices (Called call ∷ [])
      ((premises_hold laws link disk files).sound call.settings text call.settings.max_size all one.each one.distinct)
      (record { intent = None; record_is = rw one.no_record (refl, refl); maildir = refl }) kept
      start.is in
      let (done, (durable, (_, prefix))) = then [] tt (all_in_order call.settings all call.maildrop one.shown) refl one.is one.none_odd in
      record { done = done; durable = durable start; prefix = prefix }

  abbrev done : IsPromised link disk files mail state devices call
  done = first.done

  abbrev new : State
  new = state_with mail (with_left mail state done.left) call.vanished done.after

  left_none : (id : List ℕ) → is_held mail.account done.left id ≡ false
  left_none id = false_from_ne_true _ (λ held. both_ways (is_held mail.account (disk.maildir devices.store) id) (rw one.no_file refl)
      (held_back mail state done.left kept done.taken id held))

  none_taken : (id : List ℕ) → new.taken id ≡ false
  none_taken id = rw (left_none id, one.no_file) refl

  fit_is : selected_of (world_without [] world) ≡ fit
  fit_is = ap (selected call.settings.max_size) (without_none all)

  distinct_fit : Distinct (message_ids fit)
  distinct_fit = distinct_filter (is_selected call.settings.max_size) all (distinct_is all one.distinct)

  abbrev j : ℕ
  j = first.prefix.j

  abbrev n : ℕ
  n = limit_or_all call.settings.max_count (length fit)

  -- what is wanted is held
  wanted : AllByRecursion (λ (m : Message). has_id (message_ids (take j fit)) m.uid ≡ true) (take n fit)
  wanted =
      let clear' : done.after.maildir.odd ≡ [] = ap (λ (m : Maildir). m.odd) done.shows.maildir ∙ one.none_odd in
      let is_odd : List ℕ → Bool = λ id. list_any (names_id mail.account id) done.after.maildir.odd in
      let may = may_all call.settings is_odd (λ id. is_held mail.account done.left id) (λ id. rw clear' refl) left_none call.maildrop in
      let both : AllByRecursion (λ (m : Message). has_id (message_ids (take j fit)) m.uid ≡ true)
      (filter (λ (m : Message). is_held mail.account done.left m.uid) call.maildrop ++ at_most call.settings message_size
      (filter (may_fetch call.settings is_odd (λ id. is_held mail.account done.left id)) call.maildrop)) =
      all_map _ (done.promises.wanted one.ended).1 (λ m (safe, _).
      rw fit_is at (first.prefix.ids m.uid safe.0 (untaken (is_held mail.account done.after.maildir m.uid) (new.taken m.uid) safe.1
      (none_taken m.uid)))) in
      let got : AllByRecursion (λ (m : Message). has_id (message_ids (take j fit)) m.uid ≡ true)
      (at_most call.settings message_size
      (filter (may_fetch call.settings is_odd (λ id. is_held mail.account done.left id)) call.maildrop)) =
      all_back _ (filter (λ (m : Message). is_held mail.account done.left m.uid) call.maildrop) _ both in
      subst (λ (k : ℕ). AllByRecursion (λ (m : Message). has_id (message_ids (take j fit)) m.uid ≡ true)
      (take (limit_or_all call.settings.max_count k) fit)) (length-map fit message_size)
      (subst (λ (ms : List Message). AllByRecursion (λ (m : Message). has_id (message_ids (take j fit)) m.uid ≡ true)
      (at_most call.settings message_size ms)) (may ∙ ap (selected call.settings.max_size) one.shown) got)

  texts_left : (id : List ℕ) → is_legal_id id ≡ true → copies done.after.maildir.files (stem_of mail.account id) ≡ texts_of (take j fit) id
  texts_left id l = ⊎_elim (λ same. rw fit_is at same) (λ (taken, _). absurd (both_ways (new.taken id) (none_taken id) taken))
      (first.prefix.texts id l)

  -- what is held has come
  has_come : (m : Message) → (is_legal_id m.uid ≡ true) → has_id (message_ids (take j fit)) m.uid ≡ true
      → has_id (message_ids done.promises.came) m.uid ≡ true
  has_come m l there =
      let front = stem_of mail.account m.uid in
      let account = account_is laws call.settings text all one.each one.distinct in
      let legal_came = all_map _ done.promises.new (λ k new. all_at (λ x. is_legal_id x ≡ true) call.maildrop
      (all_map _ one.is.maildrop.each (λ i of. of.legal)) new.shown) in
      let before : copies done.left.files front ≡ [] = empty_of (copies done.left.files front)
      (sym (held_copies mail.account (record state.account { maildir = done.left }) m.uid) ∙ left_none m.uid) in
      let after : copies done.after.maildir.files front ≡ texts_of done.promises.came m.uid =
      copies_came done.left.files done.after.maildir.files (map (message_file mail.account) done.promises.came) front
      (done.promises.added ∙ ap (λ fs. without_flags done.left.files ++ fs)
      (sym (named_messages laws mail.account account done.promises.came)))
      ∙ rw before (copies_messages laws mail.account account done.promises.came m.uid l legal_came) in
      let held : copies done.after.maildir.files front ≡ texts_of (take j fit) m.uid = texts_left m.uid l in
      has_texts done.promises.came m.uid ∙ ap is_some (sym after ∙ held) ∙ sym (has_texts (take j fit) m.uid) ∙ there

  most : length (take j fit) ≤ n
  most =
      let legal = all_filter IsLegal (is_selected call.settings.max_size) all legal_all in
      let there = all_both (take j fit) (members (take j fit)) (all_take IsLegal j fit legal) (λ m there l. has_come m l there) in
      let b : length (take j fit) ≤ length done.promises.came =
      rw (filter_all (λ (m : Message). has_id (message_ids done.promises.came) m.uid) (take j fit) there)
      at (among done.promises.came (take j fit) (distinct_take j fit distinct_fit)) in
      elim (cases_Bool (call.settings.max_count == 0)) [
        | inl none ↦ rw none (take_within j fit).1
        | inr some ↦
            let m : length done.promises.came ≤ call.settings.max_count = rw some at done.promises.few in
            let r : length (take j fit) ≤ call.settings.max_count = omega (arith, b, m) in
            rw some r
      ]

  pub firsts : (id : List ℕ) → is_legal_id id ≡ true
      → copies (disk.maildir call.after.store).files (stem_of (digits_of call.settings) id) ≡ texts_of (take n fit) id
  firsts id l =
      let a : length (take n fit) ≤ length (take j fit) =
      rw (filter_all (λ (m : Message). has_id (message_ids (take j fit)) m.uid) (take n fit) wanted)
      at (among (take j fit) (take n fit) (distinct_take n fit distinct_fit)) in
      ap (λ (m : Maildir). copies m.files (stem_of (digits_of call.settings) id)) (sym done.shows.maildir) ∙ texts_left id l
      ∙ ap (λ (ms : List Message). texts_of ms id) (same_take j n fit a most)

  module _ (left : Devices D F) (account : AccountMail) (lost : IsLeftByLoss disk files call.after left account) where
    loses : LosesPower done.after.maildir account.maildir
    loses = rw (done.shows.maildir, lost.shows.maildir) lost.maildir

    -- what was fetched was held before the loss; and what had a durable name is held after it
    held_or_last : (m : Message) → has_id (message_ids (take n fit)) m.uid ≡ true → is_legal_id m.uid ≡ true
        → (is_held mail.account account.maildir m.uid || has_id (message_ids first.durable.last) m.uid) ≡ true
    held_or_last m there l =
        let held : is_held mail.account done.after.maildir m.uid ≡ true = held_copies mail.account done.after m.uid
        ∙ ap is_some (ap (λ (d : Maildir). copies d.files (stem_of mail.account m.uid)) done.shows.maildir ∙ firsts m.uid l)
        ∙ sym (has_texts (take n fit) m.uid) ∙ there in
        let in_done : has_id (message_ids first.durable.is.done) m.uid ≡ true = first.durable.is.is_done m.uid l ∙ or_left _ _ held in
        let parts = sym (ids_both first.durable.first first.durable.last m.uid)
        ∙ ap (λ ms. has_id (message_ids ms) m.uid) (sym first.durable.done) ∙ in_done in
        ⊎_elim (λ durable. or_left _ _ (untaken (is_held mail.account account.maildir m.uid) (new.taken m.uid)
        (is_safe_after mail new account loses m.uid
        (all_at (λ x. is_durable mail new x ≡ true) first.durable.first first.durable.named durable))
        (none_taken m.uid)))
        (λ last. or_right _ _ last) (or_cases _ _ parts)

    pub all_but_one : (last : List Message) × (length last ≤ 1)
        × AllByRecursion (λ (m : Message). (is_held mail.account account.maildir m.uid || has_id (message_ids last) m.uid) ≡ true)
        (take n fit)
    all_but_one = (
      first.durable.last,
      first.durable.at_most_one,
      all_both (take n fit) (members (take n fit))
          (all_take IsLegal n fit (all_filter IsLegal (is_selected call.settings.max_size) all legal_all)) held_or_last,
    )

pub firsts_are_prefixes : Below → {W D F : Type 0} (link : WireGhosts W) (disk : DiskGhosts D) (files : FileGhosts F)
    → Headline link disk files → FirstsArePrefixes link disk files
firsts_are_prefixes laws link disk files law text all devices call each distinct shown no_file no_record is none_odd ended =
    firsts laws link disk files law text all devices call (record {
      each = each;
      distinct = distinct;
      shown = shown;
      no_file = no_file;
      no_record = no_record;
      is = is;
      none_odd = none_odd;
      ended = ended;
    })

pub losses_take_one : Below → {W D F : Type 0} (link : WireGhosts W) (disk : DiskGhosts D) (files : FileGhosts F)
    → Headline link disk files → LossesTakeOne link disk files
losses_take_one laws link disk files law text all devices call left account one lost =
    all_but_one laws link disk files law text all devices call one left account lost

-- ---- with an mboxrd file

-- one of these entries is that of an id
has_entry : (base : Base) (id : List ℕ) (ms : List Message) → AllByRecursion (IsOf (IsTextOf base)) ms
    → has_id (message_ids ms) id ≡ true
    → (front behind : List ℕ) × (entries_of ms ≡ front ++ (entry_of (base.text id) ++ behind))
has_entry base id [] are there = absurd (both_ways false refl there)
has_entry base id (m ∷ ms) (is, are) there = ⊎_elim
    (λ here. (
      [],
      entries_of ms,
      ap (λ (text : List ℕ). entry_of text ++ entries_of ms) (is.text.0 ∙ ap base.text (sym (bytes_same id m.uid here))),
    ))
    (λ later. let (front, behind, is_there) = has_entry base id ms are later in (
      entry_of m.text ++ front,
      behind,
      ap (λ (bytes : List ℕ). entry_of m.text ++ bytes) is_there ∙ sym (append_assoc (entry_of m.text) front _),
    ))
    (or_cases _ _ there)

-- so one of the file is, after what it began with and before what follows
in_file : (base : Base) (id : List ℕ) (ms : List Message) (bytes part : List ℕ) → AllByRecursion (IsOf (IsTextOf base)) ms
    → has_id (message_ids ms) id ≡ true → bytes ≡ (base.start ++ entries_of ms) ++ part
    → (front behind : List ℕ) × (bytes ≡ front ++ (entry_of (base.text id) ++ behind))
in_file base id ms bytes part are there whole =
    let (front, behind, is) = has_entry base id ms are there in
    let entry = entry_of (base.text id) in (
      base.start ++ front,
      behind ++ part,
      whole ∙ append_assoc base.start (entries_of ms) part ∙ ap (λ (b : List ℕ). base.start ++ (b ++ part)) is
          ∙ ap (λ (b : List ℕ). base.start ++ b) (append_assoc front (entry ++ behind) part
          ∙ ap (λ (b : List ℕ). front ++ b) (append_assoc entry behind part))
          ∙ sym (append_assoc base.start front (entry ++ (behind ++ part))),
    )

module _ (base : Base) (id : List ℕ) (unknown : base.had id ≡ false) where
  -- what is entered, and wasn't recorded before, has an entry
  since : (ms : List Message) → is_entered base ms id ≡ true → has_id (message_ids ms) id ≡ true
  since ms entered = let either : (base.had id || has_id (message_ids ms) id) ≡ true = entered in grind (arith, either, unknown)

  among_recorded : (ms : List Message) (account : MboxMail) → HoldsEntries base ms account → is_delivered account.rows id ≡ true
      → has_id (message_ids ms) id ≡ true
  among_recorded ms account holds recorded = since ms (sym (holds.recorded id) ∙ recorded)

  recorded_in : (ms : List Message) (account : MboxMail) → HoldsEntries base ms account → is_delivered account.rows id ≡ true
      → (front behind : List ℕ) × (account.file ≡ front ++ (entry_of (base.text id) ++ behind))
  recorded_in ms account holds recorded =
      let (part, whole) = stands_as base (base.start ++ entries_of ms) account holds.stands in
      in_file base id ms account.file part holds.are.each (among_recorded ms account holds recorded) whole

  kept_in : (ms : List Message) (bytes : List ℕ) → KeepsEntries base ms bytes → has_id (message_ids ms) id ≡ true
      → (front behind : List ℕ) × (bytes ≡ front ++ (entry_of (base.text id) ++ behind))
  kept_in ms bytes keeps there = in_file base id keeps.kept bytes keeps.begins.0 keeps.are.each (keeps.same id ∙ there) keeps.begins.1

pub losses_keep_entries : {W D F : Type 0} (link : WireGhosts W) (disk : DiskGhosts D) (files : FileGhosts F)
    → MboxCallsKeepPromises link disk files → LossesKeepEntries link disk files
losses_keep_entries link disk files law base done account devices call first second now again shows holds safe only_new is trust lost
    lost_again id unknown =
    let (_, _, then) = law base done account devices (Called call ∷ Lost first now ∷ Lost second again ∷ []) shows holds in
    let (sent, after, _, _, appends, on, (_, _, loss)) = then only_new is in
    let (keeps, safe', (held, (_, holds', loss'))) = loss (on trust safe) lost in
    let (keeps', _, (held', (_, holds''))) = loss' safe' lost_again in (
      λ there. ⊎_elim
          (λ before. kept_in base id unknown (done ++ appends.more) now.file keeps (since base id unknown _
          (entered_more base done appends.more id (sym (holds.recorded id) ∙ before))))
          (λ later. ⊎_elim
          (λ gone. kept_in base id unknown (done ++ appends.more) now.file keeps (since base id unknown _
          (all_ids_at (λ x. is_entered base (done ++ appends.more) x ≡ true) call.vanished appends.vanished gone)))
          (λ recorded. recorded_in base id unknown held now holds' recorded) (or_cases _ _ later)) (or_cases _ _ there),
      λ there. ⊎_elim
          (λ before. kept_in base id unknown held again.file keeps' (among_recorded base id unknown held now holds' before))
          (λ recorded. recorded_in base id unknown held' again holds'' recorded) (or_cases _ _ there),
    )

-- of a maildrop that is all wanted all is, if only what is new is read and their number isn't limited
all_entered : (settings : Settings) (known : List ℕ → Bool) (P : Message → Type 0) → settings.read_all ≡ false → (ms : List Message)
    → AllByRecursion P (filter (λ (m : Message). known m.uid) ms)
    → AllByRecursion P (filter (may_fetch settings (λ id. false) known) ms) → AllByRecursion P (selected settings.max_size ms)
all_entered settings known P new [] old may = tt
all_entered settings known P new (m ∷ ms) old may =
    by (known m.uid) refl (λ were wanted. all_entered settings known P new ms were wanted)
  where
    by : (is : Bool) → known m.uid ≡ is → (AllByRecursion P (filter (λ (x : Message). known x.uid) ms)
        → AllByRecursion P (filter (may_fetch settings (λ id. false) known) ms) → AllByRecursion P (selected settings.max_size ms))
        → AllByRecursion P (selected settings.max_size (m ∷ ms))
    by true is later =
        let were = rw is at old in
        let rest = later were.1 (rw (new, is) at may) in
        elim (cases_Bool (is_selected settings.max_size m)) [
          | inl fits ↦ rw fits (were.0, rest)
          | inr big ↦ rw big rest
        ]
    by false is later = elim (cases_Bool (is_selected settings.max_size m)) [
      | inl fits ↦ let wanted = rw (new, is, fits) at may in rw fits (wanted.0, later (rw is at old) wanted.1)
      | inr big ↦ rw big (later (rw is at old) (rw (new, is, big) at may))
    ]

all_taken : (settings : Settings) → settings.max_count ≡ 0 → (ms : List Message) → at_most settings message_size ms ≡ ms
all_taken settings none ms = rw none (take_all (length (map message_size ms)) ms (omega (arith, length-map ms message_size)))

module _ (laws : Below) {W D F : Type 0} (link : WireGhosts W) (disk : DiskGhosts D) (files : FileGhosts F)
    (law : MboxHeadline link disk files) (text : List ℕ → List ℕ) (all : List Message) (devices : Devices F F) (call : Call W F F)
    (each : HaveNamedTexts text all) (whole : AllByRecursion (λ (m : Message). IsWhole m.text) all)
    (distinct : AreDistinct (message_ids all)) (shown : call.maildrop ≡ all)
    (no_record : (stored_in files devices.file).content ≡ None) (new : call.settings.read_all ≡ false)
    (is : IsCall link disk files InMbox files.sound (IsTextOf (no_entries text (mail_in (stored_in files devices.store).content)))
    devices call) where
  abbrev base : Base
  base = no_entries text (mail_in (stored_in files devices.store).content)

  abbrev mbox_world : World Base
  mbox_world = record { start = base; size_limit = call.settings.max_size; all = all }

  abbrev old : MboxMail
  old = record { rows = []; intent = None; file = base.start }

  abbrev fits : List Message
  fits = selected call.settings.max_size all

  record Entered : Type 0 where
    sent : List ℕ
    after : MboxMail
    shows : ShowsMbox files call.after after
    holds : HoldsEntries base [] old
    appends : AppendsMail base holds call sent after
    prefix : HoldsAMboxPrefix (world_without [] mbox_world) appends.more after

  entered : Entered
  entered =
      let (_, begun, then) = law mbox_world [] old devices (Called call ∷ [])
      ((premises_hold laws link disk files).entries base all (all_both all each whole (λ m (l, is_named) is_whole. (l, is_named, is_whole)))
      distinct) (record { record_is = rw no_record (refl, refl); bytes = refl })
      (mbox_fronts_begin mbox_world old [] (selected_of mbox_world) refl refl (λ id. refl)) in
      let (sent, after, _, shows, appends, _, (_, prefix)) = then [] tt (all_in_order call.settings all call.maildrop shown) new is in
      record { sent = sent; after = after; shows = shows; holds = begun.holds; appends = appends; prefix = prefix }

  abbrev more : List Message
  more = entered.appends.more

  none_had : (ms : List Message) → ((id : List ℕ) → false ≡ has_id (message_ids ms) id) → ms ≡ []
  none_had [] had = refl
  none_had (m ∷ ms) had = absurd (both_ways false refl (had m.uid ∙ or_left _ _ (bytes_self m.uid)))

  abbrev rest : List Message
  rest = entered.prefix.front.rest

  fits_are : fits ≡ more ++ rest
  fits_are = sym (ap (selected call.settings.max_size) (without_none all)) ∙ entered.prefix.front.prefix
      ∙ ap (λ (first : List Message). (first ++ more) ++ rest) (none_had entered.prefix.front.first entered.prefix.front.had)

  all_are : call.settings.max_count ≡ 0 → call.report.outcome ≡ Ended
      → AllByRecursion (λ (m : Message). has_id (message_ids more) m.uid ≡ true) fits
  all_are no_count ended =
      let known : List ℕ → Bool = is_entered base entered.appends.found in
      let wanted = filter (may_fetch call.settings (λ id. false) known) call.maildrop in
      let both : AllByRecursion (λ (m : Message). has_id (message_ids more) m.uid ≡ true)
      (filter (λ (m : Message). known m.uid) call.maildrop ++ at_most call.settings message_size wanted) =
      (entered.appends.wanted ended).1 in
      subst (λ (ms : List Message). AllByRecursion (λ (m : Message). has_id (message_ids more) m.uid ≡ true)
      (selected call.settings.max_size ms)) shown (all_entered call.settings known (λ (m : Message). has_id (message_ids more) m.uid ≡ true)
      new call.maildrop (all_front _ (filter (λ (m : Message). known m.uid) call.maildrop) _ both)
      (subst (λ (ms : List Message). AllByRecursion (λ (m : Message). has_id (message_ids more) m.uid ≡ true) ms)
      (all_taken call.settings no_count wanted) (all_back _ (filter (λ (m : Message). known m.uid) call.maildrop) _ both)))

  more_are : call.settings.max_count ≡ 0 → call.report.outcome ≡ Ended → more ≡ fits
  more_are no_count ended = same_front more fits rest [] (sym fits_are ∙ sym (append-nil fits))
      (subst (λ (ms : List Message). Distinct (message_ids ms)) fits_are
      (distinct_filter (is_selected call.settings.max_size) all (distinct_is all distinct)))
      (λ id. same_bits (has_id (message_ids more) id) (has_id (message_ids fits) id)
      (λ there. ap (λ ms. has_id (message_ids ms) id) fits_are ∙ ids_both more rest id ∙ or_left _ _ there)
      (λ there. all_at (λ x. has_id (message_ids more) x ≡ true) fits (all_are no_count ended) there))

  abbrev IsLeft : Type 0
  IsLeft = (ms : List Message) × (part behind : List ℕ)
      × (mail_in (stored_in files call.after.store).content ≡ (base.start ++ entries_of ms) ++ part)
      × ((part ≡ []) ⊎ ((m : Message) × (entry_of m.text ≡ part ++ behind)))
      × (call.settings.max_count ≡ 0 → call.report.outcome ≡ Ended → (part ≡ []) × (ms ≡ fits))

  pub all_entries : IsLeft
  all_entries = by entered.appends.kept.stands refl
    where
      by : (stands : Stands base (base.start ++ entries_of more) entered.after) → entered.appends.kept.stands ≡ stands → IsLeft
      by (inl (closed, file)) same = (
        more,
        [],
        [],
        sym entered.shows.bytes ∙ file ∙ sym (append-nil (base.start ++ entries_of more)),
        inl refl,
        λ no_count ended. (refl, more_are no_count ended),
      )
      by (inr open_) same = ⊎_elim
          (λ unchanged. (
            [],
            [],
            [],
            sym entered.shows.bytes ∙ unchanged ∙ sym (append-nil (base.start ++ []) ∙ append-nil base.start),
            inl refl,
            λ no_count ended. absurd (let never : Some _ ≡ None = sym open_.intent ∙ entered.appends.closed ended in cc),
          ))
          (λ (behind, entry). (
            more,
            open_.part,
            behind,
            sym entered.shows.bytes ∙ open_.file,
            inr (open_.next, entry),
            λ no_count ended. absurd (let never : Some _ ≡ None = sym open_.intent ∙ entered.appends.closed ended in cc),
          ))
          (entered.appends.part open_ same)

pub firsts_are_entries : Below → {W D F : Type 0} (link : WireGhosts W) (disk : DiskGhosts D) (files : FileGhosts F)
    → MboxHeadline link disk files → FirstsAreEntries link disk files
firsts_are_entries laws link disk files law text all devices call each whole distinct shown no_record new is =
    all_entries laws link disk files law text all devices call each whole distinct shown no_record new is
