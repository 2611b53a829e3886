-- A loss of power between two calls leaves a state with the invariant, if what is recorded or gone is durable; and calls and
-- others keep that.
use Rattle.std.{
  proofs.Common.{◌≡◌, ◌⊎◌, inl, inr, ℕ, List, [], ◌∷◌, ◌++◌, true, false, length, Option, refl, sym, ◌∙◌, arith, bytes_eq, ⊎_elim, Bool},
  proofs.Common.{ap, subst, map, append_assoc, ◌≤◌, ◌<◌, not, ◌||◌, ◌&&◌},
  proofs.lemmas.Bool.{both_ways, cases_Bool, or_left, or_right, or_cases, and_from},
  proofs.lemmas.List.{append-nil, append_cancel_left, nil_from_length, length-map, Elements.filter-append, Folds.list_any-append},
  specs.List.{AllByRecursion, filter, list_any},
}
use Rattle.mail_store.specs.{
  Devices.stored_in,
  Durable.{Disk, MayLeave},
  FileName.{is_held, name_of, names_id, stem, stem_of},
  Loss.{AreLeftAs, LosesPower},
  Maildir.{AllNamed, AreReached, File, IsDurableFile, IsWithout, Maildir, WereTaken, file},
  declared.file.flat_file.FlatFile.Ghosts as FileGhosts,
}
use Rattle.mail_terms.specs.UniqueId.{has_id, is_legal_id}
use Rattle.pop3_wire.specs.World.{Message}
use Rattle.fetch_record.specs.{Record.{Intent, is_delivered}, RecordMeaning.FileStandsFor}
use Rattle.fetch_runs.{
  specs.{Calls.with_left, Accounts.{AccountMail, copies, has_named, without_flags, message_ids}, Below.Below},
  specs.Promises.{IsBetween, Mail, State, is_safe, state_with, IsFront, Invariant, Promises, ShowsNext, Call},
  specs.Losses.{DurableAccountsAreSafe, DurableFrontsBegin, IsCrashSafe, IsDurableFront, IsDurableFor, IsFlushedFor, TrustsRecord},
  specs.{Losses.{KeepsDurable, is_durable}, Order.AddsToFronts},
  proofs.{Promised.IsSession, Safety.served_session, State.came_too, LeftRecords.{LeavesDurably, all_named, kept_legal}},
  proofs.Lists.{fewer_copies, held_some, part_copies, reached_copies, some_held, all_append, all_both, all_filter, all_front, all_ids_at},
  proofs.Lists.{all_map, bytes_same, same_kept_rows, all_at, ids_both, members, all_back, none_or_one},
}

-- ---- files whose names are durable

abbrev pub any_named : (List ℕ → Bool) → List File → Bool
any_named p fs = list_any (λ (f : File). p f.name && f.is_named) fs

named_any : (p : List ℕ → Bool) (fs : List File) → any_named p fs ≡ true → list_any (λ (f : File). p f.name) fs ≡ true
named_any p [] never = never
named_any p (f ∷ fs) any = grind (arith, any, named_any p fs)

-- a loss of power leaves them, and all that it leaves is durable
any_left : (p : List ℕ → Bool) (fs left : List File) → AreLeftAs fs left → any_named p fs ≡ true
    → list_any (λ (f : File). p f.name) left ≡ true
any_left p [] _ _ never = absurd (both_ways false refl never)
any_left p (f ∷ fs) left (inl (gone, rest)) any = grind (arith, gone, any, any_left p fs left rest)
any_left p (f ∷ fs) left (inr (g, rest, is, like, more)) any = rw is (grind (arith, like.name, any, any_left p fs rest more))

-- nothing comes by it
any_before : (p : List ℕ → Bool) (fs left : List File) → AreLeftAs fs left
    → list_any (λ (f : File). p f.name) left ≡ true → list_any (λ (f : File). p f.name) fs ≡ true
any_before p [] _ is any = rw is at any
any_before p (f ∷ fs) _ (inl (_, rest)) any = or_right _ _ (any_before p fs _ rest any)
any_before p (f ∷ fs) _ (inr (g, rest, is, like, more)) any =
    ⊎_elim (λ here. or_left _ _ (ap p (sym like.name) ∙ here)) (λ later. or_right _ _ (any_before p fs _ more later))
    (or_cases _ _ (rw is at any))

each_left_durable : (fs left : List File) → AreLeftAs fs left → AllByRecursion IsDurableFile left
each_left_durable [] _ is = rw is tt
each_left_durable (f ∷ fs) _ (inl (_, rest)) = each_left_durable fs _ rest
each_left_durable (f ∷ fs) _ (inr (g, rest, is, like, more)) = rw is (like.durable, each_left_durable fs _ more)

-- of an id's files, if their bytes are durable, it leaves all that they held, or less
left_copies : (front : List ℕ) (fs left : List File) → AreLeftAs fs left
    → AllByRecursion (λ (f : File). bytes_eq front (stem f.name) ≡ true → f.is_flushed ≡ true) fs
    → (copies left front ≡ copies fs front) ⊎ (length (copies left front) < length (copies fs front))
left_copies _ [] _ is _ = inl (rw is refl)
left_copies front (f ∷ fs) left (inl (_, rest)) flushed = let less = left_copies _ fs _ rest flushed.1 in grind (arith, less)
left_copies front (f ∷ fs) _ (inr (g, rest, is, like, more)) flushed =
    let less = left_copies _ fs _ more flushed.1 in
    rw (is, like.name) (elim (cases_Bool (bytes_eq front (stem f.name))) [
      | inl its ↦ rw (its, like.content (flushed.0 its)) (grind (arith, less))
      | inr apart ↦ rw apart less
    ])

-- what is held has one, if the account's files are durable
durable_named : (account : List ℕ) (fs : List File) (id : List ℕ) → is_legal_id id ≡ true → AllByRecursion (IsDurableFor account) fs
    → list_any (λ (f : File). names_id account id f.name) fs ≡ true → any_named (names_id account id) fs ≡ true
durable_named _ [] _ _ _ never = never
durable_named account (f ∷ fs) id legal all held = let here : names_id account id f.name ≡ true
    → f.is_named ≡ true = λ names. (all.0 id legal names).0 in grind (arith, here, held, durable_named account fs id legal all.1)

-- ---- readers

any_reached : (p : List ℕ → Bool) (fs left : List File) → AreReached fs left → any_named p fs ≡ true → any_named p left ≡ true
any_reached p [] [] _ any = any
any_reached p (f ∷ fs) (g ∷ left) (same, are) any = grind (arith, same.name, same.named, any, any_reached p fs left are)
any_reached p _ _ never _ = absurd never

one_fewer : (front : List ℕ) (a b : List File) (f : File) → bytes_eq front (stem f.name) ≡ true
    → length (copies (a ++ b) front) < length (copies (a ++ f ∷ b) front)
one_fewer front [] b f is = grind (arith, is)
one_fewer front (x ∷ a) b f is = grind (arith, one_fewer front a b f is)

abbrev has : List ℕ → List File → Bool
has front fs = list_any (λ (f : File). bytes_eq front (stem f.name) && f.is_named) fs

-- a message that is held once, under a durable name, and still is, still has such a name
named_stays : (front : List ℕ) (gone fs left : List File) → IsWithout fs gone left → length (copies fs front) ≤ 1 → has front fs ≡ true
    → list_any (λ (f : File). bytes_eq front (stem f.name)) left ≡ true → has front left ≡ true
named_stays front [] fs left are _ named _ = any_reached (λ name. bytes_eq front (stem name)) fs left are named
named_stays front (f ∷ gone) fs left (a, b, are, is) once named held =
    let mid : has front (a ++ f ∷ b) ≡ true = any_reached (λ name. bytes_eq front (stem name)) fs (a ++ f ∷ b) are named in
    let same = ap length (reached_copies front fs (a ++ f ∷ b) are) in
    let fewer = fewer_copies front a b f in
    let part = part_copies front (a ++ b) left (gone, is) in
    ⊎_elim (λ (there : has front (a ++ b) ≡ true). named_stays front gone (a ++ b) left is (grind (arith, once, fewer, same)) there held)
    (λ (none : has front (a ++ b) ≡ false).
    let less = one_fewer front a b f (its_name mid none) in
    absurd (held_some front left held (nil_from_length (copies left front) (grind (arith, part, less, once, same)))))
    (cases_Bool (has front (a ++ b)))
  where
    its_name : has front (a ++ f ∷ b) ≡ true → has front (a ++ b) ≡ false → bytes_eq front (stem f.name) ≡ true
    its_name mid none = grind (
      arith,
      mid,
      none,
      list_any-append (λ (g : File). bytes_eq front (stem g.name) && g.is_named) a (f ∷ b),
      list_any-append (λ (g : File). bytes_eq front (stem g.name) && g.is_named) a b,
    )

flushed_for_reached : (account : List ℕ) (fs left : List File) → AreReached fs left
    → AllByRecursion (IsFlushedFor account) fs → AllByRecursion (IsFlushedFor account) left
flushed_for_reached _ [] [] _ _ = tt
flushed_for_reached account (f ∷ fs) (g ∷ left) (same, are) all =
    (λ id legal names. same.flushed (all.0 id legal (rw same.name at names)), flushed_for_reached _ fs left are all.1)
flushed_for_reached _ _ _ never _ = absurd never

flushed_stays : (account : List ℕ) (gone fs left : List File) → IsWithout fs gone left
    → AllByRecursion (IsFlushedFor account) fs → AllByRecursion (IsFlushedFor account) left
flushed_stays _ [] fs left are all = flushed_for_reached _ fs left are all
flushed_stays _ (f ∷ gone) fs _ (a, b, are, is) all =
    let reached = flushed_for_reached _ fs (a ++ f ∷ b) are all in
    flushed_stays _ gone _ _ is (all_append _ a b (all_front _ a _ reached) (all_back _ a _ reached).1)

-- ---- what is durable

durable_bits : (named held taken named' held' : Bool) → (named ≡ true → held ≡ true)
    → (named ≡ true → held' ≡ true → named' ≡ true) → (named || taken) ≡ true
    → (named' || (((held || taken) && not held') || (taken && not named'))) ≡ true
durable_bits _ _ _ _ _ is stays some = grind (arith, is, stays, some)

-- it still does, if a durable name stays while the message is held
durable_on : (mail : Mail) (state : State) (after : AccountMail) (id : List ℕ)
    → (has_named mail.account state.account.maildir id ≡ true → is_held mail.account after.maildir id ≡ true
    → has_named mail.account after.maildir id ≡ true) → is_durable mail state id ≡ true
    → is_durable mail (state_with mail state [] after) id ≡ true
durable_on mail state after id stays = durable_bits _ _ (state.taken id) _ _
    (named_any (names_id mail.account id) state.account.maildir.files) stays

-- ---- others, and readers

-- what the record shows as delivered is durable
abbrev pub RecordIsDurable : Mail → State → Type 0
RecordIsDurable mail state = (id : List ℕ) → is_delivered state.account.rows id ≡ true → is_durable mail state id ≡ true

pub others_keep_safe : Below → {F : Type 0} (file : FileGhosts F) (from f : F) (mail : Mail) (state : State) (after : AccountMail)
    (intent : Option Intent) → Invariant mail state
    → FileStandsFor (stored_in file f).content after.rows intent → IsBetween mail state.account after
    → KeepsDurable file mail.account state.account from f after → RecordIsDurable mail state
    → IsCrashSafe (file.disk from) mail state → IsCrashSafe (file.disk f) mail (state_with mail state [] after)
others_keep_safe laws file from f mail state after intent kept stands between keeps recorded safe = record {
  flushed = keeps.flushed;
  left = λ left rows opened may is id d. elim (keeps.record_is left may) [
    | inl same ↦
        let d' = rw (same_kept_rows laws.one (stored_in file f).content rows after.rows (opened, rw same at is) (intent, stands)) at d in
        ((kept.recorded id (between.shows_no_more id d')).0, shown id d')
    | inr before ↦ let was = safe.left left rows opened before is id d in (was.0, on id was.0 was.1)
  ];
  gone = all_both state.gone kept.gone safe.gone (λ id is. on id is.0);
}
  where
    on : (id : List ℕ) → is_legal_id id ≡ true → is_durable mail state id ≡ true
        → is_durable mail (state_with mail state [] after) id ≡ true
    on id legal = durable_on mail state after id (keeps.named id legal)

    shown : (id : List ℕ) → is_delivered after.rows id ≡ true → is_durable mail (state_with mail state [] after) id ≡ true
    shown id d = let was = between.shows_no_more id d in on id (kept.recorded id was).0 (recorded id was)

module _ (mail : Mail) (state : State) (left : Maildir) (kept : Invariant mail state) (taken : WereTaken state.account.maildir left) where
  pub durable_after : (id : List ℕ) → is_legal_id id ≡ true → is_durable mail state id ≡ true
      → is_durable mail (with_left mail state left) id ≡ true
  durable_after id legal = durable_on mail state (record state.account { maildir = left }) id
      (named_stays (stem_of mail.account id) taken.gone state.account.maildir.files left.files taken.files
      (none_or_one (kept.holds id legal)))

  -- nothing came
  pub held_back : (id : List ℕ) → is_held mail.account left id ≡ true → is_held mail.account state.account.maildir id ≡ true
  held_back id held =
      let part = part_copies (stem_of mail.account id) _ _ (taken.gone, taken.files) in
      let some = held_some (stem_of mail.account id) left.files held in
      some_held mail.account id state.account.maildir.files (λ none. some (grind (arith, none, part, nil_from_length)))

-- readers took some files away while a call was under way; the record's device is as it was
pub left_keeps_safe : (disk : Disk) (mail : Mail) (state : State) (left : Maildir) → Invariant mail state
    → WereTaken state.account.maildir left
    → IsCrashSafe disk mail state → IsCrashSafe disk mail (with_left mail state left)
left_keeps_safe _ mail state left kept taken safe = record {
  flushed = flushed_stays mail.account taken.gone state.account.maildir.files left.files taken.files safe.flushed;
  left = λ bytes rows opened may is id d. let was = safe.left bytes rows opened may is id d in (was.0, on id was.0 was.1);
  gone = all_both state.gone kept.gone safe.gone (λ id is. on id is.0);
}
  where
    on : (id : List ℕ) → is_legal_id id ≡ true → is_durable mail state id ≡ true → is_durable mail (with_left mail state left) id ≡ true
    on = durable_after mail state left kept taken

-- ---- a call

module _ {F : Type 0} (file : FileGhosts F) (from f : F) (mail : Mail) (state : State) (vanished : List (List ℕ))
    (after : AccountMail) (leaves : LeavesDurably file mail.account from f state.account after) where
  stays : (id : List ℕ) → has_named mail.account state.account.maildir id ≡ true → has_named mail.account after.maildir id ≡ true
  stays id named = rw (
    leaves.files,
    list_any-append,
  ) (or_left _ _ named)

  -- a file that came is there
  came_there : (id : List ℕ) → any_named (names_id mail.account id) leaves.came ≡ true → has_named mail.account after.maildir id ≡ true
  came_there id named = rw (
    leaves.files,
    list_any-append,
    list_any-append,
  ) (or_right _ _ (or_left _ _ named))

  durable_call : (id : List ℕ) → is_durable mail state id ≡ true → is_durable mail (state_with mail state vanished after) id ≡ true
  durable_call id = durable_on mail state after id (λ named _. stays id named)

pub calls_keep_safe : Below → {W S F G : Type 0} (file : FileGhosts F) (from f : F) (mail : Mail) (state : State) (call : Call W S G)
    (sent : List ℕ) (now : AccountMail) → Invariant mail state
    → IsSession mail state.account call sent now → LeavesDurably file mail.account from f state.account now → TrustsRecord file from f
    → RecordIsDurable mail state
    → IsCrashSafe (file.disk from) mail state → IsCrashSafe (file.disk f) mail (state_with mail state call.vanished now)
calls_keep_safe laws file from f mail state call sent now kept is leaves trust recorded safe = record {
  flushed = flushed_after;
  left = λ left rows opened may stands id d. (
    kept_legal left rows (opened, stands) id d,
    elim (leaves.left trust left rows opened may stands id d) [
      | inl was ↦ on id (recorded id was)
      | inr (inl named) ↦ or_left _ _ named
      | inr (inr could) ↦ on id (safe.left left rows opened could stands id d).1
    ],
  );
  gone = all_append (λ id. is_durable mail after id ≡ true) call.vanished state.gone
      (all_map call.vanished (served_session laws is.session is.served).1 (λ id begun. shown id (marked id begun)))
      (all_map state.gone safe.gone on);
}
  where
    after : State
    after = state_with mail state call.vanished now

    flushed_after : AllByRecursion (IsFlushedFor mail.account) now.maildir.files
    flushed_after = rw leaves.files (all_append (IsFlushedFor mail.account) state.account.maildir.files
        (leaves.came ++ leaves.last) safe.flushed (all_append (IsFlushedFor mail.account) leaves.came leaves.last
        (all_map leaves.came leaves.durable (λ g durable id legal names. durable.1))
        (all_map leaves.last leaves.flushed (λ g flushed id legal names. flushed))))

    marked : (id : List ℕ) → has_id is.effect.begun id ≡ true → is_delivered now.rows id ≡ true
    marked id begun = elim (served_session laws is.session is.served).0 [
      | inl left ↦ absurd (let never = rw left.begun at begun in cc)
      | inr stored ↦ all_ids_at (λ (x : List ℕ). is_delivered now.rows x ≡ true) is.effect.begun stored.0.begun begun
    ]

    on : (id : List ℕ) → is_durable mail state id ≡ true → is_durable mail after id ≡ true
    on = durable_call file from f mail state call.vanished now leaves

    shown : (id : List ℕ) → is_delivered now.rows id ≡ true → is_durable mail after id ≡ true
    shown id d = ⊎_elim (λ was. on id (recorded id was)) (or_left _ _) (leaves.shown id d)

-- ---- a loss of power

-- the first of two cases leads to another
or_on : {a b : Bool} (c : Bool) → (a ≡ true → b ≡ true) → (a || c) ≡ true → (b || c) ≡ true
or_on c on some = ⊎_elim (λ is. or_left _ _ (on is)) (or_right _ _) (or_cases _ _ some)

-- what is durable is safe afterwards
pub is_safe_after : (mail : Mail) (state : State) (after : AccountMail) → LosesPower state.account.maildir after.maildir
    → (id : List ℕ) → is_durable mail state id ≡ true → is_safe mail (record state { account = after }) id ≡ true
is_safe_after _ _ after loses _ = or_on _ (any_left _ _ _ loses.files)

-- what is safe is durable, if the account's files are durable
durable_by_files : (mail : Mail) (state : State) → AllByRecursion (IsDurableFor mail.account) state.account.maildir.files
    → (id : List ℕ) → is_legal_id id ≡ true → is_safe mail state id ≡ true → is_durable mail state id ≡ true
durable_by_files _ _ durable id legal = or_on _ (durable_named _ _ id legal durable)

pub losses_leave_kept : (disk : Disk) (mail : Mail) (state : State) (after : AccountMail) (left : Option (List ℕ))
    (intent : Option Intent) → Invariant mail state
    → IsCrashSafe disk mail state → LosesPower state.account.maildir after.maildir → MayLeave disk left
    → FileStandsFor left after.rows intent → Invariant mail (record state { account = after })
losses_leave_kept disk mail state after left intent kept safe loses may stands = record {
  holds = λ id legal. same_or_none (kept.holds id legal)
      (left_copies (stem_of mail.account id) state.account.maildir.files after.maildir.files loses.files
      (all_map state.account.maildir.files safe.flushed (λ f flushed. flushed id legal)));
  recorded = λ id d. let was = safe.left left after.rows intent may stands id d in (was.0, still id was.1);
  gone = all_both state.gone kept.gone safe.gone (λ id is last. (is.0, still id last));
}
  where
    same_or_none : {was now : List (List ℕ)} {Comes : List ℕ → Type 0} → (was ≡ []) ⊎ ((text : List ℕ) × Comes text × (was ≡ text ∷ []))
        → (now ≡ was) ⊎ (length now < length was) → (now ≡ []) ⊎ ((text : List ℕ) × Comes text × (now ≡ text ∷ []))
    same_or_none {was} {now} (inl none) less = inl (grind (arith, none, less, nil_from_length now))
    same_or_none (inr (text, comes, one)) (inl same) = inr (text, comes, same ∙ one)
    same_or_none {was} {now} (inr (text, comes, one)) (inr fewer) = inl (grind (arith, one, fewer, nil_from_length now))

    still : (id : List ℕ) → is_durable mail state id ≡ true → is_safe mail (record state { account = after }) id ≡ true
    still = is_safe_after mail state after loses

pub durable_is_safe : Below → {F : Type 0} (file : FileGhosts F) → DurableAccountsAreSafe file
durable_is_safe laws file f mail state intent kept stands durable same = record {
  flushed = all_map state.account.maildir.files durable (λ g is id legal names. (is id legal names).1);
  left = λ left rows opened may is id d.
      let here = kept.recorded id (rw (same_kept_rows laws.one (stored_in file f).content rows state.account.rows
      (opened, rw (same left may) at is)
      (intent, stands)) at d) in (here.0, on id here.0 here.1);
  gone = all_map state.gone kept.gone (λ id is. on id is.0 is.1);
}
  where
    on : (id : List ℕ) → is_legal_id id ≡ true → is_safe mail state id ≡ true → is_durable mail state id ≡ true
    on = durable_by_files mail state durable

pub all_left_durable : (account : List ℕ) (old new : Maildir) → LosesPower old new → AllByRecursion (IsDurableFor account) new.files
all_left_durable _ _ new loses = all_map _ (each_left_durable _ _ loses.files) (λ g is _ _ _. is)

-- ---- in order

pub safe_bits : (held taken held' named : Bool) → (held' ≡ true → (held || taken) ≡ true)
    → (held || taken) ≡ (held' || (((held || taken) && not held') || (taken && not named)))
safe_bits _ _ _ _ back = grind (arith, back)

pub same_bits : (a b : Bool) → (a ≡ true → b ≡ true) → (b ≡ true → a ≡ true) → a ≡ b
same_bits a b f g = grind (arith, f, g)

abbrev AreLegalMessages : List Message → Type 0
AreLegalMessages ms = AllByRecursion (λ (m : Message). is_legal_id m.uid ≡ true) ms

-- ---- where it may begin

pub durable_fronts_begin : DurableFrontsBegin
durable_fronts_begin mail state all legal front durable = record {
  is = front;
  first = front.done;
  last = [];
  done = sym (append-nil front.done);
  at_most_one = omega arith;
  named = all_both front.done (all_front (λ (m : Message). is_legal_id m.uid ≡ true) front.done front.rest
      (rw front.prefix at legal)) (members front.done)
      (λ m l there. durable_by_files mail state durable m.uid l (sym (front.is_done m.uid l) ∙ there));
}

-- ---- what others and readers leave

abbrev pub front_stays : (mail : Mail) (state : State) (after : AccountMail) (all : List Message) → IsFront mail state all
    → ((id : List ℕ) → is_legal_id id ≡ true → is_held mail.account after.maildir id ≡ true
    → is_safe mail state id ≡ true) → IsFront mail (state_with mail state [] after) all
front_stays mail state after _ front back = record {
  done = front.done;
  rest = front.rest;
  prefix = front.prefix;
  is_done = λ id l. front.is_done id l ∙ safe_bits (is_held mail.account state.account.maildir id) (state.taken id)
      (is_held mail.account after.maildir id) (has_named mail.account after.maildir id) (back id l);
}

-- readers put nothing else there
abbrev pub left_front : (mail : Mail) (state : State) (left : Maildir) → Invariant mail state
    → WereTaken state.account.maildir left → (all : List Message) → IsFront mail state all
    → IsFront mail (with_left mail state left) all
left_front mail state left kept taken all front =
    front_stays mail state (record state.account { maildir = left }) all front
    (λ id l held. or_left _ _ (held_back mail state left kept taken id held))

module _ (mail : Mail) (state : State) (after : AccountMail) (all : List Message) (legal : AreLegalMessages all)
    (front : IsDurableFront mail state all)
    (back : (id : List ℕ) → is_legal_id id ≡ true → is_held mail.account after.maildir id ≡ true → is_safe mail state id ≡ true)
    (on : (id : List ℕ) → is_legal_id id ≡ true → is_durable mail state id ≡ true
    → is_durable mail (state_with mail state [] after) id ≡ true) where
  legal_done : AreLegalMessages front.is.done
  legal_done = all_front _ _ _ (rw front.is.prefix at legal)

  pub legal_first : AreLegalMessages front.first
  legal_first = all_front _ _ _ (rw front.done at legal_done)

  abbrev pub others_keep_front : IsDurableFront mail (state_with mail state [] after) all
  others_keep_front = record {
    is = front_stays mail state after all front.is back;
    first = front.first;
    last = front.last;
    done = front.done;
    at_most_one = front.at_most_one;
    named = all_both front.first legal_first front.named (λ m l last. on m.uid l last);
  }

abbrev pub left_keeps_front : (mail : Mail) (state : State) (left : Maildir) (kept : Invariant mail state)
    (taken : WereTaken state.account.maildir left) (all : List Message) → AreLegalMessages all
    → IsDurableFront mail state all → IsDurableFront mail (with_left mail state left) all
left_keeps_front mail state left kept taken all legal front =
    others_keep_front mail state (record state.account { maildir = left }) all legal front
    (λ id l held. or_left _ _ (held_back mail state left kept taken id held)) (durable_after mail state left kept taken)

pub others_keep_order : {F : Type 0} (file : FileGhosts F) (from f : F) (mail : Mail) (state : State)
    (after : AccountMail) → KeepsDurable file mail.account state.account from f after
    → ((id : List ℕ) → is_legal_id id ≡ true → is_held mail.account after.maildir id ≡ true → is_safe mail state id ≡ true)
    → (all : List Message) → AreLegalMessages all → IsDurableFront mail state all → IsDurableFront mail (state_with mail state [] after) all
others_keep_order file _ f mail state after keeps back all legal front =
    others_keep_front mail state after all legal front back (λ id l. durable_on mail state after id (keeps.named id l))

-- ---- what a call leaves

split_map : {A B : Type 0} (g : A → B) (xs : List A) (front back : List B) → map g xs ≡ front ++ back → (ys : List A)
    × (zs : List A) × (xs ≡ ys ++ zs) × (map g ys ≡ front) × (map g zs ≡ back)
split_map g xs [] _ e = ([], xs, refl, refl, e)
split_map g [] (y ∷ _) _ e = absurd cc
split_map g (x ∷ xs) (y ∷ front) back e =
    let head : g x ≡ y = cc in
    let tail : map g xs ≡ front ++ back = cc in
    let (ys, zs, is, first, last) = split_map g xs front _ tail in
    (x ∷ ys, zs, ap (λ l. x ∷ l) is, ap (λ l. g x ∷ l) first ∙ ap (λ z. z ∷ front) head, last)

shorter : (p : Message → Bool) (ms : List Message) → length (filter p ms) ≤ length ms
shorter p [] = omega arith
shorter p (m ∷ ms) = grind (arith, shorter p ms)

module _ (mail : Mail) (own : (m : Message) → names_id mail.account m.uid (name_of mail.account m.uid (length m.text)) ≡ true) where
  abbrev its_file : Message → File
  its_file m = file (name_of mail.account m.uid (length m.text)) m.text

  has_come : (came : List File) (ms : List Message) → map its_file ms ≡ without_flags came → AllByRecursion IsDurableFile came
      → AllByRecursion (λ (m : Message). any_named (names_id mail.account m.uid) came ≡ true) ms
  has_come _ [] e _ = tt
  has_come [] (m ∷ _) e _ = absurd cc
  has_come (g ∷ came) (m ∷ ms) e ((is_named, _), all) =
      let head : its_file m ≡ file g.name g.content = cc in
      let tail : map its_file ms ≡ without_flags came = cc in
      let name =
      subst (λ h. names_id mail.account m.uid h.name ≡ true) head (own m) in (
        or_left _ _ (and_from _ _ name is_named),
        all_map ms (has_come came ms tail all) (λ x there. or_right _ _ there),
      )

  module _ {W S F G : Type 0} (store : FileGhosts F) (from f : F) (state : State) (call : Call W S G) (sent : List ℕ)
      (now : AccountMail) (promises : Promises mail state call sent now)
      (adds : AddsToFronts mail state call promises.came now)
      (leaves : LeavesDurably store mail.account from f state.account now)
      (all : List Message) (legal : AreLegalMessages all) (front : IsDurableFront mail state all)
      (next : ShowsNext call.settings call.maildrop front.is.done front.is.rest) (clear : now.maildir.odd ≡ []) where
    abbrev after : State
    after = state_with mail state call.vanished now

    abbrev new : Message → Bool
    new m = not (has_id (message_ids front.is.done) m.uid)

    later : (later : IsFront mail after all) × (later.done ≡ front.is.done ++ filter
        (λ (m : Message). not (has_id (message_ids front.is.done) m.uid)) promises.came)
    later = adds all legal front.is next clear

    on : (id : List ℕ) → is_durable mail state id ≡ true → is_durable mail after id ≡ true
    on = durable_call store from f mail state call.vanished now leaves

    came_are : map its_file promises.came ≡ without_flags leaves.came ++ without_flags leaves.last
    came_are = append_cancel_left (without_flags state.account.maildir.files) (map its_file promises.came)
        (without_flags leaves.came ++ without_flags leaves.last) (sym promises.added ∙ came_too _ _ _ leaves.files
        ∙ ap (λ l. without_flags state.account.maildir.files ++ l) (came_too _ _ _ refl))

    none_came : leaves.came ++ leaves.last ≡ [] → promises.came ≡ []
    none_came none = nil_from_length _ (sym (length-map promises.came its_file) ∙ ap length (came_are
        ∙ sym (came_too _ _ _ refl) ∙ ap without_flags none))

    by_none : leaves.came ++ leaves.last ≡ [] → IsDurableFront mail after all
    by_none none = record {
      is = later.0;
      first = front.first;
      last = front.last;
      done = later.1 ∙ ap (λ ms. front.is.done ++ filter new ms) (none_came none) ∙ append-nil front.is.done ∙ front.done;
      at_most_one = front.at_most_one;
      named = all_map _ front.named (λ m. on _);
    }

    by_named : AllNamed state.account.maildir.files → IsDurableFront mail after all
    by_named named =
        let (first, last, are, came, ended) = split_map its_file promises.came (without_flags leaves.came)
        (without_flags leaves.last) came_are in
        record {
          is = later.0;
          first = front.is.done ++ filter new first;
          last = filter new last;
          done = later.1 ∙ ap (λ (ms : List Message). front.is.done ++ filter new ms) are
              ∙ ap (λ (l : List Message). front.is.done ++ l) (filter-append new first last)
              ∙ sym (append_assoc front.is.done (filter new first) (filter new last));
          at_most_one = let short = shorter new last in let same = sym (length-map last its_file)
              ∙ ap length ended ∙ length-map leaves.last _ in let most = leaves.at_most_one in omega (arith, short, same, most);
          named = all_append (λ (m : Message). is_durable mail after m.uid ≡ true) front.is.done (filter new first)
              (all_both front.is.done (all_front (λ (m : Message). is_legal_id m.uid ≡ true) front.is.done front.is.rest
              (rw front.is.prefix at legal)) (members front.is.done)
              (λ m l there. on m.uid (or_on _ (all_named mail.account state.account.maildir.files m.uid named)
              (sym (front.is.is_done m.uid l) ∙ there)))) (all_filter (λ (m : Message). is_durable mail after m.uid ≡ true) new first
              (all_map first (has_come leaves.came first came leaves.durable)
              (λ m there. or_left _ _ (came_there store from f mail state call.vanished now leaves m.uid there))));
        }

    pub calls_keep_order : IsDurableFront mail after all
    calls_keep_order = ⊎_elim by_none by_named leaves.named

-- ---- what a loss of power leaves

module _ (mail : Mail) (state : State) (after : AccountMail) (all : List Message) (legal : AreLegalMessages all)
    (front : IsDurableFront mail state all) (loses : LosesPower state.account.maildir after.maildir) where
  abbrev next_state : State
  next_state = record state { account = after }

  abbrev safe_next : List ℕ → Bool
  safe_next id = is_held mail.account after.maildir id || state.taken id

  safe_before : (id : List ℕ) → safe_next id ≡ true → is_safe mail state id ≡ true
  safe_before _ = or_on _ (any_before _ _ _ loses.files)

  made : (done rest : List Message) → all ≡ done ++ rest
      → ((id : List ℕ) → is_legal_id id ≡ true → has_id (message_ids done) id ≡ safe_next id) → IsDurableFront mail next_state all
  made done rest prefix is_done = record {
    is = record { done = done; rest = rest; prefix = prefix; is_done = is_done };
    first = done;
    last = [];
    done = sym (append-nil done);
    at_most_one = omega arith;
    named = all_both done (all_front (λ (m : Message). is_legal_id m.uid ≡ true) done rest (rw prefix at legal))
        (members done) (λ m l there. durable_by_files mail next_state
        (all_left_durable mail.account state.account.maildir after.maildir loses) m.uid l (sym (is_done m.uid l) ∙ there));
  }

  in_first : (id : List ℕ) → has_id (message_ids front.first) id ≡ true → safe_next id ≡ true
  in_first id there = is_safe_after mail state after loses id (all_at _ _ front.named there)

  in_done : (id : List ℕ) → is_legal_id id ≡ true → safe_next id ≡ true
      → (has_id (message_ids front.first) id || has_id (message_ids front.last) id) ≡ true
  in_done id l safe = sym (ids_both _ _ id) ∙ ap (λ ms. has_id (message_ids ms) id) (sym front.done)
      ∙ front.is.is_done id l ∙ safe_before id safe

  prefix_is : all ≡ front.first ++ (front.last ++ front.is.rest)
  prefix_is = front.is.prefix ∙ ap (λ l. l ++ front.is.rest) front.done ∙ append_assoc front.first front.last front.is.rest

  pub losses_keep_order : IsDurableFront mail next_state all
  losses_keep_order = by front.last refl
    where
      without : (last : List Message) → front.last ≡ last → ((id : List ℕ) → has_id (message_ids last) id ≡ true
          → safe_next id ≡ false) → IsDurableFront mail next_state all
      without last is lost = made front.first (front.last ++ front.is.rest) prefix_is
          (λ id l. same_bits (has_id (message_ids front.first) id) (safe_next id) (in_first id)
          (λ safe. ⊎_elim (λ first. first) (λ there. absurd (both_ways (safe_next id) (lost id (rw is at there)) safe))
          (or_cases _ _ (in_done id l safe))))

      by : (last : List Message) → front.last ≡ last → IsDurableFront mail next_state all
      by [] is = without [] is (λ id never. absurd (both_ways false refl never))
      by (m ∷ []) is = elim (cases_Bool (safe_next m.uid)) [
        | inl safe ↦ made front.is.done front.is.rest front.is.prefix
            (λ id l. same_bits (has_id (message_ids front.is.done) id) (safe_next id) (λ there. ⊎_elim (in_first id)
            (λ at_last. subst (λ x. safe_next x ≡ true) (sym (its_id id m (rw is at at_last))) safe)
            (or_cases _ _ (sym (ids_both front.first front.last id) ∙ ap (λ ms. has_id (message_ids ms) id) (sym front.done) ∙ there)))
            (λ safe. front.is.is_done id l ∙ safe_before id safe))
        | inr lost ↦ without (m ∷ []) is (λ id there. subst (λ x. safe_next x ≡ false) (sym (its_id id m there)) lost)
      ]
        where
          its_id : (id : List ℕ) (m : Message) → has_id (message_ids (m ∷ [])) id ≡ true → id ≡ m.uid
          its_id id m there = ⊎_elim (bytes_same id m.uid) (λ never. absurd (both_ways false refl never)) (or_cases _ _ there)
      by (m ∷ n ∷ ms) is = absurd (omega (arith, rw is at front.at_most_one))
