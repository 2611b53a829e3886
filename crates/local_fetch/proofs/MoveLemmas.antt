-- Mail that is moved is somewhere after each call, and in the account after one that ended and had no limits.
use Rattle.std.{
  proofs.Common.{◌≡◌, ◌⊎◌, inl, inr, ℕ, zero, suc, Bool, true, false, List, [], ◌∷◌, ◌++◌, refl, subst, sym, ap, ◌∙◌, not},
  proofs.Common.{◌||◌, ◌&&◌, Some, slice_get},
  proofs.lemmas.{Bool.{both_ways, cases_Bool, or_left, or_right}, List.Folds.list_any-append, Option.same_Some},
  proofs.Math.Logic.⊎_elim,
  specs.{List.{AllByRecursion, filter}, Prelude.bytes_eq},
}
use Rattle.mail_store.specs.{
  Devices.stored_in,
  declared.{maildir.disk.MaildirDisk.Ghosts as DiskGhosts, file.flat_file.FlatFile.Ghosts as FileGhosts},
  FileName.{is_held, is_odd, stem_of},
  Maildir.Maildir,
}
use Rattle.mail_terms.specs.UniqueId.{has_id}
use Rattle.fetch_record.specs.Record.{is_delivered}
use Rattle.pop3_wire.specs.{World.Message, declared.wire.Wire.Ghosts as WireGhosts}
use Rattle.pop3_server.specs.{declared.maildrop.Maildrop.Ghosts as DropGhosts, LoopLink.{Loop, Serves}}
use Rattle.fetch_rules.{specs.{Limits.SetsNoLimits, Wanted.at_most}, proofs.PlanLemmas.{at_most_all, sizes_within}}
use Rattle.session_parts.specs.{
  declared.work.Store.TheVariants.Maildir as InMaildir,
  Account.digits_of,
  Session.{Session, account_files},
}
use Rattle.fetch_runs.{
  specs.{Accounts.AccountMail, Steps.IsIn, Below.Below, Conversations.SessionsAreConversations},
  specs.Promises.{Call, ComesFor, Devices, Invariant, IsOf, IsSafe, Mail, OneComes, State},
  specs.Promises.{may_fetch, state_with},
  specs.Calls.{Called, Happening, Left, Lost, Shows, with_left},
  proofs.Core.message_size,
  proofs.Lists.{all_back, all_both, all_front, all_ids_at, all_map, bytes_self},
}
use Rattle.local_fetch.{
  specs.{Local.{AreWithout, loop_to, unused}, Fetches.{Fetch, FetchesKeepPromises, IsFetch, as_call, shown_by}},
  specs.Moves.{EndsWithoutLimits, IsInOneFile, IsSomewhere, MailIsMoved, MoveMail},
  proofs.{DropLemmas.none_there, FirstFetches.no_copies},
}

-- ---- where a message is

-- a message that was there still is, or is one of those that vanished
stays_in : (before : List Message) (vanished : List (List ℕ)) (after : List Message) (m : Message)
    → AreWithout before vanished after → (place : ℕ) → slice_get before place ≡ Some m
    → IsIn after m ⊎ (has_id vanished m.uid ≡ true)
stays_in [] _ _ m _ place never = absurd cc
stays_in (x ∷ before) vanished after m (inl (rest, is, _)) zero at = inl (0, rw is at)
stays_in (x ∷ before) vanished after m (inr (more, is, _)) zero at =
    let same : x ≡ m = same_Some x m at in
    inr (rw is (or_left _ _ (subst (λ (y : Message). bytes_eq m.uid y.uid ≡ true) (sym same) (bytes_self m.uid))))
stays_in (x ∷ before) vanished after m (inl (rest, is, without)) (suc place) at =
    ⊎_elim (λ (p, there). inl (suc p, rw is there)) (λ gone. inr gone) (stays_in before vanished rest m without place at)
stays_in (x ∷ before) vanished after m (inr (more, is, without)) (suc place) at =
    ⊎_elim (λ there. inl there) (λ gone. inr (rw is (or_right _ _ gone))) (stays_in before more after m without place at)

-- what holds of all holds of each
holds_in_place : (P : Message → Type 0) (ms : List Message) (m : Message) (place : ℕ) → AllByRecursion P ms
    → slice_get ms place ≡ Some m → P m
holds_in_place P [] m place _ never = absurd cc
holds_in_place P (x ∷ ms) m zero all at = subst P (same_Some x m at) all.0
holds_in_place P (x ∷ ms) m (suc place) all at = holds_in_place P ms m place all.1 at

-- each message of a list is in it
all_in : (ms : List Message) → AllByRecursion (IsIn ms) ms
all_in [] = tt
all_in (m ∷ ms) = ((0, refl), all_map ms (all_in ms) (λ x (place, at). (suc place, at)))

module _ (mail : Mail) where
  gone_safe : (state : State) (m : Message) → Invariant mail state → has_id state.gone m.uid ≡ true
      → (has_id state.gone m.uid ≡ true) × IsSafe mail state m.uid
  gone_safe state m kept gone = (gone, all_ids_at (IsSafe mail state) state.gone kept.gone gone)

  somewhere_on : (state next : State) (there after : List Message) (vanished : List (List ℕ)) → AreWithout there vanished after
      → next.gone ≡ vanished ++ state.gone → Invariant mail next → (m : Message) → IsSomewhere mail state there m
      → IsSomewhere mail next after m
  somewhere_on state next there after vanished without gone_is kept m (inl (place, at)) =
      ⊎_elim (λ still. inl still) (λ gone. inr (gone_safe next m kept (ap (λ ids. has_id ids m.uid) gone_is
      ∙ list_any-append _ vanished state.gone ∙ or_left _ _ gone))) (stays_in there vanished after m without place at)
  somewhere_on state next there after vanished without gone_is kept m (inr (gone, _)) =
      inr (gone_safe next m kept (ap (λ ids. has_id ids m.uid) gone_is ∙ list_any-append _ vanished state.gone ∙ or_right _ _ gone))

  still_somewhere : (state next : State) (there : List Message) → next.gone ≡ state.gone → Invariant mail next → (m : Message)
      → IsSomewhere mail state there m → IsSomewhere mail next there m
  still_somewhere state next there same kept m (inl at) = inl at
  still_somewhere state next there same kept m (inr (gone, _)) = inr (gone_safe next m kept (ap (λ ids. has_id ids m.uid) same ∙ gone))

  -- what is safe is in one file, or was taken away
  in_one_file : OneComes mail → (state : State) → Invariant mail state → (m : Message) → IsOf (ComesFor mail) m
      → IsSafe mail state m.uid
      → IsInOneFile mail state m
  in_one_file one state kept m is safe = elim (kept.holds m.uid is.legal) [
    | inl none ↦
        let unheld = no_copies (stem_of mail.account m.uid) state.account.maildir.files none in
        inr (ap (λ b. b || state.taken m.uid) (sym unheld) ∙ safe.1, none)
    | inr (text, comes, there) ↦ inl (there ∙ ap (λ (t : List ℕ). t ∷ []) (one m.uid text m.text comes is.text))
  ]

-- ---- an uncut call without limits

of_either : {X : Type 0} (P : X → Type 0) (p q : X → Bool) (xs : List X) → ((x : X) → (p x || q x) ≡ true)
    → AllByRecursion P (filter p xs) → AllByRecursion P (filter q xs) → AllByRecursion P xs
of_either P p q [] either all more = tt
of_either {X} P p q (x ∷ xs) either all more =
    let (this, later) = parts p all in
    let (that, after) = parts q more in (
      ⊎_elim this (λ (isnt : p x ≡ false). that (ap (λ b. b || q x) (sym isnt) ∙ either x)) (cases_Bool (p x)),
      of_either P p q xs either later after,
    )
  where
    parts : (r : X → Bool) → AllByRecursion P (filter r (x ∷ xs)) → (r x ≡ true → P x) × AllByRecursion P (filter r xs)
    parts r all = ⊎_elim
        (λ (is : r x ≡ true). let a : P x × AllByRecursion P (filter r xs) = rw is at all in (λ _. a.0, a.1))
        (λ (isnt : r x ≡ false). let a : AllByRecursion P (filter r xs) = rw isnt at all in
        (λ is. absurd (both_ways (r x) isnt is), a))
        (cases_Bool (r x))

-- each message is of this kind
all_fetched : {W S F : Type 0} (call : Call W S F) (is_odd known : List ℕ → Bool) (Is : Message → Type 0)
    → SetsNoLimits call.settings → ((id : List ℕ) → is_odd id ≡ false)
    → AllByRecursion Is (filter (λ (m : Message). known m.uid) call.maildrop
    ++ at_most call.settings message_size (filter (may_fetch call.settings is_odd known) call.maildrop))
    → AllByRecursion Is call.maildrop
all_fetched call is_odd known Is unlimited clear both =
    of_either Is (λ m. known m.uid) (may_fetch call.settings is_odd known) call.maildrop either
    (all_front Is (filter (λ (m : Message). known m.uid) call.maildrop) _ both)
    (subst (AllByRecursion Is) (at_most_all unlimited message_size offered)
    (all_back Is (filter (λ (m : Message). known m.uid) call.maildrop) _ both))
  where
    offered : List Message
    offered = filter (may_fetch call.settings is_odd known) call.maildrop

    bits : (all is_known : Bool) → (is_known || (not (not all && is_known) && (not false && true))) ≡ true
    bits true true = refl
    bits true false = refl
    bits false true = refl
    bits false false = refl

    either : (m : Message) → (known m.uid || may_fetch call.settings is_odd known m) ≡ true
    either m = rw (clear m.uid, sizes_within call.settings 0 unlimited.sizes m.size) (bits call.settings.read_all (known m.uid))

-- ---- any list of calls

pub mail_is_moved : {M D F : Type 0} (link : WireGhosts (Loop M)) (disk : DiskGhosts D) (file : FileGhosts F) (drop : DropGhosts M)
    → ((w : Loop M) → link.history w ≡ w.link) → ((u v : Loop M) → link.leads_to u v → Serves drop.sound drop.mail u v)
    → Below → SessionsAreConversations → FetchesKeepPromises link disk file drop → MailIsMoved link disk file drop
mail_is_moved {M} {D} {F} link disk file drop history leads laws conversations law mail all state devices list are one shows kept =
    go state devices all list shows kept (all_map all (all_in all) (λ m at. inl at))
  where
    -- QUIT has removed all
    all_deleted : (devices : Devices D F) (fetch : Fetch M D F) → IsFetch link disk file drop InMaildir (ComesFor mail) devices fetch
        → EndsWithoutLimits fetch → (disk.maildir fetch.after.store).odd ≡ [] → fetch.settings.delete ≡ true
        → shown_by drop fetch.wire.machine ≡ []
    all_deleted devices fetch is ends clear delete =
        let (_, _, _, led, (left, taken, (session, _))) = is.fetched.made.2 is.fetched.link_sound is.store_sound is.file_sound in
        let account = digits_of fetch.settings in
        let before = account_files left (stored_in file devices.file) in
        let after = account_files (disk.maildir fetch.after.store) (stored_in file fetch.after.file) in
        let done : Session fetch.settings account fetch.now unused before fetch.report fetch.wire.link after =
        rw (history (loop_to fetch.server), history fetch.wire) at session in
        let (sent, got, sent_is, got_is, said) = conversations fetch.settings account fetch.now unused before fetch.report
        fetch.wire.link after is.fetched.made.0 done in
        let odd = laws.kept fetch.settings account fetch.now unused before fetch.report fetch.wire.link after done in
        elim said [
          | inl opens ↦ absurd (opens.cut ends.ended)
          | inr plan ↦ none_there drop.sound drop.mail laws fetch.server fetch.wire (leads (loop_to fetch.server) fetch.wire led)
              is.fetched.fresh is.drop_sound is.messages is.maildrop.distinct (rw (← sent_is, ← got_is) at plan) ends.ended delete
              ends.unlimited (sym odd.3 ∙ clear)
        ]

    go : (state : State) (devices : Devices D F) (there : List Message)
        (list : List (Happening (Fetch M D F) (Devices D F) AccountMail)) → Shows disk file devices state.account → Invariant mail state
        → AllByRecursion (IsSomewhere mail state there) all → MoveMail link disk file drop mail all state devices there list
    go state devices there [] shows kept somewhere = somewhere
    go state devices there (Called fetch ∷ later) shows kept somewhere = (
      somewhere,
      λ account_is same is.
          let (_, _, then) = law mail state devices (Called fetch ∷ []) shows kept in
          let (vanished, removed, promised, _, (shows', kept')) = then account_is is in
          let next = state_with mail (with_left mail state promised.left) vanished promised.after in
          let without : AreWithout there vanished (shown_by drop fetch.wire.machine) =
          subst (λ ms. AreWithout ms vanished (shown_by drop fetch.wire.machine)) same removed in (
            vanished,
            removed,
            promised,
            (
              λ ends clear.
                  let clear' : promised.after.maildir.odd ≡ [] = ap (λ (m : Maildir). m.odd) promised.shows.maildir ∙ clear in
                  let here = subst (λ ms. AllByRecursion (λ (m : Message). IsSafe mail next m.uid) ms) same
                  (all_map (shown_by drop fetch.server) (all_fetched (as_call drop fetch vanished)
                  (is_odd mail.account promised.after.maildir)
                  (λ id. is_delivered state.account.rows id || is_held mail.account promised.left id) _ ends.unlimited
                  (λ id. rw clear' refl) (promised.promises.wanted ends.ended).1) (λ m both. both.0)) in (
                    all_both all are.each somewhere (λ m of_it it. in_one_file mail one next kept' m of_it
                        (⊎_elim (λ (place, at). holds_in_place (λ x. IsSafe mail next x.uid) there m place here at)
                        (λ (gone, _). (gone_safe mail next m kept' (list_any-append _ vanished state.gone ∙ or_right _ _ gone)).1) it)),
                    all_deleted devices fetch is ends clear,
                  ),
              go next fetch.after (shown_by drop fetch.wire.machine) later shows' kept' (all_map all somewhere
                  (somewhere_on mail state next there (shown_by drop fetch.wire.machine) vanished without refl kept')),
            ),
          ),
    )
    go state devices there (Left left account ∷ later) shows kept somewhere =
        let (_, _, others) = law mail state devices (Left left account ∷ []) shows kept in (
          somewhere,
          λ then between.
              let (_, (shows', kept')) = others then between in
              let next = state_with mail state [] account in
              go next left there later shows' kept' (all_map all somewhere (still_somewhere mail state next there refl kept')),
        )
    go state devices there (Lost left account ∷ later) shows kept somewhere =
        let (_, _, loss) = law mail state devices (Lost left account ∷ []) shows kept in (
          somewhere,
          λ safe lost.
              let (_, _, (shows', kept')) = loss safe lost in
              let next : State = record state { account = account } in
              go next left there later shows' kept' (all_map all somewhere (still_somewhere mail state next there refl kept')),
        )
