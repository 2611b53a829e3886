-- Each call of `session` is a session over accounts, and lists of calls and what else happens keep what is promised;
-- what is promised of any list, and the order of the maildrops, give the headlines.
use Rattle.std.{
  proofs.Common.{◌≡◌, ◌⊎◌, inl, inr, ℕ, true, List, [], ◌∷◌, ◌++◌, refl, sym, ap, subst, ◌∙◌, arith, length, false, Bool, length-append},
  proofs.Common.{◌||◌, ◌&&◌, map, not, append_assoc, bytes_eq, Option},
  proofs.Math.Logic.⊎_elim,
  proofs.lemmas.{Slice.Eq.bytes_eq-Decides, List.{append-nil, append_cancel_left, Folds.flat_map-map}},
  proofs.lemmas.Bool.{both_ways, false_from_ne_true, or_left, cases_Bool},
  specs.{String.string_bytes, List.AllByRecursion},
}
use Rattle.pop3_wire.specs.{declared.wire.Wire.Ghosts as WireGhosts, World.{Message}}
use Rattle.mail_store.specs.{
  Devices.stored_in,
  declared.{maildir.disk.MaildirDisk.Ghosts as DiskGhosts, file.flat_file.FlatFile.Ghosts as FileGhosts},
  FileName.{IsAccountText, name_of, names_id, stem_of},
  Loss.LosesPower,
  Mboxrd.entry_of,
  Maildir.{Maildir, WereTaken},
}
use Rattle.session_parts.specs.{
  Account.digits_of,
  Laws.MboxSessions,
  Record.record_state,
  Session.{account_files, mbox_account_files},
  declared.work.Store.TheVariants.{Maildir as InMaildir, Mboxrd as InMbox},
}
use Rattle.fetch_runs.{
  specs.{Accounts.{AccountMail, files, message_ids, is_selected, without, texts_of, copies, selected, without_flags}, Steps.holds},
  specs.Promises.{Mail, State, state_with, IsBetween, Invariant, Call, Devices, AppendsMail, Base, HoldsEntries, IsMaildrop, IsSafe},
  specs.Promises.{Stands, is_entered},
  specs.Promises.{ComesFor, IsFront, IsTextOf, ShowsNext, is_safe, IsMboxFront},
  specs.{Sessions.{SessionOverLink, MboxMail, entries_of}, Below.Below},
  specs.Losses.{IsCrashSafe, IsFileLeft, IsMboxSafe, KeepsRecorded, ShowsAll, TrustsMbox, TrustsRecord},
  specs.Calls.{Called, CallsKeepPromises, EmptyAccountsHold, Left, Lost, with_left, IsCall, Shows, DurableMboxesAreSafe},
  specs.{Calls.MboxCallsKeepPromises, Order.{CallsKeepOrder, MboxCallsKeepOrder}},
  specs.Calls.{BeginsWithEntries, KeepsEntries, ShowsMbox},
  specs.Headline.{World, IsSound, HoldsAPrefix, EmptyFrontsBegin, NoneTaken, TakenStaysAway, selected_of, MboxFrontsBegin, IsInOrder},
  specs.Headline.{EntriesMeanTexts, world_without, Headline, MboxHeadline, HoldsAMboxPrefix, IsUnbegun},
  proofs.{LeftRecords.{LeavesDurably, leaves_durably}, MboxLeft.{Holds, may_leave_seen, session_left}, Recorded.keeps_recorded},
  proofs.Safety.texts_stand,
  proofs.Losses.{RecordIsDurable, all_left_durable, calls_keep_order, calls_keep_safe, durable_is_safe, left_keeps_front, left_keeps_safe},
  proofs.Losses.{losses_keep_order, losses_leave_kept, others_keep_order, others_keep_safe, front_stays, left_front},
  proofs.Lists.{left_or_none, all_filter, all_ids_at, all_map, all_front, are_distinct, distinct_filter, distinct_is, front_is, is_some},
  proofs.Lists.{Distinct, no_texts, all_at, bytes_self, other_id, ids_both, all_mapped, none_or_one, same_held},
  proofs.{MboxPromised.{appends, mbox_begins, ends_whole, open_row}, Steps.{mbox_sessions_lose_nothing, sessions_lose_nothing}},
  proofs.Promised.{IsSession, others_leave_kept, sessions_keep_promises, copies_came, copies_messages, held_copies, named_messages},
  proofs.Promised.one_text,
  proofs.Core.{AreLegal, next_here, prefix_left, done_legal, done_distinct},
}
use Rattle.mail_terms.specs.{UniqueId.{is_legal_id, has_id}, Text.IsWhole}
use Rattle.fetch_record.specs.{Record.{Intent, is_delivered}, RecordMeaning.FileStandsFor}
use Rattle.rc_file.specs.declared.settings.Settings.{Settings}

-- ---- with a Maildir

-- what a call left, once readers took some files away while it was under way: it was a session, which took none away,
-- and what it shows is durable
pub record IsLeft {W D F : Type 0} (link : WireGhosts W) (disk : DiskGhosts D) (file : FileGhosts F) (mail : Mail)
    (account : AccountMail) (devices : Devices D F) (call : Call W D F) : Type 0 where
  pub left : Maildir
  pub taken : WereTaken account.maildir left
  pub sent : List ℕ
  pub after : AccountMail
  pub sent_is : (link.history call.wire').sent ≡ (link.history call.wire).sent ++ sent
  pub shows : Shows disk file call.after after
  pub session : IsSession mail (record account { maildir = left }) call sent after
  pub taken_is : after.maildir.taken ≡ left.taken
  pub leaves : LeavesDurably file mail.account devices.file call.after.file (record account { maildir = left }) after
  pub keeps : TrustsRecord file devices.file call.after.file → ShowsAll account.rows after.rows
      → KeepsRecorded (file.disk devices.file) (file.disk call.after.file) account.rows after.rows call.report.outcome

calls_leave : Below → {W D F : Type 0} (link : WireGhosts W) (disk : DiskGhosts D) (file : FileGhosts F) (mail : Mail)
    (account : AccountMail) (devices : Devices D F) (call : Call W D F)
    → Shows disk file devices account → digits_of call.settings ≡ mail.account
    → IsCall link disk file InMaildir disk.sound (ComesFor mail) devices call → IsLeft link disk file mail account devices call
calls_leave laws link disk file mail account devices call shows account_is is =
    let (_, _, _, _, (left, taken, (ran, durably))) = is.made.2 is.link_sound is.store_sound is.file_sound in
    let s = (sessions_lose_nothing laws call.settings (digits_of call.settings) call.now (link.history call.wire)
    (account_files left (stored_in file devices.file)) account.rows call.report (link.history call.wire')
    (account_files (disk.maildir call.after.store) (stored_in file call.after.file)) is.made.0 (shows.intent, shows.record_is) ran).0 in
    let after : AccountMail = holds s.rows' (disk.maildir call.after.store) in
    let same = laws.kept call.settings (digits_of call.settings) call.now (link.history call.wire)
    (account_files left (stored_in file devices.file)) call.report (link.history call.wire')
    (account_files (disk.maildir call.after.store) (stored_in file call.after.file)) ran in
    let mid : AccountMail = holds account.rows left in
    let here : mid ≡ record account { maildir = left } = refl in
    record {
      left = left;
      taken = rw shows.maildir taken;
      sent = s.sent;
      after = after;
      sent_is = s.sent_is;
      shows = record { intent = s.keeps.0; record_is = s.keeps.1; maildir = refl };
      session = record {
        got = s.got;
        maildrop = is.maildrop;
        served = is.served s.sent s.got s.sent_is s.got_is;
        effect = s.effect;
        odd = same.3;
        session = subst (λ (k : AccountMail). SessionOverLink call.settings mail.account k s.sent s.got call.report s.effect after) here
            (subst (λ (a : List ℕ). SessionOverLink call.settings a mid s.sent s.got call.report s.effect after) account_is s.session);
      };
      taken_is = same.2;
      leaves = subst (λ (a : List ℕ). LeavesDurably file a devices.file call.after.file mid after) account_is
          (leaves_durably laws file devices.store call.after.store
          (laws.digits (string_bytes call.settings.server) call.settings.port (string_bytes call.settings.username))
          devices.file call.after.file ran account.rows s.rows' (shows.intent, shows.record_is) s.keeps durably);
      keeps = λ trust stays. keeps_recorded laws file (InMaildir devices.store) (InMaildir call.after.store) devices.file
          call.after.file ran account.rows s.rows' (shows.intent, shows.record_is) s.keeps (tt, trust.0) trust.1 stays durably;
    }

-- readers that take files away are others that do so between two sessions
left_between : (mail : Mail) (state : State) (left : Maildir) → Invariant mail state → WereTaken state.account.maildir left
    → IsBetween mail state.account (record state.account { maildir = left })
left_between mail state left kept taken = record {
  holds = λ id l. ⊎_elim (λ same. rw same (kept.holds id l)) (λ (none, _). inl none) (left_or_none _ _ _ (taken.gone, taken.files)
      (none_or_one (kept.holds id l)));
  shows_no_more = λ _ d. d;
}

-- what the record shows may be left
record_durable : {F : Type 0} (file : FileGhosts F) (f : F) (mail : Mail)
    (state : State) (intent : Option Intent) → FileStandsFor (stored_in file f).content state.account.rows intent
    → IsCrashSafe (file.disk f) mail state → RecordIsDurable mail state
record_durable file f _ state intent stands safe id d =
    (safe.left (stored_in file f).content state.account.rows intent (may_leave_seen file f) stands id d).1

pub keep_order : Below → {W D F : Type 0} (link : WireGhosts W) (disk : DiskGhosts D) (file : FileGhosts F)
    → CallsKeepOrder link disk file
keep_order laws {W} {D} {F} link disk file = record {
  call = λ mail state devices call shows kept account_is is.
      let it = calls_leave laws link disk file mail state.account devices call shows account_is is in
      let here : Invariant mail (with_left mail state it.left) =
      others_leave_kept mail state (record state.account { maildir = it.left }) kept (left_between mail state it.left kept it.taken) in
      let account = subst IsAccountText account_is
      (laws.digits (string_bytes call.settings.server) call.settings.port (string_bytes call.settings.username)) in
      let (promises, after, adds) =
      sessions_keep_promises laws mail (with_left mail state it.left) call it.sent it.after account here it.session in (
        record {
          left = it.left;
          taken = it.taken;
          sent = it.sent;
          after = it.after;
          sent_is = it.sent_is;
          shows = it.shows;
          taken_is = it.taken_is;
          promises = promises;
          safe = λ trust safe.
              let safe' = left_keeps_safe (file.disk devices.file) mail state it.left kept it.taken safe in
              let recorded = record_durable file devices.file mail (with_left mail state it.left)
              shows.intent shows.record_is safe' in
              calls_keep_safe laws file devices.file call.after.file mail
              (with_left mail state it.left) call it.sent it.after here it.session it.leaves trust recorded safe';
        },
        record {
          in_order = adds;
          durable = λ all legal front next clear. calls_keep_order mail (own mail.account account) file devices.file
              call.after.file (with_left mail state it.left) call it.sent it.after promises adds it.leaves all legal
              (left_keeps_front mail state it.left kept it.taken all legal front) next clear;
          recorded = λ trust. it.keeps trust promises.recorded;
        },
        after,
      );
  others = λ mail state devices left account keeps back all legal front.
      others_keep_order file devices.file left.file mail state account keeps back all legal front;
  loss = λ mail state devices left account shows lost all legal front.
      losses_keep_order mail state account all legal front (rw (shows.maildir, lost.shows.maildir) lost.maildir);
}
  where
    own : (account : List ℕ) → IsAccountText account → (m : Message) → names_id account m.uid (name_of account m.uid (length m.text)) ≡ true
    own account text m = (bytes_eq-Decides (stem_of account m.uid) _).1 (sym (laws.stems account m.uid (length m.text) text))

pub calls_keep_promises : Below → {W D F : Type 0} (link : WireGhosts W) (disk : DiskGhosts D) (file : FileGhosts F)
    → CallsKeepOrder link disk file → CallsKeepPromises link disk file
calls_keep_promises laws {W} {D} {F} link disk file order = keep
  where
    keep : CallsKeepPromises link disk file
    keep mail state devices [] shows kept = (shows, kept)
    keep mail state devices (Called call ∷ later) shows kept = (
      shows,
      kept,
      λ account_is is.
          let (promised, _, after) = order.call mail state devices call shows kept account_is is in
          (promised, keep mail _ call.after later promised.shows after),
    )
    keep mail state devices (Left left account ∷ later) shows kept = (
      shows,
      kept,
      λ then between. (
        λ keeps safe. others_keep_safe laws file devices.file left.file mail state account then.intent kept then.record_is between keeps
            (record_durable file devices.file mail state shows.intent shows.record_is safe) safe,
        keep mail (state_with mail state [] account) left later then (others_leave_kept mail state account kept between),
      ),
    )
    keep mail state devices (Lost left account ∷ later) shows kept = (
      shows,
      kept,
      λ safe lost.
          let loses : LosesPower state.account.maildir account.maildir = rw (shows.maildir, lost.shows.maildir) lost.maildir in
          let now = losses_leave_kept (file.disk devices.file) mail state account (stored_in file left.file).content
          lost.shows.intent kept safe loses lost.record_is.is lost.shows.record_is in (
            durable_is_safe laws file left.file mail (record state { account = account }) lost.shows.intent now lost.shows.record_is
                (all_left_durable mail.account state.account.maildir account.maildir loses) lost.record_is.durable,
            keep mail (record state { account = account }) left later lost.shows now,
          ),
    )

pub empty_is_kept : EmptyAccountsHold
empty_is_kept _ _ none none_gone no_file = record {
  holds = λ id l. inl (no_file id l);
  recorded = λ _ d. absurd (let never = rw none at d in cc);
  gone = rw none_gone tt;
}

-- ---- with an mboxrd file

-- each call is a session, which appends
pub mbox_calls_append : Below → {W D F : Type 0} (link : WireGhosts W) (disk : DiskGhosts D) (file : FileGhosts F)
    → MboxSessions link disk file → (base : Base) (done : List Message) (account : MboxMail)
    (devices : Devices F F) (call : Call W F F) → ShowsMbox file devices account
    → (holds : HoldsEntries base done account) → call.settings.read_all ≡ false
    → IsCall link disk file InMbox file.sound (IsTextOf base) devices call → (sent : List ℕ) × (after : MboxMail)
    × ((link.history call.wire').sent ≡ (link.history call.wire).sent ++ sent)
    × ShowsMbox file call.after after × (appends : AppendsMail base holds call sent after)
    × ((all : List Message) → (front : IsMboxFront base holds all)
    → ShowsNext call.settings call.maildrop (front.first ++ done) front.rest → IsMboxFront base appends.kept all)
mbox_calls_append laws link _ file sessions base _ account devices call shows holds only_new is =
    let (_, _, _, _, (ran, durably)) = sessions call.now (record { settings = call.settings; store = _; file = devices.file })
    (record { settings = call.settings; store = _; file = call.after.file }) call.wire call.wire' call.report is.made.1 is.made.2
    is.link_sound is.store_sound is.file_sound in
    let s = (mbox_sessions_lose_nothing laws call.settings call.now (link.history call.wire)
    (mbox_account_files (stored_in file devices.store) (stored_in file devices.file))
    (record { rows = account.rows; intent = account.intent }) call.report (link.history call.wire')
    (mbox_account_files (stored_in file call.after.store) (stored_in file call.after.file)) is.made.0 shows.record_is ran).0 in
    let (one, in_order) = appends _ laws holds (open_row laws _ _ _ shows.record_is) call s.sent _ s.effect is.maildrop only_new
    (is.served s.sent s.got s.sent_is s.got_is) (rw (← shows.bytes) at s.session) in
    (s.sent, _, s.sent_is, record { record_is = s.keeps; bytes = refl }, one, in_order)

-- what may be left of the record's file after a call
mbox_calls_keep_recorded : Below → {W D F : Type 0} (link : WireGhosts W) (disk : DiskGhosts D) (file : FileGhosts F)
    → MboxSessions link disk file → (base : Base) (account after : MboxMail) (devices : Devices F F) (call : Call W F F)
    → ShowsMbox file devices account → IsCall link disk file InMbox file.sound (IsTextOf base) devices call
    → ShowsMbox file call.after after → ShowsAll account.rows after.rows → TrustsMbox file devices call.after
    → KeepsRecorded (file.disk devices.file) (file.disk call.after.file) account.rows after.rows call.report.outcome
mbox_calls_keep_recorded laws {D = D} link _ file sessions base account after devices call shows is shows' stays
    ((record_trusted, record_left), mbox_trusted, _, _) =
    let (_, _, _, _, (ran, durably)) = sessions call.now (record { settings = call.settings; store = _; file = devices.file })
    (record { settings = call.settings; store = _; file = call.after.file }) call.wire call.wire' call.report is.made.1 is.made.2
    is.link_sound is.store_sound is.file_sound in
    keeps_recorded laws {D = D} file (InMbox devices.store) (InMbox call.after.store) devices.file call.after.file ran
    account.rows after.rows (account.intent, shows.record_is) (after.intent, shows'.record_is) (mbox_trusted, record_trusted) record_left
    stays durably

-- if whatever may be left of both files before a call holds entries, it does after it; and the first messages of these
-- lists have them, if they had and the server shows what is next
mbox_calls_keep_safe : Below → {W D F : Type 0} (link : WireGhosts W) (disk : DiskGhosts D) (file : FileGhosts F)
    → MboxSessions link disk file → (base : Base)
    (Among : List Message → Type 0) (done done' : List Message) (account after : MboxMail) (devices : Devices F F)
    (call : Call W F F) → ShowsMbox file devices account → (holds : HoldsEntries base done account)
    → ((all : List Message) → Among all → (front : IsMboxFront base holds all)
    × ShowsNext call.settings call.maildrop (front.first ++ done) front.rest) → call.settings.read_all ≡ false
    → IsCall link disk file InMbox file.sound (IsTextOf base) devices call → ShowsMbox file call.after after
    → Holds base Among done' after → TrustsMbox file devices call.after
    → IsMboxSafe (Holds base Among) file devices → IsMboxSafe (Holds base Among) file call.after
mbox_calls_keep_safe laws {D = D} link _ file sessions base Among done done' account after devices call shows holds fronts
    only_new is shows' kept trust safe =
    let (_, _, _, _, (ran, durably)) = sessions call.now (record { settings = call.settings; store = _; file = devices.file })
    (record { settings = call.settings; store = _; file = call.after.file }) call.wire call.wire' call.report is.made.1 is.made.2
    is.link_sound is.store_sound is.file_sound in
    let both = subst (λ (bytes : List ℕ). (h : HoldsEntries base done (record account { file = bytes }))
    × ((all : List Message) → Among all → (front : IsMboxFront base h all)
    × ShowsNext call.settings call.maildrop (front.first ++ done) front.rest)) shows.bytes (holds, fronts) in
    let now = subst (λ (bytes : List ℕ). Holds base Among done' (record after { file = bytes })) shows'.bytes kept in
    session_left laws D file base Among call (link.history call.wire) (link.history call.wire') is.made.0 is.maildrop only_new
    is.served devices call.after (record_state account.rows account.intent) (record_state after.rows after.intent) done done'
    (both.0, λ all among. (both.1 all among).0) now shows.record_is shows'.record_is (λ all among. (both.1 all among).1) trust safe
    ran durably

-- what calls see of both files is left
pub durable_is_mbox_safe : Below → {F : Type 0} (file : FileGhosts F) → DurableMboxesAreSafe file
durable_is_mbox_safe laws file _ done account devices shows holds held_is mbox_is rows intent left bytes may keeps also =
    let same = same_held laws.one _ (record_state rows intent)
    (record_state account.rows account.intent) (rw (held_is left may) at keeps) shows.record_is in
    let rows_are = ap (λ r. r.rows) same in
    let intent_is = ap (λ r. r.intent) same in
    (done, rw (rows_are, intent_is, mbox_is bytes also, ← shows.bytes) holds)

-- what a loss of power left holds entries, if whatever it might leave does
mbox_losses_leave : {F : Type 0} (file : FileGhosts F) (Holds : List Message → MboxMail → Type 0) (devices left : Devices F F)
    (now : MboxMail) → ShowsMbox file left now → IsMboxSafe Holds file devices → IsFileLeft file devices.store left.store
    → IsFileLeft file devices.file left.file → IsMboxSafe Holds file left × ((first : List Message) × Holds first now)
mbox_losses_leave file Holds devices left now shows safe mbox held = (
  λ rows intent could bytes may keeps also. rw (mbox.durable bytes also) (safe rows intent (stored_in file left.file).content
      (stored_in file left.store).content held.is (rw (held.durable could may) at keeps) mbox.is),
  let (first, holds) = safe now.rows now.intent (stored_in file left.file).content (stored_in file left.store).content held.is
      shows.record_is mbox.is in
      (first, subst (λ (bytes : List ℕ). Holds first (record now { file = bytes })) (sym shows.bytes) holds),
)

-- more entries
pub entered_more : (base : Base) (done more : List Message) (id : List ℕ) → is_entered base done id ≡ true
    → is_entered base (done ++ more) id ≡ true
entered_more base done more id is = grind (arith, is, ids_both done more id)

-- those whose ids weren't recorded before are those that are entered and weren't
entered_since : (base : Base) (done : List Message) → AllByRecursion (λ (m : Message). base.had m.uid ≡ false) done
    → (id : List ℕ) → has_id (message_ids done) id ≡ is_entered base done id && not (base.had id)
entered_since base done new id = ⊎_elim
    (λ (had : base.had id ≡ true). false_from_ne_true _ (λ there. both_ways _ (all_at (λ x. base.had x ≡ false) done new there) had)
    ∙ rw had refl)
    (λ (unknown : base.had id ≡ false). grind (arith, unknown))
    (cases_Bool (base.had id))

-- what the file is that holds entries
pub stands_as : (base : Base) (bytes : List ℕ) (account : MboxMail) → Stands base bytes account
    → (part : List ℕ) × (account.file ≡ bytes ++ part)
stands_as base bytes account stands = elim stands [
  | inl is ↦ ([], is.1 ∙ sym (append-nil bytes))
  | inr open_for ↦ (open_for.part, open_for.file)
]

-- beside whatever a loss of power leaves of the file, what calls see of the record may be left, which shows all entries
mbox_losses_keep : {F : Type 0} (file : FileGhosts F)
    → (base : Base) (done : List Message) (account : MboxMail) (devices left : Devices F F) (now : MboxMail)
    → ShowsMbox file devices account → HoldsEntries base done account → ShowsMbox file left now
    → IsMboxSafe (HoldsEntries base) file devices → IsFileLeft file devices.store left.store → KeepsEntries base done now.file
mbox_losses_keep file base done account devices left now shows holds then safe mbox =
    let (kept, is) = safe account.rows account.intent (stored_in file devices.file).content (stored_in file left.store).content
    (may_leave_seen file devices.file) shows.record_is mbox.is in
    let (part, whole) = stands_as base (base.start ++ entries_of kept) _ is.stands in
    record {
      kept = kept;
      are = is.are;
      same = λ id. entered_since base kept is.new id
          ∙ ap (λ b. b && not (base.had id)) (sym (is.recorded id) ∙ holds.recorded id) ∙ sym (entered_since base done holds.new id);
      begins = (part, then.bytes ∙ whole);
    }

pub mbox_keep_order : Below → {W D F : Type 0} (link : WireGhosts W) (disk : DiskGhosts D) (file : FileGhosts F)
    → MboxSessions link disk file → MboxCallsKeepOrder link disk file
mbox_keep_order laws link disk file sessions base done account devices call shows holds only_new is =
    let (sent, after, sent_is, shows', one, in_order) = mbox_calls_append laws link disk file sessions base done account devices call
    shows holds only_new is in (
      sent,
      after,
      sent_is,
      shows',
      one,
      record {
        in_order = in_order;
        recorded = mbox_calls_keep_recorded laws link disk file sessions base account after devices call shows is shows'
            (λ id recorded. one.kept.recorded id ∙ entered_more base done one.more id (sym (holds.recorded id) ∙ recorded));
      },
    )

pub mbox_calls_keep_promises : Below → {W D F : Type 0} (link : WireGhosts W) (disk : DiskGhosts D) (file : FileGhosts F)
    → MboxSessions link disk file → MboxCallsKeepPromises link disk file
mbox_calls_keep_promises laws link disk file sessions = keep
  where
    keep : MboxCallsKeepPromises link disk file
    keep _ _ _ _ [] shows holds = (shows, holds)
    keep base done account devices (Called call ∷ later) shows holds = (
      shows,
      holds,
      λ only_new is.
          let (sent, after, sent_is, shows', one, _) = mbox_calls_append laws link disk file sessions base done account
          devices call shows holds only_new is in (
            sent,
            after,
            sent_is,
            shows',
            one,
            λ trust safe rows intent left bytes may keeps also.
                let (first, there) = mbox_calls_keep_safe laws link disk file sessions base (λ _. ⊥) done (done ++ one.more)
                account after devices call shows holds (λ _ never. absurd never) only_new is shows'
                (one.kept, λ _ never. absurd never) trust (λ rows intent left bytes may keeps also.
                let (first, there) = safe rows intent left bytes may keeps also in (first, (there, λ _ never. absurd never)))
                rows intent left bytes may keeps also in
                (first, there.0),
            keep base (done ++ one.more) after call.after later shows' one.kept,
          ),
    )
    keep base done account devices (Left left now ∷ later) shows holds =
        (shows, holds, λ then from first there. keep from first now left later then there)
    keep base done account devices (Lost left now ∷ later) shows holds = (
      shows,
      holds,
      λ safe lost.
          let then = lost.shows in
          let (safe', (first, there)) =
          mbox_losses_leave file (HoldsEntries base) devices left now then safe lost.mbox_is lost.record_is in (
            mbox_losses_keep file base done account devices left now shows holds then safe lost.mbox_is,
            safe',
            (first, keep base first now left later then there),
          ),
    )

-- all mail has legal and distinct ids
are_legal : (Comes : List ℕ → List ℕ → Type 0) (all : List Message) → IsMaildrop Comes all → AreLegal all
are_legal _ _ is = record { each = all_map _ is.each (λ m h. h.legal); distinct = is.distinct }

-- what is recorded is the first of the selected messages
recorded_is : {world : World Base} {done : List Message} {account : MboxMail} (is : HoldsAMboxPrefix world done account)
    (id : List ℕ) → is_delivered account.rows id ≡ has_id (message_ids (is.front.first ++ done)) id
recorded_is {done = done} is id = is.holds.recorded id ∙ ap (λ b. b || has_id (message_ids done) id) (is.front.had id)
    ∙ sym (ids_both is.front.first done id)

-- of distinct messages in a row the first that have these ids are the same ones
pub same_front : (ms ns rest more : List Message) → ms ++ rest ≡ ns ++ more → Distinct (message_ids (ms ++ rest))
    → ((id : List ℕ) → has_id (message_ids ms) id ≡ has_id (message_ids ns) id) → ms ≡ ns
same_front [] [] _ _ _ _ _ = refl
same_front [] (n ∷ ns) _ _ _ _ same = absurd (both_ways _ (sym (same n.uid)) (or_left _ _ (bytes_self n.uid)))
same_front (m ∷ ms) [] _ _ _ _ same = absurd (both_ways _ (same m.uid) (or_left _ _ (bytes_self m.uid)))
same_front (m ∷ ms) (n ∷ ns) rest more e distinct same =
    let head : n ≡ m = cc in
    let tail : ms ++ rest ≡ ns ++ more = cc in
    ap (λ l. m ∷ l) (same_front ms ns rest more tail distinct.1 (λ id. later id (same id
    ∙ ap (λ (x : Message). bytes_eq id x.uid || has_id (message_ids ns) id) head))) ∙ ap (λ x. x ∷ ns) (sym head)
  where
    -- neither of the two has it again
    once : (l k : List Message) → has_id (message_ids (l ++ k)) m.uid ≡ false → has_id (message_ids l) m.uid ≡ false
    once l k none = let parts = sym (ids_both l k m.uid) ∙ none in grind (arith, parts)

    later : (id : List ℕ) → (bytes_eq id m.uid || has_id (message_ids ms) id) ≡ (bytes_eq id m.uid || has_id (message_ids ns) id)
        → has_id (message_ids ms) id ≡ has_id (message_ids ns) id
    later id both = elim (cases_Bool (bytes_eq id m.uid)) [
      | inl is ↦ let tail : ms ++ rest ≡ ns ++ more = cc in
          other_id m ms id (once ms rest distinct.0) is ∙ sym (other_id m ns id (once ns more
          (ap (λ l. has_id (message_ids l) m.uid) (sym tail) ∙ distinct.0)) is)
      | inr isnt ↦ grind (arith, isnt, both)
    ]

-- in order: what calls see of the record may be left beside whatever is left of the file, and it shows which are first
mbox_losses_keep_order : {F : Type 0} (file : FileGhosts F)
    → (world : World Base) (done : List Message) (account : MboxMail) (devices left : Devices F F) (now : MboxMail)
    → IsMaildrop (IsTextOf world.start) world.all → ShowsMbox file devices account → HoldsAMboxPrefix world done account
    → ShowsMbox file left now → IsMboxSafe (HoldsAMboxPrefix world) file devices → IsFileLeft file devices.store left.store
    → BeginsWithEntries world.start done now.file
mbox_losses_keep_order file world done account devices left now sound shows is then safe mbox =
    let (kept, there) = safe account.rows account.intent (stored_in file devices.file).content (stored_in file left.store).content
    (may_leave_seen file devices.file) shows.record_is mbox.is in
    let distinct : Distinct (message_ids (selected_of world)) = distinct_filter _ _ (distinct_is _ sound.distinct) in
    let same_first : is.front.first ≡ there.front.first = same_front is.front.first there.front.first (done ++ is.front.rest)
    (kept ++ there.front.rest) (sym (first_is is) ∙ first_is there)
    (subst (λ (l : List Message). Distinct (message_ids l)) (first_is is) distinct)
    (λ id. sym (is.front.had id) ∙ there.front.had id) in
    let same_both = same_front (is.front.first ++ done) (there.front.first ++ kept) is.front.rest there.front.rest
    (sym is.front.prefix ∙ there.front.prefix) (subst (λ (l : List Message). Distinct (message_ids l)) is.front.prefix distinct)
    (λ id. sym (recorded_is is id) ∙ recorded_is there id) in
    let same : kept ≡ done = append_cancel_left is.front.first kept done (ap (λ l. l ++ kept) same_first ∙ sym same_both) in
    let (part, whole) = stands_as world.start (world.start.start ++ entries_of kept) _ there.holds.stands in
    (part, then.bytes ∙ whole ∙ ap (λ ms. (world.start.start ++ entries_of ms) ++ part) same)
  where
    first_is : {ms : List Message} {seen : MboxMail} (h : HoldsAMboxPrefix world ms seen)
        → selected_of world ≡ h.front.first ++ (ms ++ h.front.rest)
    first_is {ms} h = h.front.prefix ∙ append_assoc h.front.first ms h.front.rest

-- what is left of it is
pub withdrawn : (Comes : List ℕ → List ℕ → Type 0) (ids : List (List ℕ)) (all : List Message) → IsMaildrop Comes all
    → IsMaildrop Comes (without ids all)
withdrawn _ _ _ is = record {
  each = all_filter _ _ _ is.each;
  distinct = are_distinct _ (distinct_filter _ _ (distinct_is _ is.distinct));
}

module _ (world : World Mail) (state : State) (sound : IsSound world) (front : IsFront world.start state (selected_of world)) where
  open world use {start as mail, size_limit, all}

  mail_is : AreLegal all
  mail_is = are_legal _ _ sound.all

  done_safe : (id : List ℕ) → has_id (message_ids front.done) id ≡ true → IsSafe mail state id
  done_safe id e = let l = done_legal _ front.done front.rest mail_is front.prefix id e in (l, sym (front.is_done id l) ∙ e)

  safe_done : (id : List ℕ) → IsSafe mail state id → has_id (message_ids front.done) id ≡ true
  safe_done id (l, safe) = front.is_done id l ∙ safe

  texts_done : (id : List ℕ) → has_id (message_ids front.done) id ≡ true
      → (text : List ℕ) × ComesFor mail id text × (texts_of front.done id ≡ text ∷ [])
  texts_done = one_text (ComesFor mail) front.done (done_distinct size_limit front.done front.rest mail_is front.prefix)
      (all_front _ front.done _ (rw front.prefix at (all_filter _ (is_selected size_limit) _ sound.all.each)))

  holds_done : Invariant mail state → (id : List ℕ) → is_legal_id id ≡ true
      → (copies (files state.account) (stem_of mail.account id) ≡ texts_of front.done id)
      ⊎ ((state.taken id ≡ true) × (copies (files state.account) (stem_of mail.account id) ≡ []))
  holds_done kept id l = elim (kept.holds id l) [
    | inl none ↦ ⊎_elim (λ taken. inr (taken, none)) (λ (untaken : state.taken id ≡ false). inl (none
        ∙ sym (no_texts front.done id (front.is_done id l
        ∙ ap (λ b. b || state.taken id) (held_copies mail.account state.account id ∙ ap is_some none) ∙ untaken))))
        (cases_Bool (state.taken id))
    | inr (text, comes, is) ↦
        let (other, comes', is') =
        texts_done id (safe_done id (l, or_left _ _ (held_copies mail.account state.account id ∙ ap is_some is))) in
        inl (is ∙ ap (λ (t : List ℕ). t ∷ []) (sound.one id text other comes comes') ∙ sym is')
  ]

  -- exactly the first of the selected messages are held
  holds_a_prefix : Invariant mail state → HoldsAPrefix world state
  holds_a_prefix kept = record {
    j = length front.done;
    below = let e = ap length front.prefix in omega (arith, e, length-append front.done front.rest);
    texts = λ id l. rw (front_is front.done front.rest front.prefix) (holds_done kept id l);
    ids = λ id l h. rw (front_is front.done front.rest front.prefix) (safe_done id (l, or_left _ _ h));
  }

pub empty_fronts_begin : EmptyFrontsBegin
empty_fronts_begin _ _ all none = record { done = []; rest = all; prefix = refl; is_done = λ id l. sym (none id l) }

-- so it is without messages that are neither held nor were taken away
withdrawn_leave_fronts : (world : World Mail) (state : State) (ids : List (List ℕ)) → IsSound world
    → (front : IsFront world.start state (selected_of world)) → AllByRecursion (λ id. is_safe world.start state id ≡ false) ids
    → IsSound (world_without ids world) × (later : IsFront world.start state (selected_of (world_without ids world)))
    × (later.done ≡ front.done)
withdrawn_leave_fronts _ state ids sound front none = (
  record { account = sound.account; all = withdrawn _ _ _ sound.all; one = sound.one },
  record {
    done = front.done;
    rest = without ids front.rest;
    prefix = prefix_left _ _ _ _ _ front.prefix
        (λ id done gone. both_ways _ (all_ids_at _ _ none gone) (done_safe _ state sound front id done).1);
    is_done = front.is_done;
  },
  refl,
)

-- a maildrop in order shows what is next, if these are done
order_shows_next : (Comes : List ℕ → List ℕ → Type 0) (limit : ℕ) (all done rest : List Message) (settings : Settings)
    (maildrop : List Message) → IsMaildrop Comes all → selected limit all ≡ done ++ rest
    → IsInOrder limit all (λ id. has_id (message_ids done) id ≡ true) settings maildrop → ShowsNext settings maildrop done rest
order_shows_next Comes limit all done rest _ _ are prefix order =
    rw (order.sizes, order.shown) (next_here _ _ _ _ _ (are_legal _ _ are) prefix order.done)

-- ---- what is taken away

pub nothing_taken : NoneTaken
nothing_taken _ _ after none stays id = grind (arith, none id, stays id)

pub taken_stays_away : Below → {W D F : Type 0} (link : WireGhosts W) (disk : DiskGhosts D) (file : FileGhosts F)
    → TakenStaysAway link disk file
taken_stays_away laws _ _ _ mail state _ call id account drop is new legal recorded unheld =
    let promises = is.promises in
    let legal_came = all_map _ promises.new
    (λ m h. all_at (λ x. is_legal_id x ≡ true) call.maildrop (all_map _ drop.each (λ n k. k.legal)) h.shown) in
    let unlike = no_texts promises.came id (none_has promises.came (all_map _ promises.new (λ m h. h.unrecorded new))) in
    let before = copies is.left.files (stem_of mail.account id) in (
      promises.recorded id recorded,
      held_copies mail.account is.after id ∙ ap is_some (copies_came is.left.files (files is.after) _ (stem_of mail.account id)
          (promises.added ∙ ap (λ fs. without_flags is.left.files ++ fs) (sym (named_messages laws mail.account account promises.came)))
          ∙ ap (λ c. before ++ c) (copies_messages laws mail.account account promises.came id legal legal_came ∙ unlike)
          ∙ append-nil before) ∙ sym (held_copies mail.account (record state.account { maildir = is.left }) id) ∙ unheld,
    )
  where
    none_has : (ms : List Message) → AllByRecursion (λ (m : Message). is_delivered state.account.rows m.uid ≡ false) ms
        → has_id (message_ids ms) id ≡ false
    none_has ms all = false_from_ne_true _
        (λ there. both_ways _ (all_at (λ x. is_delivered state.account.rows x ≡ false) ms all there) recorded)

-- what is entered is recorded, so it isn't withdrawn; nor is the next message, if its intent is open
withdrawn_leave_prefixes : (world : World Base) (done : List Message) (account : MboxMail) (ids : List (List ℕ))
    → IsMaildrop (IsTextOf world.start) world.all → (is : HoldsAMboxPrefix world done account)
    → AllByRecursion (IsUnbegun account) ids → IsMaildrop (IsTextOf world.start) (without ids world.all)
    × IsMboxFront world.start is.holds (selected world.size_limit (without ids world.all))
withdrawn_leave_prefixes world done account ids sound is unbegun = (
  withdrawn (IsTextOf base) ids all sound,
  record {
    first = is.front.first;
    rest = without ids is.front.rest;
    prefix = prefix_left size_limit all (is.front.first ++ done) is.front.rest ids is.front.prefix
        (λ id there gone. both_ways (is_delivered account.rows id) (all_ids_at _ _ unbegun gone).0 (recorded_is is id ∙ there));
    had = is.front.had;
    next = λ o e.
        let (more, first) = is.front.next o e in
        let out : has_id ids o.next.uid ≡ false =
        false_from_ne_true _ (λ gone. both_ways _ ((all_ids_at _ _ unbegun gone).1 _ o.intent) (bytes_self o.next.uid)) in
        (without ids more, ap (without ids) first ∙ rw out refl);
  },
)
  where
    open world use {start as base, size_limit, all}

pub mbox_fronts_begin : MboxFrontsBegin
mbox_fronts_begin world account first rest closed prefix recorded = record {
  holds = mbox_begins world.start account closed;
  front = record {
    first = first;
    rest = rest;
    prefix = rw append-nil prefix;
    had = recorded;
    next = λ o e. absurd (let never = sym closed ∙ o.intent in cc);
  };
}

-- ---- what the file means

pub entries_mean_texts : Below → EntriesMeanTexts
entries_mean_texts laws base done account first holds closed stands =
    rw (ends_whole base done account holds closed, ← flat_map-map entry_of (λ (m : Message). m.text) done)
    (texts_stand laws.adds base.start first (map (λ (m : Message). m.text) done)
    (all_mapped IsWhole _ done (all_map _ holds.are.each (λ m h. h.text.1))) stands)

-- what is done is among these, by whichever test
in_order : {limit : ℕ} {all : List Message} {P Q : List ℕ → Type 0} {settings : Settings} {maildrop : List Message}
    → ((id : List ℕ) → P id → Q id) → IsInOrder limit all P settings maildrop → IsInOrder limit all Q settings maildrop
in_order f order = record {
  sizes = order.sizes;
  come = order.come;
  gone = order.gone;
  done = all_map _ order.done f;
  shown = order.shown;
}

legal_selected : (world : World Mail) → IsSound world → AllByRecursion (λ (m : Message). is_legal_id m.uid ≡ true) (selected_of world)
legal_selected _ sound = all_filter _ _ _ (all_map _ sound.all.each (λ m is. is.legal))

pub headline : {W D F : Type 0} (link : WireGhosts W) (disk : DiskGhosts D) (file : FileGhosts F)
    → CallsKeepOrder link disk file → CallsKeepPromises link disk file → Headline link disk file
headline link disk file order promised = all_hold
  where
    all_hold : Headline link disk file
    all_hold world state _ [] sound shows kept front = (shows, holds_a_prefix world state sound front kept)
    all_hold world state devices (Called call ∷ later) sound shows kept front = (
      shows,
      holds_a_prefix world state sound front kept,
      λ withdrawn none shown_is account_is is clear.
          let (promises, keeps, after_kept) = order.call world.start state devices call shows kept account_is is in
          let clear' = ap (λ (m : Maildir). m.odd) promises.shows.maildir ∙ clear in
          let (sound', front', same) = withdrawn_leave_fronts world state withdrawn sound front none in
          let legal = legal_selected (world_without withdrawn world) sound' in
          let shown : (f : IsFront world.start state (selected_of (world_without withdrawn world)))
          → ShowsNext call.settings call.maildrop f.done f.rest =
          λ f. order_shows_next (ComesFor world.start) world.size_limit (world_without withdrawn world).all f.done f.rest
          call.settings call.maildrop sound'.all f.prefix (in_order (λ id (l, safe). f.is_done id l ∙ safe) shown_is) in (
            promises,
            (
              λ durable.
                  let (sound'', is', done_is) = withdrawn_leave_fronts world state withdrawn sound durable.is none in
                  keeps.durable (selected_of (world_without withdrawn world)) legal (record {
                    is = is';
                    first = durable.first;
                    last = durable.last;
                    done = done_is ∙ durable.done;
                    at_most_one = durable.at_most_one;
                    named = durable.named;
                  }) (shown is') clear',
              all_hold (world_without withdrawn world) _ call.after later sound' promises.shows after_kept
                  (keeps.in_order _ legal (left_front world.start state promises.left kept promises.taken _
                  front') (shown front') clear').0,
            ),
          ),
    )
    all_hold world state devices (Left left account ∷ later) sound shows kept front =
        let (_, _, others) = promised world.start state devices (Left left account ∷ []) shows kept in (
          shows,
          holds_a_prefix world state sound front kept,
          λ then between back.
              let (safe, (after_shows, after_kept)) = others then between in
              all_hold world _ left later sound after_shows after_kept (front_stays world.start state account _ front back),
        )
    all_hold world state devices (Lost left account ∷ later) sound shows kept front =
        let (_, _, loss) = promised world.start state devices (Lost left account ∷ []) shows kept in (
          shows,
          holds_a_prefix world state sound front kept,
          λ safe durable lost.
              let (safe', (after_shows, after_kept)) = loss safe lost in
              all_hold world _ left later sound after_shows after_kept (order.loss world.start state devices left account shows lost
              (selected_of world) (legal_selected world sound) durable).is,
        )

pub mbox_headline : Below → {W D F : Type 0} (link : WireGhosts W) (disk : DiskGhosts D) (file : FileGhosts F)
    → MboxSessions link disk file → MboxHeadline link disk file
mbox_headline laws link disk file sessions = all_hold
  where
    all_hold : MboxHeadline link disk file
    all_hold _ _ _ _ [] _ shows is = (shows, is)
    all_hold world done account devices (Called call ∷ later) sound shows is = (
      shows,
      is,
      λ withdrawn unbegun order only_new called.
          let (sound', front) = withdrawn_leave_prefixes world done account withdrawn sound is unbegun in
          let (sent, after, sent_is, shows', one, fronts) = mbox_calls_append laws link disk file sessions world.start done
          account devices call shows is.holds only_new called in
          let shown = order_shows_next (IsTextOf world.start) world.size_limit (world_without withdrawn world).all
          (front.first ++ done) front.rest call.settings call.maildrop sound' front.prefix
          (in_order (λ id entered. ids_both front.first done id
          ∙ ap (λ (b : Bool). b || has_id (message_ids done) id) (sym (front.had id)) ∙ entered) order) in (
            sent,
            after,
            sent_is,
            shows',
            one,
            λ trust safe rows intent left bytes may keeps also.
                let among : (done : List Message) (seen : MboxMail) (holds : HoldsEntries world.start done seen)
                → IsMboxFront world.start holds (selected_of (world_without withdrawn world))
                → Holds world.start (λ all. all ≡ selected_of (world_without withdrawn world)) done seen =
                λ done seen holds front.
                (holds, λ _ same. subst (λ (l : List Message). IsMboxFront world.start holds l) (sym same) front) in
                let (first, there) = mbox_calls_keep_safe laws link disk file sessions world.start
                (λ all. all ≡ selected_of (world_without withdrawn world)) done (done ++ one.more) account after devices call shows is.holds
                (λ _ same. subst (λ (l : List Message). (f : IsMboxFront world.start is.holds l)
                × ShowsNext call.settings call.maildrop (f.first ++ done) f.rest) (sym same) (front, shown))
                only_new called shows' (among (done ++ one.more) after one.kept (fronts _ front shown)) trust
                (λ rows intent left bytes may keeps also.
                let (first, (there, unbegun)) = safe rows intent left bytes may keeps also in
                (first, among first _ there.holds (withdrawn_leave_prefixes world first _ withdrawn sound there unbegun).1))
                rows intent left bytes may keeps also in
                (first, record { holds = there.0; front = there.1 _ refl }),
            all_hold (world_without withdrawn world) (done ++ one.more) after call.after later sound' shows'
                (record { holds = one.kept; front = fronts _ front shown }),
          ),
    )
    all_hold world done account devices (Left left now ∷ later) sound shows is =
        (shows, is, λ then from held sound' there. all_hold (record world { start = from }) held now left later sound' then there)
    all_hold world done account devices (Lost left now ∷ later) sound shows is = (
      shows,
      is,
      λ safe lost.
          let then = lost.shows in
          let (safe', (held, there)) =
          mbox_losses_leave file (HoldsAMboxPrefix world) devices left now then safe lost.mbox_is lost.record_is in (
            mbox_losses_keep_order file world done account devices left now sound shows is then safe lost.mbox_is,
            safe',
            (held, all_hold world held now left later sound then there),
          ),
    )
