-- From nothing on, a call keeps what it removes from the server, and an uncut one all that was there, up to its limits.
use Rattle.std.{
  proofs.Common.{◌≡◌, inl, inr, ℕ, Bool, true, false, List, [], ◌∷◌, ◌++◌, refl, subst, sym, ◌∙◌, true≢false},
  proofs.lemmas.{Bool.cases_Bool, Slice.Eq.bytes_eq-Decides},
  specs.{List.{AllByRecursion, list_any}, Prelude.bytes_eq},
}
use Rattle.mail_store.specs.{
  declared.{maildir.disk.MaildirDisk.Ghosts as DiskGhosts, file.flat_file.FlatFile.Ghosts as FileGhosts},
  FileName.{is_held, is_odd, stem, stem_of},
  Maildir.{File, IsWithout, Maildir},
}
use Rattle.pop3_wire.specs.{World.Message, declared.{command.Command.{Command, TheVariants.Dele}, wire.Wire.Ghosts as WireGhosts}}
use Rattle.pop3_server.specs.{declared.maildrop.Maildrop.Ghosts as DropGhosts, LoopLink.Loop}
use Rattle.session_parts.specs.Account.{digits_of}
use Rattle.fetch_runs.{
  specs.{Accounts.{AccountMail, copies}, Promises.{Call, DeletesOneOf, FetchesWanted, IsSafe, Mail, MboxStarts, state_with}},
  specs.Calls.{Called, EmptyAccountsHold, with_left},
  proofs.{Lists.{all_append, all_back, all_both, all_filter, all_take}, MboxPromised.ends_whole},
}
use Rattle.local_fetch.{
  specs.Fetches.{FetchesKeepPromises, FirstFetchesKeepMail, as_call, nothing_yet, MboxFetchesKeepPromises, MboxFirstFetchesKeepMail},
  proofs.FetchLemmas.{from_nothing, mbox_from_nothing},
}

-- of no files none is left
pub none_left : (gone left : List File) → IsWithout [] gone left → left ≡ []
none_left [] [] reached = refl
none_left [] (f ∷ left) never = absurd never
none_left (g ∷ gone) left ([], back, never, rest) = absurd never
none_left (g ∷ gone) left (f ∷ front, back, never, rest) = absurd never

-- a message that is held has a copy
pub no_copies : (front : List ℕ) (fs : List File) → copies fs front ≡ [] → list_any (λ (f : File). bytes_eq front (stem f.name)) fs ≡ false
no_copies front [] none = refl
no_copies front (f ∷ fs) none = elim (cases_Bool (bytes_eq front (stem f.name))) [
  | inl is ↦ absurd (let never = rw is at none in cc)
  | inr isnt ↦ rw isnt (no_copies front fs (rw isnt at none))
]

-- none was taken away, so what is safe is held
held : (mail : Mail) (maildir left : Maildir) (vanished : List (List ℕ)) (after : AccountMail) (id : List ℕ)
    → maildir.files ≡ [] → left.files ≡ [] → IsSafe mail (state_with mail (with_left mail (nothing_yet maildir) left) vanished after) id
    → is_held mail.account after.maildir id ≡ true
held mail maildir left vanished after id none none' safe = elim (cases_Bool (is_held mail.account after.maildir id)) [
  | inl is ↦ is
  | inr isnt ↦ absurd (let never = rw (isnt, none', none) at safe.1 in cc)
]

all_by : {P Q : List ℕ → Type 0} → ((id : List ℕ) → P id → Q id) → (ids more : List (List ℕ)) → AllByRecursion P (ids ++ more)
    → AllByRecursion Q ids
all_by by [] more ps = tt
all_by by (id ∷ ids) more (p, ps) = (by id p, all_by by ids more ps)

-- what a DELE that was sent asks for
its_message : (messages : List Message) (Is : List ℕ → Type 0) (commands front behind : List Command) (number : ℕ)
    → commands ≡ front ++ Dele number ∷ behind → AllByRecursion (DeletesOneOf messages Is) commands → DeletesOneOf messages Is (Dele number)
its_message messages Is commands front behind number is all =
    (all_back (DeletesOneOf messages Is) front (Dele number ∷ behind) (rw is at all)).0

-- what follows for what is wanted, and what is known also by another test
wanted_by : {W S F : Type 0} (call : Call W S F) (is_odd is_known is_too : List ℕ → Bool) {P Is Too : Message → Type 0}
    → FetchesWanted call is_odd is_known Is → ((id : List ℕ) → is_known id ≡ is_too id) → AllByRecursion P call.maildrop
    → ((m : Message) → Is m → P m → Too m) → FetchesWanted call is_odd is_too Too
wanted_by call is_odd is_known is_too {P = P} {Too = Too} wanted same all by =
    subst (λ (k : List ℕ → Bool). FetchesWanted call is_odd k Too) (λ i id. same id i) (λ ended.
    let (count, each) = wanted ended in
    (count, all_both _ each (all_append P _ _ (all_filter P _ _ all) (all_take P _ _ (all_filter P _ _ all))) by))

pub keep_mail : {M D F : Type 0} (link : WireGhosts (Loop M)) (disk : DiskGhosts D) (file : FileGhosts F) (drop : DropGhosts M)
    → EmptyAccountsHold → FetchesKeepPromises link disk file drop → FirstFetchesKeepMail link disk file drop
keep_mail link disk file drop empty law text devices fetch no_file no_record is =
    let mail : Mail = record { account = digits_of fetch.settings; is_text = λ id came. bytes_eq came (text id) } in
    let (shows, kept, then) = from_nothing link disk file drop empty law mail devices (Called fetch ∷ []) no_file no_record in
    let (vanished, removed, promised, _, (shows', kept')) = then refl (record {
      fetched = is.fetched;
      messages = is.messages;
      maildrop = record {
        each = all_both _ is.maildrop.each is.maildrop.each
            (λ m of _. record { legal = of.legal; text = (bytes_eq-Decides m.text (text m.uid)).1 of.text });
        distinct = is.maildrop.distinct;
      };
      store_sound = is.store_sound;
      file_sound = is.file_sound;
      drop_sound = is.drop_sound;
    }) in
    let left_none = none_left promised.taken.gone promised.left.files (rw no_file at promised.taken.files) in
    let safe_held : (id : List ℕ) → IsSafe mail (state_with mail (with_left mail (nothing_yet (disk.maildir devices.store)) promised.left)
    vanished promised.after) id → is_held mail.account promised.after.maildir id ≡ true =
    λ id safe. held mail (disk.maildir devices.store) promised.left vanished promised.after id no_file left_none safe in (
      vanished,
      removed,
      rw (← shows'.maildir) (all_by safe_held vanished [] kept'.gone),
      promised.sent,
      promised.sent_is,
      record {
        commands = promised.promises.deletes.commands;
        asked = promised.promises.deletes.asked;
        deletes = λ front behind number is.
            let (_, m, at, safe) = its_message _ _ _ front behind number is promised.promises.deletes.each in
            (m, at, rw (← shows'.maildir) (safe_held m.uid safe));
        retrieved = promised.promises.retrieved;
      },
      subst (λ (shown : Maildir). FetchesWanted (as_call drop fetch vanished) (is_odd mail.account shown) (λ id. false)
          (λ m. copies (disk.maildir fetch.after.store).files (stem_of mail.account m.uid) ≡ m.text ∷ [])) shows'.maildir
          (wanted_by (as_call drop fetch vanished) (is_odd mail.account promised.after.maildir)
          (is_held mail.account promised.left) (λ id. false) promised.promises.wanted
          (λ id. rw left_none refl) is.maildrop.each (λ m (safe, _) of. elim (kept'.holds m.uid of.legal) [
            | inl none ↦ absurd (true≢false (sym (safe_held m.uid safe)
                ∙ no_copies (stem_of mail.account m.uid) promised.after.maildir.files none))
            | inr (came, comes, one) ↦
                let same : m.text ≡ came = of.text ∙ sym ((bytes_eq-Decides came (text m.uid)).0 comes) in
                rw (← shows'.maildir, same) one
          ])),
    )

-- ---- with an mboxrd file

pub keep_entries : {M D F : Type 0} (link : WireGhosts (Loop M)) (disk : DiskGhosts D) (file : FileGhosts F) (drop : DropGhosts M)
    → MboxStarts → MboxFetchesKeepPromises link disk file drop → MboxFirstFetchesKeepMail link disk file drop
keep_entries link disk file drop starts law text_of devices fetch no_record only_new is =
    let (_, _, then) = mbox_from_nothing link disk file drop starts law text_of devices (Called fetch ∷ []) no_record in
    let (vanished, removed, _, sent, after, sent_is, shows, appends, _, _, _) = then only_new is in
    let done : List Message = appends.more in (
      vanished,
      removed,
      done,
      appends.vanished,
      sent,
      sent_is,
      record {
        commands = appends.deletes.commands;
        asked = appends.deletes.asked;
        deletes = λ front behind number is.
            let (_, m, at, entered) = its_message _ _ _ front behind number is appends.deletes.each in
            (m, at, entered);
        retrieved = appends.retrieved;
      },
      λ ended. (
        sym shows.bytes ∙ ends_whole _ done after appends.kept (appends.closed ended),
        (after.rows, rw (appends.closed ended) at shows.record_is),
      ),
      appends.found,
      appends.wanted,
    )
