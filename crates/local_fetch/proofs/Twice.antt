-- A second call over the same messages fetches nothing.
use Rattle.std.{
  proofs.{
    Common.{◌≡◌, inl, inr, ℕ, zero, suc, Bool, true, false, List, [], ◌∷◌, ◌++◌, map, Some, refl, sym, ap, ◌∙◌},
    Common.{append-nil, ap₂, length, take, ◌||◌},
    lemmas.{Bool.{both_ways, cases_Bool, or_left}, Slice.Eq.bytes_eq-Decides},
  },
  specs.{List.{AllByRecursion, filter, list_any}, Prelude.bytes_eq},
}
use Rattle.mail_store.specs.{
  declared.{maildir.disk.MaildirDisk.Ghosts as DiskGhosts, file.flat_file.FlatFile.Ghosts as FileGhosts},
  FileName.{is_held, is_odd, names_id, stem_of},
  Maildir.{AreReached, File, Maildir, WereTaken, file as file_of},
}
use Rattle.mail_terms.specs.{Distinct.AreDistinct}
use Rattle.fetch_record.specs.Record.{is_delivered}
use Rattle.pop3_wire.specs.{World.{IsMessage, Message}, declared.wire.Wire.Ghosts as WireGhosts}
use Rattle.pop3_server.specs.{
  declared.maildrop.Maildrop.Ghosts as DropGhosts,
  LoopLink.Loop,
  Maildrop.{DropMail, there},
}
use Rattle.rc_file.specs.declared.settings.Settings.{Settings}
use Rattle.fetch_rules.{specs.{Limits.SetsNoLimits, Wanted.at_most}, proofs.PlanLemmas.{at_most_all, sizes_within}}
use Rattle.session_parts.specs.{
  Account.digits_of,
  declared.{work.Store.TheVariants.{Maildir as InMaildir}, report.Outcome.TheVariants.Ended},
}
use Rattle.fetch_runs.{
  specs.{Accounts.{copies, message_ids, without_flags}, Calls.{Called, EmptyAccountsHold}},
  specs.Promises.{Call, ComesFor, Devices, FetchesWanted, IsMaildrop, Mail, may_fetch},
  proofs.{Core.message_size, Lists.{all_at, all_back, all_both, all_map}, Outcomes.none_gone},
}
use Rattle.local_fetch.{
  specs.Fetches.{Fetch, FetchesKeepPromises, FirstFetchesKeepMail, IsFetch, as_call, shown_by},
  specs.Twice.{EndsOver, SecondsFetchNothing, server_of},
  proofs.{FetchLemmas.from_nothing, FirstFetches.none_left},
}

-- all that it was made of is there
all_there : (messages : List Message) → there (map Some messages) ≡ messages
all_there [] = refl
all_there (m ∷ messages) = ap (λ (ms : List Message). m ∷ ms) (all_there messages)

-- without limits, and with no odd name, all that isn't known may be fetched
all_may : (settings : Settings) → SetsNoLimits settings → (is_odd known : List ℕ → Bool) → ((id : List ℕ) → is_odd id ≡ false)
    → ((id : List ℕ) → known id ≡ false) → (ms : List Message) → filter (may_fetch settings is_odd known) ms ≡ ms
all_may settings limits is_odd known clear none [] = refl
all_may settings limits is_odd known clear none (m ∷ ms) =
    let may : may_fetch settings is_odd known m ≡ true = elim (cases_Bool settings.read_all) [
      | inl all ↦ rw (all, clear m.uid, sizes_within settings 0 limits.sizes m.size) refl
      | inr new ↦ rw (new, none m.uid, clear m.uid, sizes_within settings 0 limits.sizes m.size) refl
    ] in
    rw may (ap (λ (rest : List Message). m ∷ rest) (all_may settings limits is_odd known clear none ms))

-- of what is known nothing may be fetched, if only what is new is read
none_may : (settings : Settings) (is_odd known : List ℕ → Bool) → settings.read_all ≡ false → (ms : List Message)
    → AllByRecursion (λ (m : Message). known m.uid ≡ true) ms → filter (may_fetch settings is_odd known) ms ≡ []
none_may settings is_odd known new [] all = refl
none_may settings is_odd known new (m ∷ ms) (is, all) =
    let may : may_fetch settings is_odd known m ≡ false = rw (new, is) refl in
    rw may (none_may settings is_odd known new ms all)

abbrev no_messages : List Message
no_messages = []

take_none : (n : ℕ) → take n no_messages ≡ no_messages
take_none zero = refl
take_none (suc n) = refl

-- what is so of all that an uncut call wants, if it may fetch all
all_wanted : {W S F : Type 0} (call : Call W S F) (is_odd known : List ℕ → Bool) {Is : Message → Type 0} (P : Message → Type 0)
    → FetchesWanted call is_odd known Is → call.report.outcome ≡ Ended → ((m : Message) → Is m → P m)
    → SetsNoLimits call.settings → ((id : List ℕ) → is_odd id ≡ false) → ((id : List ℕ) → known id ≡ false)
    → AllByRecursion P call.maildrop
all_wanted call is_odd known P wanted ended by limits clear none =
    let all : AllByRecursion P (filter (λ (m : Message). known m.uid) call.maildrop
    ++ at_most call.settings message_size (filter (may_fetch call.settings is_odd known) call.maildrop)) =
    all_map _ (wanted ended).1 by in
    let got : AllByRecursion P (at_most call.settings message_size (filter (may_fetch call.settings is_odd known) call.maildrop)) =
    all_back P (filter (λ (m : Message). known m.uid) call.maildrop) _ all in
    rw (all_may call.settings limits is_odd known clear none call.maildrop, at_most_all limits message_size call.maildrop) at got

-- none is retrieved, if all is known
none_wanted : {W S F : Type 0} (call : Call W S F) (is_odd known : List ℕ → Bool) (Is : Message → Type 0)
    → FetchesWanted call is_odd known Is → call.report.outcome ≡ Ended → call.settings.read_all ≡ false
    → AllByRecursion (λ (m : Message). known m.uid ≡ true) call.maildrop → call.report.retrieved ≡ 0
none_wanted call is_odd known Is wanted ended new all =
    let count = rw (none_may call.settings is_odd known new call.maildrop all) at (wanted ended).0 in
    count ∙ ap length (take_none _)

-- nothing of which each is impossible
nothing_came : (P : Message → Type 0) (ms : List Message) → AllByRecursion P ms → ((m : Message) → P m → ⊥) → ms ≡ []
nothing_came P [] all never = refl
nothing_came P (m ∷ ms) all never = absurd (never m all.0)

module _ {D F : Type 0} (link : WireGhosts (Loop DropMail)) (disk : DiskGhosts D) (file : FileGhosts F)
    (drop : DropGhosts DropMail) (mail_is : (d : DropMail) → drop.mail d ≡ d) (messages : List Message)
    (are : AllByRecursion IsMessage messages) (text : List ℕ → List ℕ)
    (named : AllByRecursion (λ (m : Message). m.text ≡ text m.uid) messages) (distinct : AreDistinct (message_ids messages)) where
  abbrev mail_of : Settings → Mail
  mail_of settings = record { account = digits_of settings; is_text = λ id came. bytes_eq came (text id) }

  shown_is : (fetch : Fetch DropMail D F) → fetch.server ≡ server_of fetch.settings messages → shown_by drop fetch.server ≡ messages
  shown_is fetch server = rw (server, mail_is (server_of fetch.settings messages).drop) (all_there messages)

  maildrop : (settings : Settings) → IsMaildrop (ComesFor (mail_of settings)) messages
  maildrop settings = record {
    each = all_both messages are named
        (λ m is its. record { legal = is.legal; text = (bytes_eq-Decides m.text (text m.uid)).1 its });
    distinct = distinct;
  }

  is_fetch : (settings : Settings) (devices : Devices D F) (fetch : Fetch DropMail D F)
      → EndsOver link disk file drop messages devices fetch
      → IsFetch link disk file drop InMaildir (ComesFor (mail_of settings)) devices fetch
  is_fetch settings devices fetch ends = record {
    fetched = ends.fetched;
    messages = rw (shown_is fetch ends.server) are;
    maildrop = rw (shown_is fetch ends.server) (maildrop settings);
    store_sound = ends.store_sound;
    file_sound = ends.file_sound;
    drop_sound = ends.drop_sound;
  }

  is_first : (devices : Devices D F) (fetch : Fetch DropMail D F) → EndsOver link disk file drop messages devices fetch
      → IsFetch link disk file drop InMaildir (λ id came. came ≡ text id) devices fetch
  is_first devices fetch ends = record {
    fetched = ends.fetched;
    messages = rw (shown_is fetch ends.server) are;
    maildrop = rw (shown_is fetch ends.server) (record {
      each = all_both messages are named (λ m is its. record { legal = is.legal; text = its });
      distinct = distinct;
    });
    store_sound = ends.store_sound;
    file_sound = ends.file_sound;
    drop_sound = ends.drop_sound;
  }

-- by names and bytes the same files are left, of which more may be durable
reached_same : (files left : List File) → AreReached files left → without_flags left ≡ without_flags files
reached_same [] [] all = refl
reached_same [] (g ∷ left) never = absurd never
reached_same (f ∷ files) [] never = absurd never
reached_same (f ∷ files) (g ∷ left) (is, all) =
    ap₂ (λ (x : File) (xs : List File). x ∷ xs) (ap₂ (λ (name content : List ℕ). file_of name content) is.name is.content)
    (reached_same files left all)

-- so they are if none was seen to be taken away
same_files : (old left : Maildir) → WereTaken old left → {after : List File} → after ≡ old.taken → after ≡ left.taken
    → {Is : Type 0} → ((without_flags left.files ≡ without_flags old.files) → Is) → Is
same_files old left taken same is then =
    let grown : left.taken ≡ old.taken ++ taken.gone = ap (λ (m : Maildir). m.taken) taken.is in
    let none : taken.gone ≡ [] = none_gone old.taken taken.gone (sym grown ∙ sym is ∙ same) in
    then (reached_same old.files left.files (rw none at taken.files))

pub seconds_fetch_nothing : {D F : Type 0} (link : WireGhosts (Loop DropMail)) (disk : DiskGhosts D) (file : FileGhosts F)
    (drop : DropGhosts DropMail) → ((d : DropMail) → drop.mail d ≡ d) → EmptyAccountsHold
    → FetchesKeepPromises link disk file drop → FirstFetchesKeepMail link disk file drop
    → SecondsFetchNothing link disk file drop
seconds_fetch_nothing link disk file drop mail_is empty law first_law text messages devices first second are named distinct
    no_file no_record limits same new a b =
    let mail : Mail = mail_of link disk file drop mail_is messages are text named distinct first.settings in
    let fetch_is = is_fetch link disk file drop mail_is messages are text named distinct first.settings in
    let shown = shown_is link disk file drop mail_is messages are text named distinct in
    let (_, _, then) = from_nothing link disk file drop empty law mail devices (Called first ∷ Called second ∷ []) no_file no_record in
    let (vanished, _, one, _, (_, _, then')) = then refl (fetch_is devices first a) in
    let (vanished', _, two, _, _) = then' (ap digits_of same) (fetch_is first.after second b) in
    let left_none = none_left one.taken.gone one.left.files (rw no_file at one.taken.files) in
    let clear : one.after.maildir.odd ≡ [] = ap (λ (m : Maildir). m.odd) one.shows.maildir ∙ a.none_odd in
    let recorded : AllByRecursion (λ (m : Message). is_delivered one.after.rows m.uid ≡ true) messages =
    rw (shown first a.server) at (all_wanted (as_call drop first vanished)
    (λ id. list_any (names_id (digits_of first.settings) id) one.after.maildir.odd) (is_held (digits_of first.settings) one.left)
    (λ (m : Message). is_delivered one.after.rows m.uid ≡ true) one.promises.wanted a.ended (λ m both. both.1) limits
    (λ id. rw clear refl) (λ id. rw left_none refl)) in
    let (vanished₁, _, _, _, _, _, wanted) = first_law text devices first no_file no_record
    (is_first link disk file drop mail_is messages are text named distinct devices first a) in
    let stored : AllByRecursion (λ (m : Message). copies (disk.maildir first.after.store).files (stem_of (digits_of first.settings) m.uid)
    ≡ m.text ∷ []) messages = rw (shown first a.server) at (all_wanted (as_call drop first vanished₁)
    (is_odd (digits_of first.settings) (disk.maildir first.after.store)) (λ id. false) (λ (m : Message).
    copies (disk.maildir first.after.store).files (stem_of (digits_of first.settings) m.uid) ≡ m.text ∷ []) wanted a.ended
    (λ m is. is) limits (λ id. rw a.none_odd refl) (λ id. refl)) in
    let zero_is : second.report.retrieved ≡ 0 = none_wanted (as_call drop second vanished')
    (λ id. list_any (names_id (digits_of first.settings) id) two.after.maildir.odd)
    (λ id. is_delivered one.after.rows id || is_held (digits_of first.settings) two.left id) _ two.promises.wanted b.ended new
    (rw (shown second b.server) (all_map _ recorded (λ m is. or_left _ _ is))) in
    let none : two.promises.came ≡ [] = nothing_came _ two.promises.came two.promises.new
    (λ m is. both_ways (is_delivered one.after.rows m.uid) (is.unrecorded new)
    (all_at (λ x. is_delivered one.after.rows x ≡ true) messages recorded (rw (shown second b.server) at is.shown))) in (
      stored,
      zero_is,
      two.sent,
      two.sent_is,
      (two.promises.deletes.commands, two.promises.deletes.asked, sym (two.promises.retrieved b.ended) ∙ zero_is),
      λ same_taken. same_files one.after.maildir two.left two.taken (ap (λ (m : Maildir). m.taken) two.shows.maildir ∙ same_taken
          ∙ ap (λ (m : Maildir). m.taken) (sym one.shows.maildir)) two.taken_is (λ files.
          ap (λ (m : Maildir). without_flags m.files) (sym two.shows.maildir) ∙ (rw none at two.promises.added)
          ∙ append-nil (without_flags two.left.files) ∙ files ∙ ap (λ (m : Maildir). without_flags m.files) one.shows.maildir),
    )
