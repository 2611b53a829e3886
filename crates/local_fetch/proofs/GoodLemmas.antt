-- A call of `fetch_local` in which nothing fails ends, and has stored what it wants.
use Rattle.std.{
  proofs.Common.{◌≡◌, ◌≤◌, ◌<◌, ◌+◌, ◌∙◌, ℕ, Bool, true, false, List, [], ◌∷◌, ◌++◌, None, Some, append-nil, append_assoc, ap, ap₂, arith},
  proofs.Common.{codes, inl, inr, length, map, refl, subst, sym},
  proofs.lemmas.{Bool.false≢true, List.append_cancel_left},
  specs.{List.{AllByRecursion, AllZip, enumerate_from, flat_map}, String.string_bytes},
}
use Rattle.mail_terms.{
  specs.{Listing.{Agree, Item, UidRow}, Numbering.IsNumbering, declared.listing.ScanRow.ScanRow},
  proofs.ListLemmas.all_append,
}
use Rattle.rc_file.specs.{Settings.IsValid, declared.settings.Settings.Settings}
use Rattle.fetch_record.specs.Record.{Row}
use Rattle.fetch_rules.specs.{Plan.{fetches, step_of}, declared.plans.Step.Step}
use Rattle.mail_store.specs.{
  Devices.stored_in,
  Maildir.{Maildir, WereTaken},
  declared.{maildir.disk.MaildirDisk.Ghosts as DiskGhosts, file.flat_file.FlatFile.Ghosts as FileGhosts},
}
use Rattle.pop3_wire.{
  proofs.BodyLemmas.{IsLine-nil, one_list_of_replies},
  specs.{Fields.number_and_size, World.IsMessage, Line.{IsLine, ended}, Place.{Place, at}, Reply.{indicator, without_space}},
  specs.declared.{reply.Status.TheVariants.Positive, command.Command.TheVariants.{ListAll, Pass, Stat, UidlAll, User}},
  specs.declared.wire.Wire.Ghosts as WireGhosts,
  specs.Reading.{GivesCount, HasListing, IsScanLine, IsUidLine, WholeReply, reply_bytes},
}
use Rattle.pop3_client.specs.Turns.{IsGood, Turn, asking, greeting as hello, quit, turn_bytes}
use Rattle.pop3_server.specs.{
  declared.{maildrop.Maildrop.Ghosts as DropGhosts, state.State.TheVariants.Authorization},
  AnswersLines.AnswersLines,
  LoopLink.{Loop, Serves},
  Maildrop.{DropMail, there},
  ServerMachine.{Machine, greeting_line, is_open},
}
use Rattle.session_parts.{
  proofs.ServedLemmas.reads_all,
  specs.{Cuts.{ArePlanned, Extends, refused_in}, Opening.{SessionOpened, opening}, CarryingOut.tasks_ahead, Readiness.merged_in},
  specs.{Served.{AreAnswered, GoodSessionsStoreAll}, Session.{Keeping, SessionIn, keeping}},
  specs.Target.{AsEntries, AsFiles, Stores, Target, held_flags, odd_in, stores_of, with_maildir},
  specs.Task.{Task, deleting, fetching, says, tasks_in, tasks_planned, turns_ahead},
}
use Rattle.fetch_runs.proofs.{Lists.all_front, Talk.{few_items, replied, said_opening}, Turns.{CanBeSaid, plain_ahead, said_tasks}}
use Rattle.local_fetch.{
  proofs.{ReplyLemmas.{AreNumbered, IsSaid, first_is_same, plain}, RunLemmas.{Fresh, IsPlan, Opened, all_replied, plan_front}},
  specs.{Good.{GoodFetchesStoreAll, IsWithin, kept_in, target_in}, Local.{loop_to, unused}},
}

-- ---- a session's plan

module _ (name word : List ℕ) (n : ℕ) where
  one_step : (k number : ℕ) (uid : List ℕ) (size : ℕ) (fetch held delete : Bool) (rest : List Task) → 0 < number → k ≤ number → number ≤ n
      → ((next : ℕ) → next ≤ number + 1 → IsPlan name word n (Opened next) (turns_ahead rest))
      → IsPlan name word n (Opened k) (turns_ahead ((fetching fetch held number uid size ++ deleting delete number) ++ rest))
  one_step k number uid size true true true rest some from fits more =
      ((some, from, fits), ((some, omega arith, fits), more (number + 1) (omega arith)))
  one_step k number uid size true true false rest some from fits more = ((some, from, fits), more number (omega arith))
  one_step k number uid size true false true rest some from fits more =
      ((some, from, fits), ((some, omega arith, fits), more (number + 1) (omega arith)))
  one_step k number uid size true false false rest some from fits more = ((some, from, fits), more number (omega arith))
  one_step k number uid size false held true rest some from fits more = ((some, from, fits), more (number + 1) (omega arith))
  one_step k number uid size false held false rest some from fits more = more k (omega (arith, from))

  all_steps : (k j : ℕ) (step : ℕ × Item → Step) → ((message : ℕ × Item) → (step message).number ≡ message.0)
      → (items : List Item) (held : List Bool) → 0 < j → k ≤ j → j + length items ≤ n + 1
      → IsPlan name word n (Opened k) (turns_ahead (tasks_planned (map step (enumerate_from j items)) items held ++ says quit ∷ []))
  all_steps k j step same [] held some from fits = (tt, tt)
  all_steps k j step same (item ∷ items) [] some from fits = (tt, tt)
  all_steps k j step same (item ∷ items) (h ∷ held) some from fits =
      let s = step (j, item) in
      let is : s.number ≡ j = same (j, item) in
      let rest = tasks_planned (map step (enumerate_from (j + 1) items)) items held in
      subst (λ (ts : List Task). IsPlan name word n (Opened k) (turns_ahead ts))
      (sym (append_assoc (tasks_in s item h) rest (says quit ∷ [])))
      (one_step k s.number item.uid item.size (fetches s) h s.delete (rest ++ says quit ∷ []) (omega (arith, some, is))
      (omega (arith, from, is)) (omega (arith, fits, is))
      (λ next less. all_steps next (j + 1) step same items held (omega arith) (omega (arith, less, is)) (omega (arith, fits))))

plan_ahead : (name word : List ℕ) (settings : Settings) (target : Target) (items : List Item) (now : ℕ) (store : Stores) (rows : List Row)
    → IsPlan name word (length items) (Opened 0) (turns_ahead (tasks_ahead settings target items now store rows))
plan_ahead name word settings target items now store rows =
    all_steps name word (length items) 0 1 (step_of settings (odd_in target store) rows items now) (λ message. refl) items
    (held_flags target store items)
    (omega arith) (omega arith) (omega arith)

goods : (n : ℕ) (turns : List Turn) (replies : List WholeReply) → AllZip (IsSaid n) turns replies → AllZip IsGood turns replies
goods n [] [] all = tt
goods n (turn ∷ turns) (reply ∷ replies) ((good, _), all) = (good, goods n turns replies all)
goods n turns replies never = absurd never

-- a reply gives one count
one_count : (reply : WholeReply) (a b : ℕ) → GivesCount reply a → GivesCount reply b → a ≡ b
one_count reply a b (rest, size, (after, is, rest_is), read) (rest', size', (after', is', rest_is'), read') =
    let same : after ≡ after' = append_cancel_left (indicator Positive) after after' (sym is ∙ is') in
    first_is_same a b size size' (sym read ∙ ap number_and_size (rest_is ∙ ap without_space same ∙ sym rest_is') ∙ read')

rows_numbered : {R : Type 0} (IsThisRow : List ℕ → R → Type 0) (number : R → ℕ) (n : ℕ) (reply : WholeReply) (rows : List R)
    → AreNumbered IsThisRow number n reply → HasListing IsThisRow reply rows → IsNumbering n (map number rows)
rows_numbered IsThisRow number n reply rows (lines, is, numbered) (lines', is', are) =
    let same : lines' ≡ lines = cc (is, is') in
    numbered rows (subst (λ (ls : List (List ℕ)). AllZip IsThisRow ls rows) same are)

-- ---- what a new server answered to a session's turns

module _ {M : Type 0} (sound : M → Type 0) (mail : M → DropMail) (server : Machine M) (wire : Loop M)
    (serves : Serves sound mail (loop_to server) wire) (up : wire.down ≡ false) (over : wire.link.ended ≡ true → wire.left ≡ [])
    (state : server.state ≡ Authorization None) (s : sound wire.machine.drop)
    (still : (mail wire.machine.drop).failures ≡ (mail server.drop).failures)
    (messages : AllByRecursion IsMessage (there (mail server.drop).slots))
    (within : AllByRecursion IsWithin (there (mail server.drop).slots)) (settings : Settings) (valid : IsValid settings)
    (named : server.user ≡ string_bytes settings.username) (worded : server.pass ≡ string_bytes settings.password) where
  abbrev n : ℕ
  n = length (there (mail server.drop).slots)

  abbrev name : List ℕ
  name = string_bytes settings.username

  abbrev word : List ℕ
  word = string_bytes settings.password

  run : AnswersLines sound mail server serves.lines serves.more wire.machine
  run = let whole = serves.whole up in rw (whole.0, append-nil, ← whole.1) at serves.run

  told : wire.link.got ++ wire.left ≡ greeting_line ++ serves.more
  told = serves.told refl ∙ ap (λ (l : List ℕ). greeting_line ++ l) serves.answers

  sent : wire.link.sent ≡ flat_map ended serves.lines ++ wire.waiting
  sent = serves.sent ∙ serves.heard

  answered : is_open wire.machine.state ≡ true → IsLine wire.waiting
  answered = (serves.whole up).2 (λ opened. IsLine-nil)

  -- good replies to these turns begin what came and what is left
  record Said (turns : List Turn) : Type 0 where
    replies : List WholeReply
    rest : List ℕ
    is : wire.link.got ++ wire.left ≡ flat_map reply_bytes replies ++ rest
    all : AllZip (IsSaid n) turns replies

  said : (turns unsent tasks : List Turn) (more : List ℕ) → IsPlan server.user server.pass n (Opened 0) tasks
      → AllByRecursion CanBeSaid tasks → turns ++ unsent ≡ opening name word ++ tasks → wire.link.sent ≡ asking turns ++ more → Said turns
  said [] unsent tasks more planned can split sent_is = record { replies = []; rest = wire.link.got ++ wire.left; is = refl; all = tt }
  said (turn ∷ turns) unsent tasks more planned can split sent_is =
      let split : turn ∷ (turns ++ unsent) ≡ None ∷ Some (User name) ∷ Some (Pass word) ∷ Some Stat ∷ Some UidlAll ∷ Some ListAll ∷ tasks =
      split in
      let first : turn ≡ None = cc in
      let plan : List Turn = Some (User name) ∷ Some (Pass word) ∷ Some Stat ∷ Some UidlAll ∷ Some ListAll ∷ tasks in
      let later : turns ++ unsent ≡ plan = cc split in
      let sendable = said_opening name word valid.valid_username valid.valid_password in
      let reply = all_replied sound mail server.user server.pass (there (mail server.drop).slots) messages within wire.machine wire.waiting
      more answered s Fresh turns server serves.lines serves.more (state, refl) refl refl
      (plan_front server.user server.pass n Fresh turns unsent (subst (IsPlan server.user server.pass n Fresh) (sym later)
      (sym named, (sym worded, (refl, (refl, (refl, planned)))))))
      (all_front CanBeSaid turns unsent (subst (AllByRecursion CanBeSaid) (sym later)
      (all_append CanBeSaid (opening name word) tasks sendable can).1))
      serves.each (sym sent ∙ sent_is ∙ ap (λ (t : Turn). (turn_bytes t ++ asking turns) ++ more) first) run still in
      let (hail, hail_is, hailed) =
      plain n hello greeting_line (codes " popd ready") refl refl (omega arith) (λ gives. absurd (false≢true gives)) refl (λ line. tt) in
      record {
        replies = hail ∷ reply.replies;
        rest = reply.rest;
        is = told ∙ ap₂ (λ (x y : List ℕ). x ++ y) hail_is reply.is
            ∙ sym (append_assoc (reply_bytes hail) (flat_map reply_bytes reply.replies) reply.rest);
        all = (subst (λ (t : Turn). IsSaid n t hail) (sym first) hailed, reply.all);
      }

  -- the listings that a session read are those of all messages
  listings_agree : (count : ℕ) (uids : List UidRow) (sizes : List ScanRow) (mid : Place) → Extends mid.link wire.link
      → SessionOpened name word (at unused []) mid count uids sizes → (count ≡ n) × Agree count uids sizes
  listings_agree count uids sizes mid on opened =
      let was = said (opening name word) [] [] on.said tt tt refl (on.sent ∙ ap (λ (l : List ℕ). l ++ on.said) opened.talked.sent) in
      let heard = opened.welcome ++ opened.counted ∷ opened.named ∷ opened.sized ∷ [] in
      let got : wire.link.got ≡ (flat_map reply_bytes heard ++ mid.waiting) ++ on.gained =
      on.got ∙ ap (λ (l : List ℕ). l ++ on.gained) (opened.talked.got ∙ opened.talked.heard) in
      let moved : flat_map reply_bytes heard
      ++ (mid.waiting ++ (on.gained ++ wire.left)) ≡ ((flat_map reply_bytes heard ++ mid.waiting) ++ on.gained) ++ wire.left =
      simp append_assoc in
      let read = one_list_of_replies (opening name word) heard was.replies (mid.waiting ++ (on.gained ++ wire.left)) was.rest
      (reads_all (opening name word) heard opened.talked.good)
      (reads_all (opening name word) was.replies (goods n (opening name word) was.replies was.all))
      (moved ∙ ap (λ (l : List ℕ). l ++ wire.left) (sym got) ∙ was.is) in
      let six = replied opened.welcome opened.talked.good in
      let all : AllZip (IsSaid n) (opening name word)
      (six.hello ∷ six.to_user ∷ six.to_pass ∷ opened.counted ∷ opened.named ∷ opened.sized ∷ []) =
      subst (λ (ws : List WholeReply). AllZip (IsSaid n) (opening name word) (ws ++ opened.counted ∷ opened.named ∷ opened.sized ∷ []))
      six.is (subst (AllZip (IsSaid n) (opening name word)) (sym read.0) was.all) in
      let (_, (_, (_, (to_stat, (to_uidl, (to_list, _)))))) = all in
      let count_is = one_count opened.counted count n opened.gives to_stat.1 in (
        count_is,
        subst (λ (k : ℕ). Agree k uids sizes) (sym count_is) (
          rows_numbered IsUidLine (λ (row : UidRow). row.number) n opened.named uids to_uidl.1 opened.names,
          rows_numbered IsScanLine (λ (row : ScanRow). row.number) n opened.sized sizes to_list.1 opened.octets,
        ),
      )

  turns_answered : (target : Target) (now : ℕ) (before : Keeping) (turns unsent : List Turn) (more : List ℕ)
      → ArePlanned settings target now unused before wire.link (turns ++ unsent)
      → wire.link.sent ≡ unused.sent ++ (asking turns ++ more) → AreAnswered turns unused wire.link
  turns_answered target now before turns unsent more planned sent_is =
      let was = by planned in
      record {
        later = wire.left;
        rest = was.rest;
        replies = was.replies;
        whole = was.is;
        good = goods n turns was.replies was.all;
        none_left = over;
      }
    where
      by : ArePlanned settings target now unused before wire.link (turns ++ unsent) → Said turns
      by (inl is) = said turns unsent [] more tt tt is sent_is
      by (inr (items, mid, (count, uids, sizes, opened, joins), on, (was, stood, is))) =
          let rows = merged_in target before.store was items now in
          let tasks = tasks_ahead settings target items now before.store rows in
          let (count_is, agree) = listings_agree count uids sizes mid on opened in
          said turns unsent (turns_ahead tasks) more
          (subst (λ (k : ℕ). IsPlan server.user server.pass k (Opened 0) (turns_ahead tasks)) (joins.count ∙ count_is)
          (plan_ahead server.user server.pass settings target items now before.store rows))
          (said_tasks tasks (plain_ahead settings target items now before.store rows (few_items opened joins))) is sent_is

-- ---- the law

-- readers refuse nothing
none_refused : (target : Target) (store : Stores) (left : Maildir) → WereTaken store.maildir left
    → refused_in target store ≡ refused_in target (with_maildir store left)
none_refused (AsFiles account) store left taken = sym (ap (λ (m : Maildir). m.failures) taken.is)
none_refused AsEntries store left taken = refl

pub good_fetches : {M D F : Type 0} (link : WireGhosts (Loop M)) (disk : DiskGhosts D) (file : FileGhosts F) (drop : DropGhosts M)
    → ((w : Loop M) → link.history w ≡ w.link) → ((u v : Loop M) → link.leads_to u v → Serves drop.sound drop.mail u v)
    → GoodSessionsStoreAll → GoodFetchesStoreAll link disk file drop
good_fetches link disk file drop history leads law now old server report new wire fetched store_sound file_sound drop_sound good =
    let (wire_was, store_was, file_was, led, (left, taken, ran)) = fetched.made.2 fetched.link_sound store_sound file_sound in
    let stores = with_maildir (stores_of disk file old.store) left in
    let before = keeping stores (stored_in file old.file) in
    let done : SessionIn old.settings (target_in old) now unused before report wire.link (kept_in disk file new) =
    rw (history (loop_to server), history wire) at ran.0 in
    let serves = leads (loop_to server) wire led in
    let is = law old.settings (target_in old) now unused before report wire.link (kept_in disk file new) done in
    let ended = is.0 (record {
      answered = turns_answered drop.sound drop.mail server wire serves good.up fetched.over fetched.fresh drop_sound good.drop_refused
          good.messages good.within old.settings fetched.made.0 good.user good.pass (target_in old) now before;
      agree = λ count uids sizes mid on opened.
          (listings_agree drop.sound drop.mail server wire serves good.up fetched.over fetched.fresh drop_sound good.drop_refused
          good.messages good.within old.settings fetched.made.0 good.user good.pass count uids sizes mid on opened).1;
      usable = good.usable;
      read = good.read;
      store_refused = good.store_refused ∙ none_refused (target_in old) (stores_of disk file old.store) left taken;
      file_refused = good.file_refused;
      link_refused = fetched.up good.up;
      memory = good.memory;
    }) in
    (ended, (left, taken, is.1 ended))
