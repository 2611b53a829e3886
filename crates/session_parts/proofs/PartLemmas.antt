-- What parts of a session keep and do, one after the other, and QUIT at their end.
use Rattle.mail_store.specs.Devices.{stored_in}
use Rattle.std.{
  proofs.Common.{rules, ◌≡◌, ◌≤◌, ◌+◌, ◌*◌, ℕ, Bool, true, false, List, [], ◌∷◌, ◌++◌, length, None, Result, Ok, Err, IfErr, OnErr, OnOk},
  proofs.Common.{◌⊎◌, refl, sym, ap, subst, ◌∙◌, inl, arith, append_assoc, length-append, Vec, Global, Option, inr},
  proofs.lemmas.{Grind.flat_map-append, Result.on_ok_weaker},
  specs.List.AllByRecursion,
}
use Rattle.mail_terms.{specs.{Listing.Item, FailureCount.Tallies}, proofs.ListLemmas.{all_append, all_front, both_none}}
use Rattle.mail_store.specs.{
  declared.{file.flat_file.{FlatFile.Ghosts as FileGhosts, Edges.Edges}, maildir.disk.MaildirDisk.Ghosts as DiskGhosts},
  Durable.{MayLeave, Trusted},
  FileName.stem_of,
  Power.{KeepsWhole, LeavesNoMore},
  FlatFile.Stored,
  Maildir.{AllNamed, Maildir},
}
use Rattle.fetch_record.specs.Record.{Intent, Row, has_row, none_open, marked, marked_all}
use Rattle.fetch_rules.specs.{Plan.fetches, declared.plans.Step.Step}
use Rattle.pop3_client.specs.{
  Client.{HasSameLink, link_of, place_of},
  Conversation.{Broke, ConversationsArePaced, TurnsJoin, is_link_refusal, most_of},
  declared.{fault.ClientFault.ClientFault, client.Client.Client},
  Turns.{Turn, line_limit, text_limit, quit},
}
use Rattle.session_parts.{
  specs.declared.{fault.{Fault.Fault, Cut.Cut}, report.ReportLine.ReportLine, work.{Ledger.Ledger, Work.Work}, work.Store.Store},
  specs.{Report.AddsLines, Store.MayGain, Tail.tail, Fault.{cut_of, fault_of}, Record.{Steady, record_state}},
  specs.{Refusal.{Took, TookTillCut, TookWithTail, step_limit, tail_limit}, Scene.{TakesTask, WhereAllSound, scene, Stops}},
  specs.Durable.{AreLeft, DurableCut, DoesDurably, IsCutLeft, IsSafeFile, IsSafeStore, IsSafeWork, IsGrownAtMost, KeepsWork, LeavesBoth},
  specs.Durable.{LeavesFile, OneDurable, StillDurable, may_leave_in},
  specs.Parts.{RunsTasks, IsReadyFor, KeepsLedger, KeepsLink, KeepsStore, IsReadyForNext, IsWritten, WhereWorkSound, scene_of},
  specs.Parts.{over_maildir, over_mbox},
  specs.Target.{Target, AsFiles, AsEntries, is_sound, kind_of, stores_of, target_of, Kind, Files, Entries, Stores, target},
  specs.Mbox.{IsToldOfMbox, LooksAgain},
  specs.Task.{Task, stores, ids_in, ids_ahead, turns_in, turns_ahead, AreFresh, fetching, deleting, tasks_in, tasks_planned, says},
  proofs.ReadyLemmas.{fetched_all, OneMore, ahead, fresh_grows},
  proofs.TalkLemmas.{most_tail, takes_on, took_broke, took_less, took_nothing, with_tail_on, cut_by, till_cut},
  proofs.SessionLemmas.{good_before, good_more, in_kind, keeps_same, none_durable, cut_leaves_no_more, grown_left, rows_last},
  proofs.{RecordLemmas.no_more_keeps, SessionLemmas.{same_left, scene_at, texts_ok}},
  proofs.SceneLemmas.{did_then, all_sound, all_none, all_weaker, fell_first, on_any},
}
use Rattle.pop3_wire.specs.{declared.wire.Wire.Ghosts as WireGhosts, Link.WhereSound, Place.Place}

-- ---- parts

on_both : {T E P Q R : Type 0} (result : Result T E) → (P → Q → R) → OnOk result P → OnOk result Q → OnOk result R
on_both (Ok _) to p q = to p q
on_both (Err _) _ p q = tt

on_under : {T E P : Type 0} (Q : Type 0) (result : Result T E) → (P → OnOk result Q) → OnOk result (P → Q)
on_under Q (Ok _) to = to
on_under Q (Err _) _ = tt

pub if_err : {T E : Type 0} {P : E → Type 0} (result : Result T E) → ((fault : E) → P fault) → IfErr result P
if_err (Ok _) _ = tt
if_err (Err fault) all = all fault

err_if : {T E : Type 0} (P : Type 0) (result : Result T E) → OnErr result P → IfErr result (λ fault. P)
err_if P (Ok _) p = tt
err_if P (Err _) p = p

-- a task was cut before its id was marked
pub same_ledger : {F H Z : Type 0} {file : FileGhosts F} (uid : List ℕ) (ledger : Ledger F H Z) (cut : Cut)
    → IsWritten file ledger.file ledger.seen → KeepsLedger file uid ledger (Err cut) ledger
same_ledger {file = file} uid ledger cut written = record {
  lines = (omega arith, omega arith);
  sound = λ f. f;
  written = tt;
  rows = tt;
  left = λ f safe. same_left file ledger.file safe (written.steady f);
}

-- the line of a text was noted, and its id marked, unless that was refused
pub marked_ledger : {F H Z : Type 0} {file : FileGhosts F} {uid : List ℕ} {old new : Ledger F H Z} {rows : List Row}
    {intent : Option Intent} (r : Result (Unit {0}) Cut)
    → ((rows : List Row) (uid other : List ℕ) → has_row (marked rows uid) other ≡ has_row rows other)
    → rows ≡ old.seen.rows → AddsLines old.lines 1 new.lines → (file.sound new.file → file.sound old.file)
    → OnOk r ((new.seen.rows ≡ marked rows uid) × IsWritten file new.file new.seen) → (file.sound new.file → IsSafeFile file old.file
    → LeavesFile file new.file (IsGrownAtMost (record_state rows intent) (none_open (marked rows uid)))) → KeepsLedger file uid old r new
marked_ledger {file = file} {uid} {old} {new} {rows} {intent} r law same lines sound marks left = record {
  lines = lines;
  sound = sound;
  written = on_ok_weaker r (λ is. is.1) marks;
  rows = on_ok_weaker r (λ is other has. rw (is.0, law, same) has) marks;
  left = λ f safe. rw same at (grown_left file new.file rows (marked rows uid) (marked rows uid) intent None (inr refl) (left f safe));
}

-- ---- bounds of tasks

most_append : (xs ys : List Turn) → most_of (xs ++ ys) ≡ most_of xs + most_of ys
most_append [] _ = omega arith
most_append (x ∷ xs) ys = omega (arith, most_append xs ys)

most_ahead : (xs ys : List Task) → most_of (turns_ahead (xs ++ ys)) ≡ most_of (turns_ahead xs) + most_of (turns_ahead ys)
most_ahead xs ys = cc (flat_map-append turns_in xs ys, most_append (turns_ahead xs) (turns_ahead ys))

most_step : (retrieve held delete : Bool) (number : ℕ) (uid : List ℕ) (size : ℕ)
    → let tasks = fetching retrieve held number uid size ++ deleting delete number
    in (most_of (turns_ahead tasks) ≤ step_limit) × (length tasks ≤ 2)
most_step true true true _ _ _ = (omega arith, omega arith)
most_step true true false _ _ _ = (omega arith, omega arith)
most_step _ _ true _ _ _ = (omega arith, omega arith)
most_step _ _ _ _ _ _ = (omega arith, omega arith)

-- the tasks of steps
pub most_planned : (steps : List Step) (items : List Item) (held : List Bool)
    → (most_of (turns_ahead (tasks_planned steps items held)) ≤ length items * step_limit)
    × (length (tasks_planned steps items held) ≤ 2 * length items)
most_planned (s ∷ ss) (i ∷ is) (h ∷ hs) =
    let first = tasks_in s i h in
    let later = tasks_planned ss is hs in
    let a = most_step (fetches s) h s.delete s.number i.uid i.size in
    let more = most_planned ss is hs in
    (omega (arith, most_ahead first later, a.0, more.0), omega (arith, length-append first later, a.1, more.1))
most_planned _ _ _ = (omega arith, omega arith)

-- what holds of each listed id holds of each that will be marked
pub planned_all : (P : List ℕ → Type 0) (steps : List Step) (items : List Item) (held : List Bool)
    → AllByRecursion (λ (item : Item). P item.uid) items → AllByRecursion P (ids_ahead (tasks_planned steps items held))
planned_all P (s ∷ ss) (i ∷ is) (h ∷ hs) all =
    rw (ahead s i h (tasks_planned ss is hs)) (all_append P (ids_ahead (fetching (fetches s) h s.number i.uid i.size))
    (ids_ahead (tasks_planned ss is hs)) (fetched_all P (fetches s) h s.number i.uid i.size (λ _. all.0)) (planned_all P ss is hs all.1))
planned_all P _ _ _ _ = tt

-- ---- the first of these tasks

fresh_front : (account : List ℕ) (maildir : Maildir) (xs ys : List (List ℕ)) → AreFresh account maildir (xs ++ ys)
    → AreFresh account maildir xs
fresh_front account maildir [] ys fresh = tt
fresh_front account maildir (x ∷ xs) ys fresh = (fresh.0, fresh.1, all_front _ xs ys fresh.2, fresh_front account maildir xs ys fresh.3)

pub ready_front : {D F H Z : Type 0} {disk : DiskGhosts D} {file : FileGhosts F} {account : List ℕ}
    {work : Work D F H Z} (xs ys : List Task) → IsReadyFor disk file account (xs ++ ys) work → IsReadyFor disk file account xs work
ready_front {D} {F} {H} {Z} {disk} {file} {account} {work} xs ys ready =
    let split = flat_map-append ids_in xs ys in
    record {
      digits = ready.digits;
      room = omega (arith, ready.room, length-append xs ys);
      ready = ready.ready;
      legal = all_front _ (ids_ahead xs) _ (rw split at ready.legal);
      rows = all_front _ (ids_ahead xs) _ (rw split at ready.rows);
      free = λ d. fresh_front account (stores_of disk file work.store).maildir (ids_ahead xs) _ (rw split at (ready.free d));
      named = λ d. all_front _ (ids_ahead xs) _ (rw split at (ready.named d));
    }

-- ---- the link

module _ {W : Type 0} {link : WireGhosts W} where
  -- a part, and then another
  link_then : {First Then All : Place → Result (Unit {0}) Cut → Place
      → Type 0} {a b c : Client W} {r : Result (Unit {0}) Cut} → KeepsLink link First a (Ok tt) b → KeepsLink link Then b r c
      → (First (place_of link a) (Ok tt) (place_of link b) → Then (place_of link b) r (place_of link c)
      → All (place_of link a) r (place_of link c)) → KeepsLink link All a r c
  link_then {a = a} {b} {c} {r} first then both = record {
    same = then.same ∙ first.same;
    counted = till_cut (link_of link a) (link_of link b) (link_of link c) r first.counted then.counted;
    took = λ s. let later = then.took s in let before = first.took later.0 in (before.0, both before.1 later.1);
  }

  link_on : {m n : ℕ} (limit : ℕ) {a b c : Client W} {r : Result (Unit {0}) Cut} → m + n ≤ limit
      → KeepsLink link (TookTillCut m) a (Ok tt) b → KeepsLink link (TookTillCut n) b r c → KeepsLink link (TookTillCut limit) a r c
  link_on {m} {n} limit {r = r} less first then = link_then first then (takes_on limit m n _ _ _ r less)

  -- the same, with what is said after a fault
  pub link_on_tail : {m n limit : ℕ} {a b c : Client W} {r : Result (Unit {0}) Cut} → m + n ≤ limit
      → KeepsLink link (TookTillCut m) a (Ok tt) b → KeepsLink link (TookWithTail n) b r c → KeepsLink link (TookWithTail limit) a r c
  link_on_tail {m} {n} {limit} {r = r} less first then = link_then first then (with_tail_on limit m n _ _ _ r less)

  pub link_still : {c : Client W} → KeepsLink link (TookTillCut 0) c (Ok tt) c
  link_still = record { same = refl; counted = refl; took = λ s. (s, took_nothing) }

  pub link_less : {m : ℕ} (limit : ℕ) {a b : Client W} {r : Result (Unit {0}) Cut} → m ≤ limit
      → KeepsLink link (TookTillCut m) a r b → KeepsLink link (TookTillCut limit) a r b
  link_less limit less kept = link_on limit (omega (arith, less)) link_still kept

  -- with what is said after the fault
  pub link_with_tail : {limit : ℕ} {a b : Client W} {cut : Cut} → KeepsLink link (TookTillCut limit) a (Err cut) b
      → KeepsLink link (TookWithTail (limit + tail_limit)) a (Err cut) b
  link_with_tail {limit} {cut} kept =
      record {
        same = kept.same;
        counted = kept.counted;
        took =
            λ s. ((kept.took s).0, (limit, (kept.took s).1, omega (arith, most_tail (tail cut.fault))));
      }

  pub link_cut : (fault : ClientFault) {limit : ℕ} {a b : Client W} → HasSameLink a b
      → Tallies (is_link_refusal fault) (link_of link a).failures (link_of link b).failures
      → (link.sound b.wire.now → link.sound a.wire.now × Took limit (place_of link a) (place_of link b))
      → KeepsLink link (TookTillCut limit) a (Err (cut_of (fault_of fault) None)) b
  link_cut fault {a = a} {b} same counts took =
      record { same = same; counted = cut_by fault (link_of link a) (link_of link b) counts; took = took }

  pub link_broke : ConversationsArePaced → (turn : Turn) (fault : ClientFault) {a b : Client W} → HasSameLink a b
      → Tallies (is_link_refusal fault) (link_of link a).failures (link_of link b).failures
      → WhereSound link.sound link.leads_to a.wire.now b.wire.now (Broke turn (place_of link a) (place_of link b) fault)
      → KeepsLink link (TookTillCut (most_of (turn ∷ []))) a (Err (cut_of (fault_of fault) None)) b
  link_broke paced turn fault same counts broke = link_cut fault same counts (λ s. let all = broke s
      in (all.0, took_broke paced turn _ _ fault all.2))

  -- all went well with the link, and something else failed
  pub link_then_cut : {fault : Fault} {limit : ℕ} {a b : Client W} → KeepsLink link (TookTillCut limit) a (Ok tt) b
      → KeepsLink link (TookTillCut limit) a (Err (cut_of fault None)) b
  link_then_cut kept = record { same = kept.same; counted = inl kept.counted; took = kept.took }

  -- no call was made
  pub link_idle : {fault : Fault} {limit : ℕ} {a : Client W} → KeepsLink link (TookTillCut limit) a (Err (cut_of fault None)) a
  link_idle = record { same = refl; counted = inl refl; took = λ s. (s, took_less took_nothing (omega arith)) }

-- ---- the store

module _ {D F H Z : Type 0} {disk : DiskGhosts D} {file : FileGhosts F} where
  pub store_on : {m n limit : ℕ} {a b c : Work D F H Z} → m + n ≤ limit → KeepsStore disk file m a b
      → KeepsStore disk file n b c → KeepsStore disk file limit a c
  store_on less first then = record {
    lines = (omega (arith, first.lines.0, then.lines.0, less), omega (arith, first.lines.1, then.lines.1));
    kind = cc;
    none_begun = λ d. ((first.none_begun (then.none_begun d).0).0, (then.none_begun d).1);
  }

  pub store_less : {m limit : ℕ} {a b : Work D F H Z} → m ≤ limit → KeepsStore disk file m a b → KeepsStore disk file limit a b
  store_less less kept = record {
    lines = (omega (arith, kept.lines.0, less), kept.lines.1);
    kind =
        kept.kind;
    none_begun = kept.none_begun;
  }

-- ---- parts one after the other

module _ {W D F H Z : Type 0} {link : WireGhosts W} {disk : DiskGhosts D} {file : FileGhosts F} {account : List ℕ} where
  pub runs_nothing : ((w : W) → link.leads_to w w) → {c : Client W} {w : Work D F H Z} → IsReadyForNext disk file w
      → RunsTasks link disk file account [] c w (Ok tt) c w
  unfolding all_none
  runs_nothing same {c} {w} ready = (
    record {
      talk = link_still;
      store = record { lines = (omega arith, omega arith); kind = refl; none_begun = λ d. (d, ready.none_begun d) };
      durable = λ d f. (f, λ safe. safe);
      idle = λ none. (refl, λ d left may. may);
      next = λ later ready. ready;
    },
    λ s d f. (
      s,
      d,
      f,
      same _,
      record {
        does = all_none (target_of w.store account) _;
        durable = λ safe. let steady = ready.written.steady f in (
          none_durable disk file (target_of w.store account)
              (place_of link c) w w [] safe (keeps_same file w) steady (same_left file w.ledger.file safe.0 steady),
          safe.0,
          safe.1,
        );
      },
    ),
  )

  pub goes_on : TurnsJoin → ((u v w : W) → link.leads_to u v → link.leads_to v w → link.leads_to u w)
      → (xs ys : List Task) {c c' c'' : Client W} {w w' w'' : Work D F H Z} (r : Result (Unit {0}) Cut)
      → RunsTasks link disk file account xs c w (Ok tt) c' w' → RunsTasks link disk file account ys c' w' r c'' w''
      → RunsTasks link disk file account (xs ++ ys) c w r c'' w''
  goes_on joining on xs ys {w = w} {w'} r (first, did) (then, does) = (
    record {
      talk = link_on (most_of (turns_ahead (xs ++ ys))) (omega (arith, most_ahead xs ys)) first.talk then.talk;
      store = store_on (omega (arith, length-append xs ys)) first.store then.store;
      durable = λ d f.
          let later = then.durable d f in
          let before = first.durable (then.store.none_begun d).0 later.0 in
          (before.0, λ safe. later.1 (before.1 safe));
      idle = λ none. let both = both_none (ids_ahead xs) (ids_ahead ys) (sym (flat_map-append ids_in xs ys) ∙ none) in (
        (then.idle both.1).0 ∙ (first.idle both.0).0,
        λ d left may. (first.idle both.0).1 (then.store.none_begun d).0 left ((then.idle both.1).1 d left may),
      );
      next = on_ok_weaker r (λ next later ready. next later (first.next (ys ++ later) (rw append_assoc at ready))) then.next;
    },
    λ s d f.
        let later = does s d f in
        let before = did later.0 later.1 later.2 in (
          before.0,
          before.1,
          before.2,
          on _ _ _ before.3 later.3,
          good_more joining r before.4.does (in_kind w'.store w.store account first.store.kind later.4 (first.durable later.1 later.2).1),
        ),
  )

  pub runs_before : (xs ys : List Task) {c c' : Client W} {w w' : Work D F H Z} {cut : Cut}
      → RunsTasks link disk file account xs c w (Err cut) c' w' → RunsTasks link disk file account (xs ++ ys) c w (Err cut) c' w'
  runs_before xs ys (kept, did) = (
    record {
      talk = link_on (most_of (turns_ahead (xs ++ ys))) (omega (arith, most_ahead xs ys)) link_still kept.talk;
      store = store_less (omega (arith, length-append xs ys)) kept.store;
      durable = kept.durable;
      idle = λ none. kept.idle (both_none (ids_ahead xs) (ids_ahead ys) (sym (flat_map-append ids_in xs ys) ∙ none)).0;
      next = tt;
    },
    λ s d f. did_then (did s d f) (good_before ys),
  )

  -- the same of an equal answer and of equal tasks
  pub runs_same : {xs ys : List Task} {r given : Result (Unit {0}) Cut} {c c' : Client W} {w w' : Work D F H Z} → given ≡ r → ys ≡ xs
      → RunsTasks link disk file account xs c w r c' w' → RunsTasks link disk file account ys c w given c' w'
  runs_same {xs} {ys} {r} {c = c} {c'} {w} {w'} same tasks runs =
      subst (λ (given : Result (Unit {0}) Cut). RunsTasks link disk file account ys c w given c' w') (sym same)
      (subst (λ (zs : List Task). RunsTasks link disk file account zs c w r c' w') (sym tasks) runs)

-- ---- one task

-- what a task did, and what of it is durable
pub good_task : {D F H Z : Type 0} (disk : DiskGhosts D) {file : FileGhosts F} (target : Target) (task : Task)
    (a b : Place) (old new : Work D F H Z) (r : Result (Unit {0}) Cut)
    → TakesTask target task (scene_at disk file a old) r (scene_at disk file b new)
    → KeepsWork file old new → Steady (stored_in file old.ledger.file).content (none_open old.ledger.seen.rows)
    → OnOk r (Steady (stored_in file new.ledger.file).content (none_open new.ledger.seen.rows))
    → (IsSafeWork file old → OnOk r (IsSafeWork file new))
    → (IsSafeWork file old → LeavesFile file new.ledger.file (AreLeft old.ledger.seen.rows (marked_all old.ledger.seen.rows (ids_in task))))
    → (IsSafeWork file old → IfErr r (λ cut. DurableCut file target task (scene_at disk file a old) cut (scene_at disk file b new)
    new.store new.ledger.file))
    → DoesDurably file (IsSafeWork file old) target (task ∷ []) (scene_at disk file a old) r (scene_at disk file b new)
    new.store new.ledger.file
unfolding fell_first
good_task disk {file} target task a b old new (Ok done) took keeps steady written durable left next = record {
  does = record { dones = record { task = task; replies = took.0 } ∷ []; all = refl; went = took.1 };
  durable = λ safe. (
    record {
      texts = texts_ok disk file target (record { task = task; replies = took.0 } ∷ []) old.store new.store took.1.stored (durable safe).1;
      rows = rw took.1.rows at (rows_last file new.ledger.file new.ledger.seen.rows (durable safe).0 written);
      left = subst (λ rows. LeavesFile file new.ledger.file (AreLeft rows rows)) took.1.rows
          (same_left file new.ledger.file (durable safe).0 written);
    },
    (durable safe).0,
    (durable safe).1,
  );
}
good_task disk {file} target task a b old new (Err cut) took keeps steady written durable left next = record {
  does = fell_first target task [] _ _ cut took;
  durable = λ safe. (none_durable disk file target a old new (ids_in task) safe keeps steady (left safe), next safe);
}

module _ {D F H Z : Type 0} {disk : DiskGhosts D} {file : FileGhosts F} where
  -- a text that is stored
  pub runs_taking : {W : Type 0} {link : WireGhosts W} {account : List ℕ} → OneMore
      → (number : ℕ) (uid : List ℕ) {c c' : Client W} {w w' : Work D F H Z} (r : Result (Unit {0}) Cut)
      → IsWritten file w.ledger.file w.ledger.seen → KeepsLink link (TookTillCut (line_limit + text_limit)) c r c'
      → KeepsLedger file uid w.ledger r w'.ledger → kind_of w'.store ≡ kind_of w.store
      → (is_sound disk file w'.store → is_sound disk file w.store
      × MayGain (stem_of account uid) (stores_of disk file w.store).maildir (stores_of disk file w'.store).maildir
      × OnOk r (AllNamed (stores_of disk file w'.store).maildir.files))
      → WhereWorkSound link disk file c w c' w' (λ old new. TakesTask (target_of w.store account) (stores number uid) old r new)
      → (is_sound disk file w'.store → file.sound w'.ledger.file → KeepsWork file w w' × (IsSafeWork file w → OnOk r (IsSafeWork file w')
      × (link.sound c'.wire.now → IfErr r (λ cut. DurableCut file (target_of w.store account) (stores number uid)
      (scene_of link disk file c w) cut (scene_of link disk file c' w') w'.store w'.ledger.file))))
      → RunsTasks link disk file account (stores number uid ∷ []) c w r c' w'
  runs_taking {link = link} {account} law number uid {c} {c'} {w} {w'} r written talk ledger kind grows takes durable = (
    record {
      talk = talk;
      store = record { lines = ledger.lines; kind = kind; none_begun = λ d. ((grows d).0, (grows d).1.none_begun) };
      durable = λ d f. (ledger.sound f, λ safe. ((durable d f).1 safe).0);
      idle = λ none. absurd cc;
      next = on_both r (λ written (rows, named) later before. record {
        digits = before.digits;
        room = omega (arith, before.room, ledger.lines.0, ledger.lines.1);
        ready = record { none_begun = λ d. (grows d).1.none_begun; written = written };
        legal = before.legal.1;
        rows = all_weaker (λ (id : List ℕ). has_row w.ledger.seen.rows id ≡ true)
            (λ (id : List ℕ). has_row w'.ledger.seen.rows id ≡ true) (ids_ahead later) rows before.rows.1;
        free = λ d.
            let grew = grows d in
            let fresh = before.free grew.0 in
            fresh_grows law account uid (ids_ahead later) (stores_of disk file w.store).maildir
            (stores_of disk file w'.store).maildir before.digits fresh.0 fresh.2 grew.1 fresh.3;
        named = λ d. all_weaker _ _ (ids_ahead later) (λ id was. named d) (before.named (grows d).0).1;
      }) ledger.written (on_both r (λ rows named. (rows, named)) ledger.rows
          (on_under (AllNamed (stores_of disk file w'.store).maildir.files) r (λ d. (grows d).2)));
    },
    λ s d f. did_then (takes s d f) (λ took. good_task disk (target_of w.store account) (stores number uid)
        (place_of link c) (place_of link c') w w' r took (durable d f).0
        (written.steady (ledger.sound f)) (on_ok_weaker r (λ is. is.steady f) ledger.written)
        (λ safe. ((durable d f).1 safe).0) (λ safe. ledger.left f safe.0) (λ safe. ((durable d f).1 safe).1 s)),
  )

  -- a task that stores nothing
  pub runs_talking : {W : Type 0} (link : WireGhosts W) (account : List ℕ) (task : Task) (client client' : Client W)
      (work : Work D F H Z) (lines : Vec ReportLine Global) (r : Result (Unit {0}) Cut) → ids_in task ≡ []
      → KeepsLink link (TookTillCut (most_of (turns_ahead (task ∷ [])))) client r client' → AddsLines work.ledger.lines 1 lines
      → WhereSound link.sound link.leads_to client.wire.now client'.wire.now
      (TakesTask (target_of work.store account) task (scene_at disk file (place_of link client) work) r
      (scene_at disk file (place_of link client') (record work { ledger = record work.ledger { lines = lines } })))
      → IsReadyForNext disk file work → RunsTasks link disk file account (task ∷ []) client work r client'
      (record work { ledger = record work.ledger { lines = lines } })
  runs_talking link account task client client' work lines r none talk few talked ready = (
    record {
      talk = talk;
      store = record { lines = few; kind = refl; none_begun = λ d. (d, ready.none_begun d) };
      durable = λ d f. (f, λ safe. on_any r safe);
      idle = λ _. (refl, λ d left may. may);
      next = on_any r (λ later before. record {
        digits = before.digits;
        room = omega (arith, before.room, few.0, few.1);
        ready = record { none_begun = ready.none_begun; written = record { closed = ready.written.closed; steady = ready.written.steady } };
        legal = rw none at before.legal;
        rows = rw none at before.rows;
        free = λ d. rw none at (before.free d);
        named = λ d. rw none at (before.named d);
      });
    },
    all_sound talked (λ d. (d, tt {0})) (λ f. (f, f)) (λ took _ f.
        let steady = ready.written.steady f in
        good_task disk (target_of work.store account) task (place_of link client) (place_of link client') work
        (record work { ledger = record work.ledger { lines = lines } }) r took
        (keeps_same file work) steady (on_any r steady) (λ safe. on_any r safe) (λ safe. same_left file work.ledger.file safe.0 steady)
        (λ safe. if_err r (λ cut. cut_leaves_no_more disk file (target_of work.store account) task (place_of link client) _ _ cut _
        work.store work.store work.ledger.file safe.1 (λ left may. may) safe.0 steady))),
  )

-- a text that was to be stored in a Maildir
pub record Filed {W D F H Z : Type 0} (link : WireGhosts W) (disk : DiskGhosts D) (file : FileGhosts F) (account : List ℕ)
    (number : ℕ) (uid : List ℕ) (c : Client W) (d : D) (l : Ledger F H Z) (r : Result (Unit {0}) Cut) (c' : Client W) (d' : D)
    (l' : Ledger F H Z) : Type 0 where
  pub talk : KeepsLink link (TookTillCut (line_limit + text_limit)) c r c'
  pub ledger : KeepsLedger file uid l r l'
  pub grows : disk.sound d' → disk.sound d × MayGain (stem_of account uid) (disk.maildir d) (disk.maildir d')
      × OnOk r (AllNamed (disk.maildir d').files)
  pub takes : WhereAllSound link.sound link.leads_to disk.sound file.sound c.wire.now c'.wire.now d d' l.file l'.file
      (TakesTask (AsFiles account) (stores number uid) (scene_of link disk file c (over_maildir d l)) r
      (scene_of link disk file c' (over_maildir d' l')))
  pub keeps : file.sound l'.file → (rows : List Row) → StillDurable file rows l.file l'.file
  pub durable : disk.sound d' → file.sound l'.file → IsSafeFile file l.file → OnOk r (IsSafeFile file l'.file)
      × OnErr r (LeavesFile file l'.file (AreLeft l.seen.rows l.seen.rows) ⊎ OneDurable (disk.maildir d) (disk.maildir d'))

pub filed : {W D F H Z : Type 0} {link : WireGhosts W} {disk : DiskGhosts D} {file : FileGhosts F} {account : List ℕ}
    {number : ℕ} {uid : List ℕ} {c : Client W} {d : D} {l : Ledger F H Z} {given r : Result (Unit {0}) Cut} {c' : Client W} {d' : D}
    {l' : Ledger F H Z} → given ≡ r → OneMore → IsWritten file l.file l.seen → Filed link disk file account number uid c d l r c' d' l'
    → RunsTasks link disk file account (stores number uid ∷ []) c (over_maildir d l) given c' (over_maildir d' l')
filed {number = number} {uid} {l = l} {r = r} same law written is =
    runs_same same refl (runs_taking law number uid r written is.talk is.ledger refl is.grows is.takes (λ d f. (
      (λ bytes has left. left, is.keeps f l.seen.rows),
      λ safe.
          let durable = is.durable d f safe.0 in
          (on_ok_weaker r (λ all. (all, tt)) durable.0, λ s. err_if _ r durable.1),
    )))

-- a text that was to be appended to an mboxrd file
pub record Entered {W D F H Z : Type 0} (link : WireGhosts W) (disk : DiskGhosts D) (file : FileGhosts F)
    (number : ℕ) (uid : List ℕ) (c : Client W) (m : F) (l : Ledger F H Z) (r : Result (Unit {0}) Cut) (c' : Client W) (m' : F)
    (l' : Ledger F H Z) : Type 0 where
  pub talk : KeepsLink link (TookTillCut (line_limit + text_limit)) c r c'
  pub ledger : KeepsLedger file uid l r l'
  pub before : file.sound m' → file.sound m
  pub takes : WhereAllSound link.sound link.leads_to file.sound file.sound c.wire.now c'.wire.now m m' l.file l'.file
      (TakesTask AsEntries (stores number uid) (scene_of link disk file c (over_mbox m l)) r
      (scene_of link disk file c' (over_mbox m' l')))
  pub keeps : file.sound m' → file.sound l'.file
      → KeepsWhole (stored_in file m).content (MayLeave (file.disk m)) (MayLeave (file.disk m'))
      × StillDurable file l.seen.rows l.file l'.file
  pub durable : file.sound m' → file.sound l'.file → Trusted (file.disk m).now → IsSafeFile file l.file
      → OnOk r (IsSafeFile file m' × IsSafeFile file l'.file) × (IsSafeFile file m → link.sound c'.wire.now
      → IfErr r (λ cut. LeavesBoth file (stored_in file m).content m' l'.file (IsCutLeft (stores number uid)
      (scene_of link disk file c (over_mbox m l)) cut (scene_of link disk file c' (over_mbox m' l')))))

pub entered : {W D F H Z : Type 0} {link : WireGhosts W} {disk : DiskGhosts D} {file : FileGhosts F} {number : ℕ}
    {uid : List ℕ} {c : Client W} {m : F} {l : Ledger F H Z} {given r : Result (Unit {0}) Cut} {c' : Client W} {m' : F}
    {l' : Ledger F H Z} → given ≡ r → OneMore → IsWritten file l.file l.seen → Entered link disk file number uid c m l r c' m' l'
    → (account : List ℕ) → RunsTasks link disk file account (stores number uid ∷ []) c (over_mbox m l) given c' (over_mbox m' l')
entered {number = number} {uid} {r = r} same law written is account =
    runs_same same refl (runs_taking law number uid r written is.talk is.ledger refl
    (λ d. (is.before d, record { none_begun = refl; came = inl refl }, on_any r tt)) is.takes (λ d f. (
      is.keeps d f,
      λ (safe, store_safe).
          let durable = is.durable d f store_safe.0 safe in
          (on_ok_weaker r (λ all. (all.1, all.0)) durable.0, durable.1 store_safe),
    )))

-- ---- what the look left

pub look_told : (kind : Kind) (lines : List ReportLine) (old new : Stores) (told : Option Edges)
    → LooksAgain kind lines old (Ok told) new → IsToldOfMbox kind lines old told × (new ≡ old)
look_told Files _ _ _ _ is = (tt, is)
look_told Entries _ _ _ _ is = is

pub look_maildir : (kind : Kind) (lines : List ReportLine) (old : Stores) (r : Result (Option Edges) Fault)
    (new : Stores) → LooksAgain kind lines old r new → new.maildir ≡ old.maildir
look_maildir Files _ _ (Ok _) _ is = cc
look_maildir Files _ _ (Err _) _ never = absurd never
look_maildir Entries _ _ (Ok _) _ is = cc
look_maildir Entries _ _ (Err _) _ is = is.2

-- the store refused, and QUIT wasn't said
pub not_left : (kind : Kind) (account : List ℕ) {a : Place} {old new : Stores} {file : Stored} {rows : List Row}
    {lines seen : List ReportLine} (fault : Fault) → seen ≡ lines → LooksAgain kind seen old (Err fault) new
    → Stops (target kind account) (says quit) (scene a old file rows lines) (cut_of fault None) (scene a new file rows lines)
not_left Files account fault same never = absurd never
not_left Entries account fault same (deleted, refuses, maildir) = inr (inl (inr (inr (search (rules, rw same at deleted)))))

-- ---- what QUIT keeps and does

-- the store was looked at, and its Maildir is as it was
pub record Looked {D F H Z : Type 0} (disk : DiskGhosts D) (file : FileGhosts F) (work : Work D F H Z) (store : Store D F) : Type 0 where
  pub ready : IsReadyForNext disk file work
  pub kind : kind_of store ≡ kind_of work.store
  pub same : is_sound disk file store → is_sound disk file work.store
      × ((stores_of disk file store).maildir ≡ (stores_of disk file work.store).maildir)
  pub keeps : is_sound disk file store → LeavesNoMore (may_leave_in file work.store) (may_leave_in file store)

module _ {D F H Z : Type 0} {disk : DiskGhosts D} {file : FileGhosts F} {work : Work D F H Z} {store : Store D F}
    (is : Looked disk file work store) where
  abbrev pub left : Work D F H Z
  left = record work { store = store }

  pub quitting_store : KeepsStore disk file 0 work left
  quitting_store = record {
    lines = (omega arith, omega arith);
    kind = is.kind;
    none_begun = λ d. ((is.same d).0, ap (λ (m : Maildir). m.begun) (is.same d).1 ∙ is.ready.none_begun (is.same d).0);
  }

  pub runs_quitting : {W : Type 0} {link : WireGhosts W} {c c' : Client W} {r : Result (Unit {0}) Cut}
      (account : List ℕ) → KeepsLink link (TookTillCut line_limit) c r c'
      → (is_sound disk file store → IsSafeStore file work.store → OnOk r (IsSafeStore file store))
      → (is_sound disk file store → WhereSound link.sound link.leads_to c.wire.now c'.wire.now
      (TakesTask (target_of work.store account) (says quit) (scene_at disk file (place_of link c) work) r
      (scene_at disk file (place_of link c') left))) → RunsTasks link disk file account (says quit ∷ []) c work r c' left
  runs_quitting {link = link} {c = c} {r = r} account talk safe took = (
    record {
      talk = talk;
      store = store_less (omega arith) quitting_store;
      durable = λ d f. (f, λ trust. on_ok_weaker r (λ s. (trust.0, s)) (safe d trust.1));
      idle = λ _. (refl, is.keeps);
      next = on_any r (λ _ before. record {
        digits = before.digits;
        room = omega (arith, before.room);
        ready = record { none_begun = λ d. (quitting_store.none_begun d).1; written = is.ready.written };
        legal = before.legal;
        rows = before.rows;
        free = λ d. rw (is.same d).1 (before.free (is.same d).0);
        named = λ d. rw (is.same d).1 (before.named (is.same d).0);
      });
    },
    λ s d f.
        let steady = is.ready.written.steady f in
        let all = took d s in (
          all.0,
          (is.same d).0,
          f,
          all.1,
          good_task disk _ _ _ _ work left r all.2 (no_more_keeps _ (is.keeps d), λ last. last) steady (on_any r steady)
              (λ trust. on_ok_weaker r (λ s. (trust.0, s)) (safe d trust.1)) (λ trust. same_left file work.ledger.file trust.0 steady)
              (λ trust. if_err r (λ cut. cut_leaves_no_more disk file _ _ _ _ _ _ _ _ _ _ trust.1 (is.keeps d) trust.0 steady)),
        ),
  )
