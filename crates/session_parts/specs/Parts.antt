-- What each part of a session is ready for, what it keeps, and what it does.
use Rattle.std.specs.{Prelude.{◌≡◌, ℕ, true, List, [], ◌++◌, length, None, Result, OnOk}, List.AllByRecursion}
use Rattle.mail_terms.specs.{Listing.Item, UniqueId.IsLegalId}
use Rattle.mail_store.specs.{
  Devices.stored_in,
  declared.{file.flat_file.FlatFile.Ghosts as FileGhosts, maildir.disk.MaildirDisk.Ghosts as DiskGhosts},
  FileName.IsAccountText,
  Maildir.AllNamed,
}
use Rattle.fetch_record.specs.{Intents.IsNoneOrOf, Record.{Loaded, Row, has_row, marked, none_open}}
use Rattle.pop3_client.specs.{
  Client.{HasSameLink, link_of, place_of},
  Conversation.most_of,
  declared.client.Client.Client,
}
use Rattle.session_parts.specs.{
  declared.{fault.{Fault.Fault, Cut.Cut}, readiness.Ready.Ready, terms.Terms.Terms},
  declared.work.{Store.TheVariants.{Maildir, Mboxrd}, Ledger.Ledger, Work.Work},
  Durable.{AreLeft, DoesDurably, IsSafeFile, IsSafeWork, LeavesFile, LeavesStore, ReadiesDurably},
  Record.{Steady, record_state_in},
  Refusal.{RefusesTillCut, TookTillCut},
  Report.{AddsLines, HasRoom},
  Session.{Keeping, keeping},
  Target.{AfterTakingIn, Stores, is_sound, kind_of, stores_of, target_of, NoneBegun},
  Task.{Task, ids_ahead, turns_ahead, AreFresh},
  Scene.{Scene, scene, WhereAllSound},
}
use Rattle.pop3_wire.specs.{declared.wire.Wire.Ghosts as WireGhosts, Place.Place}

-- the state of a session: where its client is, and what it works on
abbrev pub scene_of : {W D F H Z : Type 0} → WireGhosts W → DiskGhosts D → FileGhosts F → Client W
    → Work D F H Z → Scene
scene_of link disk file client work = scene (place_of link client) (stores_of disk file work.store)
    (stored_in file work.ledger.file) work.ledger.seen.rows work.ledger.lines.items

-- what is worked on over a Maildir, and over an mboxrd file
abbrev pub over_maildir : {D F H Z : Type 0} → D → Ledger F H Z → Work D F H Z
over_maildir disk ledger = record { store = Maildir disk; ledger = ledger }

abbrev pub over_mbox : {D F H Z : Type 0} → F → Ledger F H Z → Work D F H Z
over_mbox mbox ledger = record { store = Mboxrd mbox; ledger = ledger }

-- this store, and what calls see of this record's file
abbrev pub keeping_in : {F : Type 0} → FileGhosts F → Stores → F → Keeping
keeping_in file store f = keeping store (stored_in file f)

-- a record's file stands for these rows, with no intent open and no torn end
abbrev pub StandsForRows : {F : Type 0} → FileGhosts F → F → List Row → Type 0
StandsForRows file f rows = Steady (stored_in file f).content (none_open rows)

-- no intent is open, and the record's file stands for the rows
pub record IsWritten {F : Type 0} (file : FileGhosts F) (f : F) (seen : Loaded) : Type 0 where
  pub closed : seen.intent ≡ None
  pub steady : file.sound f → StandsForRows file f seen.rows

-- ready for the next task: no file is begun, and all is written down
pub record IsReadyForNext {D F H Z : Type 0} (disk : DiskGhosts D) (file : FileGhosts F)
    (work : Work D F H Z) : Type 0 where
  pub none_begun : NoneBegun disk file work.store
  pub written : IsWritten file work.ledger.file work.ledger.seen

-- what is known of a call if the link, the store and the record's file are sound after it
abbrev pub WhereWorkSound : {W D F H Z : Type 0} → WireGhosts W → DiskGhosts D → FileGhosts F → Client W → Work D F H Z
    → Client W → Work D F H Z → (Scene → Scene → Type 0) → Type 0
WhereWorkSound link disk file client work client' work' did =
    WhereAllSound link.sound link.leads_to (is_sound disk file) file.sound client.wire.now client'.wire.now
    work.store work'.store work.ledger.file work'.ledger.file
    (did (scene_of link disk file client work) (scene_of link disk file client' work'))

-- ready for these tasks: there is room for their lines, no file is begun, all is written down, and each id that they
-- will mark is legal, has a row and isn't held; if there is one, each name in a Maildir is durable
pub record IsReadyFor {D F H Z : Type 0} (disk : DiskGhosts D) (file : FileGhosts F) (account : List ℕ)
    (tasks : List Task)
    (work : Work D F H Z) : Type 0 where
  pub digits : IsAccountText account
  pub room : HasRoom work.ledger.lines (length tasks)
  pub ready : IsReadyForNext disk file work
  pub legal : AllByRecursion IsLegalId (ids_ahead tasks)
  pub rows : AllByRecursion (λ (uid : List ℕ). has_row work.ledger.seen.rows uid ≡ true) (ids_ahead tasks)
  pub free : is_sound disk file work.store → AreFresh account (stores_of disk file work.store).maildir (ids_ahead tasks)
  pub named : is_sound disk file work.store
      → AllByRecursion (λ (uid : List ℕ). AllNamed (stores_of disk file work.store).maildir.files) (ids_ahead tasks)

-- ---- what calls leave as it was

-- it is the same link, its refused calls are counted, and it took this
pub record KeepsLink {W : Type 0} (link : WireGhosts W) (Took : Place → Result (Unit {0}) Cut → Place → Type 0)
    (old : Client W)
    (result : Result (Unit {0}) Cut) (new : Client W) : Type 0 where
  pub same : HasSameLink old new
  pub counted : RefusesTillCut (link_of link old) result (link_of link new)
  pub took : link.sound new.wire.now → link.sound old.wire.now × Took (place_of link old) result (place_of link new)

-- at most one line was noted, and no more than the mark of this id may be left besides the rows; and if all went well,
-- all is written down, and ids that had a row keep one
pub record KeepsLedger {F H Z : Type 0} (file : FileGhosts F) (uid : List ℕ) (old : Ledger F H Z)
    (result : Result (Unit {0}) Cut)
    (new : Ledger F H Z) : Type 0 where
  pub lines : AddsLines old.lines 1 new.lines
  pub sound : file.sound new.file → file.sound old.file
  pub written : OnOk result (IsWritten file new.file new.seen)
  pub rows : OnOk result ((uid : List ℕ) → has_row old.seen.rows uid ≡ true → has_row new.seen.rows uid ≡ true)
  pub left : file.sound new.file → IsSafeFile file old.file
      → LeavesFile file new.file (AreLeft old.seen.rows (marked old.seen.rows uid))

-- nothing was noted, and the rows are the same, also those that may be left; and if all went well, at most the intent
-- of this id is open, and all is written down
pub record KeepsRecord {F H Z : Type 0} (file : FileGhosts F) (uid : List ℕ) (old : Ledger F H Z)
    (result : Result (Unit {0}) Fault)
    (new : Ledger F H Z) : Type 0 where
  pub lines : new.lines ≡ old.lines
  pub rows : new.seen.rows ≡ old.seen.rows
  pub opened : OnOk result (IsNoneOrOf uid new.seen.intent)
  pub steady : file.sound new.file
      → file.sound old.file × OnOk result (Steady (stored_in file new.file).content (record_state_in new.seen))
  pub durable : file.sound new.file → IsSafeFile file old.file → OnOk result (IsSafeFile file new.file)
      × ((others : List Row) → LeavesFile file new.file (AreLeft old.seen.rows others))

-- at most this many lines were noted, the store is of the same kind, and no file is begun in it
pub record KeepsStore {D F H Z : Type 0} (disk : DiskGhosts D) (file : FileGhosts F) (most : ℕ)
    (old new : Work D F H Z) : Type 0 where
  pub lines : AddsLines old.ledger.lines most new.ledger.lines
  pub kind : kind_of new.store ≡ kind_of old.store
  pub none_begun : is_sound disk file new.store → is_sound disk file old.store
      × ((stores_of disk file new.store).maildir.begun ≡ None)

-- no line was noted, the store is of the same kind, and the same file is begun in it
pub record KeepsBegun {D F H Z : Type 0} (disk : DiskGhosts D) (file : FileGhosts F)
    (old new : Work D F H Z) : Type 0 where
  pub lines : new.ledger.lines ≡ old.ledger.lines
  pub kind : kind_of new.store ≡ kind_of old.store
  pub begun : is_sound disk file new.store → is_sound disk file old.store
      × ((stores_of disk file new.store).maildir.begun ≡ (stores_of disk file old.store).maildir.begun)

-- a part of a session that has these tasks: it takes and notes no more than they may; without a mark nothing is
-- written; and if all went well, what was safe is safe, and what was ready for these tasks and others is ready for
-- the others
pub record KeepsSession {W D F H Z : Type 0} (link : WireGhosts W) (disk : DiskGhosts D) (file : FileGhosts F)
    (account : List ℕ)
    (tasks : List Task) (client : Client W) (work : Work D F H Z) (result : Result (Unit {0}) Cut) (client' : Client W)
    (work' : Work D F H Z) : Type 0 where
  pub talk : KeepsLink link (TookTillCut (most_of (turns_ahead tasks))) client result client'
  pub store : KeepsStore disk file (length tasks) work work'
  pub durable : is_sound disk file work'.store → file.sound work'.ledger.file → file.sound work.ledger.file
      × (IsSafeWork file work → OnOk result (IsSafeWork file work'))
  pub idle : ids_ahead tasks ≡ [] → (work'.ledger.file ≡ work.ledger.file)
      × (is_sound disk file work'.store → LeavesStore file work.store work'.store)
  pub next : OnOk result ((later : List Task) → IsReadyFor disk file account (tasks ++ later) work
      → IsReadyFor disk file account later work')

-- ---- what is done

-- what is kept, and that these tasks were done, or as far as went well; if all was safe before, what was done is
-- durable
abbrev pub RunsTasks : {W D F H Z : Type 0} → WireGhosts W → DiskGhosts D → FileGhosts F → List ℕ → List Task → Client W
    → Work D F H Z
    → Result (Unit {0}) Cut → Client W → Work D F H Z → Type 0
RunsTasks link disk file account tasks client work result client' work' =
    KeepsSession link disk file account tasks client work result client' work'
    × WhereWorkSound link disk file client work client' work' (λ old new. DoesDurably file (IsSafeWork file work)
    (target_of work.store account) tasks old result new work'.store work'.ledger.file)

-- the record was made ready, or wasn't, after readers took what they took; and if this premise holds, this is left
abbrev pub ReadiesWork : {D F H Z : Type 0} → DiskGhosts D → FileGhosts F → Type 0 → Terms → List Item → Work D F H Z
    → Result Ready Fault → Work D F H Z → Type 0
ReadiesWork disk file safe terms items work result work' =
    is_sound disk file work'.store → file.sound work'.ledger.file
    → is_sound disk file work.store × file.sound work.ledger.file
    × AfterTakingIn (stores_of disk file work.store) (λ left. ReadiesDurably disk file safe work.store work.ledger.file
    terms.settings.now (target_of work.store terms.account.now) items terms.now left result work'.ledger.seen.rows
    work'.store work'.ledger.file)
