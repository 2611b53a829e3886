-- What a session's tasks stand for, and what it did of them.
use Rattle.std.specs.Prelude.{◌≡◌, List, Result}
use Rattle.mail_terms.specs.Listing.{Item}
use Rattle.mail_store.specs.declared.{
  file.flat_file.FlatFile.Ghosts as FileGhosts,
  maildir.disk.MaildirDisk.Ghosts as DiskGhosts,
}
use Rattle.pop3_client.specs.declared.client.Client.{Client}
use Rattle.pop3_wire.specs.declared.wire.Wire.{Ghosts as WireGhosts}
use Rattle.session_parts.specs.{
  declared.{fault.Cut.Cut, report.Skips.Skips, terms.Terms.Terms, work.Work.Work},
  CarryingOut.Carries,
  Durable.{DurableCarries, DurableProceeds},
  Parts.WhereWorkSound,
  Session.{Proceeds, keeping, noted},
  Target.{AfterTakingIn, target_of},
  Task.{Task, skips, stores, rereads},
}
use Rattle.fetch_session.specs.declared.{
  one_session.Counts.Counts,
  step.Task.{Task as Planned, TheVariants.{Store, Reread, Skip}},
}

-- the task that is meant
abbrev pub task_of : Planned → Task
task_of (Store number uid) = stores number uid.now
task_of (Reread number uid) = rereads number uid.now
task_of (Skip number size) = skips number size

-- a listing's steps were prepared and carried out, or as far as went well, after readers took what they took; and what
-- of it is durable
abbrev pub RunsListing : {W D F H Z : Type 0} → WireGhosts W → DiskGhosts D → FileGhosts F → Terms → List Item
    → Client W → Work D F H Z → Result (Unit {0}) Cut → Client W → Work D F H Z → Skips → Type 0
RunsListing link disk file terms items client work result client' work' skipped =
    WhereWorkSound link disk file client work client' work' (λ old new. AfterTakingIn old.store (λ left.
    (is : Carries terms.settings.now (target_of work.store terms.account.now) items terms.now old.place left old.file
    old.lines result new.place new.store new.file new.lines skipped)
    × DurableCarries file work.store work.ledger.file _ _ _ _ _ _ _ _ _ _ _ _ _ _ is work'.store
    work'.ledger.file))

-- the same of a session up to its QUIT, or until it was cut
abbrev pub RunsTillCut : {W D F H Z : Type 0} → WireGhosts W → DiskGhosts D → FileGhosts F → Terms → Client W
    → Work D F H Z → Result (Unit {0}) Cut → Client W → Work D F H Z → Counts → Type 0
RunsTillCut link disk file terms client work result client' work' counts =
    WhereWorkSound link disk file client work client' work' (λ old new. AfterTakingIn old.store (λ left.
    (is : Proceeds terms.settings.now (target_of work.store terms.account.now) terms.now old.place
    (keeping left old.file) result new.place (keeping new.store new.file) (noted counts.total counts.skipped new.lines))
    × DurableProceeds file work.store work.ledger.file _ _ _ _ _ _ _ _ _ is work'.store work'.ledger.file))
