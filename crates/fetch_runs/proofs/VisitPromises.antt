-- What is promised of any list of calls is promised of visits, which are calls.
use Rattle.std.proofs.Common.{List, map}
use Rattle.pop3_wire.specs.declared.wire.Wire.{Ghosts as WireGhosts}
use Rattle.mail_store.specs.declared.{
  maildir.disk.MaildirDisk.Ghosts as DiskGhosts,
  file.flat_file.FlatFile.Ghosts as FileGhosts,
}
use Rattle.session_parts.specs.declared.work.Store.{Store, TheVariants.{Maildir as InMaildir, Mboxrd as InMbox}}
use Rattle.fetch_runs.specs.{
  Calls.{Called, CallsKeepPromises, MboxCallsKeepPromises},
  Headline.{Headline, MboxHeadline},
  Progress.{CallsGetFar, MboxCallsGetFar},
  Promises.{Call, Devices},
  Visits.{CallsOf, VisitsAreCalls},
  VisitPromises.{KeepAll, KeepAllInMbox, VisitsAre, VisitsKeepPromises},
}

module _ {W D F : Type 0} (link : WireGhosts W) (disk : DiskGhosts D) (file : FileGhosts F) where
  holds_too : {S : Type 0} (In : S → Store D F) (Holds : Devices S F → List (Call W S F) → Type 0)
      → ((first : Devices S F) (calls : List (Call W S F)) → Holds first calls) → CallsOf link disk file In
      → VisitsAre link disk file In Holds
  holds_too In Holds always are settings first olds reports news servers account made same =
      let (last, last_is, calls, those) = are settings first olds reports news servers account made same in
      (last, last_is, calls, those, always first calls)

  pub visits_keep_promises : VisitsAreCalls link disk file → CallsKeepPromises link disk file → Headline link disk file
      → CallsGetFar link disk file → MboxCallsKeepPromises link disk file → MboxHeadline link disk file
      → MboxCallsGetFar link disk file → VisitsKeepPromises link disk file
  visits_keep_promises are law order far mbox mbox_order mbox_far = record {
    maildir = holds_too InMaildir (KeepAll link disk file) (λ first calls. record {
      in_any_order = λ mail state. law mail state first (map Called calls);
      in_order = λ world state. order world state first (map Called calls);
      progress = λ mail aim before kept state. far mail aim before kept state first (map Called calls);
    }) are.maildir;
    mbox = holds_too InMbox (KeepAllInMbox link disk file) (λ first calls. record {
      in_any_order = λ base done account. mbox base done account first (map Called calls);
      in_order = λ world done account. mbox_order world done account first (map Called calls);
      progress = λ aim before kept base done account. mbox_far aim before kept base done account first (map Called calls);
    }) are.mbox;
  }
