-- What settling an open intent leaves of an mboxrd file.
use Rattle.std.proofs.Common.{◌≡◌, Bool, List, refl, Some, Result, Err, inl, inr, if◌then◌else◌, ◌+◌}
use Rattle.mail_terms.specs.Listing.{Item}
use Rattle.fetch_record.specs.Record.{Intent}
use Rattle.mail_store.{
  specs.declared.fault.StoreFault.{StoreFault, TheVariants.{Missing, Refused, NotMbox, NoMemory}},
  specs.{Devices.KnownFile, Durable.{MayLeave, Trusted, seen_on}, Fault.is_refusal, Settling.listed_size},
  specs.SettlingCalls.{SeesSettled, SettlesFile},
  proofs.SettledLemmas.settled_files_are_durable,
}
use Rattle.session_parts.specs.{
  declared.fault.Fault.{Fault},
  Durable.LeavesSettled,
  Mbox.{IsStoreFault, SettlesIntent},
  Record.stored_of,
}

-- the call was refused, or there was no file, or no memory
pub settles_err : (intent : Intent) (items : List Item) (old new : KnownFile) (why : StoreFault) (fault : Fault)
    → SettlesFile intent.start intent.len (listed_size items intent.uid) old.disk (Err why) new.disk
    → new.refusals ≡ (if is_refusal why then old.refusals + 1 else old.refusals) → IsStoreFault why fault
    → SettlesIntent (Some intent) items (stored_of old) (Err fault) (stored_of new)
settles_err intent items old new why fault t count is = by why t
    (settled_files_are_durable intent.start intent.len (listed_size items intent.uid) old.disk new.disk (Err why) t).sees count is
  where
    by : (why : StoreFault) → SettlesFile intent.start intent.len (listed_size items intent.uid) old.disk (Err why) new.disk
        → SeesSettled intent.start intent.len (listed_size items intent.uid) (seen_on old.disk) (Err why) (seen_on new.disk)
        → new.refusals ≡ (if is_refusal why then old.refusals + 1 else old.refusals) → IsStoreFault why fault
        → SettlesIntent (Some intent) items (stored_of old) (Err fault) (stored_of new)
    by Missing t (none, same) count is = rw is (none, rw (same, count) refl)
    by Refused t sees count is = rw is (elim sees [
      | inl same ↦ inl (rw (same, count) refl)
      | inr (was, has, now) ↦ inr (was, has, rw (now, count) refl)
    ])
    by NotMbox t never count is = absurd never
    by NoMemory t (_, same) count is = rw is (rw (same, count) refl)

pub settled_left : (intent : Intent) (items : List Item) (old new : KnownFile) (r : Result Bool StoreFault)
    → SettlesFile intent.start intent.len (listed_size items intent.uid) old.disk r new.disk → Trusted old.disk.now
    → LeavesSettled (Some intent) (seen_on old.disk) (MayLeave old.disk) (MayLeave new.disk)
settled_left intent items old new r t trust =
    (settled_files_are_durable intent.start intent.len (listed_size items intent.uid) old.disk new.disk r t).leaves trust
