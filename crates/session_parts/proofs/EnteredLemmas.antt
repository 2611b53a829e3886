-- What the calls leave by which the entry of a text is appended to an mboxrd file.
use Rattle.std.{
  proofs.Common.{◌≡◌, ◌⊎◌, ◌∙◌, ℕ, Bool, true, false, List, Option, None, Some, Result, Ok, Err, refl, sym, subst, inl, inr},
  proofs.Common.{◌+◌, ◌<◌, arith, if◌then◌else◌},
  proofs.lemmas.{Bool.Decides.eqb_tells, Option.same_Some},
}
use Rattle.mail_terms.specs.FailureCount.{Tallies, counted_up, greatest_count}
use Rattle.fetch_record.specs.Record.{Row, Intent, none_open}
use Rattle.mail_store.{
  specs.declared.fault.StoreFault.{StoreFault, TheVariants.{Missing, Refused, NotMbox, NoMemory}},
  specs.declared.fault.EntryFault.{EntryFault, TheVariants.{Nothing, Front}},
  specs.{Devices.KnownFile, DiskCalls.{FlushesDisk}},
  specs.Power.{KeepsWhole},
  specs.{Durable.{Disk, IsDurable as IsFileDurable, MayLeave, Trusted, seen_on}, MboxCalls.{DurableEntry, SeesEntry, TalliesEntry}},
  proofs.{DiskLemmas.{all_no_more, all_seen, all_trust, durable_flush, durable_trust}, DurableLemmas.durable_is_left},
  proofs.EntryLemmas.entries_are_durable,
}
use Rattle.session_parts.{
  specs.declared.fault.Fault.Fault,
  specs.Durable.{AreLeft, DurablyEnters, DurablySaves, DurablyTakesBack, IsGrownAtMost, LeavesOn},
  specs.{Entries.{EntersText, EntryFails, IsAnnounced, Sizes, WritesEntry, refused_calls}, Mbox.intent_of},
  specs.Record.{Intends, Steady, with_open},
  proofs.RecordLemmas.{durably_intends, durably_takes_back, grown_rows, opened_behind, safe_when, same_left_on, no_more_keeps},
}

-- ---- counts

-- the device didn't reach the greatest count
pub tallied : (b : Bool) (old new : ℕ) → new < greatest_count → Tallies b old new → new ≡ (if b then old + 1 else old)
tallied false old new below is = is
tallied true old new below is = elim (eqb_tells old greatest_count) [
  | inl (most, at) ↦ absurd (omega (arith, below, rw most at is, at))
  | inr (less, _) ↦ rw less at is
]

pub entry_counted : (r : Result (Unit {0}) EntryFault) (old new : ℕ) → new < greatest_count → TalliesEntry r old new
    → new ≡ old + refused_calls r
entry_counted (Ok _) old new below is = omega (arith, is)
entry_counted (Err (Nothing Missing)) old new below is = omega (arith, is)
entry_counted (Err (Nothing Refused)) old new below is = let one = tallied true old new below is in omega (arith, one)
entry_counted (Err (Nothing NotMbox)) old new below is = omega (arith, is)
entry_counted (Err (Nothing NoMemory)) old new below is = omega (arith, is)
entry_counted (Err Front) old new below is =
    let one = tallied true (counted_up old) new below is in
    let first = tallied true old (counted_up old) (omega (arith, below, one)) refl in
    omega (arith, one, first)

-- ---- the mboxrd file

-- nothing of the entry is there
nothing_seen : (old new : Option (List ℕ)) (text : List ℕ) (why : StoreFault) → SeesEntry {T = Unit {0}} old text (Err (Nothing why)) new
    → new ≡ old
nothing_seen _ _ _ Missing sees = sees.1
nothing_seen _ _ _ Refused same = same
nothing_seen _ _ _ NotMbox sees = sees.1
nothing_seen _ _ _ NoMemory same = same

module _ (mbox look mbox' : KnownFile) (was text : List ℕ) (r : Result (Unit {0}) EntryFault) (sizes : Sizes mbox (Ok was) look)
    (enters : EntersText look text r mbox') where
  entry : DurableEntry look.disk text r mbox'.disk
  entry = entries_are_durable look.disk mbox'.disk text r enters.0

  kept_whole : KeepsWhole (seen_on mbox.disk) (MayLeave mbox.disk) (MayLeave mbox'.disk)
  kept_whole bytes is durable = entry.keeps bytes (all_seen mbox.disk look.disk sizes.1 ∙ is)
      (λ left may. durable left (all_no_more mbox.disk look.disk sizes.1 left may))

  firm : Trusted mbox.disk.now → IsFileDurable look.disk
  firm = all_trust mbox.disk look.disk sizes.1

-- it was only looked at
flushed_whole : (mbox mbox' : KnownFile) (r : Result (Unit {0}) StoreFault) → FlushesDisk mbox.disk r mbox'.disk
    → KeepsWhole (seen_on mbox.disk) (MayLeave mbox.disk) (MayLeave mbox'.disk)
flushed_whole mbox mbox' r flushes = no_more_keeps (seen_on mbox.disk) (durable_flush mbox.disk mbox'.disk r flushes).no_more

-- ---- both files

-- no rows are left but these
pub rows_left : (disk : Disk) (rows : List Row) (intent : Intent) → LeavesOn disk (IsGrownAtMost (none_open rows) (with_open rows intent))
    → (others : List Row) → LeavesOn disk (AreLeft rows others)
rows_left disk rows intent leaves others bytes is left may =
    grown_rows rows others rows None (Some intent) left (inl refl) (leaves bytes is left may)

module _ (rows : List Row) (uid text : List ℕ) (mbox file : KnownFile) (stood : Steady (seen_on file.disk) (none_open rows)) where
  -- nothing was written to the record's file
  unsized : (why : StoreFault) (fault : Fault) (mbox' file' : KnownFile) → Sizes mbox (Err why) mbox' → file' ≡ file
      → DurablyEnters rows uid text mbox file (Err fault) mbox' file'
  unsized why fault mbox' file' sizes same = rw same (record {
    keeps = flushed_whole mbox mbox' (Err why) sizes.1;
    rows_last = λ last. last;
    durable = λ trust safe. tt;
    left = λ safe others bytes is left may. grown_rows rows others rows None None left (inl refl)
        (same_left_on file.disk (none_open rows) (none_open rows) safe stood bytes is left may);
    cut = λ trust safe whole firm bytes has left may now is seen there. inl (
      same_left_on file.disk (none_open rows) (with_open rows (intent_of bytes uid text)) safe stood now is seen there,
      (whole.1 bytes has).1 left ((durable_flush {T = Unit {0}} mbox.disk mbox'.disk (Err why) sizes.1).no_more left may),
    );
  })

  -- the intent was refused
  unintended : (was : List ℕ) (fault : Fault) (mbox' file' : KnownFile) → Sizes mbox (Ok was) mbox'
      → Intends rows (intent_of was uid text) file (Err fault) file' → DurablyEnters rows uid text mbox file (Err fault) mbox' file'
  unintended was fault mbox' file' sizes intends =
      let law = durably_intends rows (intent_of was uid text) file (Err fault) file' intends in
      record {
        keeps = flushed_whole mbox mbox' (Ok tt) sizes.1;
        rows_last = law.keeps rows;
        durable = λ trust safe. tt;
        left = λ safe. rows_left file'.disk rows (intent_of was uid text) (law.leaves stood safe);
        cut = λ trust safe whole firm bytes has left may now is seen there. inl (
          subst (λ (b : List ℕ). IsGrownAtMost (none_open rows) (with_open rows (intent_of b uid text)) seen)
              (same_Some was bytes (sym sizes.0 ∙ has)) (law.leaves stood safe now is seen there),
          (whole.1 bytes has).1 left (all_no_more mbox.disk mbox'.disk sizes.1 left may),
        );
      }

  -- the intent was written
  module _ (look : KnownFile) (size : ℕ) (mid : KnownFile) (i : IsAnnounced rows uid text mbox file look size mid) where
    abbrev opened : Intent
    opened = intent_of i.was uid text

    law : DurablySaves (none_open rows) (with_open rows opened) file (Ok tt) mid
    law = durably_intends rows opened file (Ok size) mid i.intends

    stored : (mbox' : KnownFile) → EntersText look text (Ok tt) mbox' → DurablyEnters rows uid text mbox file (Ok tt) mbox' mid
    stored mbox' enters = record {
      keeps = kept_whole mbox look mbox' i.was text (Ok tt) i.sizes enters;
      rows_last = law.keeps rows;
      durable = λ trust safe. (
        safe_when mbox'.disk ((entry mbox look mbox' i.was text (Ok tt) i.sizes enters).durable
            (durable_trust look.disk (firm mbox look mbox' i.was text (Ok tt) i.sizes enters trust))),
        law.durable safe,
      );
      left = λ safe. rows_left mid.disk rows opened (law.leaves stood safe);
      cut = λ trust safe whole. tt;
    }

    front : (fault : Fault) (mbox' file' : KnownFile) → EntersText look text (Err Front) mbox' → file' ≡ mid
        → DurablyEnters rows uid text mbox file (Err fault) mbox' file'
    front fault mbox' file' enters same = rw same (record {
      keeps = kept_whole mbox look mbox' i.was text (Err Front) i.sizes enters;
      rows_last = law.keeps rows;
      durable = λ trust safe. tt;
      left = λ safe. rows_left mid.disk rows opened (law.leaves stood safe);
      cut = λ trust safe whole trusted bytes has left may now is seen there. inr (inl (
        subst (λ (b : List ℕ). IsGrownAtMost (with_open rows (intent_of b uid text)) (with_open rows (intent_of b uid text)) seen)
            (same_Some i.was bytes (sym i.sizes.0 ∙ has))
            (same_left_on mid.disk (with_open rows opened) (with_open rows opened) (law.durable safe) (law.sees.1 stood) now is seen there),
        (entry mbox look mbox' i.was text (Err Front) i.sizes enters).leaves (firm mbox look mbox' i.was text (Err Front) i.sizes enters
            trust)
            bytes (all_seen mbox.disk look.disk i.sizes.1 ∙ has) left may,
      ));
    })

    none : (why : StoreFault) (fault : Fault) (mbox' file' : KnownFile) → EntersText look text (Err (Nothing why)) mbox'
        → DurablyTakesBack rows opened mid file' → DurablyEnters rows uid text mbox file (Err fault) mbox' file'
    none why fault mbox' file' enters back =
        let e = entry mbox look mbox' i.was text (Err (Nothing why)) i.sizes enters in
        record {
          keeps = kept_whole mbox look mbox' i.was text (Err (Nothing why)) i.sizes enters;
          rows_last = λ last. back.keeps (law.keeps rows last);
          durable = λ trust safe. tt;
          left = λ safe. rows_left file'.disk rows opened (back.leaves (law.durable safe) (law.leaves stood safe));
          cut = λ trust safe whole trusted bytes has left may now is seen there. inl (
            subst (λ (b : List ℕ). IsGrownAtMost (none_open rows) (with_open rows (intent_of b uid text)) seen)
                (same_Some i.was bytes (sym i.sizes.0 ∙ has))
                (back.leaves (law.durable safe) (law.leaves stood safe) now is seen there),
            durable_is_left mbox'.disk left (e.still (firm mbox look mbox' i.was text (Err (Nothing why)) i.sizes enters trust) trusted) may
                ∙ nothing_seen (seen_on look.disk) (seen_on mbox'.disk) text why e.sees
                ∙ all_seen mbox.disk look.disk i.sizes.1 ∙ has,
          );
        }

    goes_on : (fault : Fault) (mbox' file' : KnownFile) → EntryFails text look mid size fault mbox' file'
        → DurablyEnters rows uid text mbox file (Err fault) mbox' file'
    goes_on fault mbox' file' (inl (enters, same, _)) = front fault mbox' file' enters same
    goes_on fault mbox' file' (inr (why, enters, cuts, _)) = none why fault mbox' file' enters
        (durably_takes_back rows opened mid size file'
        (opened_behind rows opened file size mid i.intends stood) cuts)

pub durably_enters : (rows : List Row) (uid text : List ℕ) (mbox file : KnownFile) (r : Result (Unit {0}) Fault) (mbox' file' : KnownFile)
    (opened : Option Intent) → Steady (seen_on file.disk) (none_open rows) → WritesEntry rows uid text mbox file r mbox' file' opened
    → DurablyEnters rows uid text mbox file r mbox' file'
durably_enters rows uid text mbox file (Ok _) mbox' file' _ stood (look, size, i, enters, _) =
    stored rows uid text mbox file stood look size file' i mbox' enters
durably_enters rows uid text mbox file (Err fault) mbox' file' _ stood (inl (why, sizes, same, _)) =
    unsized rows uid text mbox file stood why fault mbox' file' sizes same
durably_enters rows uid text mbox file (Err fault) mbox' file' _ stood (inr (inl (was, sizes, intends))) =
    unintended rows uid text mbox file stood was fault mbox' file' sizes intends
durably_enters rows uid text mbox file (Err fault) mbox' file' _ stood (inr (inr (look, size, mid, i, on))) =
    goes_on rows uid text mbox file stood look size mid i fault mbox' file' on
