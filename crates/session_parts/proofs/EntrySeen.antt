-- What calls see once the entry of a text was appended to an mboxrd file, or wasn't.
use Rattle.std.{
  proofs.Common.{◌≡◌, ◌∙◌, ◌++◌, ◌+◌, ℕ, List, Result, Ok, Err, refl, sym, inl, inr, if◌then◌else◌, arith},
  proofs.lemmas.Option.same_Some,
}
use Rattle.fetch_record.specs.Record.{Loaded, none_open}
use Rattle.mail_store.{
  specs.declared.fault.StoreFault.{StoreFault, TheVariants.{Missing, Refused, NotMbox, NoMemory}},
  specs.declared.fault.EntryFault.TheVariants.{Nothing, Front},
  specs.{Devices.KnownFile, DiskCalls.FlushesDisk, Durable.seen_on, Fault.is_refusal, FlatFile.{edges_of}},
  specs.MboxCalls.{EntryMayFollow, SeesEntry},
  proofs.{DiskLemmas.{all_seen, flush_seen}, EntryLemmas.entries_are_durable},
}
use Rattle.session_parts.{
  specs.declared.fault.Fault.{Fault, TheVariants.{SeenRefused, NoMemory as NoRoom}},
  specs.Entries.{EntersText, EntryFails, IsAnnounced, Sizes, WritesEntry, refused_calls},
  specs.Mbox.{AppendsText, LeavesSame, RefusesEntry, intent_of},
  specs.Record.{Intends, Saves, Steady, stored_of, with_open},
  proofs.{RecordLemmas.{durably_intends, durably_takes_back, opened_behind}, TextLemmas.{Refuses, entry_refused, not_measured}},
}

-- ---- what calls see

-- the mboxrd file was looked at
pub stays : (old new : KnownFile) (why : StoreFault) → FlushesDisk {T = Unit {0}} old.disk (Err why) new.disk
    → new.refusals ≡ (if is_refusal why then old.refusals + 1 else old.refusals) → LeavesSame {T = Unit {0}} (stored_of old) (Err why)
    (stored_of new)
stays old new Missing t count = rw (flush_seen {T = Unit {0}} old.disk new.disk (Err Missing) t, count) refl
stays old new Refused t count = rw (flush_seen {T = Unit {0}} old.disk new.disk (Err Refused) t, count) refl
stays old new NotMbox t count = rw (flush_seen {T = Unit {0}} old.disk new.disk (Err NotMbox) t, count) refl
stays old new NoMemory t count = rw (flush_seen {T = Unit {0}} old.disk new.disk (Err NoMemory) t, count) refl

same_stored : (old new : KnownFile) (was : List ℕ) → Sizes old (Ok was) new → stored_of new ≡ stored_of old
same_stored old new was (has, e, count) = rw (all_seen old.disk new.disk e, count) refl

refuses : (look mbox' : KnownFile) (text : List ℕ) (why : StoreFault) → EntersText look text (Err (Nothing why)) mbox'
    → Refuses (stored_of look) text why (stored_of mbox')
refuses look mbox' text why (t, count) =
    let sees = (entries_are_durable look.disk mbox'.disk text (Err (Nothing why)) t).sees in (sees, by why sees count)
  where
    by : (why : StoreFault) → SeesEntry {T = Unit {0}} (seen_on look.disk) text (Err (Nothing why)) (seen_on mbox'.disk)
        → mbox'.refusals ≡ look.refusals + refused_calls (Err (Nothing why)) → LeavesSame {T = Unit {0}} (stored_of look) (Err why)
        (stored_of mbox')
    by Missing sees count = let up : mbox'.refusals ≡ look.refusals = omega (arith, count) in rw (sees.1, up) refl
    by Refused same count = rw (same, count) refl
    by NotMbox sees count = let up : mbox'.refusals ≡ look.refusals = omega (arith, count) in rw (sees.1, up) refl
    by NoMemory same count = let up : mbox'.refusals ≡ look.refusals = omega (arith, count) in rw (same, up) refl

module _ (uid text : List ℕ) (mbox file : KnownFile) (seen seen' : Loaded) where
  -- the intent wasn't written
  unwritten : (was : List ℕ) (fault : Fault) (mbox' file' : KnownFile) → Sizes mbox (Ok was) mbox'
      → Intends seen.rows (intent_of was uid text) file (Err fault) file'
      → RefusesEntry (stored_of mbox) (stored_of file) seen.rows uid text fault (stored_of mbox') (stored_of file')
  unwritten was fault mbox' file' sizes intends = by fault
      (durably_intends seen.rows (intent_of was uid text) file (Err fault) file' intends).sees
    where
      by : (fault : Fault) → Saves (stored_of file) (none_open seen.rows) (with_open seen.rows (intent_of was uid text)) (Err fault)
          (stored_of file') → RefusesEntry (stored_of mbox) (stored_of file) seen.rows uid text fault (stored_of mbox') (stored_of file')
      by SeenRefused saves = (same_stored mbox mbox' was sizes, (was, sizes.0, saves))
      by NoRoom saves = (same_stored mbox mbox' was sizes, inl saves)
      by _ never = absurd never

  module _ (look : KnownFile) (size : ℕ) (mid : KnownFile) (i : IsAnnounced seen.rows uid text mbox file look size mid) where
    saved : Saves (stored_of file) (none_open seen.rows) (with_open seen.rows (intent_of i.was uid text)) (Ok tt) (stored_of mid)
    saved = (durably_intends seen.rows (intent_of i.was uid text) file (Ok size) mid i.intends).sees

    was_is : (was : List ℕ) → EntryMayFollow (seen_on look.disk) was → was ≡ i.was
    was_is was may = same_Some was i.was (sym may.0 ∙ all_seen mbox.disk look.disk i.sizes.1 ∙ i.sizes.0)

    unentered : Steady (seen_on file.disk) (none_open seen.rows) → (fault : Fault) (mbox' file' : KnownFile)
        → EntryFails text look mid size fault mbox' file'
        → RefusesEntry (stored_of mbox) (stored_of file) seen.rows uid text fault (stored_of mbox') (stored_of file')
    unentered stood fault mbox' file' (inl ((t, count), same, is)) =
        let (was, front, rest, follows, split, left) = (entries_are_durable look.disk mbox'.disk text (Err Front) t).sees in
        let mine = was_is was follows in
        let up : mbox'.refusals ≡ mbox.refusals + 1 + 1 = omega (arith, count, i.sizes.2) in
        rw (is, same) (inr (
          (i.was, i.sizes.0, saved),
          (i.was, front, rest, (i.sizes.0, rw mine at follows.1), split, rw (left, up, mine) refl),
        ))
    unentered stood fault mbox' file' (inr (why, enters, cuts, is)) =
        entry_refused (stored_of mbox) (stored_of look) (stored_of mbox') (stored_of file) (stored_of file') seen.rows uid text
        (edges_of i.was) why fault ((i.was, i.sizes.0, refl), same_stored mbox look i.was i.sizes) (
          i.was,
          i.sizes.0,
          stored_of mid,
          saved,
          (durably_takes_back seen.rows (intent_of i.was uid text) mid size file'
              (opened_behind seen.rows (intent_of i.was uid text) file size mid i.intends stood) cuts).sees,
        ) (refuses look mbox' text why enters) is

pub enters_sees : (uid text : List ℕ) (mbox file : KnownFile) (seen seen' : Loaded) (r : Result (Unit {0}) Fault) (mbox' file' : KnownFile)
    → Steady (seen_on file.disk) (none_open seen.rows) → WritesEntry seen.rows uid text mbox file r mbox' file' seen'.intent
    → AppendsText (stored_of mbox) (stored_of file) seen uid text r (stored_of mbox') (stored_of file') seen'
enters_sees uid text mbox file seen seen' (Ok _) mbox' file' stood (look, size, i, (t, count), opened) =
    let (was, follows, grown) = (entries_are_durable look.disk mbox'.disk text (Ok tt) t).sees in
    let mine = was_is uid text mbox file seen seen' look size file' i was follows in
    let up : mbox'.refusals ≡ mbox.refusals = omega (arith, count, i.sizes.2) in (
      i.was,
      (i.sizes.0, rw mine at follows.1),
      rw (grown, up, mine) refl,
      opened,
      saved uid text mbox file seen seen' look size file' i,
    )
enters_sees uid text mbox file seen seen' (Err fault) mbox' file' stood (inl (why, sizes, same, is)) =
    rw same (not_measured (stored_of mbox) (stored_of mbox') (stored_of file) seen.rows uid text why fault
    (sizes.0, stays mbox mbox' why sizes.1 sizes.2) is)
enters_sees uid text mbox file seen seen' (Err fault) mbox' file' stood (inr (inl (was, sizes, intends))) =
    unwritten uid text mbox file seen seen' was fault mbox' file' sizes intends
enters_sees uid text mbox file seen seen' (Err fault) mbox' file' stood (inr (inr (look, size, mid, i, on))) =
    unentered uid text mbox file seen seen' look size mid i stood fault mbox' file' on
