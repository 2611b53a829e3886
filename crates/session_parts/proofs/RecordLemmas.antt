-- What the calls of the record's file leave of it.
use Rattle.std.{
  proofs.Common.{◌≡◌, ◌≢◌, ◌⊎◌, ◌∙◌, ℕ, List, [], ◌∷◌, ◌++◌, Option, None, Some, Result, Ok, Err, refl, sym, ap, subst, inl, inr},
  proofs.Common.{⊎_elim, append-nil, append_assoc, arith, length, take, false, true≢false, if◌then◌else◌, ◌+◌, ◌<◌},
  proofs.lemmas.{Bool.Decides.eqb_tells, Option.same_Some},
  specs.Prelude.IfErr,
}
use Rattle.fetch_record.{
  specs.{Record.{Row, Intent, RecordState, none_open}, RecordFile.{Two, file_of}, RecordMeaning.{Means, Rows}},
  proofs.MeaningLemmas.{appended_counts, cut_is_ignored},
}
use Rattle.mail_terms.specs.FailureCount.{Tallies, counted_up, greatest_count, is_refused, refuses}
use Rattle.mail_store.{
  specs.declared.fault.StoreFault.{StoreFault, TheVariants.Refused},
  specs.{Devices.KnownFile, Fault.is_refusal, DiskCalls.{AppendsDisk, CutsDisk, DurableAppend}, FlatFile.{Stored, holding}},
  specs.Power.{IsLonger, KeepsWhole, LeavesNoMore},
  specs.Durable.{Disk, IsDurable as IsFileDurable, MayLeave, seen_on},
  proofs.DiskLemmas.{all_no_more, all_seen, all_trust, appends, cuts, durable_append, durable_cut, durable_replace, durable_trust},
  proofs.DiskLemmas.{may_no_more, may_seen},
  proofs.DurableLemmas.durable_is_left,
}
use Rattle.session_parts.{
  specs.declared.fault.Fault.{Fault, TheVariants.{SeenRefused, NoMemory}},
  specs.Record.{AppendsRecord, Calls, CutsRecord, GrowsDisk, Intends, Measures, Saves, StandsTill, Steady, WritesRows, bytes_in},
  specs.Record.{record_state, stored_of},
  specs.Record.{with_open},
  specs.Durable.{DurablySaves, DurablyTakesBack, DurablyWrites, AreLeft, IsGrownAtMost, IsDiskSafe, LeavesMerged, LeavesOn, RowsLast},
  specs.Durable.ShowsRows,
  specs.Mbox.went,
  proofs.SceneLemmas.{GrowsBy, cut_short, grown, is_there, stands_till, steady_keeps, taken_back, till_front},
}

-- ---- what is left

-- what was durable still is
pub no_more_keeps : {a b : Option (List ℕ) → Type 0} (content : Option (List ℕ)) → LeavesNoMore a b → KeepsWhole content a b
no_more_keeps _ no_more _ _ front left may = front left (no_more _ may)

-- no rows are left but these, and those that they were to be made
pub grown_rows : (rows others next : List Row) (before after : Option Intent) (left : Option (List ℕ)) → (next ≡ rows) ⊎ (next ≡ others)
    → IsGrownAtMost (record_state rows before) (record_state next after) left → AreLeft rows others left
grown_rows rows _ next before after _ next_is g = elim g.grows [
  | inr grows ↦ record {
    before = before;
    added = g.added;
    next = next;
    after = after;
    grows = grows;
    next_is = next_is;
    file = g.file;
  }
  | inl none ↦ record {
    before = before;
    added = [];
    next = rows;
    after = before;
    grows = inl (inl (refl, refl, refl));
    next_is = inl refl;
    file = record {
      bytes = g.file.bytes;
      behind = [];
      is = cc;
      stands = g.file.stands;
      part = tt;
      begun = inl refl;
    };
  }
]

-- bytes of the record
pub still_grown : (was now : RecordState) (bytes : List ℕ) (left : Option (List ℕ)) → Steady (Some bytes) was
    → left ≡ Some bytes → IsGrownAtMost was now left
still_grown _ _ bytes _ stands all = record {
  added = [];
  file = record {
    bytes = bytes;
    behind = [];
    is = cc (append-nil bytes);
    stands = stands;
    part = tt;
    begun = inl refl;
  };
  grows = inl refl;
}

-- what begins with bytes that stand for these rows still does if it is longer
pub shown_longer : (rows : List Row) (was left : Option (List ℕ)) → ShowsRows rows was → IsLonger was left → ShowsRows rows left
shown_longer rows _ _ shows (inl same) = rw same shows
shown_longer _ _ _ (bytes, behind, inl none, stands) (inr _) = (bytes, behind, inl none, stands)
shown_longer _ _ _ (bytes, behind, inr is, stands) (inr (some, more, was_is, longer)) = (
  bytes,
  behind ++ more,
  inr (cc (same_Some some (bytes ++ behind) (sym was_is ∙ is), append_assoc bytes behind more)),
  stands,
)

-- what calls see of a disk is durable
pub safe_when : (disk : Disk) → IsFileDurable disk → IsDiskSafe disk
safe_when disk is = (durable_trust disk is, λ bytes has. (is, λ left may. durable_is_left disk left is may ∙ has))

-- the file is safe and stands for the record
pub same_left_on : (disk : Disk) (was now : RecordState) → IsDiskSafe disk → Steady (seen_on disk) was → LeavesOn disk
    (IsGrownAtMost was now)
same_left_on disk was now safe stood bytes is left may = still_grown was now bytes left (rw is at stood) ((safe.1 bytes is).1 left may)

-- ---- calls

-- a refused call is counted
call_counted : (old new : ℕ) → old < greatest_count → new ≡ counted_up old → new ≡ old + 1
call_counted old new below is = elim (eqb_tells old greatest_count) [
  | inl (_, most) ↦ absurd (omega (arith, below, most))
  | inr (less, _) ↦ rw less at is
]

pub cuts_record : (size : ℕ) (old new : KnownFile) (r : Result (Unit {0}) StoreFault) → old.refusals < greatest_count
    → IfErr r (λ e. e ≡ Refused) → CutsDisk old.disk size r new.disk → Tallies (refuses is_refusal r) old.refusals new.refusals
    → CutsRecord size old tt new
cuts_record _ _ _ (Ok _) _ _ t count = inl (t, count)
cuts_record _ old new (Err _) below fault t count = inr (t, call_counted old.refusals new.refusals below (rw fault at count))

-- ---- a record was made another by what was appended

pub calls_append : (was now : RecordState) (added : List ℕ) (old new : KnownFile) (r : Result (Unit {0}) Fault) → GrowsBy added was now
    → Calls (GrowsDisk added) old r new → AppendsRecord was now old r new
calls_append _ _ added _ _ (Ok _) grows call = (added, grows, call)
calls_append _ _ added _ _ (Err SeenRefused) grows call = (added, grows, call)
calls_append _ _ _ _ _ (Err NoMemory) _ same = same
calls_append _ _ _ _ _ (Err _) _ never = absurd never

-- nothing was done
nothing_done : (was now : RecordState) (old new : KnownFile) → new ≡ old → DurablySaves was now old (Err NoMemory) new
nothing_done was now old new same = record {
  sees = ap stored_of same;
  keeps = λ rows last. rw same last;
  durable = λ _. tt;
  leaves = λ stood safe. rw same (same_left_on old.disk was now safe stood);
  merges = λ stood safe left may. inl (rw same at may);
}

-- nothing was to be appended
nothing_grows : (was now : RecordState) (old new : KnownFile) → GrowsBy [] was now → new.disk ≡ old.disk → new.refusals ≡ old.refusals
    → DurablySaves was now old (Ok tt) new
nothing_grows was now old new (inl (inl none)) same count = record {
  sees = (count, λ stood. rw (none.1, none.2, same) stood);
  keeps = λ rows last. rw same last;
  durable = λ safe. rw same safe;
  leaves = λ stood safe. rw same (same_left_on old.disk was now safe stood);
  merges = λ stood safe left may. inl (rw same at may);
}
nothing_grows _ _ _ _ (inl (inr one)) _ _ = absurd (true≢false (cc one.2))
nothing_grows _ _ _ _ (inr opens) _ _ = absurd (true≢false (cc opens.bytes_are))

module _ (was now : RecordState) (old new : KnownFile) (added : List ℕ) (grows : GrowsBy added was now)
    (some : bytes_in (seen_on old.disk) ≢ []) (r : Result (Unit {0}) StoreFault) (t : AppendsDisk old.disk added r new.disk) where
  law : DurableAppend old.disk added r new.disk
  law = durable_append old.disk new.disk added r t

  here : seen_on old.disk ≡ Some (bytes_in (seen_on old.disk))
  here = is_there (seen_on old.disk) some

  grown_last : (rows : List Row) → RowsLast old.disk rows → RowsLast new.disk rows
  grown_last rows last left may = let was = law.longer left may in shown_longer rows was.0 left (last was.0 was.1) was.2

  grown_part : Steady (seen_on old.disk) was → IsDiskSafe old.disk → (left : Option (List ℕ)) → MayLeave new.disk left
      → IsGrownAtMost was now left
  grown_part stood safe left may =
      let part = law.leaves (safe.1 _ here).0 (bytes_in (seen_on old.disk)) here left may in
      record {
        added = added;
        file = record {
          bytes = bytes_in (seen_on old.disk);
          behind = part.0;
          is = part.1;
          stands = stood;
          part = part.2;
          begun = inr some;
        };
        grows = inr grows;
      }

appends_ok : (was now : RecordState) (old new : KnownFile) (added : List ℕ) → GrowsBy added was now
    → GrowsDisk added old.disk (Ok tt) new.disk → new.refusals ≡ old.refusals → DurablySaves was now old (Ok tt) new
appends_ok was now old new [] grows (same, _) count = nothing_grows was now old new grows same count
appends_ok was now old new (byte ∷ more) grows (some, t) count =
    let added = byte ∷ more in record {
      sees = grown appended_counts (stored_of old) (stored_of new) added was now some grows
          (appends {T = Unit {0}} old.disk new.disk added old.refusals new.refusals (Ok tt) t count);
      keeps = grown_last was now old new added grows some (Ok tt) t;
      durable = λ safe. safe_when new.disk ((law was now old new added grows some (Ok tt) t).durable
          (safe.1 _ (here was now old new added grows some (Ok tt) t)).0);
      leaves = λ stood safe bytes is. grown_part was now old new added grows some (Ok tt) t stood safe;
      merges = λ stood safe left may. inr (grown_part was now old new added grows some (Ok tt) t stood safe left may);
    }

appends_err : (was now : RecordState) (old new : KnownFile) (added : List ℕ) → GrowsBy added was now
    → GrowsDisk added old.disk (Err Refused) new.disk → new.refusals ≡ old.refusals + 1 → DurablySaves was now old (Err SeenRefused) new
appends_err was now old new [] grows (_, never) count = absurd never
appends_err was now old new (byte ∷ more) grows (some, t) count =
    let added = byte ∷ more in record {
      sees = cut_short appended_counts cut_is_ignored (stored_of old) (stored_of new) added was now Refused some grows
          (appends {T = Unit {0}} old.disk new.disk added old.refusals new.refusals (Err Refused) t count);
      keeps = grown_last was now old new added grows some (Err Refused) t;
      durable = λ _. tt;
      leaves = λ stood safe bytes is. grown_part was now old new added grows some (Err Refused) t stood safe;
      merges = λ stood safe left may. inr (grown_part was now old new added grows some (Err Refused) t stood safe left may);
    }

pub durably_saves : (was now : RecordState) (old : KnownFile) (r : Result (Unit {0}) Fault) (new : KnownFile)
    → AppendsRecord was now old r new → DurablySaves was now old r new
durably_saves was now old (Ok _) new (added, grows, (t, count)) = appends_ok was now old new added grows t count
durably_saves was now old (Err SeenRefused) new (added, grows, (t, count)) = appends_err was now old new added grows t count
durably_saves was now old (Err NoMemory) new same = nothing_done was now old new same
durably_saves _ _ _ (Err _) _ is = absurd is.2

-- ---- an intent was opened

-- a flush came before
flushed_first : (was now : RecordState) (old mid : KnownFile) (r : Result (Unit {0}) Fault) (new : KnownFile)
    → seen_on mid.disk ≡ seen_on old.disk → mid.refusals ≡ old.refusals → LeavesNoMore (MayLeave old.disk) (MayLeave mid.disk)
    → (IsDiskSafe old.disk → IsDiskSafe mid.disk) → DurablySaves was now mid r new → DurablySaves was now old r new
flushed_first was now old mid r new seen count no_more still law =
    let same : stored_of mid ≡ stored_of old = rw (seen, count) refl in
    record {
      sees = subst (λ (s : Stored). Saves s was now r (stored_of new)) same law.sees;
      keeps = λ rows last. law.keeps rows (λ left may. last left (no_more left may));
      durable = λ safe. law.durable (still safe);
      leaves = λ stood safe. law.leaves (rw seen stood) (still safe);
      merges = λ stood safe left may. ⊎_elim (λ before. inl (no_more left before)) inr (law.merges (rw seen stood) (still safe) left may);
    }

measured_first : (was now : RecordState) (old mid : KnownFile) (size : ℕ) (r : Result (Unit {0}) Fault) (new : KnownFile)
    → Measures old (Ok size) mid → DurablySaves was now mid r new → DurablySaves was now old r new
measured_first was now old mid size r new ((_, e), count) law =
    flushed_first was now old mid r new (all_seen old.disk mid.disk e) count (all_no_more old.disk mid.disk e)
    (λ safe. safe_when mid.disk (all_trust old.disk mid.disk e safe.0)) law

-- it was refused
unmeasured : (was now : RecordState) (old new : KnownFile) (fault : Fault) → Measures old (Err fault) new → DurablySaves was now old
    (Err fault) new
unmeasured was now old new SeenRefused ((_, t), count) =
    let seen = may_seen old.disk new.disk t in
    let no_more = may_no_more old.disk new.disk t in
    record {
      sees = (count, λ stood. inl (steady_keeps (seen_on new.disk) was (rw seen stood)));
      keeps = λ rows last left may. last left (no_more left may);
      durable = λ _. tt;
      leaves = λ stood safe bytes is left may. same_left_on old.disk was now safe stood bytes (sym seen ∙ is) left (no_more left may);
      merges = λ stood safe left may. inl (no_more left may);
    }
unmeasured was now old new NoMemory same = nothing_done was now old new same
unmeasured _ _ _ _ _ never = absurd never

pub durably_intends : (rows : List Row) (intent : Intent) (old : KnownFile) (r : Result ℕ Fault) (new : KnownFile)
    → Intends rows intent old r new → DurablySaves (none_open rows) (with_open rows intent) old (went r) new
durably_intends rows intent old (Ok size) new (mid, measures, saves) =
    measured_first (none_open rows) (with_open rows intent) old mid size (Ok tt) new measures
    (durably_saves (none_open rows) (with_open rows intent) mid (Ok tt) new saves)
durably_intends rows intent old (Err fault) new (inl measures) = unmeasured (none_open rows) (with_open rows intent) old new fault measures
durably_intends rows intent old (Err fault) new (inr (mid, size, measures, saves)) =
    measured_first (none_open rows) (with_open rows intent) old mid size (Err fault) new measures
    (durably_saves (none_open rows) (with_open rows intent) mid (Err fault) new saves)

empty_front : (a b : List ℕ) → a ++ b ≡ [] → a ≡ []
empty_front [] _ _ = refl
empty_front (_ ∷ _) _ none = absurd (true≢false (cc none))

-- the bytes that the file had stand for the rows
pub opened_behind : (rows : List Row) (intent : Intent) (old : KnownFile) (size : ℕ) (new : KnownFile)
    → Intends rows intent old (Ok size) new → Steady (seen_on old.disk) (none_open rows) → StandsTill (stored_of new) size rows
opened_behind rows intent old size new (mid, ((size_is, e), count), (added, grows, ((t, _)))) stood = by added grows t
  where
    seen : seen_on mid.disk ≡ seen_on old.disk
    seen = all_seen old.disk mid.disk e

    by : (added : List ℕ) → GrowsBy added (none_open rows) (with_open rows intent) → GrowsDisk added mid.disk (Ok tt) new.disk
        → StandsTill (stored_of new) size rows
    by [] (inl (inl none)) _ = absurd (true≢false (cc none.2))
    by [] (inl (inr one)) _ = absurd (true≢false (cc one.2))
    by [] (inr opens) _ = absurd (true≢false (cc opens.bytes_are))
    by (byte ∷ more) grows (some, t) =
        let was = bytes_in (seen_on mid.disk) in
        let now = ap (λ (s : Stored). bytes_in s.content)
        (appends {T = Unit {0}} mid.disk new.disk (byte ∷ more) 0 0 (Ok tt) t refl was (is_there (seen_on mid.disk) some)) in
        stands_till (stored_of mid) (stored_of new) size (byte ∷ more) rows (λ none. some (empty_front was (byte ∷ more) (sym now ∙ none)))
        (size_is ∙ ap (λ (o : Option (List ℕ)). length (bytes_in o)) (sym seen)) now (rw seen stood)

-- ---- it was closed again

taken : (rows : List Row) (intent : Intent) (old : KnownFile) (size : ℕ) (new : KnownFile) → StandsTill (stored_of old) size rows
    → (r : Result (Unit {0}) StoreFault) → CutsDisk old.disk size r new.disk
    → new.refusals ≡ (if is_refused r then old.refusals + 1 else old.refusals) → DurablyTakesBack rows intent old new
taken rows intent old size new till r t count =
    let law = durable_cut old.disk new.disk size r t in
    let opened = with_open rows intent in
    let (whole, there, _) = till.0 in
    record {
      sees = taken_back (stored_of old) (stored_of new) size opened r till (cuts old.disk new.disk size old.refusals new.refusals r t
          count);
      keeps = λ last left may. ⊎_elim (last left) (λ (behind, is). (
        take size whole,
        behind,
        inr is,
        till_front (stored_of old) size rows whole till there,
      )) (law.front whole there left may);
      leaves = λ safe leaves bytes is left may. ⊎_elim (leaves whole there left) (λ (was, has, all).
          still_grown (none_open rows) opened (take size was) left (till_front (stored_of old) size rows was till has) all)
          (law.leaves (safe.1 whole there).0 left may);
    }

pub durably_takes_back : (rows : List Row) (intent : Intent) (old : KnownFile) (size : ℕ) (new : KnownFile)
    → StandsTill (stored_of old) size rows → CutsRecord size old tt new → DurablyTakesBack rows intent old new
durably_takes_back rows intent old size new till (inl (t, count)) = taken rows intent old size new till (Ok tt) t count
durably_takes_back rows intent old size new till (inr (t, count)) = taken rows intent old size new till (Err Refused) t count

-- ---- the rows were written whole

pub written_is : (rows : List Row) (old new : KnownFile) → WritesRows rows old (Ok tt) new
    → stored_of new ≡ holding (stored_of old) (file_of rows None)
written_is rows old new (e, count) = rw (e, count) refl

pub durably_writes : (rows : List Row) (old : KnownFile) (r : Result (Unit {0}) Fault) (new : KnownFile)
    → Means (file_of rows None) (Rows Two rows None false) → WritesRows rows old r new → DurablyWrites rows old r new
durably_writes rows old (Ok _) new stands (e, count) =
    let law = durable_replace {T = Unit {0}} old.disk new.disk (file_of rows None) (Ok tt) e in
    record { sees = λ was kept. rw e (count, stands); stands = stands; durable = safe_when new.disk law.durable; leaves = law.leaves }
durably_writes rows old (Err SeenRefused) new stands (t, count) =
    record {
      sees = λ was kept. (
        count,
        ⊎_elim (λ e. inl (rw e kept)) (λ done. inr (⊎_elim (λ e. rw e (Two, false, stands))
            (λ e. rw e (Two, false, stands)) done)) t,
      );
      stands = stands;
      durable = tt;
      leaves = (durable_replace {T = Unit {0}} old.disk new.disk (file_of rows None) (Err Refused) t).leaves;
    }
durably_writes rows old (Err NoMemory) new stands same = record {
  sees = λ was kept. ap stored_of same;
  stands = stands;
  durable = tt;
  leaves = λ left may. inl (rw same at may);
}
durably_writes _ _ (Err _) _ _ never = absurd never

-- what is left is a record that was merged
pub written_merged : (was : RecordState) (rows : List Row) (old : KnownFile) (r : Result (Unit {0}) Fault) (new : KnownFile)
    → DurablyWrites rows old r new → LeavesMerged (MayLeave old.disk) was rows (MayLeave new.disk)
written_merged was rows old r new law left may = ⊎_elim inl
    (λ all. inr (inr (still_grown (none_open rows) (none_open rows) (file_of rows None) left law.stands all))) (law.leaves left may)
