-- What appending an entry does to a file.
use Rattle.std.{
  proofs.Common.{◌≡◌, ◌++◌, ℕ, List, [], Option, Some, inl, inr, ⊎_elim, length, sym, refl, ap, subst, ◌∙◌, arith, length-append},
  proofs.Common.{Ok, Err, Result, OnOk, append-nil, take_at},
  proofs.lemmas.Option.same_Some,
}
use Rattle.mail_store.{
  specs.declared.fault.EntryFault.TheVariants.{Nothing, Front},
  specs.declared.fault.StoreFault.{StoreFault, TheVariants.{Missing, Refused, NotMbox, NoMemory}},
  specs.{Mboxrd.entry_of, FlatFile.{HasBytes, Stored}, Power.{KeepsWhole, LeavesFront, LeavesPart}},
  specs.DiskCalls.{AppendsDisk, CutsDisk, FlushesDisk, all_flushed},
  specs.Durable.{Disk, IsDurable, Trusted, MayLeave, seen_on},
  specs.MboxCalls.{DurableEntry, EntriesAreDurable, EntryMayFollow, SeesEntry, Undoes},
  proofs.DiskLemmas.{all_no_more, all_seen, all_trust, appends, cut_back, cuts, durable_append, may_seen, durable_cut, durable_trust},
  proofs.DiskLemmas.{flush_durable, flush_seen, durable_flush},
  proofs.{DurableLemmas.durable_is_left, SettlingLemmas.{cut_keeps, longer_keeps}},
}

-- the file has at least the bytes that it had
pub still_has : (old new : Disk) (was bytes : List ℕ) (fault : StoreFault) → AppendsDisk {T = Unit {0}} old bytes (Err fault) new
    → seen_on old ≡ Some was → HasBytes (seen_on new) (length was)
still_has old new was bytes fault t at =
    let left = appends {T = Unit {0}} old new bytes 0 1 (Err fault) t refl was at in
    (was ++ left.0, ap (λ (s : Stored). s.content) left.3, omega (arith, length-append was left.0))

pub undone : {T : Type 0} (old look mid new : Disk) (was text bytes : List ℕ) (size : ℕ) (fault : StoreFault) (r : Result T StoreFault)
    → EntryMayFollow (seen_on old) was → look ≡ all_flushed old → bytes ≡ entry_of text → size ≡ length was
    → AppendsDisk {T = Unit {0}} look bytes (Err fault) mid → CutsDisk mid size r new → Undoes old text r new
undone old look mid new was text bytes size fault r may all is long part back = (
  was,
  may,
  (
    mid,
    subst (λ (d : Disk). AppendsDisk {T = Unit {0}} d (entry_of text) (Err Refused) mid) all
        (subst (λ (xs : List ℕ). AppendsDisk {T = Unit {0}} look xs (Err Refused) mid) is part),
    subst (λ (n : ℕ). CutsDisk mid n r new) long back,
  ),
)

-- ---- it was only looked at

looked : {U : Type 0} (old new : Disk) (text : List ℕ) (fault : StoreFault) (r : Result U StoreFault) → FlushesDisk old r new
    → KeepsWhole (seen_on old) (MayLeave old) (MayLeave new)
    × (IsDurable old → LeavesPart (seen_on old) (entry_of text) (MayLeave new))
    × (IsDurable old → Trusted new.now → IsDurable new)
looked old new text fault r flushes = (
  (λ bytes is durable left may. durable left (no_more left may)),
  (λ on was has left may. ([], durable_is_left old left on (no_more left may) ∙ has ∙ ap Some (sym (append-nil was)), tt)),
  flush_durable old new r flushes,
)
  where
    no_more : (left : Option (List ℕ)) → MayLeave new left → MayLeave old left
    no_more = (durable_flush old new r flushes).no_more

-- ---- it was appended

stored : (old new : Disk) (text was : List ℕ) → EntryMayFollow (seen_on old) was
    → AppendsDisk {T = Unit {0}} (all_flushed old) (entry_of text) (Ok tt) new
    → DurableEntry {T = Unit {0}} old text (Ok tt) new
stored old new text was may t =
    let mid = all_flushed old in
    let same = all_seen old mid refl in
    let law = durable_append {T = Unit {0}} mid new (entry_of text) (Ok tt) t in
    record {
      sees = (
        was,
        may,
        ap (λ (s : Stored). s.content) (appends {T = Unit {0}} mid new (entry_of text) 0 0 (Ok tt) t refl was
            (same ∙ may.0)),
      );
      keeps = λ bytes is durable left. longer_keeps _ _ law.longer bytes (λ left may. durable left (all_no_more old mid refl left may))
          left;
      durable = λ trust. law.durable (all_trust old mid refl trust);
      leaves = λ on some has. law.leaves (all_trust old mid refl (durable_trust old on)) some (same ∙ has);
      still = λ on. tt;
    }

-- ---- some of it was, and the file was cut back, or that was refused

undoes_keeps : {T : Type 0} (old new : Disk) (text : List ℕ) (r : Result T StoreFault) → Undoes old text r new
    → KeepsWhole (seen_on old) (MayLeave old) (MayLeave new)
undoes_keeps old new text r (was, may, (mid, t, back)) bytes is durable =
    let look = all_flushed old in
    let left = appends {T = Unit {0}} look mid (entry_of text) 0 1 (Err Refused) t refl was (all_seen old look refl ∙ may.0) in
    let same = same_Some was bytes (sym may.0 ∙ is) in
    cut_keeps (MayLeave look) (MayLeave mid) (MayLeave new) bytes left.0 (seen_on mid)
    (λ left may. durable left (all_no_more old look refl left may))
    (durable_append {T = Unit {0}} look mid (entry_of text) (Err Refused) t).longer
    (ap (λ (s : Stored). s.content) left.3 ∙ ap (λ (l : List ℕ). Some (l ++ left.0)) same)
    (subst (λ (n : ℕ). LeavesFront (seen_on mid) n (MayLeave mid) (MayLeave new)) (ap length same)
    (durable_cut mid new (length was) r back).front)

undoes_leaves : {T : Type 0} (old new : Disk) (text : List ℕ) (r : Result T StoreFault) → Undoes old text r new → IsDurable old
    → LeavesPart (seen_on old) (entry_of text) (MayLeave new) × OnOk r (Trusted new.now → IsDurable new)
undoes_leaves old new text r (was, may, (mid, t, back)) on =
    let look = all_flushed old in
    let both = cut_back look mid new was (entry_of text) r (all_trust old look refl (durable_trust old on))
    (all_seen old look refl ∙ may.0) t back in
    ((λ some has left is. both.0 some (sym may.0 ∙ has) left is), both.1)

undone_sees : (old new : Disk) (text : List ℕ) → Undoes {T = Unit {0}} old text (Ok tt) new → seen_on new ≡ seen_on old
undone_sees old new text (was, may, (mid, t, cut)) =
    let left = appends {T = Unit {0}} (all_flushed old) mid (entry_of text) 0 1 (Err Refused) t refl was (all_seen old _ refl ∙ may.0) in
    let now = cuts {T = Unit {0}} mid new (length was) 0 0 (Ok tt) cut refl (was ++ left.0) (ap (λ (s : Stored). s.content) left.3) in
    ap (λ (s : Stored). s.content) now ∙ ap Some (take_at was left.0 (length was) refl) ∙ sym may.0

front_sees : (old new : Disk) (text : List ℕ) → Undoes {T = Unit {0}} old text (Err Refused) new
    → (was front rest : List ℕ) × EntryMayFollow (seen_on old) was × (entry_of text ≡ front ++ rest) × (seen_on new ≡ Some (was ++ front))
front_sees old new text (was, may, (mid, t, cut)) =
    let left = appends {T = Unit {0}} (all_flushed old) mid (entry_of text) 0 1 (Err Refused) t refl was (all_seen old _ refl ∙ may.0) in
    ⊎_elim (λ same. (was, left.0, left.1, may, left.2, ap (λ (s : Stored). s.content) same ∙ ap (λ (s : Stored). s.content) left.3))
    (λ done. (
      was,
      [],
      entry_of text,
      may,
      refl,
      ap (λ (s : Stored). s.content) done ∙ ap Some
          (take_at was left.0 (length was) refl ∙ sym (append-nil was)),
    ))
    (cuts {T = Unit {0}} mid new (length was) 0 1 (Err Refused) cut refl (was ++ left.0) (ap (λ (s : Stored). s.content) left.3))

nothing : (old new : Disk) (text : List ℕ) (fault : StoreFault) → FlushesDisk {T = Unit {0}} old (Err fault) new
    → SeesEntry {T = Unit {0}} (seen_on old) text (Err (Nothing fault)) (seen_on new)
    → DurableEntry {T = Unit {0}} old text (Err (Nothing fault)) new
nothing old new text fault t sees =
    let l = looked {U = Unit {0}} old new text fault (Err fault) t in
    record { sees = sees; keeps = l.0; durable = λ _. tt; leaves = l.1; still = l.2 }

pub entries_are_durable : EntriesAreDurable
entries_are_durable old new text (Ok _) ((was, is), t) = stored old new text was is t
entries_are_durable old new text (Err (Nothing Missing)) t = nothing old new text Missing t.1
    (t.0, flush_seen {T = Unit {0}} old new (Err Missing) t.1)
entries_are_durable old new text (Err (Nothing NotMbox)) t = nothing old new text NotMbox t.1
    (t.0, flush_seen {T = Unit {0}} old new (Err NotMbox) t.1)
entries_are_durable old new text (Err (Nothing NoMemory)) e = nothing old new text NoMemory (inr (inr (inr e))) (all_seen old new e)
entries_are_durable old new text (Err (Nothing Refused)) (inl t) = nothing old new text Refused t (may_seen old new t)
entries_are_durable old new text (Err (Nothing Refused)) (inr t) = record {
  sees = undone_sees old new text t;
  keeps = undoes_keeps {T = Unit {0}} old new text (Ok tt) t;
  durable = λ _. tt;
  leaves = λ on. (undoes_leaves {T = Unit {0}} old new text (Ok tt) t on).0;
  still = λ on. (undoes_leaves {T = Unit {0}} old new text (Ok tt) t on).1;
}
entries_are_durable old new text (Err Front) t = record {
  sees = front_sees old new text t;
  keeps = undoes_keeps {T = Unit {0}} old new text (Err Refused) t;
  durable = λ _. tt;
  leaves = λ on. (undoes_leaves {T = Unit {0}} old new text (Err Refused) t on).0;
  still = λ on. tt;
}
