-- What is left of a file that was settled.
use Rattle.std.{
  proofs.Common.{◌≡◌, ◌∙◌, ◌⊎◌, ℕ, Bool, List, Some, Result, Ok, Err, inl, inr, ⊎_elim, sym, refl, ap, take},
  specs.Prelude.OnOk,
}
use Rattle.mail_store.{
  specs.declared.mboxrd.settling.Behind.Behind,
  specs.declared.fault.StoreFault.{StoreFault, TheVariants.{Missing, Refused, NotMbox, NoMemory}},
  specs.{DiskCalls.{FlushesTwice, all_flushed}, Durable.{Disk, IsDurable, MayLeave, Trusted, seen_on}, FlatFile.Stored},
  specs.Power.{LeavesCut, LeavesFront, LeavesNoMore},
  specs.SettlingCalls.{CutsBack, SettledFilesAreDurable},
  proofs.DiskLemmas.{all_no_more, all_trust, cuts, durable_cut, durable_flush, durable_trust, twice_seen},
}

pub twice_no_more : {T : Type 0} (old new : Disk) (r : Result T StoreFault) → FlushesTwice old r new → LeavesNoMore (MayLeave old)
    (MayLeave new)
twice_no_more old new r (inl t) left may = (durable_flush old new r t).no_more left may
twice_no_more old new r (inr t) left may = all_no_more old (all_flushed old) refl left
    ((durable_flush (all_flushed old) new r t).no_more left may)

pub twice_trust : {T : Type 0} (old new : Disk) (r : Result T StoreFault) → FlushesTwice old r new → Trusted old.now → OnOk r
    (IsDurable new)
twice_trust old new r (inl t) trust = (durable_flush old new r t).durable trust
twice_trust old new r (inr t) trust = (durable_flush (all_flushed old) new r t).durable
    (durable_trust (all_flushed old) (all_trust old (all_flushed old) refl trust))

-- it was only flushed
front : {T : Type 0} (old new : Disk) (start : ℕ) (r : Result T StoreFault) → FlushesTwice old r new
    → LeavesFront (seen_on old) start (MayLeave old) (MayLeave new)
front old new start r t = λ was has left may. inl (twice_no_more old new r t left may)

leaves : {T : Type 0} (old new : Disk) (start : ℕ) (r : Result T StoreFault) → FlushesTwice old r new
    → LeavesCut (seen_on old) start (MayLeave old) (MayLeave new)
leaves old new start r t = λ left may. inl (twice_no_more old new r t left may)

-- it was cut back then
back_front : {T : Type 0} (old new : Disk) (start : ℕ) (r : Result T StoreFault) → CutsBack old start r new
    → LeavesFront (seen_on old) start (MayLeave old) (MayLeave new)
back_front old new start r (mid, t, cut) = λ was has left may.
    ⊎_elim (λ before. inl (twice_no_more {T = Unit {0}} old mid (Ok tt) t left before)) inr
    ((durable_cut mid new start r cut).front was (twice_seen {T = Unit {0}} old mid (Ok tt) t ∙ has) left may)

back_leaves : {T : Type 0} (old new : Disk) (start : ℕ) (r : Result T StoreFault) → CutsBack old start r new → Trusted old.now
    → LeavesCut (seen_on old) start (MayLeave old) (MayLeave new)
back_leaves old new start r (mid, t, cut) trust = λ left may.
    ⊎_elim (λ before. inl (twice_no_more {T = Unit {0}} old mid (Ok tt) t left before))
    (λ (was, has, all). inr (was, sym (twice_seen {T = Unit {0}} old mid (Ok tt) t) ∙ has, all))
    ((durable_cut mid new start r cut).leaves (twice_trust {T = Unit {0}} old mid (Ok tt) t trust) left may)

back_durable : {T : Type 0} (old new : Disk) (start : ℕ) (r : Result T StoreFault) → CutsBack old start r new → Trusted old.now
    → OnOk r (IsDurable new)
back_durable {T} old new start r (mid, t, cut) trust = by r (durable_cut mid new start r cut).durable
  where
    by : (r : Result T StoreFault) → OnOk r (IsDurable mid → IsDurable new) → OnOk r (IsDurable new)
    by (Ok _) law = law (twice_trust {T = Unit {0}} old mid (Ok tt) t trust)
    by (Err _) _ = tt

back_sees : {T : Type 0} (old new : Disk) (start : ℕ) (done : T) (was : List ℕ) → CutsBack old start (Ok done) new → seen_on old ≡ Some was
    → seen_on new ≡ Some (take start was)
back_sees old new start done was (mid, t, cut) has =
    ap (λ (s : Stored). s.content) (cuts mid new start 0 0 (Ok done) cut refl was (twice_seen {T = Unit {0}} old mid (Ok tt) t ∙ has))

back_may_see : (old new : Disk) (start : ℕ) (was : List ℕ) → CutsBack {T = Unit {0}} old start (Err Refused) new → seen_on old ≡ Some was
    → (seen_on new ≡ seen_on old) ⊎ (seen_on new ≡ Some (take start was))
back_may_see old new start was (mid, t, cut) has =
    let same = twice_seen {T = Unit {0}} old mid (Ok tt) t in
    ⊎_elim (λ kept. inl (ap (λ (s : Stored). s.content) kept ∙ same)) (λ done. inr (ap (λ (s : Stored). s.content) done))
    (cuts {T = Unit {0}} mid new start 0 1 (Err Refused) cut refl was (same ∙ has))

pub settled_files_are_durable : SettledFilesAreDurable
settled_files_are_durable start len listed old new (Ok whole) (was, has, is, inl (kept, t)) = record {
  sees = (was, has, is, twice_seen old new (Ok whole) t ∙ has ∙ ap Some (sym kept));
  front = front old new start (Ok whole) t;
  durable = twice_trust old new (Ok whole) t;
  leaves = λ _. leaves old new start (Ok whole) t;
}
settled_files_are_durable start len listed old new (Ok whole) (was, has, is, inr (cut, t)) = record {
  sees = (was, has, is, back_sees old new start whole was t has ∙ ap Some (sym cut));
  front = back_front old new start (Ok whole) t;
  durable = back_durable old new start (Ok whole) t;
  leaves = back_leaves old new start (Ok whole) t;
}
settled_files_are_durable start len listed old new (Err Refused) (inl t) = record {
  sees = inl (twice_seen {T = Bool} old new (Err Refused) t);
  front = front {T = Bool} old new start (Err Refused) t;
  durable = λ _. tt;
  leaves = λ _. leaves {T = Bool} old new start (Err Refused) t;
}
settled_files_are_durable start len listed old new (Err Refused) (inr (was, has, cut, t)) = record {
  sees = ⊎_elim inl (λ done. inr (was, has, done ∙ ap Some (sym cut))) (back_may_see old new start was t has);
  front = back_front {T = Unit {0}} old new start (Err Refused) t;
  durable = λ _. tt;
  leaves = back_leaves {T = Unit {0}} old new start (Err Refused) t;
}
settled_files_are_durable start len listed old new (Err Missing) (told, t) = record {
  sees = (told, twice_seen {T = Behind} old new (Err Missing) t);
  front = front {T = Behind} old new start (Err Missing) t;
  durable = λ _. tt;
  leaves = λ _. leaves {T = Behind} old new start (Err Missing) t;
}
settled_files_are_durable start len listed old new (Err NoMemory) (told, t) = record {
  sees = (told, twice_seen {T = Behind} old new (Err NoMemory) t);
  front = front {T = Behind} old new start (Err NoMemory) t;
  durable = λ _. tt;
  leaves = λ _. leaves {T = Behind} old new start (Err NoMemory) t;
}
settled_files_are_durable start len listed old new (Err NotMbox) t = absurd t
