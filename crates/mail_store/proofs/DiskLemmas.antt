-- What is durable of a file after each call of its device, and what a crash leaves then.
use Rattle.std.{
  proofs.Common.{◌≡◌, ℕ, ◌+◌, ◌<◌, zero, suc, length, refl, arith, List, [], ◌∷◌, ◌++◌, take, drop, sym, ap, subst, ◌∙◌, Option, Some, Ok},
  proofs.Common.{None, option_map, Result, Err, inl, inr, ⊎_elim, append_assoc, append-nil, take-append-drop, ◌⊎◌, ◌-◌, ◌≤◌, min, true},
  proofs.Common.{length-append, slice_index, false, ◌==◌, ◌%◌, ◌/◌, OnOk, if◌then◌else◌, true≢false},
  proofs.Math.{Logic.⊎_map, Seq.{take-append-add, take-append_seam, take-length}},
  proofs.lemmas.{Option.same_Some, Grind.same_number_lists, Bool.{cases_Bool, cases_lt, eq-eqb}},
  proofs.lemmas.List.{take-append-le, take-take, length-take, get_or-take, get_or_append_left, get_or-append-add},
  specs.List.list_all,
}
use Rattle.mail_terms.specs.FailureCount.{is_refused}
use Rattle.mail_store.{
  specs.{declared.fault.StoreFault.{StoreFault, TheVariants.{Missing, Refused, NotMbox, NoMemory}}, Settling.{block_size, MayBeLeft}},
  specs.DiskCalls.{appended, cut, flushed, doubted, MayBeFlushed, all_flushed, MayFlush, FailsDisk, FlushesDisk, FlushesTwice, Becomes},
  specs.DiskCalls.BecomesInPart,
  specs.DiskCalls.{IsSoFar, IsPartAppended, IsFrontAppended, AppendsDisk, CutsDisk, ReplacesDisk, DurableFlush, DurableAppend, DurableCuts},
  specs.DiskCalls.{DurableCutTo, DurableReplace, DurableFlushes, DurableAppends, DurableReplaces},
  specs.Durable.{Blob, Disk, IsByteLeft, IsDurable, IsFlushed, IsLeft, IsLeftOf, IsLeftOfOne, Trusted, IsTorn, MayLeave, all_durable},
  specs.Durable.{content_in, secured, seen_on},
  specs.{FlatFile.{Stored, holding, file_refused}, Power.{IsLonger, LeavesNoMore, LeavesPart}},
  proofs.{DurableLemmas.{durable_is_left, left_flushed, no_rest, left_of}, SettlingLemmas.part_left},
}

-- ---- flushes

-- a file of which no flush was refused is durable once it is flushed, and another as it was
flushed_trust : (b : Blob) → b.is_doubted ≡ false → flushed b ≡ secured b.content
flushed_trust b trust = rw trust refl

flushed_doubted : (b : Blob) → b.is_doubted ≡ true → flushed b ≡ b
flushed_doubted b doubt = rw doubt refl

flushed_twice : (b : Blob) → flushed (flushed b) ≡ flushed b
flushed_twice b = ⊎_elim (λ doubt. ap flushed (flushed_doubted b doubt)) (λ trust. ap flushed (flushed_trust b trust)
    ∙ sym (flushed_trust b trust)) (cases_Bool b.is_doubted)

abbrev pub disk_of : Option Blob → List (Option Blob) → Disk
disk_of now older = record { now = now; older = older }

-- once all is flushed, another flush changes nothing
all_flushed_twice : (disk : Disk) → all_flushed (all_flushed disk) ≡ all_flushed disk
all_flushed_twice disk = cc (by disk.now)
  where
    by : (o : Option Blob) → option_map flushed (option_map flushed o) ≡ option_map flushed o
    by None = refl
    by (Some b) = cc (flushed_twice b)

pub flushed_settled : (old new : Disk) → new ≡ all_flushed old → all_flushed new ≡ new
flushed_settled old _ e = cc (all_flushed_twice old)

-- nor does it after a write that was flushed
pub becomes_settled : (f : Blob → Blob) (old new : Disk) → Becomes (λ b c. c ≡ flushed (f b)) old new
    → all_flushed old ≡ old → all_flushed new ≡ new
becomes_settled f old _ (b, c, at, is, e) settled =
    let named : [] ≡ old.older = cc in
    let same : flushed c ≡ c = cc (flushed_twice (f b)) in
    cc same

-- what is left of the second file is so related to what may be left of the first
abbrev pub Leaves : (Option (List ℕ) → Option (List ℕ) → Type 0) → Blob → Blob → Type 0
Leaves R b c = (left : Option (List ℕ)) → IsLeftOf (Some c) left → (was : Option (List ℕ)) × IsLeftOf (Some b) was × R was left

-- a flush adds nothing to what may be left
no_more : (b c : Blob) → MayBeFlushed b c → LeavesNoMore (IsLeftOf (Some b)) (IsLeftOf (Some c))
no_more b c (inl e) left h = rw e at h
no_more b c _ None h = absurd h
no_more b c (inr (inl e)) (Some left) h = ⊎_elim (λ doubt. rw (e ∙ flushed_doubted b doubt) at h)
    (λ trust. inr (inl (left_of _ _ (rw (e ∙ flushed_trust b trust) at h)))) (cases_Bool b.is_doubted)
no_more b c (inr (inr e)) (Some left) h = rw e at h

-- what is left of a file that was appended to begins with what could have been left before
torn_longer : (b : Blob) (bytes left : List ℕ) → IsTorn (b.content ++ bytes) b.flushed b.uncut left
    → IsLeft b (take (length b.content) left)
torn_longer b bytes left t = elim (cases_lt (length b.content) b.uncut) [
  | inl short ↦
      let more = take (b.uncut - length b.content) bytes in
      let size : b.uncut ≡ length b.content + (b.uncut - length b.content) = omega (arith, short) in
      let front : take b.uncut (b.content ++ bytes) ≡ b.content ++ more =
      cc (size, take-append-add b.content bytes (b.uncut - length b.content)) in
      inr (inl (
      cc (append_assoc b.content more t.behind, take-append_seam b.content (more ++ t.behind))
      ))
  | inr le ↦
      let front = take b.uncut b.content in
      let size : length b.content ≡ length front + (length b.content - b.uncut) = omega (arith, le, length-take b.uncut b.content) in
      inr (inr (record {
        behind = take (length b.content - b.uncut) t.behind;
        kept =
            cc (take-append-le b.uncut b.content bytes le, size, take-append-add front t.behind (length b.content - b.uncut));
        most = inl (omega (arith, length-take (length b.content) left));
        each = λ i from below. byte i (within i below).0 (t.each i from (within i below).1);
      }))
]
  where
    within : (i : ℕ) → i < length (take (length b.content) left) → (i < length b.content) × (i < length left)
    within i below = (omega (arith, below, length-take (length b.content) left), omega (arith, below, length-take (length b.content) left))

    same : (i : ℕ) → i < length b.content → slice_index (take (length b.content) left) i ≡ slice_index left i
    same i below = get_or-take (length b.content) left i 0 below

    byte : (i : ℕ) → i < length b.content → IsByteLeft (b.content ++ bytes) b.flushed left i
        → IsByteLeft b.content b.flushed (take (length b.content) left) i
    byte i below (inl (_, e)) = inl (below, same i below ∙ e ∙ get_or_append_left b.content bytes 0 i below)
    byte i below (inr (inl (in_flushed, e))) = inr (inl (in_flushed, same i below ∙ e))
    byte i below (inr (inr (_, zeros))) = inr (inr (
      below,
      λ j from in_left block. same j (within j in_left).0 ∙ zeros j from (within j in_left).1 block,
    ))

appended_longer : (b : Blob) (bytes : List ℕ) → Leaves IsLonger b (appended b bytes)
appended_longer b _ None h = absurd h
appended_longer b _ (Some left) (inl e) = (Some left, inl e, inl refl)
appended_longer b bytes (Some _) (inr (inl e)) = (Some b.content, inr (inl refl), inr (b.content, bytes, refl, cc))
appended_longer b bytes (Some left) (inr (inr t)) =
    let size = length b.content in (
      Some (take size left),
      torn_longer b _ _ t,
      inr (take size left, drop size left, refl, cc (take-append-drop size left)),
    )

longer_on : (one two three : Option (List ℕ)) → IsLonger one two → IsLonger two three → IsLonger one three
longer_on _ _ three (inl e) more = rw e at more
longer_on _ _ _ (inr (bytes, behind, is, e)) (inl f) = inr (bytes, behind, is, f ∙ e)
longer_on _ _ _ (inr (bytes, behind, is, e)) (inr (all, last, same, f)) = inr (
  bytes,
  behind ++ last,
  is,
  cc (same_Some all (bytes ++ behind) (sym same ∙ e), append_assoc bytes behind last),
)

-- bytes were appended to a file, and may have been flushed
may_longer : (b c : Blob) (bytes : List ℕ) → MayBeFlushed (appended b bytes) c → Leaves IsLonger b c
may_longer b c _ is left h = appended_longer b _ left (no_more _ c is left h)

part_longer : (b c : Blob) (first front : List ℕ) → IsPartAppended first front b c → Leaves IsLonger b c
part_longer b c first front is left h =
    let late = may_longer _ c _ is.is left h in
    let before = ⊎_elim (λ none was k. (was, rw none.1 at k, inl refl)) (λ e. may_longer b _ _ (inr (inl e))) is.is_flushed in
    let early = before late.0 late.1 in
    (early.0, early.1, longer_on _ _ _ early.2 late.2)

torn_front : (b : Blob) (len : ℕ) (left : List ℕ) → b.uncut ≤ len → IsTorn (take len b.content) b.flushed (min len b.uncut) left
    → IsTorn b.content b.flushed b.uncut left
torn_front b len left le t = record {
  behind = t.behind;
  kept = cc (size, take-take b.uncut len b.content le);
  most = ⊎_elim (λ short. inl (omega (arith, short, length-take len b.content))) inr t.most;
  each = λ i from below. byte i (t.each i (omega (arith, from, size)) below);
}
  where
    size : min len b.uncut ≡ b.uncut
    size = omega (arith, le)

    inside : (i : ℕ) → i < length (take len b.content) → i < length b.content
    inside i below = omega (arith, below, length-take len b.content)

    byte : (i : ℕ) → IsByteLeft (take len b.content) b.flushed left i → IsByteLeft b.content b.flushed left i
    byte i (inl (below, e)) = inl (inside i below, e ∙ get_or-take len b.content i 0 (omega (arith, below, length-take len b.content)))
    byte i (inr (inl p)) = inr (inl p)
    byte i (inr (inr (below, zeros))) = inr (inr (inside i below, zeros))

-- what is left of a file that was cut could have been left before, or begins with its first bytes
cut_front : (b : Blob) (len : ℕ) (left : Option (List ℕ)) → IsLeftOf (Some (cut b len)) left
    → IsLeftOf (Some b) left ⊎ ((behind : List ℕ) × (left ≡ Some (take len b.content ++ behind)))
cut_front b _ None h = absurd h
cut_front b _ (Some _) (inl e) = inl (inl e)
cut_front b len (Some _) (inr (inl e)) = inr ([], cc (append-nil (take len b.content)))
cut_front b len (Some left) (inr (inr t)) = elim (cases_lt len b.uncut) [
  | inl below ↦
      let size : min len b.uncut ≡ len = omega (arith, below) in
      let front : take (min len b.uncut) (take len b.content) ≡ take len b.content = cc (size, take-take len len b.content (omega arith)) in
      inr (t.behind, cc)
  | inr le ↦ inl (inr (inr (torn_front b _ _ le t)))
]

-- ---- the file and its name

pub may_now : (disk : Disk) (left : Option (List ℕ)) → IsLeftOf disk.now left → MayLeave disk left
unfolding MayLeave
may_now _ _ now = inl now

may_once : (disk : Disk) (left : Option (List ℕ)) → IsLeftOfOne disk.older left → MayLeave disk left
unfolding MayLeave
may_once _ _ was = inr was

may_of : (old new : Disk) (left : Option (List ℕ)) → new ≡ old → MayLeave new left → IsLeftOf old.now left ⊎ IsLeftOfOne old.older left
unfolding MayLeave
may_of _ _ left e may = rw e at may

pub may_arrive : (o : Option Blob) → IsLeftOf o (option_map content_in o)
may_arrive None = tt
may_arrive (Some b) = inr (inl refl)

leaves_become : (R : Option (List ℕ) → Option (List ℕ) → Type 0) {S : Blob → Blob → Type 0} (old new : Disk)
    → ((left : Option (List ℕ)) → R left left) → ((b c : Blob) → S b c → Leaves R b c) → (new ≡ old) ⊎ Becomes S old new
    → (left : Option (List ℕ)) → MayLeave new left → (was : Option (List ℕ)) × MayLeave old was × R was left
leaves_become R _ _ same _ (inl e) left may = (left, rw e at may, same left)
leaves_become R old new same leaves (inr (b, c, at, is, e)) left may =
    ⊎_elim (λ now. let w = leaves b c is left now in (w.0, may_now _ _ (rw at w.1), w.2))
    (λ was. (left, may_once _ _ was, same left)) (may_of _ _ _ e may)

-- what could be left before
pub same_leaves : {old new : Disk} → new ≡ old → LeavesNoMore (MayLeave old) (MayLeave new)
same_leaves e left may = rw e at may

-- no flush was refused of a file that is durable
pub durable_trust : (disk : Disk) → IsDurable disk → Trusted disk.now
durable_trust disk is = by _ is.flushed
  where
    by : (o : Option Blob) → IsFlushed o → Trusted o
    by None _ = tt
    by (Some b) is = cc

-- ---- a flush

now_no_more : (o : Option Blob) (f : Blob → Blob) → ((b : Blob) → MayBeFlushed b (f b))
    → LeavesNoMore (IsLeftOf o) (IsLeftOf (option_map f o))
now_no_more None f _ _ h = h
now_no_more (Some b) f is left h = no_more b (f b) (is b) left h

flush_no_more : (old new : Disk) (f : Blob → Blob) (older : List (Option Blob)) → ((b : Blob) → MayBeFlushed b (f b))
    → ((left : Option (List ℕ)) → IsLeftOfOne older left → IsLeftOfOne old.older left)
    → new ≡ record { now = option_map f old.now; older = older } → LeavesNoMore (MayLeave old) (MayLeave new)
flush_no_more _ _ f _ is once e left may =
    ⊎_elim (λ now. may_now _ _ (now_no_more _ f is left now)) (λ was. may_once _ _ (once left was)) (may_of _ _ _ e may)

pub all_no_more : (old new : Disk) → new ≡ all_flushed old → LeavesNoMore (MayLeave old) (MayLeave new)
all_no_more _ _ e = flush_no_more _ _ _ [] (λ b. inr (inl refl)) (λ _ was. absurd was) e

flushed_now : (o : Option Blob) → Trusted o → IsFlushed (option_map flushed o)
flushed_now None _ = tt
flushed_now (Some b) trust = flushed_trust b trust

pub may_no_more : (old new : Disk) → MayFlush old new → LeavesNoMore (MayLeave old) (MayLeave new)
may_no_more _ _ (inl e) = same_leaves e
may_no_more _ _ (inr (inl e)) = flush_no_more _ _ _ _ (λ b. inr (inl refl)) (λ _ was. was) e
may_no_more _ _ (inr (inr (inl e))) = flush_no_more _ _ _ _ (λ b. inr (inr refl)) (λ _ was. was) e
may_no_more _ _ (inr (inr (inr e))) = all_no_more _ _ e

pub failed_no_more : (old new : Disk) (fault : StoreFault) → FailsDisk old fault new → LeavesNoMore (MayLeave old) (MayLeave new)
failed_no_more _ _ Missing e = same_leaves e
failed_no_more _ _ NotMbox e = all_no_more _ _ e
failed_no_more _ _ Refused t = may_no_more _ _ t
failed_no_more _ _ NoMemory t = may_no_more _ _ t

-- what calls see stays
now_seen : (o : Option Blob) (f : Blob → Blob) → ((b : Blob) → (f b).content ≡ b.content)
    → option_map content_in (option_map f o) ≡ option_map content_in o
now_seen None _ _ = refl
now_seen (Some b) _ same = ap Some (same b)

pub all_seen : (old new : Disk) → new ≡ all_flushed old → seen_on new ≡ seen_on old
all_seen old _ e = ap seen_on e ∙ now_seen old.now flushed (λ b. refl)

pub may_seen : (old new : Disk) → MayFlush old new → seen_on new ≡ seen_on old
may_seen _ _ (inl e) = ap seen_on e
may_seen old _ (inr (inl e)) = ap seen_on e ∙ now_seen old.now flushed (λ b. refl)
may_seen old _ (inr (inr (inl e))) = ap seen_on e ∙ now_seen old.now doubted (λ b. refl)
may_seen old new (inr (inr (inr e))) = all_seen old new e

pub flush_seen : {T : Type 0} (old new : Disk) (result : Result T StoreFault) → FlushesDisk old result new → seen_on new ≡ seen_on old
flush_seen old new (Ok _) e = all_seen old new e
flush_seen _ _ (Err Missing) e = ap seen_on e
flush_seen old new (Err NotMbox) e = all_seen old new e
flush_seen old new (Err Refused) t = may_seen old new t
flush_seen old new (Err NoMemory) t = may_seen old new t

pub twice_seen : {T : Type 0} (old new : Disk) (result : Result T StoreFault) → FlushesTwice old result new → seen_on new ≡ seen_on old
twice_seen old new result (inl t) = flush_seen old new result t
twice_seen old new result (inr t) = flush_seen _ new result t ∙ all_seen old _ refl

-- what calls see is durable then, if no flush was refused before
pub all_trust : (old new : Disk) → new ≡ all_flushed old → Trusted old.now → IsDurable new
all_trust old _ e trust = rw e (record { named = refl; flushed = flushed_now old.now trust })

pub durable_flush : {T : Type 0} (old new : Disk) (result : Result T StoreFault) → FlushesDisk old result new → DurableFlush old result new
durable_flush old _ (Ok _) e = record { no_more = all_no_more _ _ e; durable = all_trust old _ e }
durable_flush _ _ (Err _) t = record { no_more = failed_no_more _ _ _ t; durable = λ _. tt }

pub may_durable : (old new : Disk) → MayFlush old new → IsDurable old → Trusted new.now → IsDurable new
may_durable _ _ (inl e) is _ = rw e is
may_durable old _ (inr (inl e)) is _ = rw e (record { named = is.named; flushed = flushed_now old.now (durable_trust old is) })
may_durable old _ (inr (inr (inl e))) is trust =
    rw e (record { named = is.named; flushed = by old.now is.flushed (subst (λ (disk : Disk). Trusted disk.now) e trust) })
  where
    by : (o : Option Blob) → IsFlushed o → Trusted (option_map doubted o) → IsFlushed (option_map doubted o)
    by None flushed _ = tt
    by (Some b) flushed trust = absurd (true≢false trust)
may_durable old _ (inr (inr (inr e))) is _ = all_trust old _ e (durable_trust _ is)

-- a durable file stays so, unless a flush of it was refused
pub flush_durable : {T : Type 0} (old new : Disk) (result : Result T StoreFault) → FlushesDisk old result new → IsDurable old
    → Trusted new.now → IsDurable new
flush_durable old _ (Ok _) e is _ = all_trust old _ e (durable_trust _ is)
flush_durable _ _ (Err Missing) e is _ = rw e is
flush_durable old _ (Err NotMbox) e is _ = all_trust old _ e (durable_trust _ is)
flush_durable _ _ (Err Refused) t is trust = may_durable _ _ t is trust
flush_durable _ _ (Err NoMemory) t is trust = may_durable _ _ t is trust

-- ---- a write

-- the bytes of the file that is there
content_is : (disk : Disk) (was : List ℕ) (b : Blob) → disk.now ≡ Some b → seen_on disk ≡ Some was → b.content ≡ was
content_is _ was b at h = same_Some b.content was (sym (ap (option_map content_in) at) ∙ h)

-- the file that was durable was flushed
was_secured : (old : Disk) (b : Blob) → old.now ≡ Some b → IsDurable old → b ≡ secured b.content
was_secured _ b at is = rw at at is.flushed

-- what is left of a file that was durable and became another
left_become : {R : Blob → Blob → Type 0} (old new : Disk) (was : List ℕ) (left : Option (List ℕ)) → Becomes R old new → IsDurable old
    → seen_on old ≡ Some was → MayLeave new left → (c : Blob) × R (secured was) c × IsLeftOf (Some c) left
left_become {R} old new was left (b, c, at, is, e) on has may = (
  c,
  rw (was_secured old b at on ∙ ap (λ (xs : List ℕ). secured xs) (content_is old was b at has)) at is,
  ⊎_elim (λ now. now) (λ once. absurd (rw on.named at once)) (may_of _ _ _ e may),
)

-- the file didn't change, so what was durable is left
left_kept : (old new : Disk) (left : Option (List ℕ)) → IsDurable old → new ≡ old → MayLeave new left → left ≡ seen_on old
left_kept old _ left is e may = durable_is_left old left is (rw e at may)

-- a file that became one whose bytes are durable
now_durable : {T : Type 0} (f : Blob → Blob) → ((was : List ℕ) → IsFlushed (Some (f (secured was))))
    → (Part : Blob → Blob → Type 0) (old new : Disk) → (r : Result T StoreFault) → BecomesInPart (λ b c. c ≡ f b) Part old r new
    → OnOk r (IsDurable old → IsDurable new)
now_durable f each Part old _ (Ok _) (b, c, at, is, e) = λ on. rw e (record {
  named = on.named;
  flushed = subst (λ (o : Option Blob). IsFlushed o) (sym (ap Some (is ∙ ap f (was_secured old b at on)))) (each b.content);
})
now_durable f _ Part _ _ (Err _) t = tt

-- what a call did, whatever it answered
in_part : {T : Type 0} {Done Part : Blob → Blob → Type 0} → ((b c : Blob) → Done b c → Part b c)
    → (old new : Disk) (r : Result T StoreFault) → BecomesInPart Done Part old r new → (new ≡ old) ⊎ Becomes Part old new
in_part also _ _ (Ok _) (b, c, at, is, e) = inr (b, c, at, also b c is, e)
in_part _ _ _ (Err _) t = t

-- ---- `append`

pub one_piece : (bytes front rest : List ℕ) (b c : Blob) → bytes ≡ front ++ rest → MayBeFlushed (appended b front) c
    → IsFrontAppended bytes b c
one_piece _ front rest b c parts is = ([], front, rest, parts, record { so_far = b; is_flushed = inl (refl, refl); is = is })

-- some of the bytes were appended, whatever that answered: a call that was to append all was refused
pub front_of_all : {T : Type 0} (S : Type 0) (old new : Disk) (bytes piece more : List ℕ) (r : Result T StoreFault)
    (fault : StoreFault) → bytes ≡ piece ++ more → AppendsDisk old piece r new → AppendsDisk {T = S} old bytes (Err fault) new
front_of_all S _ _ _ _ _ (Ok _) _ parts (b, c, at, is, e) = inr (b, c, at, one_piece _ _ _ b c parts (inr (inl is)), e)
front_of_all S _ _ _ _ _ (Err _) _ parts (inl same) = inl same
front_of_all S _ _ _ _ more (Err _) _ parts (inr (b, c, at, (first, front, rest, is, part), e)) =
    inr (b, c, at, (first, front, rest ++ more, rw (parts, is) (simp append_assoc), part), e)

part_later : (place : ℕ) (first more left : List ℕ) → MayBeLeft (place + length first) more left
    → MayBeLeft place (first ++ more) (first ++ left)
part_later place [] more left is = subst (λ (n : ℕ). MayBeLeft n more left) (omega arith) is
part_later place (byte ∷ first) more left is =
    (inl refl, part_later (place + 1) first more left (subst (λ (n : ℕ). MayBeLeft n more left) (omega arith) is))

-- zeros up to the end of a block, by their places and by recursion
are_zeros : (n : ℕ) (bytes : List ℕ) → ((j : ℕ) → j < n → j < length bytes → slice_index bytes j ≡ 0)
    → list_all (λ byte. byte == 0) (take n bytes) ≡ true
are_zeros zero _ _ = refl
are_zeros (suc n) [] _ = refl
are_zeros (suc n) (byte ∷ bytes) zeros =
    rw (eq-eqb byte 0 (zeros 0 (omega arith) (omega arith)))
    (are_zeros n bytes (λ j below within. zeros (suc j) (omega (arith, below)) (omega (arith, within))))

abbrev IsZeroBehind : ℕ → List ℕ → ℕ → Type 0
IsZeroBehind place left i = (j : ℕ) → i ≤ j → j < length left → (place + j) / block_size ≡ (place + i) / block_size → slice_index left j ≡ 0

each_part : (place : ℕ) (bytes left : List ℕ) → length left ≤ length bytes
    → ((i : ℕ) → i < length left → (slice_index left i ≡ slice_index bytes i) ⊎ IsZeroBehind place left i) → MayBeLeft place bytes left
each_part _ _ [] _ _ = tt
each_part _ [] (byte ∷ _) le each = absurd (omega (arith, le))
each_part place (word ∷ bytes) (byte ∷ left) le each = (
  ⊎_elim inl (λ zeros. inr (are_zeros (block_size - place % block_size) (byte ∷ left)
      (λ j below within. zeros j (omega arith) within (omega (arith, below))))) (each 0 (omega arith)),
  each_part (place + 1) bytes left (omega (arith, le)) (λ i below. ⊎_elim inl
      (λ zeros. inr (λ j from within block. zeros (suc j) (omega (arith, from)) (omega (arith, within))
      (omega (arith, block)))) (each (suc i) (omega (arith, below)))),
)

-- of a durable file the old bytes are left, and a part of those that were appended
abbrev LeavesBehind : List ℕ → List ℕ → Option (List ℕ) → Type 0
LeavesBehind was bytes left = (behind : List ℕ) × (left ≡ Some (was ++ behind)) × MayBeLeft (length was) bytes behind

some_behind : (was bytes left : List ℕ) → IsTorn (was ++ bytes) was (length was) left → LeavesBehind was bytes (Some left)
some_behind was bytes left t = (
  t.behind,
  cc parts,
  each_part _ _ _ (⊎_elim (λ le. omega (arith, le, size, length-append was bytes)) (λ same. omega (arith, same, size)) t.most)
      (λ i below. byte i (t.each (length was + i) (omega arith) (omega (arith, below, size)))),
)
  where
    parts : left ≡ was ++ t.behind
    parts = t.kept ∙ ap (λ xs. xs ++ t.behind) (take-append_seam was bytes)

    size : length left ≡ length was + length t.behind
    size = ap length parts ∙ length-append was t.behind

    at : (i : ℕ) → slice_index left (length was + i) ≡ slice_index t.behind i
    at i = ap (λ xs. slice_index xs (length was + i)) parts ∙ get_or-append-add was t.behind i 0

    byte : (i : ℕ) → IsByteLeft (was ++ bytes) was left (length was + i)
        → (slice_index t.behind i ≡ slice_index bytes i) ⊎ IsZeroBehind (length was) t.behind i
    byte i (inl (_, e)) = inl (sym (at i) ∙ e ∙ get_or-append-add was bytes i 0)
    byte i (inr (inl (in_flushed, e))) = absurd (omega (arith, in_flushed))
    byte i (inr (inr (_, zeros))) =
        inr (λ j from within block. sym (at j) ∙ zeros (length was + j) (omega (arith, from)) (omega (arith, within, size)) block)

loose_behind : (was bytes : List ℕ) (left : Option (List ℕ)) → IsLeftOf (Some (appended (secured was) bytes)) left
    → LeavesBehind was bytes left
loose_behind _ _ None h = absurd h
loose_behind was _ (Some _) (inl e) = ([], cc (append-nil was), tt)
loose_behind was bytes (Some left) (inr (inl e)) = (bytes, ap Some e, rw append-nil at (part_later (length was) bytes [] [] tt))
loose_behind _ _ (Some _) (inr (inr t)) = some_behind _ _ _ t

pieces_behind : (was bytes first front rest : List ℕ) (c : Blob) (left : Option (List ℕ)) → bytes ≡ first ++ (front ++ rest)
    → IsPartAppended first front (secured was) c → IsLeftOf (Some c) left → LeavesBehind was bytes left
pieces_behind was _ first front rest c left parts is h =
    let so_far = ⊎_elim (λ none. none.1 ∙ rw (none.0, append-nil) refl) (λ e. e) is.is_flushed in
    let t = loose_behind _ _ _ (rw so_far at (no_more (appended is.so_far front) c is.is left h)) in (
      first ++ t.0,
      cc (append_assoc was first t.0),
      rw parts (part_later _ _ _ _ (part_left _ _ rest t.0 (rw (length-append was first) at t.2))),
    )

pub durable_append : {T : Type 0} (old new : Disk) (bytes : List ℕ) (r : Result T StoreFault)
    → AppendsDisk old bytes r new → DurableAppend old bytes r new
durable_append old new bytes r t =
    let part = in_part (λ b c is. one_piece _ _ [] b c (sym (append-nil bytes)) (inr (inl is))) _ _ r t in
    record {
      longer = leaves_become _ _ _ (λ _. inl refl) (λ b c is. part_longer b c _ _ is.4) part;
      leaves = λ on was has left may. ⊎_elim (λ e. ([], cc (left_kept old new left on e may, append-nil was), tt))
          (λ t. let (_, (_, _, _, parts, is), leaves) = left_become {R = IsFrontAppended bytes} _ _ _ _ t on has may in
          pieces_behind _ _ _ _ _ _ _ parts is leaves) part;
      durable = now_durable _ (λ _. refl) _ _ _ r t;
    }

-- ---- `cut_to`

-- what is left of a file that was cut to bytes that it had when it was last flushed: those that it had then, or these
loose_cut : (kept flushed left : List ℕ) → take (length kept) flushed ≡ kept → IsTorn kept flushed (length kept) left
    → (left ≡ flushed) ⊎ (left ≡ kept)
loose_cut kept flushed left front t =
    let parts : left ≡ kept ++ t.behind = cc (take-length kept) in
    ⊎_elim (λ le. inr (parts ∙ no_rest _ _ (rw parts at le))) (λ same. inl (same_number_lists _ _ same (λ i below. ⊎_elim
    (λ before. ap (λ xs. slice_index xs i) parts ∙ get_or_append_left kept t.behind 0 i before
    ∙ ap (λ xs. slice_index xs i) (sym front) ∙ get_or-take (length kept) flushed i 0 before)
    (λ after. ⊎_elim (λ p. absurd (omega (arith, after, p.0))) (⊎_elim (λ p. p.1) (λ p. absurd (omega (arith, after, p.0))))
    (t.each i after below)) (cases_lt i (length kept))))) t.most

-- the same of a file whose bytes, flushed or not, begin with these, which weren't cut off since
left_back : (b : Blob) (len : ℕ) (kept ys : List ℕ) (left : Option (List ℕ)) → b.flushed ≡ kept ++ ys
    → length kept ≡ min len b.uncut → take len b.content ≡ kept → IsLeftOf (Some (cut b len)) left
    → (left ≡ Some b.flushed) ⊎ (left ≡ Some kept)
left_back b len kept ys None flushed size front h = absurd h
left_back b len kept ys (Some left) flushed size front (inl e) = inl (ap Some e)
left_back b len kept ys (Some left) flushed size front (inr (inl e)) = inr (ap Some (e ∙ front))
left_back b len kept ys (Some left) flushed size front (inr (inr t)) =
    ⊎_elim (λ e. inl (ap Some e)) (λ e. inr (ap Some e)) (loose_cut kept b.flushed left
    (ap (take (length kept)) flushed ∙ take-append_seam kept ys) (rw (front, ← size) at t))

left_cut : (was : List ℕ) (len : ℕ) (left : Option (List ℕ)) → IsLeftOf (Some (cut (secured was) len)) left
    → (left ≡ Some was) ⊎ (left ≡ Some (take len was))
left_cut was len left h = left_back (secured was) len (take len was) (drop len was) left
    (sym (take-append-drop len was)) (length-take len was) refl h

front_left : (old new : Disk) (was : List ℕ) (len : ℕ) (left : Option (List ℕ)) → seen_on old ≡ Some was
    → Becomes (λ b c. MayBeFlushed (cut b len) c) old new → MayLeave new left
    → MayLeave old left ⊎ ((behind : List ℕ) × (left ≡ Some (take len was ++ behind)))
front_left old new was len left has (b, c, at, is, e) may = elim (may_of (record old { now = Some c }) new left e may) [
  | inl now ↦ elim (cut_front b len left (no_more (cut b len) c is left now)) [
    | inl before ↦ inl (may_now _ _ (rw at before))
    | inr (behind, f) ↦ inr (behind, f ∙ ap (λ xs. Some (take len xs ++ behind)) (content_is old _ b at has))
  ]
  | inr once ↦ inl (may_once _ _ once)
]

pub durable_cut : {T : Type 0} (old new : Disk) (len : ℕ) (r : Result T StoreFault) → CutsDisk old len r new → DurableCutTo old len r new
durable_cut old new len r t =
    let part = in_part (λ b c is. inr (inl is)) _ _ r t in
    record {
      front = λ was has left may. ⊎_elim (λ e. inl (same_leaves e left may)) (λ t. front_left _ _ was len left has t may) part;
      leaves = λ on left may. ⊎_elim (λ e. inl (same_leaves e left may)) (λ t. let was : List ℕ = t.0.content in
          let has : seen_on old ≡ Some was = cc in
          let k = left_become _ _ _ _ t on has may in
          ⊎_elim (λ e. inl (may_now old left (subst (λ (o : Option (List ℕ)). IsLeftOf old.now o) (has ∙ sym e) (may_arrive _))))
          (λ all. inr (was, has, all)) (left_cut _ _ _ (no_more _ k.0 k.1 left k.2))) part;
      durable = now_durable _ (λ _. refl) _ _ _ r t;
    }

-- the bytes of a file stay, whether it is flushed or not
may_content : (b c : Blob) → MayBeFlushed b c → c.content ≡ b.content
may_content b c is = ⊎_elim (ap content_in) (⊎_elim (ap content_in) (ap content_in)) is

so_far_content : (b c : Blob) (bytes : List ℕ) → IsSoFar bytes b c → c.content ≡ b.content ++ bytes
so_far_content b c _ (inl (none, e)) = rw (e, none, append-nil) refl
so_far_content b c _ (inr e) = cc

part_content : (b c : Blob) (first front : List ℕ) → IsPartAppended first front b c → c.content ≡ b.content ++ (first ++ front)
part_content b c first front is =
    cc (may_content (appended is.so_far front) c is.is, so_far_content b is.so_far first is.is_flushed, append_assoc b.content first front)

-- ---- `append`, and then `cut_to` back to the bytes before

same_blob : (b c : Blob) → Some b ≡ Some c → b ≡ c
same_blob b c e = cc

-- a part of some bytes was appended to a durable file: what calls see of it, and what was flushed
part_of : (was bytes first front rest : List ℕ) (c : Blob) → bytes ≡ first ++ (front ++ rest) → IsPartAppended first front (secured was) c
    → (ys : List ℕ) × (c.content ≡ was ++ (first ++ front)) × (c.flushed ≡ was ++ ys) × (length was ≤ c.uncut)
part_of was _ first front _ c parts is = by is.is
  where
    so_far : is.so_far ≡ secured (was ++ first)
    so_far = ⊎_elim (λ none. none.1 ∙ rw (none.0, append-nil was) refl) (λ e. e) is.is_flushed

    seen : c.content ≡ was ++ (first ++ front)
    seen = part_content _ c _ _ is

    by : MayBeFlushed (appended is.so_far front) c
        → (ys : List ℕ) × (c.content ≡ was ++ (first ++ front)) × (c.flushed ≡ was ++ ys) × (length was ≤ c.uncut)
    by (inl e) = (
      first,
      seen,
      cc so_far,
      let size = ap (λ (x : Blob). x.uncut) e ∙ ap (λ (x : Blob). x.uncut) so_far in omega (arith, size, length-append was first),
    )
    by (inr (inl e)) =
        let same : c ≡ secured (is.so_far.content ++ front) = e ∙ flushed_trust _ (cc so_far) in
        let all = ap (λ (x : Blob). x.content ++ front) so_far ∙ append_assoc was first front in
        let size = ap (λ (x : Blob). x.uncut) same ∙ ap length all in
        (first ++ front, seen, cc same, omega (arith, size, length-append was (first ++ front)))
    by (inr (inr e)) = (
      first,
      seen,
      cc so_far,
      let size = ap (λ (x : Blob). x.uncut) e ∙ ap (λ (x : Blob). x.uncut) so_far in omega (arith, size, length-append was first),
    )

-- the names were durable: then the file is after Ok, unless a flush of it was refused
cut_durable : {T : Type 0} (mid new : Disk) (len : ℕ) (r : Result T StoreFault) → CutsDisk mid len r new → mid.older ≡ []
    → OnOk r (Trusted new.now → IsDurable new)
cut_durable _ _ _ (Err _) t _ = tt
cut_durable _ _ len (Ok _) (b, c, at, is, e) named = λ trust.
    let same = is ∙ flushed_trust _ (cc (subst (λ (disk : Disk). Trusted disk.now) e trust)) in
    rw e (record { named = named; flushed = subst (λ (x : Blob). x ≡ secured x.content) (sym same) refl })

-- of a durable file its bytes are left, and what may be left of those that were appended
pub cut_back : {T : Type 0} (old mid new : Disk) (was bytes : List ℕ) (r : Result T StoreFault)
    → IsDurable old → seen_on old ≡ Some was → AppendsDisk {T = Unit {0}} old bytes (Err Refused) mid → CutsDisk mid (length was) r new
    → LeavesPart (Some was) bytes (MayLeave new) × OnOk r (Trusted new.now → IsDurable new)
cut_back old mid new was bytes r on has appends cuts = (
  λ some same left may. subst (λ (xs : List ℕ). LeavesBehind xs bytes left) (same_Some was some same)
      (⊎_elim (λ e. before left (same_leaves e left may)) (λ t. back left t may) (in_part (λ b c is. inr (inl is)) mid new r cuts)),
  cut_durable mid new (length was) r cuts (⊎_elim (λ e. ap (λ (d : Disk). d.older) e ∙ on.named)
      (λ t. ap (λ (d : Disk). d.older) t.4 ∙ on.named) appends),
)
  where
    before : (left : Option (List ℕ)) → MayLeave mid left → LeavesBehind was bytes left
    before = (durable_append {T = Unit {0}} old mid bytes (Err Refused) appends).leaves on was has

    nothing : (left : Option (List ℕ)) → left ≡ Some was → LeavesBehind was bytes left
    nothing left e = ([], e ∙ ap Some (sym (append-nil was)), tt)

    of_part : (left : Option (List ℕ)) (b c d : Blob) → mid.now ≡ Some c → mid.now ≡ Some b → IsFrontAppended bytes (secured was) c
        → MayBeFlushed (cut b (length was)) d → IsLeftOf (Some d) left → LeavesBehind was bytes left
    of_part left b c d at there (first, front, rest, parts, part) is now =
        let same : b ≡ c = same_blob b c (sym there ∙ at) in
        let (ys, content, flushed, uncut) = part_of was bytes first front rest c parts part in
        ⊎_elim (λ e. pieces_behind was bytes first front rest c left parts part
        (subst (λ (o : Option (List ℕ)). IsLeftOf (Some c) o) (sym e) (inl refl))) (nothing left)
        (left_back c (length was) was ys left flushed (omega (arith, uncut))
        (ap (take (length was)) content ∙ take-append_seam was (first ++ front))
        (subst (λ (x : Blob). IsLeftOf (Some (cut x (length was))) left) same (no_more (cut b (length was)) d is left now)))

    back : (left : Option (List ℕ)) → Becomes (λ b c. MayBeFlushed (cut b (length was)) c) mid new → MayLeave new left
        → LeavesBehind was bytes left
    back left (b, d, there, is, e) may = elim (may_of (record mid { now = Some d }) new left e may) [
      | inr once ↦ before left (may_once mid left once)
      | inl now ↦ ⊎_elim (λ same. ⊎_elim (before left) (nothing left) (kept same))
          (λ (x, c, at, part, f). of_part left b c d (ap (λ (disk : Disk). disk.now) f) there
          (subst (λ (y : Blob). IsFrontAppended bytes y c)
          (was_secured old x at on ∙ ap secured (content_is old was x at has)) part) is now) appends
    ]
      where
        kept : mid ≡ old → MayLeave mid left ⊎ (left ≡ Some was)
        kept same = ⊎_map (λ m. m) (λ (some, there, all). all ∙ ap (λ (xs : List ℕ). Some (take (length was) xs))
            (same_Some some was (sym there ∙ ap seen_on same ∙ has)) ∙ ap Some (take-length was))
            ((durable_cut {T = Unit {0}} mid new (length was) (Err Refused) (inr (b, d, there, is, e))).leaves
            (subst (λ (x : Disk). IsDurable x) (sym same) on) left may)

-- ---- `replace`

of_new : {P : Type 0} (new : Disk) (bytes : List ℕ) (older : List (Option Blob))
    → new ≡ record { now = Some (secured bytes); older = older }
    → (left : Option (List ℕ)) → (IsLeftOfOne older left → P) → MayLeave new left → P ⊎ (left ≡ Some bytes)
of_new _ bytes _ e _ was may =
    ⊎_elim (λ now. inr (left_flushed (Some (secured bytes)) _ refl now)) (λ once. inl (was once)) (may_of _ _ _ e may)

pub durable_replace : {T : Type 0} (old new : Disk) (bytes : List ℕ) (r : Result T StoreFault)
    → ReplacesDisk old bytes r new → DurableReplace old bytes r new
durable_replace _ new bytes (Ok _) e = record {
  leaves = λ left. of_new _ _ [] e left (λ was. absurd was);
  durable = rw e (record { named = refl; flushed = refl });
}
durable_replace _ _ _ (Err _) (inl e) = record { leaves = λ left may. inl (same_leaves e left may); durable = tt }
durable_replace _ _ _ (Err _) (inr (inl e)) = record { leaves = λ _. of_new _ _ _ e _ (⊎_elim (may_now _ _) (may_once _ _)); durable = tt }
durable_replace _ _ _ (Err _) (inr (inr e)) = record { leaves = λ left. of_new _ _ [] e left (λ was. absurd was); durable = tt }

-- ---- what calls see

-- the bytes follow the old ones; after a refused call a front of them does
abbrev pub Appends : {T : Type 0} → Stored → List ℕ → Result T StoreFault → Stored → Type 0
Appends old bytes (Ok done) new = (was : List ℕ) → old.content ≡ Some was → new ≡ holding old (was ++ bytes)
Appends old bytes (Err fault) new =
    (was : List ℕ) → old.content ≡ Some was
    → (front rest : List ℕ) × (bytes ≡ front ++ rest) × (new ≡ file_refused (holding old (was ++ front)))

-- the first bytes are kept; a refused call leaves the old ones or these
abbrev pub Cuts : {T : Type 0} → Stored → ℕ → Result T StoreFault → Stored → Type 0
Cuts old len (Ok done) new = (was : List ℕ) → old.content ≡ Some was → new ≡ holding old (take len was)
Cuts old len (Err fault) new =
    (was : List ℕ) → old.content ≡ Some was
    → (new ≡ file_refused old) ⊎ (new ≡ file_refused (holding old (take len was)))

-- the bytes are the file's; a refused call leaves the file as it was, or with these bytes
abbrev pub Replaces : {T : Type 0} → Stored → List ℕ → Result T StoreFault → Stored → Type 0
Replaces old bytes (Ok done) new = new ≡ holding old bytes
Replaces old bytes (Err fault) new = (new ≡ file_refused old) ⊎ (new ≡ file_refused (holding old bytes))

-- the file that calls see
abbrev pub stored_on : Disk → ℕ → Stored
stored_on disk failures = record { content = seen_on disk; failures = failures }

pub appends : {T : Type 0} (old new : Disk) (bytes : List ℕ) (n m : ℕ) (r : Result T StoreFault) → AppendsDisk old bytes r new
    → m ≡ (if is_refused r then n + 1 else n) → Appends (stored_on old n) bytes r (stored_on new m)
appends old _ _ n m (Ok _) (b, c, at, is, e) up = λ was here. rw (up, e, is, content_is old was b at here) refl
appends _ _ bytes n m (Err _) (inl e) up = λ was is. ([], bytes, refl, rw (up, e, is, append-nil) refl)
appends old _ _ n m (Err _) (inr (b, c, at, (first, front, rest, parts, is), e)) up = λ was here. (
  first ++ front,
  rest,
  parts ∙ sym (append_assoc first front rest),
  rw (up, e, part_content b c first front is, content_is old was b at here) refl,
)

pub cuts : {T : Type 0} (old new : Disk) (len n m : ℕ) (r : Result T StoreFault) → CutsDisk old len r new
    → m ≡ (if is_refused r then n + 1 else n) → Cuts (stored_on old n) len r (stored_on new m)
cuts old _ _ n m (Ok _) (b, c, at, is, e) up = λ was here. rw (up, e, is, content_is old was b at here) refl
cuts _ _ _ n m (Err _) (inl e) up = λ _ _. inl (rw (up, e) refl)
cuts old _ len n m (Err _) (inr (b, c, at, is, e)) up =
    λ was here. inr (rw (up, e, may_content (cut b len) c is, content_is old was b at here) refl)

pub replaces : {T : Type 0} (old new : Disk) (bytes : List ℕ) (n m : ℕ) (r : Result T StoreFault) → ReplacesDisk old bytes r new
    → m ≡ (if is_refused r then n + 1 else n) → Replaces (stored_on old n) bytes r (stored_on new m)
replaces _ _ _ n m (Ok _) e up = rw (up, e) refl
replaces _ _ _ n m (Err _) (inl e) up = inl (rw (up, e) refl)
replaces _ _ _ n m (Err _) (inr (inl e)) up = inr (rw (up, e) refl)
replaces _ _ _ n m (Err _) (inr (inr e)) up = inr (rw (up, e) refl)

-- ---- a file in memory

-- what is durable stays so when it is flushed
pub all_stay : (content : Option (List ℕ)) → all_durable content ≡ all_flushed (all_durable content)
all_stay None = refl
all_stay (Some _) = refl

-- whatever a call that flushes it answers
pub stays_flushed : {T : Type 0} (content : Option (List ℕ)) (result : Result T StoreFault) (new : Disk)
    → new ≡ all_durable content → FlushesDisk (all_durable content) result new
stays_flushed _ (Ok _) _ e = e ∙ all_stay _
stays_flushed _ (Err Missing) _ e = e
stays_flushed _ (Err NotMbox) _ e = e ∙ all_stay _
stays_flushed _ (Err Refused) _ e = inl e
stays_flushed _ (Err NoMemory) _ e = inl e

-- so it is after a replacement
pub replaced_settled : (bytes : List ℕ) (new : Disk) → new ≡ all_durable (Some bytes) → all_flushed new ≡ new
replaced_settled bytes _ e = cc (all_stay (Some bytes))

-- ---- the laws

pub durable_flushes : DurableFlushes
durable_flushes _ _ _ t = durable_flush _ _ _ t

pub durable_appends : DurableAppends
durable_appends _ _ _ _ t = durable_append _ _ _ _ t

pub durable_cuts : DurableCuts
durable_cuts _ _ _ _ t = durable_cut _ _ _ _ t

pub durable_replaces : DurableReplaces
durable_replaces _ _ _ _ t = durable_replace _ _ _ _ t

pub ruleset call_laws = (durable_flushes, durable_appends, durable_cuts, durable_replaces)
