-- The calls of a listing, one after the other.
use Rattle.std.proofs.Common.{◌≡◌, ◌≢◌, ◌==◌, ◌&&◌, ◌∙◌, ◌+◌, ◌-◌, ◌^◌, ◌<◌, ◌≤◌, ℕ, ℤ, suc, Bool, true, false, List, [], ◌∷◌, ◌++◌}
use Rattle.std.proofs.Common.{Option, Some, None, Result, Ok, Err, IsErrAnd, ap, ap₂, append-nil, arith, eqb, filter, flat_map}
use Rattle.std.proofs.Common.{if◌then◌else◌, inl, inr, length, length-append, not, refl, subst, sym, true≢false}
use Rattle.std.proofs.lemmas.{
  Bool.{and_parts, cases_lt, ne_eqb, not-false},
  Bool.Decides.{Decides-eqb, Decides-int_eq},
  List.{append_assoc, Concat.flat_map-append, Elements.{All-nil, All-push, filter-append}},
}
use Rattle.std.specs.{
  Duration.as_nanos,
  IoError.error_kind,
  List.AllPass,
  Option.option_map,
  Ordering.int_eq,
  declared.{io.ErrorKind.TheVariants.{Other, OutOfMemory}, time.Duration.Duration},
}
use Rattle.system_calls.specs.{Denials.IsAbout, declared.refusal.Denial.{Denial}}
use Rattle.folder_store.specs.ExactListing.{
  AreFound,
  CallsWere,
  ChangesAlways,
  Clock,
  ComesTo,
  Date,
  InVain,
  IsExact,
  IsLook,
  IsPass,
  IsReading,
  IsRest,
  ListingCall,
  ListsExactly,
  ListsOnce,
  MakesCalls,
  Open,
  Read,
  Refused,
  Sleep,
  Stat,
  TellEach,
  WasDenied,
  is_in_pass,
  left_at,
  look_of,
  most_nanos,
  name_texts,
  octets_read,
  passed_since,
  slept,
}
use Rattle.folder_store.specs.{
  Wanted.{TellsNames, is_listed},
  declared.{
    exact_listing.{ChangeTime.ChangeTime, Sighting.Sighting},
    shared_calls.ListedNames.ListedNames,
    wanted.Wanted.{Wanted},
  },
}

calls-append : {L : Type 0} (did : L → ListingCall → L → Type 0) (old mid new : L) (xs ys : List ListingCall)
    → CallsWere did old xs mid → CallsWere did mid ys new → CallsWere did old (xs ++ ys) new
calls-append did old mid new [] ys same more = subst (λ s. CallsWere did s ys new) (sym same) more
calls-append did old mid new (x ∷ xs) ys (next, one, rest) more = (next, one, calls-append did next mid new xs ys rest more)

-- ---- times

-- whether two times of change differ
pub differ : (a b : ChangeTime) → true ≡ not (eqb a.seconds b.seconds && int_eq a.nanoseconds b.nanoseconds) → a ≢ b
differ a b apart same = true≢false (apart ∙ ap not (ap₂ (λ x y. x && y)
    ((Decides-eqb a.seconds b.seconds).1 (ap (λ (c : ChangeTime). c.seconds) same))
    ((Decides-int_eq a.nanoseconds b.nanoseconds).1 (ap (λ (c : ChangeTime). c.nanoseconds) same))))

pub agree : (a b : ChangeTime) → false ≡ not (eqb a.seconds b.seconds && int_eq a.nanoseconds b.nanoseconds) → a ≡ b
agree a b same =
    let parts = and_parts (eqb a.seconds b.seconds) (int_eq a.nanoseconds b.nanoseconds) (not-false _ (sym same)) in
    let made : ℕ → ℤ → ChangeTime = λ s n. record { seconds = s; nanoseconds = n } in
    ap₂ made ((Decides-eqb a.seconds b.seconds).0 parts.0) ((Decides-int_eq a.nanoseconds b.nanoseconds).0 parts.1)

pub not_late : (late : Bool) (p q : ℕ) → (q ≤ p → late ≡ true) → late ≡ false → p < q
not_late late p q on off = elim (cases_lt p q) [
  | inl less ↦ less
  | inr most ↦ absurd (true≢false (sym (on most) ∙ off))
]

-- ---- calls that come to nothing

pub refused : {L : Type 0} {did : L → ListingCall → L → Type 0} {old new : L} {d : Denial} → did old (Refused d) new
    → MakesCalls did old new (WasDenied d)
refused {new = new} {d = d} done = (Refused d ∷ [], (new, done, refl), inl ([], refl))

pub fails_after : {L : Type 0} {did : L → ListingCall → L → Type 0} {old mid new : L} {d : Denial} (xs : List ListingCall)
    → CallsWere did old xs mid
    → MakesCalls did mid new (WasDenied d) → MakesCalls did old new (WasDenied d)
fails_after {did = did} {old = old} {mid = mid} {new = new} {d = d} xs done (ys, more, why) = (
  xs ++ ys,
  calls-append did old mid new xs ys done more,
  elim why [
    | inl (front, whole) ↦ inl (xs ++ front, ap (λ l. xs ++ l) whole ∙ sym (append_assoc xs front (Refused d ∷ [])))
    | inr memory ↦ inr memory
  ],
)

pub gives_denied : {L T : Type 0} {did : L → ListingCall → L → Type 0} {old new : L} {d : Denial} (r : Result T Denial)
    (Is : T → List ListingCall → Type 0) → IsErrAnd r (λ y. y ≡ d) → MakesCalls did old new (WasDenied d)
    → MakesCalls did old new (ComesTo Is r)
gives_denied (Ok value) Is never made = absurd never
gives_denied {did = did} {old = old} {new = new} (Err y) Is same made = subst (λ x. MakesCalls did old new (WasDenied x)) (sym same) made

pub gives_no_memory : {L T : Type 0} {did : L → ListingCall → L → Type 0} {old new : L} (r : Result T Denial)
    (Is : T → List ListingCall → Type 0) → IsErrAnd r (λ y. (y.path ≡ None) × (error_kind y.error ≡ OutOfMemory))
    → (calls : List ListingCall)
    → CallsWere did old calls new → MakesCalls did old new (ComesTo Is r)
gives_no_memory (Ok value) Is never calls done = absurd never
gives_no_memory (Err y) Is is calls done = (calls, done, inr is.1)

-- ---- a rest

pub slept_none : {L : Type 0} (did : L → ListingCall → L → Type 0) (now : L) (left : Duration) → as_nanos left ≡ 0
    → CallsWere did now (slept left) now
slept_none did now left none = subst (λ n. CallsWere did now (if n == 0 then [] else Sleep left ∷ []) now) (sym none) refl

pub slept_some : {L : Type 0} (did : L → ListingCall → L → Type 0) (old new : L) (left : Duration) → as_nanos left ≢ 0
    → did old (Sleep left) new → CallsWere did old (slept left) new
slept_some did old new left some done =
    subst (λ b. CallsWere did old (if b then [] else Sleep left ∷ []) new) (sym (ne_eqb (as_nanos left) 0 some)) (new, done, refl)

pub rests : {L : Type 0} (did : L → ListingCall → L → Type 0) (a b c d : L) (seen : Sighting) (date : Option Duration)
    (now left : Duration) → did a (Date date) b → did b (Clock now) c → as_nanos left ≡ left_at seen date now
    → CallsWere did c (slept left) d → MakesCalls did a d (IsRest seen)
rests did a b c d seen date now left dated timed is slept_so = (
  Date date ∷ Clock now ∷ slept left,
  (b, dated, (c, timed, slept_so)),
  (date, now, left, is, refl),
)

-- ---- one pass

-- the names that were found so far, in so many reads
abbrev pub Reading : {L : Type 0} → (did : L → ListingCall → L → Type 0) → Wanted → L → L → ℕ → List (List ℕ) → Type 0
Reading did wanted old now reads found = (middle : List ListingCall) × CallsWere did old middle now × AllPass is_in_pass middle
    × AreFound wanted (flat_map octets_read middle) found × (length (flat_map octets_read middle) + 1 ≡ reads)

pub read_nothing : {L : Type 0} (did : L → ListingCall → L → Type 0) (wanted : Wanted) (now : L) (found : List (List ℕ)) → found ≡ []
    → Reading did wanted now now 1 found
read_nothing did wanted now found is = (
  [],
  refl,
  All-nil (λ (call : ListingCall). is_in_pass call ≡ true),
  λ told none. is ∙ sym (ap (filter (is_listed wanted)) none),
  refl,
)

told_last : (reads : List (List ℕ)) (octets : List ℕ) (told : List (List ℕ)) → TellEach (reads ++ octets ∷ []) told
    → (front names : List (List ℕ)) × TellEach reads front × TellsNames octets names × (told ≡ front ++ names)
told_last [] octets told (here, rest, names, none, whole) =
    ([], here, refl, names, whole ∙ ap (λ (l : List (List ℕ)). here ++ l) none ∙ append-nil here)
told_last (first ∷ reads) octets told (here, rest, names, each, whole) =
    let (front, last, earlier, ends, is) = told_last reads octets rest each in (
      here ++ front,
      last,
      (here, front, names, earlier, refl),
      ends,
      whole ∙ ap (λ (l : List (List ℕ)). here ++ l) is ∙ sym (append_assoc here front last),
    )

pub read_more : {L : Type 0} (did : L → ListingCall → L → Type 0) (wanted : Wanted) (old mid new : L) (reads : ℕ)
    (found more : List (List ℕ)) (octets : List ℕ) → Reading did wanted old mid reads found → did mid (Read octets) new
    → ((names : List (List ℕ)) → TellsNames octets names → more ≡ found ++ filter (is_listed wanted) names)
    → Reading did wanted old new (reads + 1) more
read_more did wanted old mid new reads found more octets (middle, done, only, are, count) read adds =
    let joins : flat_map octets_read (middle ++ Read octets ∷ []) ≡ flat_map octets_read middle ++ octets ∷ [] =
    flat_map-append octets_read middle (Read octets ∷ []) in (
      middle ++ Read octets ∷ [],
      calls-append did old mid new middle (Read octets ∷ []) done (new, read, refl),
      All-push (λ (call : ListingCall). is_in_pass call ≡ true) middle (Read octets) only refl,
      λ told each.
          let (front, names, earlier, ends, whole) =
          told_last (flat_map octets_read middle) octets told (subst (λ l. TellEach l told) joins each) in
          adds names ends ∙ ap (λ (l : List (List ℕ)). l ++ filter (is_listed wanted) names) (are front earlier)
          ∙ sym (filter-append (is_listed wanted) front names) ∙ sym (ap (filter (is_listed wanted)) whole),
      omega (arith, count, ap length joins, length-append (flat_map octets_read middle) (octets ∷ [])),
    )

pub looked_between : {L : Type 0} (did : L → ListingCall → L → Type 0) (wanted : Wanted) (old mid new : L) (reads : ℕ)
    (found : List (List ℕ)) (change : ChangeTime) → Reading did wanted old mid reads found → did mid (Stat change) new
    → Reading did wanted old new reads found
looked_between did wanted old mid new reads found change (middle, done, only, are, count) looked =
    let same : flat_map octets_read middle ≡ flat_map octets_read (middle ++ Stat change ∷ []) =
    sym (flat_map-append octets_read middle (Stat change ∷ []) ∙ append-nil (flat_map octets_read middle)) in (
      middle ++ Stat change ∷ [],
      calls-append did old mid new middle (Stat change ∷ []) done (new, looked, refl),
      All-push (λ (call : ListingCall). is_in_pass call ≡ true) middle (Stat change) only refl,
      subst (λ l. AreFound wanted l found) same are,
      subst (λ l. length l + 1 ≡ reads) same count,
    )

pub read_all : {L : Type 0} (did : L → ListingCall → L → Type 0) (wanted : Wanted) (old mid new : L) (reads : ℕ)
    (found : List (List ℕ)) (octets : List ℕ) (seen : ChangeTime) → Reading did wanted old mid reads found
    → did mid (Read octets) new → octets ≡ [] → MakesCalls did old new (IsReading wanted seen (Some found))
read_all did wanted old mid new reads found octets seen (middle, done, only, are, count) read none =
    let ended : did mid (Read []) new = subst (λ l. did mid (Read l) new) none read in (
      middle ++ Read [] ∷ [],
      calls-append did old mid new middle (Read [] ∷ []) done (new, ended, refl),
      (middle, refl, only, are),
    )

pub read_in_vain : {L : Type 0} (did : L → ListingCall → L → Type 0) (wanted : Wanted) (old mid new : L) (reads : ℕ)
    (found : List (List ℕ)) (change seen : ChangeTime) → Reading did wanted old mid reads found → did mid (Stat change) new
    → change ≢ seen → MakesCalls did old new (IsReading wanted seen None)
read_in_vain did wanted old mid new reads found change seen (middle, done, only, are, count) looked apart = (
  middle ++ Stat change ∷ [],
  calls-append did old mid new middle (Stat change ∷ []) done (new, looked, refl),
  inl (middle, change, apart, refl),
)

pub reads_always : {L : Type 0} (did : L → ListingCall → L → Type 0) (wanted : Wanted) (old now : L) (reads : ℕ)
    (found : List (List ℕ)) (seen : ChangeTime) → Reading did wanted old now reads found → 2 ^ 64 - 1 ≤ reads
    → MakesCalls did old now (IsReading wanted seen None)
reads_always did wanted old now reads found seen (middle, done, only, are, count) many =
    (middle, done, inr (omega (arith, count, many)))

pub reading_denied : {L : Type 0} (did : L → ListingCall → L → Type 0) (wanted : Wanted) (old mid new : L) (reads : ℕ)
    (found : List (List ℕ)) (d : Denial) → Reading did wanted old mid reads found → MakesCalls did mid new (WasDenied d)
    → MakesCalls did old new (WasDenied d)
reading_denied did wanted old mid new reads found d (middle, done, only, are, count) = fails_after middle done

pub reading_no_memory : {L T : Type 0} (did : L → ListingCall → L → Type 0) (wanted : Wanted) (old mid new : L) (reads : ℕ)
    (found : List (List ℕ)) (call : ListingCall) (r : Result T Denial) (Is : T → List ListingCall → Type 0)
    → IsErrAnd r (λ y. (y.path ≡ None) × (error_kind y.error ≡ OutOfMemory)) → Reading did wanted old mid reads found
    → did mid call new → MakesCalls did old new (ComesTo Is r)
reading_no_memory did wanted old mid new reads found call r Is is (middle, done, only, are, count) called =
    gives_no_memory r Is is (middle ++ call ∷ []) (calls-append did old mid new middle (call ∷ []) done (new, called, refl))

-- what a read adds
pub read_adds : (wanted now : Wanted) (octets : List ℕ) (found more : List (List ℕ)) → now ≡ wanted
    → ((names : List (List ℕ)) → TellsNames octets names → more ≡ found ++ filter (is_listed now) names)
    → (names : List (List ℕ)) → TellsNames octets names → more ≡ found ++ filter (is_listed wanted) names
read_adds wanted now octets found more is adds names told =
    adds names told ∙ ap (λ w. found ++ filter (is_listed w) names) is

pub passes : {L T : Type 0} (did : L → ListingCall → L → Type 0) (a b c : L) (wanted : Wanted) (seen : ChangeTime)
    (names : T → Option (List (List ℕ))) (r : Result T Denial) → did a Open b
    → MakesCalls did b c (ComesTo (λ found. IsReading wanted seen (names found)) r)
    → MakesCalls did a c (ComesTo (λ found. IsPass wanted seen (names found)) r)
passes did a b c wanted seen names (Ok found) opened (calls, done, is) = (Open ∷ calls, (b, opened, done), (calls, refl, is))
passes did a b c wanted seen names (Err d) opened failed = fails_after (Open ∷ []) (b, opened, refl) failed

-- ---- one listing

pub lists_once : {L : Type 0} (did : L → ListingCall → L → Type 0) (wanted : Wanted) (seen again : Sighting)
    (found told : Option (List (List ℕ))) (a b c d : L) → MakesCalls did a b (IsRest seen)
    → MakesCalls did b c (IsPass wanted seen.change found) → MakesCalls did c d (IsLook again)
    → (again.change ≡ seen.change → told ≡ found) → (again.change ≢ seen.change → told ≡ None)
    → MakesCalls did a d (ListsOnce wanted seen told again)
lists_once did wanted seen again found told a b c d (xs, rested, rest) (ys, passed, pass) (zs, looked, look) same other = (
  xs ++ (ys ++ zs),
  calls-append did a b d xs (ys ++ zs) rested (calls-append did b c d ys zs passed looked),
  record {
    rest = xs;
    rested = rest;
    pass = ys;
    found = found;
    passed = pass;
    whole = ap (λ l. xs ++ (ys ++ l)) look;
    same = same;
    other = other;
  },
)

-- ---- listings in turn

-- so many were in vain
abbrev pub Tried : {L : Type 0} → (did : L → ListingCall → L → Type 0) → Wanted → L → L → Duration → Sighting → ℕ → Type 0
Tried did wanted old now start seen times = (first : Sighting) × (vain : List ListingCall)
    × CallsWere did old (Clock start ∷ (look_of first ++ vain)) now × InVain wanted start first times vain seen

pub tried_none : {L : Type 0} (did : L → ListingCall → L → Type 0) (wanted : Wanted) (old mid now : L) (start : Duration)
    (seen : Sighting) → did old (Clock start) mid → MakesCalls did mid now (IsLook seen) → Tried did wanted old now start seen 0
tried_none did wanted old mid now start seen timed (calls, looked, is) =
    (seen, [], (mid, timed, subst (λ l. CallsWere did mid l now) is looked), (refl, refl))

pub tried_one_more : {L : Type 0} (did : L → ListingCall → L → Type 0) (wanted : Wanted) (old mid now : L) (start : Duration)
    (seen again : Sighting) (times more : ℕ) → Tried did wanted old mid start seen times
    → MakesCalls did mid now (ListsOnce wanted seen None again) → passed_since start again < most_nanos → suc times ≡ more
    → Tried did wanted old now start again more
tried_one_more did wanted old mid now start seen again times more (first, vain, done, tried) (here, listed, once) soon is = (
  first,
  vain ++ here,
  calls-append did old mid now (Clock start ∷ (look_of first ++ vain)) here done listed,
  subst (λ n. InVain wanted start first n (vain ++ here) again) is (vain, here, seen, tried, once, soon, refl),
)

pub tried_exact : {L : Type 0} (did : L → ListingCall → L → Type 0) (wanted : Wanted) (old mid now : L) (start : Duration)
    (seen again : Sighting) (times : ℕ) (listed : ListedNames) → Tried did wanted old mid start seen times
    → MakesCalls did mid now (ListsOnce wanted seen (Some (name_texts listed.names)) again) → listed.change ≡ again.change
    → MakesCalls did old now (IsExact wanted listed)
tried_exact did wanted old mid now start seen again times listed (first, vain, done, tried) (here, lists, once) same = (
  Clock start ∷ (look_of first ++ (vain ++ here)),
  calls-append did old mid now (Clock start ∷ (look_of first ++ vain)) here done lists,
  (
    record {
      start = start;
      first = first;
      times = times;
      vain = vain;
      last = seen;
      listed = tried;
      rest = here;
      whole = refl;
    },
    again,
    once,
    same,
  ),
)

pub tried_too_long : {L : Type 0} (did : L → ListingCall → L → Type 0) (wanted : Wanted) (old mid now : L) (start : Duration)
    (seen again : Sighting) (times : ℕ) → Tried did wanted old mid start seen times
    → MakesCalls did mid now (ListsOnce wanted seen None again) → most_nanos ≤ passed_since start again
    → MakesCalls did old now (ChangesAlways wanted)
tried_too_long did wanted old mid now start seen again times (first, vain, done, tried) (here, lists, once) late = (
  Clock start ∷ (look_of first ++ (vain ++ here)),
  calls-append did old mid now (Clock start ∷ (look_of first ++ vain)) here done lists,
  (
    record {
      start = start;
      first = first;
      times = times;
      vain = vain;
      last = seen;
      listed = tried;
      rest = here;
      whole = refl;
    },
    inr (again, once, late),
  ),
)

-- what a listing told, in other words
pub listed_so : {L T : Type 0} (did : L → ListingCall → L → Type 0) (old new : L) (names : T → List (List ℕ)) (now wanted : Wanted)
    (seen again : Sighting) (told value : Option T) → now ≡ wanted → told ≡ value
    → MakesCalls did old new (ListsOnce now seen (option_map names told) again)
    → MakesCalls did old new (ListsOnce wanted seen (option_map names value) again)
listed_so did old new names now wanted seen again told value same is lists =
    subst (λ w. MakesCalls did old new (ListsOnce w seen (option_map names value) again)) same
    (subst (λ v. MakesCalls did old new (ListsOnce now seen (option_map names v) again)) is lists)

pub tried_denied : {L : Type 0} (did : L → ListingCall → L → Type 0) (wanted : Wanted) (old mid new : L) (start : Duration)
    (seen : Sighting) (times : ℕ) (d : Denial) → Tried did wanted old mid start seen times → MakesCalls did mid new (WasDenied d)
    → MakesCalls did old new (WasDenied d)
tried_denied did wanted old mid new start seen times d (first, vain, done, tried) =
    fails_after (Clock start ∷ (look_of first ++ vain)) done

pub tried_all : {L : Type 0} (did : L → ListingCall → L → Type 0) (wanted : Wanted) (old now : L) (start : Duration)
    (seen : Sighting) (times : ℕ) → Tried did wanted old now start seen times → times ≡ 100
    → MakesCalls did old now (ChangesAlways wanted)
tried_all did wanted old now start seen times (first, vain, done, tried) all = (
  Clock start ∷ (look_of first ++ vain),
  done,
  (
    record {
      start = start;
      first = first;
      times = times;
      vain = vain;
      last = seen;
      listed = tried;
      rest = [];
      whole = ap (λ l. Clock start ∷ (look_of first ++ l)) (sym (append-nil vain));
    },
    inl (all, refl),
  ),
)

pub always_changes : {L : Type 0} {did : L → ListingCall → L → Type 0} {old new : L} (wanted : Wanted) (path : List ℕ) (d : Denial)
    → error_kind d.error ≡ Other → IsAbout path d → MakesCalls did old new (ChangesAlways wanted)
    → MakesCalls did old new (ListsExactly wanted path (Err d))
always_changes wanted path d own about (calls, done, always) = (calls, done, inr (own, about, always))

pub names_denied : {L : Type 0} {did : L → ListingCall → L → Type 0} {old new : L} {d : Denial} (r : Result ListedNames Denial)
    (wanted : Wanted) (path : List ℕ) → IsErrAnd r (λ y. y ≡ d) → MakesCalls did old new (WasDenied d)
    → MakesCalls did old new (ListsExactly wanted path r)
names_denied (Ok listed) wanted path never made = absurd never
names_denied {did = did} {old = old} {new = new} (Err y) wanted path same (calls, done, why) =
    (calls, done, inl (subst (λ x. WasDenied x calls) (sym same) why))
