-- The files that a folder in memory keeps, as entries.
use Rattle.std.proofs.{
  Common.{◌≡◌, ◌⊎◌, ◌≢◌, ℕ, zero, suc, ◌<◌, length, get_or, slice_set, refl, List, [], ◌∷◌, ◌++◌, sym, ap, ◌∙◌, arith, false, Option, Some},
  Common.{None, Result, Ok, Err, OnOk, OnErr, Contains, HoldsAt, bytes_eq, inl, inr, ⊎_elim, String, Global, string_bytes, ◌-◌, ◌≤◌, take},
  Common.{drop, map, subst, true, option_map, append_assoc, append-nil, length-append, length-take, take-append-drop, take-take},
  Common.{get_or-take, slice_index, true≢false},
  lemmas.{Slice.Eq.bytes_eq-Decides, Option.none-some, Bool.{cases_Bool, cases_lt, cond_both, false_from_ne_true}},
  lemmas.List.{Quantifiers.all_pairs_push, map-append, get_or_default, get_or_append_left, get_or-append_right, Elements.Contains-get_or},
  lemmas.List.{Recursion.found_at as found_first, Kept.AllPairs-cons},
}
use Rattle.mail_terms.specs.Distinct.{AreDistinct}
use Rattle.test_devices.specs.{
  declared.memory_folder.MemoryBlob.MemoryBlob,
  MemoryFolder.{blob_of, folder_entry, folder_entries, older_of, IsZeroed, MayBeOf, Survive},
}
use Rattle.mail_store.{
  specs.{declared.fault.StoreFault.StoreFault, Durable.{Blob, IsLeft, IsLeftOf, secured}},
  proofs.DurableLemmas.{flushed_all, seen_all},
}
use Rattle.folder_store.{
  specs.FileFolder.{Directory, DirEntry, names_in, find, placed, AltersInPart, with_blob, Older, entry},
  specs.PowerLoss.{WasOnce, Loses, left_under},
  proofs.Files.{may_be_now, may_be_older, find_here, find_later},
}

differ : (one two : List ℕ) → (one ≡ two → ⊥) → bytes_eq one two ≡ false
differ one two apart = false_from_ne_true (bytes_eq one two) (λ same. apart ((bytes_eq-Decides one two).0 same))

-- a name that leads to no file isn't the first
not_here : (name : List ℕ) (e : DirEntry) (es : List DirEntry) → find name (e ∷ es) ≡ None → (bytes_eq name e.name ≡ false)
    × (find name es ≡ None)
not_here name e es none = ⊎_elim (λ same. absurd (none-some e.blob (sym none ∙ find_here name e es same)))
    (λ apart. (apart, sym (find_later name e es apart) ∙ none)) (cases_Bool (bytes_eq name e.name))

-- a name that isn't there leads to no file
leads_nowhere : (name : List ℕ) (es : List DirEntry) → (Contains (names_in es) name → ⊥) → find name es ≡ None
leads_nowhere name [] free = refl
leads_nowhere name (e ∷ es) free = cond_both (bytes_eq name e.name) (Some e.blob) (find name es) (λ (o : Option Blob). o ≡ None)
    (λ same. absurd (free (0, omega arith, sym ((bytes_eq-Decides name e.name).0 same))))
    (λ _. leads_nowhere name es (λ c. free (suc c.0, omega (arith, c.1), c.2)))

not_ahead : (name first : List ℕ) (names : List (List ℕ)) → (Contains names name → ⊥) → bytes_eq name first ≡ false
    → (k : ℕ) → k < length (first ∷ names) → get_or (first ∷ names) k name ≡ name → ⊥
not_ahead name first names free apart zero inside is = true≢false (sym ((bytes_eq-Decides name first).1 (sym is)) ∙ apart)
not_ahead name first names free apart (suc k) inside is = free (k, omega (arith, inside), is)

-- a name that leads to no file is put after the others
placed_new : (name : List ℕ) (b : Blob) (es : List DirEntry) → find name es ≡ None → placed name b es ≡ es ++ entry name b ∷ []
placed_new name b [] none = refl
placed_new name b (e ∷ es) none = let n = not_here name e es none in rw n.0 (ap (λ (xs : List DirEntry). e ∷ xs) (placed_new name b es n.1))

abbrev pub Pair : Type 0
Pair = String Global × MemoryBlob

-- the names once a file has one: the same, or one more that wasn't there
names_placed : (name : List ℕ) (b : Blob) (es : List DirEntry)
    → (names_in (placed name b es) ≡ names_in es) ⊎ ((names_in (placed name b es) ≡ names_in es ++ name ∷ [])
    × (Contains (names_in es) name → ⊥))
names_placed name b [] = inr (refl, λ c. absurd (omega (arith, c.1)))
names_placed name b (e ∷ es) = elim (cases_Bool (bytes_eq name e.name)) [
  | inl same ↦ rw same (inl (ap (λ (n : List ℕ). n ∷ names_in es) ((bytes_eq-Decides name e.name).0 same)))
  | inr apart ↦ rw apart (elim (names_placed name b es) [
    | inl is ↦ inl (ap (λ (ns : List (List ℕ)). e.name ∷ ns) is)
    | inr more ↦ inr (ap (λ (ns : List (List ℕ)). e.name ∷ ns) more.0, λ c. not_ahead name e.name (names_in es) more.1 apart c.0 c.1 c.2)
  ])
]

placed_distinct : (name : List ℕ) (b : Blob) (es : List DirEntry) → AreDistinct (names_in es) → AreDistinct (names_in (placed name b es))
placed_distinct name b es h = ⊎_elim (λ same. rw same h) (λ more. rw more.0 (all_pairs_push (λ a b. a ≢ b) (names_in es) name h
    (λ k d inside same. more.1 (k, inside, get_or_default (names_in es) k name d inside ∙ same)))) (names_placed name b es)

apart_of : (a b : List ℕ) → (b ≡ a → ⊥) → bytes_eq a b ≡ false
apart_of a b apart = differ a b (λ same. apart (sym same))

pub not_found : (files : List Pair) (name : List ℕ) → ((k : ℕ) (d : Pair) → k < length files → string_bytes (get_or files k d).0 ≡ name → ⊥)
    → find name (folder_entries files) ≡ None
not_found [] name none = refl
not_found (p ∷ files) name none =
    find_later name (folder_entry p) (folder_entries files) (apart_of name (string_bytes p.0) (none 0 p (omega arith)))
    ∙ not_found files name (λ k d below. none (suc k) d (omega (arith, below)))

pub found_at : (files : List Pair) (name : List ℕ) (i : ℕ) → i < length files → HoldsAt (λ (f : Pair). string_bytes f.0 ≡ name) files i
    → ((k : ℕ) (d : Pair) → k < i → string_bytes (get_or files k d).0 ≡ name → ⊥) → (x : Pair)
    → find name (folder_entries files) ≡ Some (blob_of (get_or files i x).1)
found_at files name i below at first x =
    found_first (λ (fs : List Pair). find name (folder_entries fs)) (λ (p : Pair). bytes_eq name (string_bytes p.0))
    (λ (p : Pair). Some (blob_of p.1)) None refl (λ p fs. refl)
    files i x below (λ k before. apart_of name _ (first k x before)) ((bytes_eq-Decides name _).1 (sym (at x)))

pub set_placed : (files : List Pair) (name : List ℕ) (i : ℕ) → i < length files → HoldsAt (λ (f : Pair). string_bytes f.0 ≡ name) files i
    → ((k : ℕ) (d : Pair) → k < i → string_bytes (get_or files k d).0 ≡ name → ⊥) → (q : Pair) → string_bytes q.0 ≡ name
    → folder_entries (slice_set files i q) ≡ placed name (blob_of q.1) (folder_entries files)
set_placed [] name i below at first q named = absurd (omega (arith, below))
set_placed (p ∷ files) name zero below at first q named = rw ((bytes_eq-Decides name (string_bytes p.0)).1 (sym (at p)), named) refl
set_placed (p ∷ files) name (suc i) below at first q named =
    rw (apart_of name (string_bytes p.0) (first 0 p (omega arith)))
    (ap (λ (es : List DirEntry). folder_entry p ∷ es) (set_placed files name i (omega (arith, below)) at
    (λ k d before. first (suc k) d (omega (arith, before))) q named))

pub push_placed : (files : List Pair) (q : Pair) → find (string_bytes q.0) (folder_entries files) ≡ None
    → folder_entries (files ++ q ∷ []) ≡ placed (string_bytes q.0) (blob_of q.1) (folder_entries files)
push_placed files q none = map-append folder_entry files (q ∷ [])
    ∙ sym (placed_new (string_bytes q.0) (blob_of q.1) (folder_entries files) none)

-- the names stay distinct, whatever `place` answered
pub place_distinct : {T E : Type 0} (r : Result T E) (old new : List Pair) (name : List ℕ) (b : Blob)
    → OnOk r (folder_entries new ≡ placed name b (folder_entries old)) → OnErr r (new ≡ old)
    → AreDistinct (names_in (folder_entries old)) → AreDistinct (names_in (folder_entries new))
place_distinct (Ok x) old new name b ok err h = rw ok (placed_distinct name b (folder_entries old) h)
place_distinct (Err e) old new name b ok err h = rw err h

-- the file that a look into the folder found
pub found_in : (name : List ℕ) (o : Option Blob) (seen files : List Pair) (was now : Directory) → o ≡ find name (folder_entries seen)
    → seen ≡ files → was ≡ now → was.entries ≡ folder_entries files → find name now.entries ≡ o
found_in name o seen files was now found e view same =
    ap (λ (d : Directory). find name d.entries) (sym view) ∙ ap (find name) (same ∙ ap folder_entries (sym e)) ∙ sym found

-- what `change` did is what the calls promise
pub change_alters : (Done Part : Blob → Blob → Type 0) (old new : Directory) (name : List ℕ) (b file : Blob)
    (r : Result (Unit {0}) StoreFault) → find name old.entries ≡ Some b
    → Done b file → OnOk r (new ≡ with_blob old name file) → OnErr r (new ≡ old) → AltersInPart Done Part old name r new
change_alters Done Part old new name b file (Ok done) at is ok err = (b, file, at, is, ok)
change_alters Done Part old new name b file (Err e) at is ok err = inl err

-- ---- what is left of a folder in memory after a loss of power

-- one more zero
zeros_push : (zeros : List ℕ) → ((k : ℕ) → slice_index zeros k ≡ 0) → (k : ℕ) → slice_index (zeros ++ 0 ∷ []) k ≡ 0
zeros_push [] h zero = refl
zeros_push [] h (suc k) = refl
zeros_push (z ∷ zeros) h zero = h zero
zeros_push (z ∷ zeros) h (suc k) = zeros_push zeros (λ j. h (suc j)) k

pub zeroed_next : (content bytes new : List ℕ) (len : ℕ) → IsZeroed content len bytes → length bytes < length content
    → new ≡ bytes ++ 0 ∷ [] → IsZeroed content len new
zeroed_next content bytes new len (zeros, is, all, le) room e = (
  zeros ++ 0 ∷ [],
  e ∙ ap (λ (xs : List ℕ). xs ++ 0 ∷ []) is ∙ append_assoc (take len content) zeros (0 ∷ []),
  zeros_push zeros all,
  subst (λ (xs : List ℕ). length xs ≤ length content) (sym e) (omega (arith, room, length-append bytes (0 ∷ []))),
)

-- the same, with zeros in the place of the others
pub zeroed_left : (b : Blob) (n : ℕ) (left : List ℕ) → b.uncut ≤ n → IsZeroed b.content n left → IsLeft b left
zeroed_left b n left enough (zeros, is, all, le) = subst (λ (xs : List ℕ). IsLeft b xs) (sym is) (inr (inr (record {
  behind = drop b.uncut (take n b.content) ++ zeros;
  kept =
      ap (λ (xs : List ℕ). xs ++ zeros) (sym (take-append-drop b.uncut (take n b.content))
      ∙ ap (λ (xs : List ℕ). xs ++ drop b.uncut (take n b.content)) (take-take b.uncut n b.content enough))
      ∙ append_assoc (take b.uncut b.content) (drop b.uncut (take n b.content)) zeros;
  most = inl short;
  each = λ i from inside. ⊎_elim (λ before. inl (
    omega (arith, inside, short),
    get_or_append_left (take n b.content) zeros 0 i before
        ∙ get_or-take n b.content i 0 (omega (arith, before, length-take n b.content)),
  )) (λ after. inr (inr (omega (arith, inside, short), λ j later within page. zero_at j (omega (arith, after, later)))))
      (cases_lt i (length (take n b.content)));
})))
  where
    short : length (take n b.content ++ zeros) ≤ length b.content
    short = subst (λ (xs : List ℕ). length xs ≤ length b.content) is le

    zero_at : (j : ℕ) → length (take n b.content) ≤ j → slice_index (take n b.content ++ zeros) j ≡ 0
    zero_at j after = get_or-append_right (take n b.content) zeros (length (take n b.content)) j 0 refl after
        ∙ all (j - length (take n b.content))

-- the first bytes of a file, with all that was flushed and not cut off since
pub flushed_front_left : (b : Blob) (n : ℕ) → b.uncut ≤ n → IsLeft b (take n b.content)
flushed_front_left b n enough = zeroed_left b n (take n b.content) enough
    ([], sym (append-nil (take n b.content)), λ k. refl, omega (arith, length-take n b.content))

abbrev pub Before : Type 0
Before = String Global × Option MemoryBlob

-- a change of the name is at a place
pub was_once : (older : List Before) (name : List ℕ) (i : ℕ) → i < length older → HoldsAt (λ (o : Before). string_bytes o.0 ≡ name) older i
    → (d : Before) (left : Option (List ℕ)) → IsLeftOf (option_map blob_of (get_or older i d).1) left
    → WasOnce (map older_of older) name left
was_once [] name i inside at d left h = absurd (omega (arith, inside))
was_once (o ∷ older) name zero inside at d left h = inl (at o, h)
was_once (o ∷ older) name (suc i) inside at d left h = inr (was_once older name i (omega (arith, inside)) at d left h)

-- ---- the files, one by one

-- the next file, as it is left
pub survives_next : (older : List Older) (es left : List DirEntry) (e : DirEntry) (text : Option (List ℕ))
    → Survive older es left → MayBeOf older e text → Survive older (es ++ e ∷ []) (left ++ left_under e.name text)
survives_next older [] left e None is may = inl (may, append-nil left ∙ is)
survives_next older [] left e (Some bytes) is may =
    inr (bytes, [], ap (λ (xs : List DirEntry). xs ++ entry e.name (secured bytes) ∷ []) is, may, refl)
survives_next older (x ∷ es) left e text (inl (gone, rest)) may = inl (gone, survives_next older es left e text rest may)
survives_next older (x ∷ es) left e text (inr (bytes, rest, is, kept, more)) may =
    inr (
      bytes,
      rest ++ left_under e.name text,
      ap (λ (xs : List DirEntry). xs ++ left_under e.name text) is,
      kept,
      survives_next older es rest e text more may,
    )

-- a name that led to no file leads to none
survives_none : (older : List Older) (es left : List DirEntry) (name : List ℕ) → Survive older es left
    → find name es ≡ None → find name left ≡ None
survives_none older [] left name is none = ap (find name) is
survives_none older (e ∷ es) left name (inl (gone, rest)) none = survives_none older es left name rest (not_here name e es none).1
survives_none older (e ∷ es) left name (inr (bytes, rest, is, may, more)) none =
    let n = not_here name e es none in
    rw is (find_later name (entry e.name (secured bytes)) rest n.0 ∙ survives_none older es rest name more n.1)

-- what is left under a name
abbrev Stays : List Older → List DirEntry → List DirEntry → List ℕ → Type 0
Stays older es left name =
    (text : Option (List ℕ)) × (find name left ≡ option_map secured text) × (IsLeftOf (find name es) text ⊎ WasOnce older name text)

distinct_head : (x : List ℕ) (xs : List (List ℕ)) → AreDistinct (x ∷ xs) → Contains xs x → ⊥
distinct_head x xs distinct h = let fits : h.0 < length xs = h.1 in distinct 0 (suc h.0) x (omega arith) (omega arith) (sym h.2)

distinct_tail : (x : List ℕ) (xs : List (List ℕ)) → AreDistinct (x ∷ xs) → AreDistinct xs
distinct_tail x xs distinct = λ i j d less fits. distinct (suc i) (suc j) d (omega (arith, less)) (omega (arith, fits))

distinct_cons : (x : List ℕ) (xs : List (List ℕ)) → (Contains xs x → ⊥) → AreDistinct xs → AreDistinct (x ∷ xs)
distinct_cons x xs absent distinct =
    AllPairs-cons (λ a b. a ≢ b) x xs (λ k d fits e. absent (subst (λ y. Contains xs y) (sym e) (Contains-get_or xs k d fits))) distinct

survives_find : (older : List Older) (es left : List DirEntry) (name : List ℕ) → AreDistinct (names_in es)
    → Survive older es left → Stays older es left name
survives_find older [] left name distinct is = (None, ap (find name) is, inl tt)
survives_find older (e ∷ es) left name distinct (inl (gone, rest)) = elim (cases_Bool (bytes_eq name e.name)) [
  | inl same ↦
      let titled : e.name ≡ name = sym ((bytes_eq-Decides name e.name).0 same) in
      let none : find name es ≡ None = leads_nowhere name es (rw titled at (distinct_head e.name (names_in es) distinct)) in
      (None, survives_none older es left name rest none, rw (find_here name e es same, ← titled) gone)
  | inr apart ↦
      let later = survives_find older es left name (distinct_tail e.name (names_in es) distinct) rest in
      (later.0, later.1, rw (find_later name e es apart) later.2)
]
survives_find older (e ∷ es) left name distinct (inr (bytes, rest, is, may, more)) = elim (cases_Bool (bytes_eq name e.name)) [
  | inl same ↦
      let titled : e.name ≡ name = sym ((bytes_eq-Decides name e.name).0 same) in
      (Some bytes, rw is (find_here name (entry e.name (secured bytes)) rest same), rw (find_here name e es same, ← titled) may)
  | inr apart ↦
      let later = survives_find older es rest name (distinct_tail e.name (names_in es) distinct) more in
      (later.0, rw is (find_later name (entry e.name (secured bytes)) rest apart ∙ later.1), rw (find_later name e es apart) later.2)
]

-- the names that are left are distinct
-- a name that is there leads to a file
found : (name : List ℕ) (es : List DirEntry) → find name es ≡ None → Contains (names_in es) name → ⊥
found name [] none c = absurd (omega (arith, c.1))
found name (e ∷ es) none c = let n = not_here name e es none in not_ahead name e.name (names_in es) (found name es n.1) n.0 c.0 c.1 c.2

pub survives_names : (older : List Older) (es left : List DirEntry) → Survive older es left → AreDistinct (names_in es)
    → AreDistinct (names_in left)
survives_names older [] left is distinct = rw is distinct
survives_names older (e ∷ es) left (inl (gone, rest)) distinct =
    survives_names older es left rest (distinct_tail e.name (names_in es) distinct)
survives_names older (e ∷ es) left (inr (bytes, rest, is, may, more)) distinct =
    let gone : find e.name rest ≡ None =
    survives_none older es rest e.name more (leads_nowhere e.name es (distinct_head e.name (names_in es) distinct)) in
    rw is (distinct_cons e.name (names_in rest) (found e.name rest gone)
    (survives_names older es rest more (distinct_tail e.name (names_in es) distinct)))

abbrev pub memory_in : List Pair → List Before → Directory
memory_in files older = record { can_make = true; entries = folder_entries files; older = map older_of older }

-- the folder of what is left
pub memory_loses : (files left : List Pair) (was now : List Before) → AreDistinct (names_in (folder_entries files))
    → Survive (map older_of was) (folder_entries files) (folder_entries left) → now ≡ [] → Loses (memory_in files was) (memory_in left now)
memory_loses files left was now distinct h e =
    let found : (name : List ℕ) → Stays (map older_of was) (folder_entries files) (folder_entries left) name = λ name.
    survives_find (map older_of was) (folder_entries files) (folder_entries left) name distinct h in rw e (record {
      can_make = refl;
      each = λ name.
          let s = found name in
          let d = memory_in files was in
          rw (s.1, seen_all s.0) (⊎_elim (may_be_now d name s.0) (may_be_older d name s.0) s.2);
      durable = λ name. let s = found name in record { named = refl; flushed = rw s.1 (flushed_all s.0) };
    })
