-- A file in a folder: what the calls of the folder do to what of it is durable, and what a loss of power leaves.
use Rattle.std.proofs.{
  Common.{◌≡◌, ℕ, refl, arith, List, [], ◌∷◌, ◌++◌, take, drop, cond, sym, ap, subst, ◌∙◌, Bool, true, false, Option, Some, None, bytes_eq},
  Common.{option_map, if◌then◌else◌, Result, Ok, Err, inl, inr, ⊎_elim, append_assoc, append-nil, take-append-drop, ◌⊎◌},
  lemmas.{Slice.Eq.bytes_eq-Decides, Option.same_Some, Bool.{cases_Bool, cond-true, cond-false, cond_both}},
}
use Rattle.mail_store.{
  specs.{declared.fault.StoreFault.StoreFault, Durable.{Blob, Disk, IsLeftOf, IsLeftOfOne, MayLeave, all_durable, content_in, secured}},
  specs.DiskCalls.{all_flushed, appended, cut, flushed, doubted, MayBeFlushed, FlushesBoth, Becomes, BecomesInPart, IsAppended},
  specs.DiskCalls.{IsPartAppended, AppendsDisk, ReplacesDisk},
  proofs.{DiskLemmas.{becomes_settled, disk_of, may_arrive}, DurableLemmas.{flushed_all, seen_all}},
}
use Rattle.folder_store.specs.{
  FileFolder.{Directory, DirEntry, MadeFile, Older, entry, find, placed, put_in, with_blob, content_at, names_flushed, Alters, FlushesFile},
  FileFolder.{FlushesNames, PutsFile},
  PowerLoss.{left_under, WasOnce, MayBe, disk_at, older_at, PowerLeaves},
}

-- a name leads to the first file that has it
pub find_here : (name : List ℕ) (e : DirEntry) (es : List DirEntry) → bytes_eq name e.name ≡ true → find name (e ∷ es) ≡ Some e.blob
find_here name e es = cond-true (bytes_eq name e.name) (Some e.blob) (find name es)

pub find_later : (name : List ℕ) (e : DirEntry) (es : List DirEntry) → bytes_eq name e.name ≡ false → find name (e ∷ es) ≡ find name es
find_later name e es = cond-false (bytes_eq name e.name) (Some e.blob) (find name es)

-- the name leads to what was put there
pub find_placed : (name : List ℕ) (b : Blob) (es : List DirEntry) → find name (placed name b es) ≡ Some b
find_placed name b [] = ap (λ (v : Bool). cond v (Some b) None) ((bytes_eq-Decides name name).1 refl)
find_placed name b (e ∷ es) = cond_both (bytes_eq name e.name) _ _ (λ (xs : List DirEntry). find name xs ≡ Some b)
    (λ _. find_here name (entry name b) es ((bytes_eq-Decides name name).1 refl))
    (λ apart. find_later name e (placed name b es) apart ∙ find_placed name b es)

-- what is durable of a file with other bytes
disk_changed : (old new : Directory) (name : List ℕ) (b : Blob) → new ≡ with_blob old name b
    → disk_at new name ≡ record (disk_at old name) { now = Some b }
disk_changed old new name b e = rw e (ap (λ (o : Option Blob). record (disk_at old name) { now = o }) (find_placed name b old.entries))

becomes : {R S : Blob → Blob → Type 0} → ((b c : Blob) → R b c → S b c) → (old new : Directory) (name : List ℕ)
    → Alters R old name new → Becomes S (disk_at old name) (disk_at new name)
becomes will old new name (b, c, at, is, e) = (b, c, at, will b c is, disk_changed old new name c e)

-- `append_flushed` and `cut_flushed`: the first call was refused, or the file was changed and then flushed
pub refused_becomes : {Part Will : Blob → Blob → Type 0} → ((b c : Blob) → Part b c → Will b c) → (old new : Directory) (name : List ℕ)
    → (new ≡ old) ⊎ Alters Part old name new → (disk_at new name ≡ disk_at old name) ⊎ Becomes Will (disk_at old name) (disk_at new name)
refused_becomes will old new name (inl same) = inl (ap (λ (d : Directory). disk_at d name) same)
refused_becomes will old new name (inr is) = inr (becomes will old new name is)

pub flushed_becomes : (f : Blob → Blob) (Will : Blob → Blob → Type 0) → ((b c : Blob) → MayBeFlushed (f b) c → Will b c)
    → (old mid new : Directory) (name : List ℕ)
    → (r : Result (Unit {0}) StoreFault) → Alters (λ b c. c ≡ f b) old name mid → FlushesFile mid name r new
    → BecomesInPart (λ b c. c ≡ flushed (f b)) Will (disk_at old name) r (disk_at new name)
flushed_becomes f Will will old mid new name r (b, c, at, is, e) flush = by r flush
  where
    changed_to : disk_at mid name ≡ record (disk_at old name) { now = Some c }
    changed_to = disk_changed old mid name c e

    mid_is : (x : Blob) → find name mid.entries ≡ Some x → x ≡ f b
    mid_is x found = same_Some x c (sym found ∙ ap (λ (d : Disk). d.now) changed_to) ∙ is

    later : (y : Blob) → new ≡ with_blob mid name y → disk_at new name ≡ record (disk_at old name) { now = Some y }
    later y k = disk_changed mid new name y k ∙ ap (λ (d : Disk). record d { now = Some y }) changed_to

    by : (r : Result (Unit {0}) StoreFault) → FlushesFile mid name r new
        → BecomesInPart (λ b c. c ≡ flushed (f b)) Will (disk_at old name) r (disk_at new name)
    by (Ok done) (x, y, found, flush, k) = (b, y, at, flush ∙ ap flushed (mid_is x found), later y k)
    by (Err fault) (inl same) = inr (b, c, at, will b c (inl is), ap (λ (d : Directory). disk_at d name) same ∙ changed_to)
    by (Err fault) (inr (x, y, found, flush, k)) =
        inr (b, y, at, will b y (inr (subst (λ (z : Blob). (y ≡ flushed z) ⊎ (y ≡ doubted z)) (mid_is x found) flush)), later y k)

-- `append_blocks`: the pieces one after another
appended_twice : (b : Blob) (xs ys : List ℕ) → flushed (appended (flushed (appended b xs)) ys) ≡ flushed (appended b (xs ++ ys))
appended_twice b xs ys = grind (arith, append_assoc b.content xs ys)

pub appended_nothing : (b : Blob) → appended b [] ≡ b
appended_nothing b = ap (λ (zs : List ℕ). record b { content = zs }) (append-nil b.content)

-- a later piece was refused, and the file has a front of it
pub later_refused : (old mid new : Disk) (bytes done piece more : List ℕ) (fault : StoreFault) (all : List ℕ)
    → bytes ≡ done ++ all → all ≡ piece ++ more → Becomes (IsAppended done) old mid → AppendsDisk {T = Unit {0}} mid piece (Err fault) new
    → AppendsDisk {T = Unit {0}} old bytes (Err fault) new
later_refused old mid new bytes done piece more fault all parts split (b, c, at, is, e) (inl same) =
    let part : IsPartAppended done [] b c = record { so_far = c; is_flushed = inr is; is = inl (sym (appended_nothing c)) } in
    inr (b, c, at, (done, [], all, parts, part), same ∙ e)
later_refused old mid new bytes done piece more fault all parts split (b, c, at, is, e)
    (inr (x, y, found, (first, front, rest, which, part), k)) =
    let same : x ≡ flushed (appended b done) = same_Some x c (sym found ∙ ap (λ (d : Disk). d.now) e) ∙ is in
    let so_far : part.so_far ≡ flushed (appended b (done ++ first)) = ⊎_elim (λ none. none.1 ∙ same ∙ rw (none.0, append-nil done) refl)
    (λ e. e ∙ rw same (appended_twice b done first)) part.is_flushed in
    let all_so_far : IsPartAppended (done ++ first) front b y = record { so_far = part.so_far; is_flushed = inr so_far; is = part.is } in
    inr (
      b,
      y,
      at,
      (done ++ first, front, rest ++ more, rw (parts, split, which) (simp append_assoc), all_so_far),
      k ∙ ap (λ (d : Disk). record d { now = Some y }) e,
    )

pub later_done : (old mid new : Disk) (done piece : List ℕ) → Becomes (IsAppended done) old mid
    → AppendsDisk {T = Unit {0}} mid piece (Ok tt) new → Becomes (IsAppended (done ++ piece)) old new
later_done old mid new done piece (b, c, at, is, e) (x, y, found, flush, k) =
    let same : x ≡ flushed (appended b done) = same_Some x c (sym found ∙ ap (λ (d : Disk). d.now) e) ∙ is in
    (b, y, at, rw (flush, same) (appended_twice b done piece), k ∙ ap (λ (d : Disk). record d { now = Some y }) e)

-- what is durable under a name that leads to another file, before the names are flushed
older_put : (name : List ℕ) (was : Option Blob) (older : List Older)
    → older_at name (record { name = name; was = was } ∷ older) ≡ was ∷ older_at name older
older_put name was older = cond-true (bytes_eq name name) (was ∷ older_at name older) (older_at name older)
    ((bytes_eq-Decides name name).1 refl)

-- the name leads to a file of these bytes, which was flushed
abbrev PutAt : Directory → List ℕ → List ℕ → Directory → Type 0
PutAt old name bytes new = disk_at new name ≡ disk_of (Some (secured bytes)) (find name old.entries ∷ older_at name old.older)

put_at : (old new : Directory) (name bytes : List ℕ) (file : MadeFile) → file ≡ record { content = bytes; is_flushed = true }
    → new ≡ put_in old file name → PutAt old name bytes new
put_at old new name bytes file filled e = rw (e, filled) (
    ap (λ (o : Option Blob). disk_of o (older_at name (record { name = name; was = find name old.entries } ∷ old.older)))
    (find_placed name (secured bytes) old.entries) ∙ ap (disk_of (Some (secured bytes))) (older_put name (find name old.entries) old.older))

pub not_replaced : (Sound : Type 0) (old new : Directory) (name bytes : List ℕ) (file : MadeFile) (fault x : StoreFault)
    → (Sound → file ≡ record { content = bytes; is_flushed = true }) → PutsFile {T = Unit {0}} Sound old file name (Err fault) new
    → ReplacesDisk {T = Unit {0}} (disk_at old name) bytes (Err x) (disk_at new name)
not_replaced Sound old new name bytes file fault x filled (inl same) = inl (ap (λ (d : Directory). disk_at d name) same)
not_replaced Sound old new name bytes file fault x filled (inr put) = inr (inl (put_at old new name bytes file (filled put.0) put.1))

pub replaced : (old mid new : Directory) (name bytes : List ℕ) (file : MadeFile) (r : Result Bool StoreFault)
    → file ≡ record { content = bytes; is_flushed = true } → mid ≡ put_in old file name → FlushesNames mid r new
    → ReplacesDisk (disk_at old name) bytes r (disk_at new name)
replaced old mid new name bytes file r filled put flush = by r flush
  where
    is_put : PutAt old name bytes mid
    is_put = put_at old mid name bytes file filled put

    named : new ≡ names_flushed mid → disk_at new name ≡ all_durable (Some bytes)
    named e = rw e (ap (λ (d : Disk). record d { older = [] }) is_put)

    by : (r : Result Bool StoreFault) → FlushesNames mid r new → ReplacesDisk (disk_at old name) bytes r (disk_at new name)
    by (Ok done) (answer, e) = named e
    by (Err fault) (inl same) = inr (inl (ap (λ (d : Directory). disk_at d name) same ∙ is_put))
    by (Err fault) (inr e) = inr (inr (named e))

-- a text in two parts
pub in_parts : (xs front back : List ℕ) (n : ℕ) → front ≡ take n xs → back ≡ drop n xs → xs ≡ front ++ back
in_parts xs front back n f b = rw (f, b) (sym (take-append-drop n xs))

-- ---- a flush of a file and of the names

disk_became : (f : Blob → Blob) (old new : Directory) (name : List ℕ) (b c : Blob) → find name old.entries ≡ Some b
    → c ≡ f b → new ≡ with_blob old name c → disk_at new name ≡ record (disk_at old name) { now = option_map f (find name old.entries) }
disk_became f old new name b c at is e =
    disk_changed old new name c e ∙ ap (λ (o : Option Blob). record (disk_at old name) { now = o }) (ap Some is
    ∙ sym (ap (option_map f) at))

pub both_refused : (old new : Directory) (name : List ℕ) (fault : StoreFault) → FlushesFile {T = Unit {0}} old name (Err fault) new
    → FlushesBoth {T = Unit {0}} (disk_at old name) (Err fault) (disk_at new name)
both_refused old new name fault (inl e) = inl (ap (λ (d : Directory). disk_at d name) e)
both_refused old new name fault (inr (b, c, at, inl is, e)) = inr (inl (disk_became flushed old new name b c at is e))
both_refused old new name fault (inr (b, c, at, inr is, e)) = inr (inr (inl (disk_became doubted old new name b c at is e)))

pub both_flushed : (old mid new : Directory) (name : List ℕ) (r : Result Bool StoreFault)
    → FlushesFile {T = Unit {0}} old name (Ok tt) mid → FlushesNames mid r new → FlushesBoth (disk_at old name) r (disk_at new name)
both_flushed old mid new name r (b, c, at, is, e) names = by r names
  where
    file_is : disk_at mid name ≡ record (disk_at old name) { now = option_map flushed (find name old.entries) }
    file_is = disk_became flushed old mid name b c at is e

    all_is : (d : Directory) → d ≡ names_flushed mid
        → disk_at d name ≡ record { now = option_map flushed (find name old.entries); older = [] }
    all_is d same = rw same (ap (λ (disk : Disk). record disk { older = [] }) file_is)

    by : (r : Result Bool StoreFault) → FlushesNames mid r new → FlushesBoth (disk_at old name) r (disk_at new name)
    by (Ok done) (answer, same) = all_is new same
    by (Err fault) (inl same) = inr (inl (ap (λ (d : Directory). disk_at d name) same ∙ file_is))
    by (Err fault) (inr same) = inr (inr (inr (all_is new same)))

-- ---- once another flush would change nothing

pub append_settled : (old new : Disk) (bytes : List ℕ) → Becomes (IsAppended bytes) old new → all_flushed old ≡ old → all_flushed new ≡ new
append_settled old new bytes appends settled = becomes_settled (λ b. appended b bytes) old new appends settled

pub cut_settled : (old new : Disk) (len : ℕ) → Becomes (λ b c. c ≡ flushed (cut b len)) old new → all_flushed old ≡ old
    → all_flushed new ≡ new
cut_settled old new len cuts settled = becomes_settled (λ b. cut b len) old new cuts settled

-- ---- what a loss of power leaves of the file of a name

-- what a name led to, by itself and among other names
once_here : (name : List ℕ) (older : List Older) (left : Option (List ℕ)) → WasOnce older name left → IsLeftOfOne (older_at name older) left
once_here name [] left was = was
once_here name (o ∷ older) left (inl (same, now)) = rw ((bytes_eq-Decides o.name name).1 same) (inl now)
once_here name (o ∷ older) left (inr was) = elim (cases_Bool (bytes_eq o.name name)) [
  | inl same ↦ rw same (inr (once_here name older left was))
  | inr apart ↦ rw apart (once_here name older left was)
]

pub may_be_now : (d : Directory) (name : List ℕ) (left : Option (List ℕ)) → IsLeftOf (find name d.entries) left → MayBe d name left
unfolding MayLeave
may_be_now d name left now = inl now

pub may_be_older : (d : Directory) (name : List ℕ) (left : Option (List ℕ)) → WasOnce d.older name left → MayBe d name left
unfolding MayLeave
may_be_older d name left was = inr (once_here name d.older left was)

-- the folder once everything is durable, and under one name is what is to be left there
abbrev others : List ℕ → List DirEntry → List DirEntry
others name [] = []
others name (e ∷ es) = if bytes_eq name e.name then others name es else entry e.name (secured e.blob.content) ∷ others name es

abbrev entries_left : List ℕ → Option (List ℕ) → List DirEntry → List DirEntry
entries_left name left es = left_under name left ++ others name es

-- what is left under each name
abbrev left_at : List ℕ → Option (List ℕ) → List DirEntry → List ℕ → Option (List ℕ)
left_at name left es other = if bytes_eq other name then left else option_map content_in (find other es)

find_others : (name other : List ℕ) (es : List DirEntry) → find other (others name es) ≡ option_map secured (left_at name None es other)
find_others name other [] = grind arith
find_others name other (e ∷ es) =
    let rest = find_others name other es in
    let one = (bytes_eq-Decides name e.name).0 in
    let two = (bytes_eq-Decides other e.name).0 in
    let three = bytes_eq-Decides other name in
    grind (arith, rest, one, two, three)

find_left : (name other : List ℕ) (left : Option (List ℕ)) (es : List DirEntry)
    → find other (entries_left name left es) ≡ option_map secured (left_at name left es other)
find_left name other None es = find_others name other es
find_left name other (Some bytes) es = let rest = find_others name other es in grind (arith, rest)

pub power_leaves : PowerLeaves
power_leaves old name left = (
  λ may. (
    record old { entries = entries_left name left old.entries; older = [] },
    record {
      can_make = refl;
      each = λ n. rw (find_left name n left old.entries, seen_all (left_at name left old.entries n))
          (cond_both (bytes_eq n name) left (content_at old n) (λ (o : Option (List ℕ)). MayBe old n o)
          (λ same. rw ((bytes_eq-Decides n name).0 same) may) (λ _. may_be_now old n (content_at old n) (may_arrive (find n old.entries))));
      durable = λ n. record {
        named = refl;
        flushed = rw (find_left name n left old.entries) (flushed_all (left_at name left old.entries n));
      };
    },
    ap (option_map content_in) (find_left name name left old.entries) ∙ seen_all (left_at name left old.entries name)
        ∙ cond-true (bytes_eq name name) left (content_at old name) ((bytes_eq-Decides name name).1 refl),
  ),
  λ after. subst (λ (o : Option (List ℕ)). MayBe old name o) after.2 (after.1.each name),
)
