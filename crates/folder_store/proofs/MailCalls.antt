-- What telling the names of the folders, and writing and settling a file, does to the Maildir of the folders.
use Rattle.std.{
  proofs.Common.{◌≡◌, ◌+◌, inl, inr, ⊎_elim, ℕ, List, [], ◌∷◌, refl, subst, arith, ◌⊎◌, true, sym, ap, ◌∙◌, Bool, false, not, ◌++◌, map},
  proofs.Common.{get_or, Contains, Option, Result, Ok, Err, IsErrAnd, IsPermutation, IsTrue, IfErr, IfOk, String, Global, Vec, filter},
  proofs.Common.{string_bytes, if◌then◌else◌, suc, Some, append_assoc, append-nil, None, is_some, IfSome, true≢false},
  proofs.Math.Bool.{or-false, or-true},
  proofs.lemmas.{Bool.{cases_Bool, cond_both, or_left, or_right}, Simd.map-map, Option.same_Some},
  proofs.lemmas.List.{Elements.{All-filter, recursion_from_All, All-weaker, filter-append, filter_passes}},
  proofs.lemmas.List.{map-append, get_or-map, length-map},
  proofs.lemmas.List.Sorted.{Contains-permutation, IsPermutation-append, IsPermutation-sym, IsPermutation-map, IsPermutation-trans},
  proofs.lemmas.List.Sorted.IsPermutation-filter_both,
  specs.List.{AllZip, filter},
}
use Rattle.mail_store.{
  specs.Maildir.{AfterFlushing, AfterTaking, AreTheirs, Checks, Draft, File, Folders, IsWithout, Lists, Maildir, MayBeNamed, MayHave, mail},
  specs.Maildir.{bases_told, maildir_refused, draft, dropped, is_there, names_of},
  specs.{Held.{AreAmong, ListsAmong, asks, is_sought}, Loss.{Flushes, with_flushed, flushed_by}, Fault.{IsDeviceFault, is_refusal}},
  specs.declared.{maildir.disk.Folder.{Folder, TheVariants.{New, Cur}}, fault.StoreFault.{StoreFault, TheVariants.{Missing, Refused}}},
  specs.declared.maildir.disk.Asked.Asked,
  proofs.MaildirLemmas.{named_same, reached_same, reaches_same, without_more, without_on, sought_bases, stem_base},
}
use Rattle.mail_terms.{specs.{MaildirName.base, FailureCount.refuses, UniqueId.has_id}, proofs.{ErrLemmas.is_err, ListLemmas.all_append}}
use Rattle.folder_store.{
  specs.MailFolders.{KeepsFile, MailFile, Directories, files_at, is_left, is_taken, mail_at, MovesFile, Moved, touches, touches_new, is_in},
  specs.MailFolders.{RestsFile, touches_cur, name_at, entries_in, draft_begun, maildir_in, odd_in_both, rests_in},
  specs.{FileFolder.MadeFile, declared.mail_folders.{FoundNames.FoundNames, Sought.{Sought, TheVariants.{All, Items}}}},
  specs.MailCalls.{BringsFiles, ChecksIn, FlushesFiles, FlushesNamesIn, IfMissing, Lacks, LacksOne, Leads, Learns, ListedBoth},
  specs.MailCalls.{ListsIn, MakesDraft, PutsDraft, PutsDurably, PutsIntoNew, SameFiles, StandsIn, TellsOfBoth, TellsFiles, TellsOne, Then},
  specs.MailCalls.{AllSought, TellsRest, ToldBoth, entry_flushed_by, after_listing, file_names, named_by},
  specs.MailCalls.{names_flushed_in, put_as, without_taken},
  proofs.MailMoves.{SomeIs, both_named, each_by, files_moved, files_reached, flush_keeps, leads_same, mapped_leads, moved_same, rests_new},
  proofs.MailMoves.{moved_leads, moved_maildir, moved_rests, same_rests_at, some_after, some_map, there_some},
}

-- ---- what is known of the folders once files that readers took away are known no longer

pub left_twice : (ss : List MailFile) → filter is_left (filter is_left ss) ≡ filter is_left ss
left_twice [] = refl
left_twice (s ∷ ss) = cond_both (is_left s) (s ∷ filter is_left ss) (filter is_left ss) (λ (ts : List MailFile). filter is_left ts ≡ ts)
    (λ here. rw here (ap (λ (ts : List MailFile). s ∷ ts) (left_twice ss))) (λ _. left_twice ss)

pub listed_is : (folder : Folder) (seen a : Directories)
    → ((after_listing folder seen a).entries ≡ filter is_left a.entries) × ((after_listing folder seen a).there ≡ a.there)
    × ((after_listing folder seen a).taken ≡ (without_taken a).taken)
listed_is New seen a = (refl, refl, refl)
listed_is Cur seen a = (refl, refl, refl)

-- what is left once those that readers took away were taken from the others
left_without : (ss : List MailFile) → IsWithout (files_at ss) (files_at (filter is_taken ss)) (files_at (filter is_left ss))
left_without [] = tt
left_without (s ∷ ss) = ⊎_elim (λ gone. rw gone ([], files_at ss, reached_same (files_at (s ∷ ss)), left_without ss))
    (λ here. rw here (without_more _ _ _ (mail_at s) (mail_at s) (reaches_same (mail_at s)) (left_without ss))) (cases_Bool s.is_gone)

-- only folders that are there are listed
seen_there : (folder : Folder) (seen a : Directories) → is_there a.there folder ≡ true → a.there.new ≡ false → a.there.cur ≡ false
    → odd_in_both (after_listing folder seen a) ≡ odd_in_both a
seen_there New seen a there new cur = absurd (true≢false (sym there ∙ new))
seen_there Cur seen a there new cur = absurd (true≢false (sym there ∙ cur))

listed_learns : (folder : Folder) (seen a : Directories) → is_there a.there folder ≡ true → Learns a (after_listing folder seen a)
listed_learns folder seen a there =
    let is = listed_is folder seen a in record {
      there = is.1;
      gone = files_at (filter is_taken a.entries);
      odd = seen_there folder seen a there;
      taken = is.2;
      left = rw is.0 (left_without a.entries);
    }

pub leads_learns : (a b : Directories) → Leads a b → Learns a b
leads_learns a b l = record {
  there = l.there;
  gone = [];
  odd = λ new cur. l.odd;
  taken = l.taken ∙ sym (append-nil a.taken);
  left = files_reached a.entries b.entries l.keeps;
}

pub learns_on : (a b c : Directories) → Learns a b → Learns b c → Learns a c
learns_on a b c first next = record {
  there = next.there ∙ first.there;
  gone = first.gone ++ next.gone;
  odd = λ new cur. next.odd (ap (λ (f : Folders). f.new) first.there ∙ new) (ap (λ (f : Folders). f.cur) first.there ∙ cur)
      ∙ first.odd new cur;
  taken = next.taken ∙ ap (λ (fs : List File). fs ++ next.gone) first.taken ∙ append_assoc a.taken first.gone next.gone;
  left = without_on first.gone next.gone (files_at a.entries) (files_at b.entries) (files_at c.entries) first.left next.left;
}

-- one more call
pub learned : {P Q R D : Type 0} (a b c : Directories) → (Q → P × Learns a b) → (R → Q × D) → (D → Learns b c) → R → P × Learns a c
learned a b c before call each s = let t = call s in let led = before t.0 in (led.0, learns_on a b c led.1 (each t.1))

pub learns_same : (a : Directories) → Learns a a
learns_same a = leads_learns a a (leads_same a)

-- ---- each call

named_leads : (folder : Folder) (a m : Directories) → Moved a m → Leads a (names_flushed_in folder m)
named_leads folder = mapped_leads (named_by folder) (flush_keeps folder)

pub flushes_leads : (folder : Folder) (a b : Directories) (r : Result Bool StoreFault)
    → Then (FlushesNamesIn folder r) a b → Leads a b
flushes_leads folder a b (Ok done) (m, v, (answer, e)) = rw e (named_leads folder a m v)
flushes_leads folder a b (Err fault) (m, v, inl lacks) = moved_same a m b v lacks.0
flushes_leads folder a b (Err fault) (m, v, inr (refused, e)) = rw e (named_leads folder a m v)

pub lists_learns : {A B : Type 0} (folder : Folder) (sought : Sought) (a b : Directories)
    (r : Result (Vec (String A) B) StoreFault) → Then (ListsIn folder sought r) a b → Learns a b
lists_learns folder sought a b (Ok names) (m, v, (there, told, e, shows)) =
    subst (Learns a) (sym e) (learns_on a m (after_listing folder b m) (leads_learns a m (moved_leads a m v))
    (listed_learns folder b m there))
lists_learns folder sought a b (Err fault) (m, v, lacks) = leads_learns a b (moved_same a m b v lacks.0)

-- a call that told nothing of the files came after others
pub leads_after : (a b c : Directories) → Learns a b → Leads b c → Learns a c
leads_after a b c first next = learns_on a b c first (leads_learns b c next)

-- ---- no name was told

gone_since : (m b : Directories) (folder : Folder) (fault : StoreFault)
    → FlushesNamesIn folder (Err fault) m b → fault ≡ Missing → is_there b.there folder ≡ false
gone_since m b folder fault (inl lacks) missing = rw lacks.0 (lacks.1 missing)
gone_since m b folder fault (inr (refused, e)) missing = absurd cc

pub one_unflushed : (a b c : Directories) (folder : Folder) (fault : StoreFault) → Learns a b
    → Then (FlushesNamesIn folder (Err fault)) b c → TellsOne {A = Global} {B = Global} a folder (Err fault) c
one_unflushed a b c folder fault led t =
    (leads_after a b c led (flushes_leads folder b c (Err fault) t), tt, gone_since t.0 c folder fault t.2)

pub unflushed : {T P Q R : Type 0} (Is : T → Type 0) (a b c : Directories) (folder : Folder) (fault : StoreFault)
    (r : Result T StoreFault) → IsErrAnd r (λ e. e ≡ fault)
    → (Q → P × Learns a b) → (R → Q × Then (FlushesNamesIn folder (Err fault)) b c) → R
    → P × (Learns a c × IfOk r Is × IfMissing r (LacksOne c))
unflushed Is a b c folder fault r is before call s =
    let t = call s in
    let led = before t.0 in
    let told = one_unflushed a b c folder fault led.1 t.1 in
    (led.0, rw (is_err r is) (told.0, tt, λ missing. (folder, told.2 missing)))

pub lacked : {T P Q R : Type 0} (Is : T → Type 0) (a b c : Directories) (folder : Folder) (fault : StoreFault)
    (r : Result T StoreFault) → IsErrAnd r (λ e. e ≡ fault)
    → (Q → P × Learns a b) → (R → Q × Then (λ m x. Lacks m folder fault x) b c) → R
    → P × (Learns a c × IfOk r Is × IfMissing r (LacksOne c))
lacked Is a b c folder fault r is before call =
    unflushed Is a b c folder fault r is before (λ s. let (held, (mid, moved, lacks)) = call s in (held, (mid, moved, inl lacks)))

-- ---- the names of both

abbrev title : MailFile → List ℕ
title s = base s.name

-- the names of some files were told
told_part : {A : Type 0} (ss : List MailFile) (names : List (String A))
    → IsPermutation (map name_at ss) (map string_bytes names) → IsPermutation (map title ss) (bases_told names)
told_part ss names p = rw (map-map, map-map) at (IsPermutation-map base (map name_at ss) (map string_bytes names) p)

told_both : (seeks : List ℕ → Bool) (ss : List MailFile) (new cur : List (List ℕ))
    → AreAmong seeks (map name_at (entries_in New ss)) new → AreAmong seeks (map name_at (entries_in Cur ss)) cur
    → AreAmong seeks (names_of (files_at (filter is_left ss))) (map base (new ++ cur))
told_both seeks ss new cur (first, in_new, are_new) (second, in_cur, are_cur) =
    let left = filter is_left ss in
    let both = entries_in New ss ++ entries_in Cur ss in
    let all = IsPermutation-trans (map name_at left) (map name_at both) (first ++ second)
    (IsPermutation-map name_at left both (IsPermutation-filter_both (is_in New) (is_in Cur) (λ s. refl) left))
    (rw (map-append name_at (entries_in New ss) (entries_in Cur ss)) (IsPermutation-append _ _ _ _ in_new in_cur)) in
    let bases = IsPermutation-map base (map name_at left) (first ++ second) all in (
      map base (first ++ second),
      rw map-map (rw map-map at bases),
      ap (map base) (rw (are_new, are_cur) (sym (filter-append (is_sought seeks) first second))) ∙ sought_bases seeks (first ++ second),
    )

-- both lists, and `new` has rested since its own
pub both_listed : {A B : Type 0} (sought : Sought) (b0 b1 b2 b3 : Directories) (new cur : Vec (String A) B) (rests : Bool)
    → Then (ListsIn New sought (Ok new)) b0 b1 → Then (ListsIn Cur sought (Ok cur)) b1 b2
    → Then (TellsRest New (Ok rests)) b2 b3 → IsTrue rests → ListedBoth sought (new, cur) b3
both_listed sought b0 b1 b2 b3 new cur rests (m1, v1, s1) (m2, v2, s2) (m3, v3, s3) rested = (
  moment,
  (rw still.there s1.0, rw (same_new, v2.odd_new) s1.1, refl, rw (same_new, v2.odd_new) s1.3),
  (s2.0, s2.1, refl, s2.3),
  rw s3.0 others,
)
  where
    -- what can't be opened may have come to `new` and gone since
    moment : Directories
    moment = record m2 { cur_rests = true; odd_cur = b2.odd_cur; dirs_cur = b2.dirs_cur; closed_new = m1.closed_new }

    last : Moved (after_listing Cur b2 m2) m3
    last = subst (λ (d : Directories). Moved d m3) s2.2 v3

    rests_too : (folder : Folder) → rests_in folder m3 ≡ true
        → (rests_in folder (without_taken moment) ≡ true) × AllZip (RestsFile folder) (without_taken moment).entries m3.entries
    rests_too New quiet = last.rests New quiet
    rests_too Cur quiet = last.rests Cur quiet

    others : Moved (without_taken moment) m3
    others = record {
      there = last.there;
      taken = last.taken;
      odd_new = last.odd_new;
      odd_cur = last.odd_cur;
      dirs_cur = last.dirs_cur;
      moves = last.moves;
      rests = rests_too;
    }

    still : Moved (after_listing New b1 m1) m2
    still = subst (λ (d : Directories). Moved d m2) s1.2 v2

    -- `new` rested from its own listing to that of `cur`
    same_new : map name_at (entries_in New m2.entries) ≡ map name_at (entries_in New m1.entries)
    same_new = rests_new (filter is_left m1.entries) m2.entries (still.rests New (last.rests New (s3.1 rested)).0).1
        ∙ ap (λ (ss : List MailFile). map name_at (filter (is_in New) ss)) (left_twice m1.entries)

names_kept : (a b : List MailFile) → AllZip KeepsFile a b → names_of (files_at b) ≡ names_of (files_at a)
names_kept a b = each_by KeepsFile (λ a b. names_of (files_at b) ≡ names_of (files_at a)) refl
    (λ s t ss ts k same. rw (k.title, same) refl) a b

-- a flush of names tells nothing of what can't be opened
flush_odd : (folder : Folder) (done : Bool) (a b : Directories) → Then (FlushesNamesIn folder (Ok done)) a b
    → (b.odd_new ≡ a.odd_new) × (b.odd_cur ≡ a.odd_cur) × (b.dirs_cur ≡ a.dirs_cur)
flush_odd folder done a b (m, v, (answer, e)) = rw e (v.odd_new, v.odd_cur, v.dirs_cur)

-- those that were seen are sought
all_sought : (seeks : List ℕ → Bool) (files closed odd : List (List ℕ))
    → odd ≡ file_names files (filter (is_sought seeks) closed) → AllSought seeks odd
all_sought seeks files closed odd is = rw is (recursion_from_All _ _ (All-filter (λ name. not (has_id files name))
    (λ name. is_sought seeks name ≡ true) (filter (is_sought seeks) closed) (filter_passes (is_sought seeks) closed)))

-- and then the names of both folders were flushed, and it was told which are those of files
module _ {A B : Type 0} (asked : Asked) (o a b c d : Directories) (in_new in_cur : Vec (String A) B)
    (done done' : Bool) (listed : ListedBoth (Items asked) (in_new, in_cur) a) (new : Then (FlushesNamesIn New (Ok done)) a b)
    (cur : Then (FlushesNamesIn Cur (Ok done')) b c) (before : Learns o c) where
  told : (found : FoundNames) → Then (TellsFiles (map string_bytes in_new.items) (map string_bytes in_cur.items) (Ok found)) c d
      → ToldBoth (asks asked) found.files.items found.odd.items d
  told found (m, v, (e, (are, odd_are))) =
      let (l, (new_there, new_told, _, (new_odd, new_odd_told)), (cur_there, cur_told, _, (cur_odd, cur_odd_told)), since) = listed in
      let (between, _, (_, new_flushed)) = new in
      let (last, still, (_, cur_flushed)) = cur in
      let first = flushes_leads New a b (Ok done) new in
      let next = flushes_leads Cur b c (Ok done') cur in
      let there : d.there ≡ l.there = ap (λ (d : Directories). d.there) e ∙ v.there ∙ next.there ∙ first.there ∙ since.there in
      let files : files_at d.entries ≡ files_at c.entries = rw e (files_moved c.entries m.entries v.moves) in
      let same : names_of (files_at d.entries) ≡ names_of (files_at (filter is_left l.entries)) =
      ap names_of files ∙ names_kept b.entries c.entries next.keeps ∙ names_kept a.entries b.entries first.keeps
      ∙ ap names_of (files_moved (filter is_left l.entries) a.entries since.moves) in
      let by_new = flush_odd New done a b new in
      let by_cur = flush_odd Cur done' b c cur in
      let odd_new : m.odd_new ≡ l.odd_new = v.odd_new ∙ by_cur.0 ∙ by_new.0 ∙ since.odd_new in
      let odd_cur : m.odd_cur ≡ l.odd_cur = v.odd_cur ∙ by_cur.1 ∙ by_new.1 ∙ since.odd_cur in
      let dirs_cur : m.dirs_cur ≡ l.dirs_cur = v.dirs_cur ∙ by_cur.2 ∙ by_new.2 ∙ since.dirs_cur in
      let odd : odd_in_both d ≡ odd_in_both l = rw e (rw (odd_new, odd_cur) refl) in
      let both = told_both (asks asked) l.entries _ _ new_told cur_told in record {
        new_is_there = rw there new_there;
        cur_is_there = rw there cur_there;
        lists = (
          both.0,
          rw same both.1,
          sym (map-map base string_bytes found.files.items) ∙ ap (map base) (rw (odd_new, odd_cur, dirs_cur) at are) ∙ both.2,
        );
        named = rw (files, cur_flushed) (both_named between.entries last.entries (rw new_flushed at still.moves));
        odd_are = subst (λ (there : List (List ℕ)). IsPermutation there (map string_bytes found.odd.items)) (sym odd)
            (subst (IsPermutation (odd_in_both l)) (sym (rw (odd_new, odd_cur) at odd_are))
            (IsPermutation-append _ _ _ _ new_odd_told cur_odd_told));
        odd_sought = subst (AllSought (asks asked)) (sym odd) (all_append _ l.odd_new l.odd_cur
            (all_sought (asks asked) _ _ l.odd_new new_odd) (all_sought (asks asked) _ _ l.odd_cur cur_odd));
      }

  pub told_files : (r : Result FoundNames StoreFault) → IfErr r (λ fault. fault ≡ Refused)
      → Then (TellsFiles (map string_bytes in_new.items) (map string_bytes in_cur.items) r) c d
      → TellsOfBoth o r d (λ found. ToldBoth (asks asked) found.files.items found.odd.items)
  told_files (Ok found) refused (m, v, t) = (leads_after o c d before (moved_same c m d v t.0), told found (m, v, t), tt)
  told_files (Err fault) refused (m, v, t) =
      (leads_after o c d before (moved_same c m d v t.0), tt, λ missing. let is : fault ≡ Refused = refused in absurd cc)

-- ---- the names of one folder

-- a flush of the names of the folder makes a file of this base durable
abbrev Touch : Folder → List ℕ → MailFile → Type 0
Touch folder name s = (base s.name ≡ name) × (touches folder s ≡ true)

some_chosen : (Is : MailFile → Type 0) (f : MailFile → Bool) (ss : List MailFile) → SomeIs Is (filter f ss) → SomeIs Is ss
some_chosen Is f [] is = is
some_chosen Is f (s ∷ ss) is = cond_both (f s) (s ∷ filter f ss) (filter f ss) (λ (ts : List MailFile). SomeIs Is ts → SomeIs Is (s ∷ ss))
    (λ _. ⊎_elim inl (λ is. inr (some_chosen Is f ss is))) (λ _ is. inr (some_chosen Is f ss is)) is

in_touches : (folder : Folder) (s : MailFile) → is_in folder s ≡ true → touches folder s ≡ true
in_touches New s e = or_left s.is_new s.left_new e
in_touches Cur s e = or_left (not s.is_new) s.left_cur e

listed_touch : (folder : Folder) (ss : List MailFile) (name : List ℕ)
    → Contains (map title (filter (is_in folder) ss)) name → SomeIs (Touch folder name) ss
listed_touch folder ss name c =
    let f = is_in folder in
    some_chosen (Touch folder name) f ss (there_some title name (λ s. touches folder s ≡ true) (filter f ss)
    (recursion_from_All _ _ (All-weaker (λ s. f s ≡ true) _ (in_touches folder) (filter f ss) (filter_passes f ss))) c)

still_touches : (folder : Folder) (s t : MailFile) → MovesFile s t → touches folder s ≡ true → touches folder t ≡ true
still_touches New s t m e = m.new e
still_touches Cur s t m e = m.cur e

named_touch : (folder : Folder) (s : MailFile) (name : List ℕ) → base s.name ≡ name → touches folder s ≡ true
    → (base (named_by folder s).name ≡ name) × ((named_by folder s).is_named ≡ true)
named_touch New s name is e = (is, or_right s.is_named (touches_new s) e)
named_touch Cur s name is e = (is, or_right s.is_named (touches_cur s) e)

-- a file whose name is durable is among those
some_named : (ss : List MailFile) (name : List ℕ) → SomeIs (λ (s : MailFile). (base s.name ≡ name) × (s.is_named ≡ true)) ss
    → Contains (names_of (filter (λ (f : File). f.is_named) (files_at ss))) name
some_named [] name is = absurd is
some_named (s ∷ ss) name (inl is) = rw is.1 (0, omega arith, is.0)
some_named (s ∷ ss) name (inr is) =
    let c = some_named ss name is in
    cond_both s.is_named (mail_at s ∷ filter (λ (f : File). f.is_named) (files_at ss)) (filter (λ (f : File). f.is_named) (files_at ss))
    (λ (fs : List File). Contains (names_of fs) name) (λ _. (suc c.0, omega (arith, c.1), c.2)) (λ _. c)

theirs : {A : Type 0} (names : List (String A)) (files : List File) → ((name : List ℕ) → Contains (bases_told names) name
    → Contains (names_of (filter (λ (f : File). f.is_named) files)) name) → AreTheirs files names
unfolding AreTheirs
theirs {A} names files each = λ k d inside. each (base (string_bytes (get_or names k d))) (
  k,
  omega (arith, inside, length-map names (λ (name : String A). base (string_bytes name))),
  get_or-map (λ (name : String A). base (string_bytes name)) names k d (base (string_bytes (get_or names k d))) inside,
)

pub told_one : {A B : Type 0} (folder : Folder) (b0 b1 b2 : Directories) (names : Vec (String A) B) (done : Bool)
    → Then (ListsIn folder All (Ok names)) b0 b1 → Then (FlushesNamesIn folder (Ok done)) b1 b2 → TellsOne b0 folder (Ok names) b2
told_one {A} folder b0 b1 b2 names done (m1, v1, (there, (order, same, are), e1, shows)) (m2, v2, (answer, e2)) = (
  leads_after b0 b1 b2 (lists_learns folder All b0 b1 (Ok names) (m1, v1, (there, (order, same, are), e1, shows)))
      (flushes_leads folder b1 b2 (Ok done) (m2, v2, (answer, e2))),
  (
    rw (e2, v2.there, ap (λ (d : Directories). d.there) e1, (listed_is folder b1 m1).1) there,
    theirs names.items (files_at b2.entries) (λ name c. some_named b2.entries name (stay name c)),
  ),
  tt,
)
  where
    stay : (name : List ℕ) → Contains (bases_told names.items) name
        → SomeIs (λ (s : MailFile). (base s.name ≡ name) × (s.is_named ≡ true)) b2.entries
    stay name c =
        let after_listing = map title (entries_in folder m1.entries) in
        let touched = listed_touch folder (filter is_left m1.entries) name (Contains-permutation (bases_told names.items) after_listing name
        (IsPermutation-sym after_listing (bases_told names.items) (told_part (entries_in folder m1.entries) names.items
        (subst (IsPermutation (map name_at (entries_in folder m1.entries))) (sym are) same))) c) in
        let still = some_after {Will = Touch folder name} (filter is_left m1.entries) m2.entries
        (rw (ap (λ (d : Directories). d.entries) e1, (listed_is folder b1 m1).0) at v2.moves) touched
        (λ s t m is. (m.keeps.title ∙ is.0, still_touches folder s t m is.1)) in
        rw e2 (some_map _ (named_by folder) m2.entries still (λ s is. named_touch folder s name is.0 is.1))

-- ---- what the Maildir of the folders is, once the call was counted

abbrev IsCountAfter : {T : Type 0} → Result T StoreFault → ℕ → ℕ → Type 0
IsCountAfter r n m = m ≡ (if refuses is_refusal r then n + 1 else n)

-- the same with the files that are left
abbrev left_in : Directories → Directories → Option Draft → List (List ℕ) → ℕ → Maildir
left_in a b begun odd n = record (maildir_in a begun odd n) {
  files = files_at b.entries;
  taken = b.taken;
  odd = odd_in_both b;
}

-- this holds of what readers left
seen : {Does : Maildir → Type 0} (a b : Directories) (begun : Option Draft) (was odd : List (List ℕ)) (n : ℕ) → Learns a b
    → (a.there.new ≡ false → odd ≡ was) → Does (left_in a b begun odd n) → AfterTaking (maildir_in a begun was n) Does
seen a b begun was odd n l same does =
    (left_in a b begun odd n, record { gone = l.gone; files = l.left; odd = l.odd; told = same; is = rw l.taken refl }, does)

maildir_left : (a b : Directories) (begun : Option Draft) (odd : List (List ℕ)) (m k n : ℕ) → Learns a b → m ≡ k
    → maildir_in b begun odd m ≡ record (left_in a b begun odd n) { failures = k }
maildir_left a b begun odd m k n l e = rw (l.there, e) refl

one_lacks : (there : Folders) (folder : Folder) → is_there there folder ≡ false → (there.new ≡ false) ⊎ (there.cur ≡ false)
one_lacks there New e = inl e
one_lacks there Cur e = inr e

-- what was told
pub told_names : (seeks : List ℕ → Bool) (a b : Directories) (begun : Option Draft) (was : List (List ℕ)) (n m : ℕ)
    (found : FoundNames) → TellsOfBoth {T = FoundNames} a (Ok found) b (λ found. ToldBoth seeks found.files.items found.odd.items) → m ≡ n
    → AfterTaking (maildir_in a begun was n)
    (λ left. ListsAmong left seeks (Ok found.files) (maildir_in b begun (map string_bytes found.odd.items) m))
told_names seeks a b begun was n m found (l, told, _) k =
    let odd = map string_bytes found.odd.items in
    let new : a.there.new ≡ true = rw (sym l.there) told.new_is_there in
    seen a b begun was odd n l (λ none. absurd (true≢false (sym new ∙ none))) (
      new,
      rw (sym l.there) told.cur_is_there,
      told.lists,
      told.named,
      maildir_left a b begun odd m n n l k,
      told.odd_are,
      told.odd_sought,
    )

pub none_told : {odd : List (List ℕ)} (seeks : List ℕ → Bool) (a b : Directories) (begun : Option Draft) (n m : ℕ)
    (fault : StoreFault) → Learns a b → (fault ≡ Missing → LacksOne b) → IsDeviceFault fault
    → IsCountAfter {T = FoundNames} (Err fault) n m → AfterTaking (maildir_in a begun odd n)
    (λ left. ListsAmong {A = Global} {B = Global} left seeks (Err fault) (maildir_in b begun odd m))
none_told {odd} seeks a b begun n m Missing l missing device k =
    let lacks = missing refl in
    seen a b begun odd odd n l (λ _. refl) (rw (sym l.there) (one_lacks b.there lacks.0 lacks.1), maildir_left a b begun odd m n n l k)
none_told {odd} seeks a b begun n m Refused l missing device k =
    seen a b begun odd odd n l (λ _. refl) (maildir_left a b begun odd m (n + 1) n l k)
none_told {odd} seeks a b begun n m _ l missing device k = absurd (⊎_elim (λ e. cc) (λ e. cc) device)

pub told_those : {A B : Type 0} {odd : List (List ℕ)} (a b : Directories) (folder : Folder) (begun : Option Draft) (n m : ℕ)
    (r : Result (Vec (String A) B) StoreFault) → TellsOne a folder r b → IfErr r IsDeviceFault → IsCountAfter r n m
    → AfterTaking (maildir_in a begun odd n) (λ left. Lists left folder r (maildir_in b begun odd m))
told_those {odd} a b folder begun n m (Ok names) (l, (there, theirs), _) device k =
    seen a b begun odd odd n l (λ _. refl) (rw (sym l.there) there, theirs, maildir_left a b begun odd m n n l k)
told_those {odd} a b folder begun n m (Err Missing) (l, _, missing) device k =
    seen a b begun odd odd n l (λ _. refl) (rw (sym l.there) (missing refl), maildir_left a b begun odd m n n l k)
told_those {odd} a b folder begun n m (Err Refused) (l, _, _) device k =
    seen a b begun odd odd n l (λ _. refl) (maildir_left a b begun odd m (n + 1) n l k)
told_those {odd} a b folder begun n m (Err _) t device k = absurd (⊎_elim (λ e. cc) (λ e. cc) device)

pub checked : {T : Type 0} (a b : Directories) (folder : Folder) (begun : Option Draft) (odd : List (List ℕ)) (n m : ℕ)
    (r : Result T StoreFault) → Then (ChecksIn folder r) a b
    → IfErr r IsDeviceFault → IsCountAfter r n m → Checks (maildir_in a begun odd n) folder r (maildir_in b begun odd m)
checked a b folder begun odd n m (Ok done) (mid, v, (e, there, _)) device k =
    (rw (sym v.there) there, rw k (moved_maildir a mid b begun n v e))
checked a b folder begun odd n m (Err Missing) (mid, v, (e, _, missing)) device k =
    (rw (sym v.there) (missing refl), rw k (moved_maildir a mid b begun n v e))
checked a b folder begun odd n m (Err Refused) (mid, v, (e, _, _)) device k = rw k (moved_maildir a mid b begun (n + 1) v e)
checked a b folder begun odd n m (Err _) t device k = absurd (⊎_elim (λ e. cc) (λ e. cc) device)

-- ---- files that come to the folders, while others are moved

-- the last of some files that were moved, and those before it
abbrev Splits : List MailFile → MailFile → List MailFile → Type 0
Splits ss s ts = (front : List MailFile) × (t : MailFile) × (ts ≡ front ++ t ∷ []) × AllZip MovesFile ss front × MovesFile s t

-- a flush of the names of `new`
named_files : (ss : List MailFile) → AllZip MayBeNamed (files_at ss) (files_at (map (named_by New) ss))
named_files [] = tt
named_files (s ∷ ss) = (
  ⊎_elim (λ (new : touches_new s ≡ true). inr (rw (new, or-true s.is_named) refl))
      (λ (not : touches_new s ≡ false). inl (rw (not, or-false s.is_named) refl)) (cases_Bool (touches_new s)),
  named_files ss,
)

last_file_moved : (ss : List MailFile) (s : MailFile) (ts : List MailFile) → AllZip MovesFile (ss ++ s ∷ []) ts → Splits ss s ts
last_file_moved [] s [] h = absurd h
last_file_moved [] s (t ∷ []) h = ([], t, refl, tt, h.0)
last_file_moved [] s (t ∷ (u ∷ ts)) h = absurd h.1
last_file_moved (x ∷ ss) s [] h = absurd h
last_file_moved (x ∷ ss) s (t ∷ ts) h =
    let r = last_file_moved ss s ts h.1 in
    (t ∷ r.0, r.1, ap (λ (us : List MailFile). t ∷ us) r.2, (h.0, r.3), r.4)

-- a file that was flushed was put, once others were moved
module _ (b0 b1 : Directories) (content name : List ℕ) (file : MadeFile)
    (filled : file ≡ record { content = content; is_flushed = true }) (p : Then (PutsIntoNew file name) b0 b1) where
  before : SameFiles b0 p.0
  before = moved_rests b0 p.0 p.1

  put_is : b1 ≡ record p.0 { entries = p.0.entries ++ put_as name file ∷ []; new_rests = false }
  put_is = p.2.1

  -- the names weren't flushed
  pub put_unnamed : StandsIn b0 content name b1
  put_unnamed = (
    false,
    rw put_is (record {
      there = before.there;
      taken = before.taken;
      odd = before.odd;
      risen = files_at p.0.entries;
      reached = rw before.files (named_same (files_at b0.entries));
      files = map-append mail_at p.0.entries (put_as name file ∷ [])
          ∙ ap (λ (x : MadeFile). files_at p.0.entries ++ mail_at (put_as name x) ∷ []) filled;
    }),
  )

  mail_is : (t : MailFile) → base t.name ≡ base name → t.content ≡ content → t.is_named ≡ true → t.is_flushed ≡ true
      → mail_at t ≡ mail name content
  mail_is t title same named with_flushed = rw (title, same, named, with_flushed) refl

  -- or were
  put_named : (m b2 : Directories) → Moved b1 m → b2 ≡ names_flushed_in New m → BringsFiles b0 (mail name content ∷ []) b2
  put_named m b2 v e =
      let last = last_file_moved p.0.entries (put_as name file) m.entries (rw put_is at v.moves) in
      let t = last.1 in
      let moved = last.4 in
      let is = mail_is (named_by New t) moved.keeps.title (moved.keeps.content ∙ ap (λ (x : MadeFile). x.content) filled)
      (or_right t.is_named (touches_new t) (moved.new refl)) (moved.flushed ∙ ap (λ (x : MadeFile). x.is_flushed) filled) in
      let risen = files_at (map (named_by New) last.0) in
      rw e (record {
        there = v.there ∙ ap (λ (d : Directories). d.there) put_is ∙ before.there;
        taken = v.taken ∙ ap (λ (d : Directories). d.taken) put_is ∙ before.taken;
        odd = rw (v.odd_new, v.odd_cur) (ap odd_in_both put_is ∙ before.odd);
        risen = risen;
        reached = subst (λ (fs : List File). AllZip MayBeNamed fs risen) (files_moved p.0.entries last.0 last.3
            ∙ before.files) (named_files last.0);
        files = ap (λ (es : List MailFile). files_at (map (named_by New) es)) last.2
            ∙ ap files_at (map-append (named_by New) last.0 (t ∷ [])) ∙ map-append mail_at (map (named_by New) last.0) (named_by New t ∷ [])
            ∙ ap (λ (x : File). risen ++ x ∷ []) is;
      })

  pub put_all : (b2 : Directories) (r : Result Bool StoreFault) → Then (FlushesNamesIn New r) b1 b2 → PutsDurably b0 content name r b2
  unfolding put_unnamed
  put_all b2 (Ok done) (m, v, (answer, e)) = put_named m b2 v e
  put_all b2 (Err fault) (m, v, inl lacks) =
      let same = same_rests_at b1 m b2 v lacks.0 in
      let stands = put_unnamed.1 in
      inr (
        put_unnamed.0,
        record {
          there = same.there ∙ stands.there;
          taken = same.taken ∙ stands.taken;
          odd = same.odd ∙ stands.odd;
          risen = stands.risen;
          reached = stands.reached;
          files = same.files ∙ stands.files;
        },
      )
  put_all b2 (Err fault) (m, v, inr (refused, e)) = inr (true, put_named m b2 v e)

pub not_put : (b0 b1 : Directories) (content name : List ℕ) (file : MadeFile) (fault x : StoreFault)
    → file ≡ record { content = content; is_flushed = true }
    → Then (PutsDraft {T = Unit {0}} file name (Err fault)) b0 b1 → PutsDurably {T = Unit {0}} b0 content name (Err x) b1
not_put b0 b1 content name file fault x filled (m, v, inl same) = inl (same_rests_at b0 m b1 v same)
not_put b0 b1 content name file fault x filled (m, v, inr p) = inr (put_unnamed b0 b1 content name file filled (m, v, p))

-- ---- the Maildir of the folders

pub none_begun : {T : Type 0} (begun : Option T) (P : T → Type 0) → is_some begun ≡ false → IfSome begun P
none_begun None P none = tt
none_begun (Some x) P none = absurd cc

pub begun_anew : {N : Type 0} {odd : List (List ℕ)} (made : N → MadeFile) (a b : Directories) (begun : Option Draft) (title : String Global)
    (file : N) (name : List ℕ) (n : ℕ) → string_bytes title ≡ name → Then (MakesDraft made (Ok file)) a b → (a.there.tmp ≡ true)
    × (maildir_in b (Some (draft_begun made (title, file))) odd n ≡ record (maildir_in a begun odd n) { begun = Some (draft name []) })
begun_anew made a b begun title file name n same (m, v, (e, (there, empty))) =
    let h = same_rests_at a m b v e in
    (rw (sym v.there) there, rw (h.there, h.taken, h.odd, h.files, same, empty) refl)

pub begin_missing : {N : Type 0} {odd : List (List ℕ)} (made : N → MadeFile) (a b : Directories) (begun : Option Draft) (n : ℕ)
    (fault : StoreFault) → fault ≡ Missing → Then (MakesDraft made (Err fault)) a b
    → (a.there.tmp ≡ false) × (maildir_in b begun odd n ≡ maildir_in a begun odd n)
begin_missing made a b begun n fault is (m, v, (e, missing)) = (rw (sym v.there) (missing is), moved_maildir a m b begun n v e)

pub begin_refused : {N : Type 0} {odd : List (List ℕ)} (made : N → MadeFile) (a b : Directories) (begun : Option Draft) (n k : ℕ)
    (fault : StoreFault) → k ≡ n + 1 → Then (MakesDraft made (Err fault)) a b
    → maildir_in b begun odd k ≡ maildir_refused (maildir_in a begun odd n)
begin_refused made a b begun n k fault up (m, v, (e, missing)) = rw up (moved_maildir a m b begun (n + 1) v e)

-- ---- add

pub not_added : {N : Type 0} {odd : List (List ℕ)} (made : N → MadeFile) (d : Directories) (title : String Global) (file new : N)
    (n k : ℕ) (f : Draft) → k ≡ n + 1 → Some (draft_begun made (title, file)) ≡ Some f
    → (content : List ℕ) × (maildir_in d (Some (draft_begun made (title, new))) odd k
    ≡ maildir_refused (record (maildir_in d (Some (draft_begun made (title, file))) odd n) { begun = Some (draft f.name content) }))
not_added made d title file new n k f up h = ((made new).content, rw (sym (same_Some (draft_begun made (title, file)) f h), up) refl)

-- ---- abandon and settle

pub maildir_same : {odd : List (List ℕ)} (a b : Directories) (begun : Option Draft) (n : ℕ) → SameFiles a b
    → maildir_in b begun odd n ≡ maildir_in a begun odd n
maildir_same a b begun n h = rw (h.there, h.taken, h.odd, h.files) refl

pub not_settled : {odd : List (List ℕ)} (a b : Directories) (d f : Draft) (name : List ℕ) (n k : ℕ) (fault : StoreFault) → k ≡ n + 1
    → Some d ≡ Some f → PutsDurably {T = Unit {0}} a d.content name (Err fault) b
    → (maildir_in b None odd k ≡ maildir_refused (dropped (maildir_in a (Some d) odd n)))
    ⊎ AfterFlushing (maildir_in a (Some d) odd n) (λ risen. MayHave risen (mail name f.content) (maildir_in b None odd k))
not_settled a b d f name n k fault up h (inl none) = inl (rw (none.there, none.taken, none.odd, none.files, up) refl)
not_settled a b d f name n k fault up h (inr came) =
    let same : d.content ≡ f.content = ap (λ (x : Draft). x.content) (same_Some d f h) in
    inr (came.1.risen, came.1.reached, (came.0, rw (came.1.there, came.1.taken, came.1.odd, came.1.files, up, same) refl))

-- ---- what a flush of files does to the folders of a Maildir

module _ {A : Type 0} (stems : List (String A)) where
  flushed_at : (ss : List MailFile) → files_at (map (entry_flushed_by stems) ss) ≡ map (flushed_by stems) (files_at ss)
  flushed_at [] = refl
  flushed_at (s ∷ ss) = rw (stem_base s.name, flushed_at ss) refl

  pub files_flush : (a b : Directories) (begun : Option Draft) (odd : List (List ℕ)) (n : ℕ) (done : Bool)
      → Then (FlushesFiles stems (Ok done)) a b → Flushes (maildir_in a begun odd n) stems (Ok done) (maildir_in b begun odd n)
  files_flush a b begun odd n true (m, v, e) =
      rw (e, v.there, v.taken, v.odd_new, v.odd_cur) (rw (flushed_at m.entries, files_moved a.entries m.entries v.moves) refl)
  files_flush a b begun odd n false (m, v, e) = moved_maildir a m b begun n v e

pub files_refused : {A : Type 0} {odd : List (List ℕ)} (stems : List (String A)) (a b : Directories) (begun : Option Draft) (n k : ℕ)
    (fault : StoreFault) → k ≡ n + 1
    → Then (FlushesFiles stems (Err fault)) a b → maildir_in b begun odd k ≡ maildir_refused (maildir_in a begun odd n)
files_refused stems a b begun n k fault up (m, v, e) = rw up (moved_maildir a m b begun (n + 1) v e)
