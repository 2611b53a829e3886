-- One more file of a Maildir is listed.
use Rattle.std.{
  proofs.Common.{◌≡◌, ◌≢◌, ◌⊎◌, ◌++◌, ◌∷◌, ◌<◌, ◌≤◌, ◌-◌, ◌+◌, [], ℕ, Bool, true, AllPairs, List, Option, None, Some, Vec, inl, inr, map},
  proofs.Common.{length, get_or, refl, ap, sym, subst, take, ◌∙◌, ⊎_elim, arith, All, Contains, false},
  proofs.lemmas.{Bool.{cases_lt, cond-true, cond_both, false≢true}, Slice.Eq.bytes_eq-Decides, Cmp.nat_list_cmp_total},
  proofs.lemmas.List.{get_or-map, length-append, length-map, length_push, map_push, take_more},
  proofs.lemmas.List.Elements.{All-push, All-weaker, Contains-append_left, Contains-get_or, Contains-push, Contains-push_cases},
  proofs.lemmas.{List.{MinMax.ranks_by, Sorted.sorted_far}, Map.Lookups.exact_bytes},
  proofs.{Math.{ListN.get_or-append, Seq.get_or-append_seam}, lemmas.Option.IfSome_then},
  specs.{Iterator.Yields, Vec.Iter.{into_iter_items, into_iter_steps}, declared.vec.IntoIter.IntoIter},
  proofs.lemmas.List.Quantifiers.all_pairs_push,
  specs.{HashSet.{HashSet, contains, Updates}, Cmp.Lexicographic.slice_cmp},
  specs.declared.cmp.Ordering.{Ordering, TheVariants.{Less, Equal, Greater}},
  specs.{List.Sorted.IsSortedBy, Ordering.{nat_cmp, is_lt, ordering_reverse, ordering_then}},
}
use Rattle.hex.{proofs.HexLemmas.length-encode_with, specs.Hex.{encode_lower, lower_digits}}
use Rattle.sha2.{proofs.Facts256.length-sha256, specs.Sha256.sha256}
use Rattle.mail_terms.specs.{MaildirName.base, UniqueId.is_legal_id}
use Rattle.pop3_server.specs.Maildrop.{ListedMessage, max_count, max_size}
use Rattle.folder_drop.specs.{
  declared.{
    listed_file.ListedFile.ListedFile,
    mail_files.{FileWay.FileWay, Found.Found},
    maildir_names.{FileNumber.FileNumber, PlacedFile.PlacedFile, Stamp.Stamp},
    seen_files.SeenFiles.SeenFiles,
  },
  CountedSizes.{ComeFrom, WasCounted},
  Listing.{same_key, bases_of, listed_ids, AreListed, AreSeen, FollowsLast, HasNoOther, IsAccountedFor, IsBeforeLast, IsPassedOver},
  Listing.{IsMeasured, IsUnfit, IsUnseen, ListsFound, MayBeListed, size_of_entry, size_of_file},
  MaildirNames.{IsIdKey, id_of, digest_length},
  Places.{AreInOrder, base_of_file},
  RealMaildir.{HaveIds, IsBefore, id_of_name, listed_name, listed_names, uid_of},
}

-- ---- ids

digest_long : (name : List ℕ) → length (encode_lower (sha256 name)) ≡ digest_length
digest_long name = let digits = length-encode_with lower_digits (sha256 name) in let bytes = length-sha256 name
    in omega (arith, digits, bytes)

-- an id is its base, or as long as a digest
id_cases : (name : List ℕ) → (id_of name ≡ name) ⊎ (length (id_of name) ≡ digest_length)
id_cases name = cond_both (is_legal_id name) name (encode_lower (sha256 name)) (λ id. (id ≡ name)
    ⊎ (length id ≡ digest_length)) (λ _. inl refl) (λ _. inr (digest_long name))

-- it is as long as a digest unless the base is legal and has another length
pub long_unless : (name : List ℕ) → (is_legal_id name ≡ true → length name ≡ digest_length) → length (id_of name) ≡ digest_length
long_unless name keeps = cond_both (is_legal_id name) name (encode_lower (sha256 name))
    (λ id. length id ≡ digest_length) keeps (λ _. digest_long name)

-- only one base has an id of another length
same_base : (a b : List ℕ) → id_of a ≡ id_of b → length (id_of b) ≢ digest_length → a ≡ b
same_base a b e other =
    ⊎_elim (λ is. ⊎_elim (λ is_too. sym is_too ∙ e ∙ is) (λ long. absurd (other (sym (ap length e) ∙ long))) (id_cases a))
    (λ long. absurd (other long)) (id_cases b)

-- ---- the order of bases

pub before_differs : (a b : List ℕ) → IsBefore a b → a ≢ b
before_differs a b h e =
    let itself : slice_cmp nat_cmp a a ≡ Less = subst (λ (x : List ℕ). slice_cmp nat_cmp a x ≡ Less) (sym e) h in
    let back : Less ≡ ordering_reverse Less = sym itself ∙ nat_list_cmp_total.antisymm a a ∙ ap ordering_reverse itself in
    false≢true (sym (ap is_lt back))

names_long : (files : List ListedFile) → length (listed_names files) ≡ length files
names_long files = length-map files listed_name

bases_long : (files : List ListedFile) → length (bases_of files) ≡ length files
bases_long files = length-map (listed_names files) base ∙ names_long files

-- a base that comes after that of the last file comes after all
behind_all : (files : List ListedFile) (name : List ℕ) → AllPairs IsBefore (bases_of files) → FollowsLast files name
    → (k : ℕ) (d : List ℕ) → k < length (bases_of files) → IsBefore (get_or (bases_of files) k d) name
behind_all files name pairs behind k d fits =
    let long = bases_long files in
    let last : IsBefore (get_or (bases_of files) (length files - 1) d) name = behind d (omega (arith, long, fits)) in
    ⊎_elim (λ (lt : k < length files - 1). nat_list_cmp_total.trans (get_or (bases_of files) k d)
    (get_or (bases_of files) (length files - 1) d) name (pairs k (length files - 1) d lt (omega (arith, long, fits))) last)
    (λ (e : k ≡ length files - 1). rw e last)
    (⊎_elim inl (λ (le : length files - 1 ≤ k). inr (omega (arith, long, fits, le))) (cases_lt k (length files - 1)))

-- ---- one more file

-- the id of the file at a place
id_at : (files : List ListedFile) (k : ℕ) (d : List ℕ) → k < length files
    → get_or (map id_of_name (listed_names files)) k d ≡ id_of (get_or (bases_of files) k d)
id_at files k d fits =
    let within : k < length (listed_names files) = rw (names_long files) fits in
    get_or-map id_of_name (listed_names files) k d d within ∙ sym (ap id_of (get_or-map base (listed_names files) k d d within))

-- no listed file has the id of the next one
pub next_id_new : {Z S : Type 0} (seen : HashSet (Vec ℕ Z) S) (files : List ListedFile) (key : Option (Vec ℕ Z)) (name : List ℕ)
    → AreListed seen files → MayBeListed seen files key name → (k : ℕ) (d : List ℕ) → k < length (map id_of_name (listed_names files))
    → get_or (map id_of_name (listed_names files)) k d ≢ id_of name
next_id_new seen files None name listed next k d within same =
    let fits : k < length files = subst (λ n. k < n) (length-map (listed_names files) id_of_name ∙ names_long files) within in
    let before = behind_all files name listed.messages.ascending next.behind k d (rw (bases_long files) fits) in
    before_differs _ name before (same_base _ name (sym (id_at files k d fits) ∙ same) next.is_key)
next_id_new seen files (Some key) name listed next k d within same =
    let is : get_or (map id_of_name (listed_names files)) k d ≡ key.items = same ∙ sym next.is_key.0 in
    let had = listed.keys key (rw (← is) (Contains-get_or (map id_of_name (listed_names files)) k d within))
    (ap length next.is_key.0 ∙ next.is_key.1) in
    false≢true (sym next.unseen ∙ had)

names_more : (files : List ListedFile) (file : ListedFile) (f : List ℕ → List ℕ)
    → map f (listed_names (files ++ file ∷ [])) ≡ map f (listed_names files) ++ f (listed_name file) ∷ []
names_more files file f = ap (map f) (map_push listed_name files file) ∙ map_push f (listed_names files) (listed_name file)

-- one more entry has the id of the next file
pub entry_more : (entries : List ListedMessage) (files : List ListedFile) (i : ℕ) (entry : ListedMessage)
    (file : ListedFile) → i < length files → file ≡ get_or files i file
    → entry.uid ≡ id_of_name (listed_name file) → HaveIds entries (listed_names (take i files))
    → HaveIds (entries ++ entry ∷ []) (listed_names (take (i + 1) files))
entry_more entries files i entry file fits is same ids =
    let more : take (i + 1) files ≡ take i files ++ file ∷ [] = take_more files i file fits
    ∙ ap (λ (f : ListedFile). take i files ++ f ∷ []) (sym is) in
    rw (map_push uid_of entries entry, more, names_more (take i files) file id_of_name, ids, same) refl

-- and its size
pub entry_size_more : (entries : List ListedMessage) (files : List ListedFile) (i : ℕ) (entry : ListedMessage)
    (file : ListedFile) → i < length files → file ≡ get_or files i file → entry.size ≡ file.size
    → map size_of_entry entries ≡ map size_of_file (take i files)
    → map size_of_entry (entries ++ entry ∷ []) ≡ map size_of_file (take (i + 1) files)
entry_size_more entries files i entry file fits is same sizes =
    let more : take (i + 1) files ≡ take i files ++ file ∷ [] = take_more files i file fits
    ∙ ap (λ (f : ListedFile). take i files ++ f ∷ []) (sym is) in
    rw (map_push size_of_entry entries entry, more, map_push size_of_file (take i files) file, sizes, same) refl

-- one more file is listed, and its id is in the set if that is as long as a digest
pub listed_more : {Z S : Type 0} (old new : HashSet (Vec ℕ Z) S) (key : Option (Vec ℕ Z)) (files : List ListedFile) (file : ListedFile)
    → AreSeen new (listed_ids files ++ id_of_name (listed_name file) ∷ [])
    → HasNoOther new (listed_ids files ++ id_of_name (listed_name file) ∷ [])
    → MayBeListed old files key (base (listed_name file))
    → length files < max_count → file.size ≤ max_size → AreListed old files → AreListed new (files ++ file ∷ [])
listed_more old new key files file seen only next few small listed = record {
  messages = record {
    ascending = rw (names_more files file base) (all_pairs_push IsBefore (bases_of files) (base (listed_name file))
        listed.messages.ascending
        (behind_all files (base (listed_name file)) listed.messages.ascending next.behind));
    distinct = rw (names_more files file id_of_name)
        (all_pairs_push (λ a b. a ≢ b) (map id_of_name (listed_names files)) (id_of_name (listed_name file))
        listed.messages.distinct (next_id_new old files key (base (listed_name file)) listed next));
    count = let long = length_push files file in omega (arith, long, few);
    sizes = All-push (λ (f : ListedFile). f.size ≤ max_size) files file listed.messages.sizes small;
  };
  keys = rw (names_more files file id_of_name) seen;
  only = rw (names_more files file id_of_name) only;
}

-- no other id came
pub only_same : {Z S : Type 0} (seen : HashSet (Vec ℕ Z) S) (ids : List (List ℕ)) (id : List ℕ) → HasNoOther seen ids
    → HasNoOther seen (ids ++ id ∷ [])
only_same seen ids id only = λ q has. Contains-append_left ids (id ∷ []) q.items (only q has)

-- that of the key came
pub only_more : {Z S : Type 0} (old new : HashSet (Vec ℕ Z) S) (key : Vec ℕ Z) (ids : List (List ℕ)) (id : List ℕ)
    → key.items ≡ id → Updates same_key old new key true → HasNoOther old ids → HasNoOther new (ids ++ id ∷ [])
only_more old new key ids id is updates only = λ q has.
    cond_both (same_key key q) true (contains same_key old q) (λ (b : Bool). b ≡ true → Contains (ids ++ id ∷ []) q.items)
    (λ same _. subst (λ (x : List ℕ). Contains (ids ++ id ∷ []) x) (sym is ∙ (bytes_eq-Decides key.items q.items).0 same)
    (Contains-push ids id)) (λ _ had. Contains-append_left ids (id ∷ []) q.items (only q had)) (sym (updates.0 q) ∙ has)

-- an id of another length isn't kept
pub seen_same : {Z S : Type 0} (seen : HashSet (Vec ℕ Z) S) (ids : List (List ℕ)) (id : List ℕ) → AreSeen seen ids
    → length id ≢ digest_length → AreSeen seen (ids ++ id ∷ [])
seen_same seen ids id all other = λ q h long.
    ⊎_elim (λ before. all q before long) (λ now. absurd (other (ap length now ∙ long))) (Contains-push_cases ids id q.items h)

-- the set with one more key has one more id
pub seen_more : {Z S : Type 0} (old new : HashSet (Vec ℕ Z) S) (key : Vec ℕ Z) (ids : List (List ℕ)) (id : List ℕ)
    → key.items ≡ id → Updates same_key old new key true → AreSeen old ids → AreSeen new (ids ++ id ∷ [])
seen_more old new key ids id is updates all = λ q h long. updates.0 q ∙ ⊎_elim
    (λ before. cond_both (same_key key q) true (contains same_key old q) (λ (b : Bool). b ≡ true) (λ _. refl) (λ _. all q before long))
    (λ now. cond-true (same_key key q) true (contains same_key old q) ((bytes_eq-Decides key.items q.items).1 (is
    ∙ now))) (Contains-push_cases ids id q.items h)

-- ---- each file that was found

lt_first : (a b : Ordering) → is_lt (ordering_then a b) ≡ false → is_lt a ≡ false
lt_first Less b h = h
lt_first Equal b h = refl
lt_first Greater b h = refl

abbrev has_lesser_base : PlacedFile → PlacedFile → Bool
has_lesser_base a b = is_lt (slice_cmp nat_cmp (base_of_file a) (base_of_file b))

base_order : (files : List PlacedFile) → AreInOrder files → IsSortedBy has_lesser_base files
base_order files order = λ k d low high.
    lt_first (slice_cmp nat_cmp (base_of_file (get_or files (k + 1) d)) (base_of_file (get_or files k d))) _ (order k d low high)

-- of two bases neither comes before the other
same_of : (a b : List ℕ) (o : Ordering) → slice_cmp nat_cmp b a ≡ o → is_lt o ≡ false → (IsBefore a b → ⊥) → a ≡ b
same_of a b Less is after before = absurd (false≢true (sym after))
same_of a b Equal is after before = sym (exact_bytes b a is)
same_of a b Greater is after before = absurd (before (nat_list_cmp_total.antisymm a b ∙ ap ordering_reverse is))

-- the base of the last listed file is that of one that was found before
abbrev pub LastIsOf : List ListedFile → List PlacedFile → Type 0
LastIsOf files before = 0 < length files → (k : ℕ) × (k < length before)
    × ((d : List ℕ) (e : PlacedFile) → get_or (bases_of files) (length files - 1) d ≡ base_of_file (get_or before k e))

-- so one whose base doesn't come after it has the same
pub same_as_last : (files : List ListedFile) (before after : List PlacedFile) (file : PlacedFile)
    → AreInOrder (before ++ file ∷ after) → LastIsOf files before → IsBeforeLast files (base_of_file file)
    → Contains (listed_ids files) (id_of (base_of_file file))
same_as_last files before after file order last behind =
    let d = base_of_file file in
    let place = last behind.0 in
    let some = behind.0 in
    let k = place.0 in
    let early = place.1 in
    let all = before ++ file ∷ after in
    let long = length-append before (file ∷ after) in
    let far = sorted_far has_lesser_base (ranks_by nat_list_cmp_total base_of_file) all (base_order all order) k
    (length before) file (omega (arith, early)) (omega (arith, long)) in
    let known : has_lesser_base file (get_or before k file) ≡ false =
    subst (λ (x : PlacedFile). has_lesser_base x (get_or before k file) ≡ false) (get_or-append_seam before file after file)
    (subst (λ (y : PlacedFile). has_lesser_base (get_or all (length before) file) y ≡ false)
    (get_or-append before (file ∷ after) file k early) far) in
    let is = place.2 d file in
    let same = same_of (base_of_file (get_or before k file)) d _ refl known (λ less. behind.1 d (rw is less)) in
    let fits : length files - 1 < length files = omega (arith, some) in
    let within : length files - 1 < length (listed_ids files) = rw (length-map (listed_names files) id_of_name, names_long files) fits in
    subst (λ (id : List ℕ). Contains (listed_ids files) id) (id_at files (length files - 1) d fits ∙ ap id_of (is ∙ same))
    (Contains-get_or (listed_ids files) (length files - 1) d within)

not_false : (b : Bool) → (b ≡ false → ⊥) → b ≡ true
not_false true h = refl
not_false false h = absurd (h refl)

-- an id of which the set has the key is listed
pub listed_long : {Z S : Type 0} (seen : HashSet (Vec ℕ Z) S) (files : List ListedFile) (key : Option (Vec ℕ Z)) (name : List ℕ)
    → AreListed seen files → IsIdKey key (id_of name) → (IsUnseen seen key → ⊥) → Contains (listed_ids files) (id_of name)
listed_long seen files None name listed is_key had = absurd (had tt)
listed_long seen files (Some key) name listed is_key had =
    subst (λ (id : List ℕ). Contains (listed_ids files) id) is_key.0 (listed.only key (not_false _ had))

-- what is accounted for is when one more file is listed
pub all_still : (IsPassed : PlacedFile → Type 0) (files : List ListedFile) (file : ListedFile) (before : List PlacedFile)
    → All (IsAccountedFor IsPassed files) before → All (IsAccountedFor IsPassed (files ++ file ∷ [])) before
all_still IsPassed files file before all = λ k e fits. ⊎_elim
    (λ there. inl (rw (names_more files file id_of_name)
    (Contains-append_left (listed_ids files) (id_of_name (listed_name file) ∷ []) _ there)))
    (λ rest. inr (⊎_elim (λ full. inl (let long = length_push files file in omega (arith, long, full))) inr rest))
    (all k e fits)

-- a file that is listed
pub now_listed : (files : List ListedFile) (file : ListedFile) (name : List ℕ) → base (listed_name file) ≡ name
    → Contains (listed_ids (files ++ file ∷ [])) (id_of name)
now_listed files file name is = rw (names_more files file id_of_name)
    (subst (λ (id : List ℕ). Contains (listed_ids files ++ id_of_name (listed_name file) ∷ []) id) (ap id_of is)
    (Contains-push (listed_ids files) (id_of_name (listed_name file))))

pub last_still : (files : List ListedFile) (before : List PlacedFile) (found : PlacedFile) → LastIsOf files before
    → LastIsOf files (before ++ found ∷ [])
last_still files before found last = λ some. let place = last some in
    let early = place.1 in
    let long = length-append before (found ∷ []) in (
      place.0,
      omega (arith, early, long),
      λ d e. place.2 d e ∙ ap base_of_file (sym (get_or-append before (found ∷ []) e place.0 early)),
    )

pub last_now : (files : List ListedFile) (file : ListedFile) (before : List PlacedFile) (found : PlacedFile)
    → base (listed_name file) ≡ base_of_file found → LastIsOf (files ++ file ∷ []) (before ++ found ∷ [])
last_now files file before found is = λ some.
    let long = length-append before (found ∷ []) in
    let more = length_push files file in
    let count : length (files ++ file ∷ []) - 1 ≡ length (bases_of files) = rw (bases_long files) (omega (arith, more)) in (
      length before,
      omega (arith, long),
      λ d e. rw (
        names_more files file base,
        count,
        get_or-append_seam (bases_of files) (base (listed_name file)) [] d,
        get_or-append_seam before found [] e,
      ) is,
    )

pub no_last_file : (files : List ListedFile) → files ≡ [] → LastIsOf files []
no_last_file files none = λ some. absurd (omega (arith, subst (λ (f : List ListedFile). 0 < length f) none some))

-- ---- what was found, one by one

-- what a list gave and what it still has
pub taken_front : {A Z : Type 0} (s : IntoIter A Z) (xs : List A) (t : IntoIter A Z) → Yields into_iter_steps s xs t
    → into_iter_items s ≡ xs ++ into_iter_items t
taken_front s [] t given = ap into_iter_items given
taken_front s (x ∷ xs) t given = given.1.0 ∙ ap (λ ys. x ∷ ys) (taken_front given.0 xs t given.2)

pub in_order_here : {Z : Type 0} (found : List PlacedFile) (s : IntoIter PlacedFile Z) (before : List PlacedFile)
    (t : IntoIter PlacedFile Z) (file : PlacedFile) (u : IntoIter PlacedFile Z) → into_iter_items s ≡ found
    → Yields into_iter_steps s before t → into_iter_steps t (Some file) u → AreInOrder found
    → AreInOrder (before ++ file ∷ into_iter_items u)
in_order_here found s before t file u is given step order = subst AreInOrder
    (sym is ∙ taken_front s before t given ∙ ap (λ (rest : List PlacedFile). before ++ rest) step.0) order

-- a size that was counted for some files was for more
counted_among : (some all : List ListedFile) (file : PlacedFile) (stamp : Stamp) (size : ℕ) → ComeFrom some all
    → WasCounted some file stamp size → WasCounted all file stamp size
counted_among some all file stamp size among was = record {
  file = was.file;
  listed = among was.file was.listed;
  folder = was.folder;
  name = was.name;
  same = was.same;
  size = was.size;
}

unfit_among : {File : Type 0} (remaining : File → Option (List ℕ)) (found : FileWay → Option Found → Type 0)
    (opened : FileWay → FileNumber → File → Type 0) (told : List PlacedFile → Type 0) (some all : List ListedFile)
    (file : PlacedFile) (seen : SeenFiles) → ComeFrom some all → IsUnfit remaining found opened told some file seen
    → IsUnfit remaining found opened told all file seen
unfit_among remaining found opened told some all file seen among unfit = (
  unfit.0,
  unfit.1,
  unfit.2,
  IfSome_then unfit.1 unfit.3 (λ size was. counted_among some all file unfit.0 size among was),
  unfit.4,
)

pub passed_among : {File : Type 0} (remaining : File → Option (List ℕ)) (found : FileWay → Option Found → Type 0)
    (opened : FileWay → FileNumber → File → Type 0) (told : List PlacedFile → Type 0) (some all : List ListedFile)
    (file : PlacedFile) → ComeFrom some all → IsPassedOver remaining found opened told some file
    → IsPassedOver remaining found opened told all file
passed_among remaining found opened told some all file among passed = (
  passed.0,
  ⊎_elim inl (λ unfit. inr (unfit_among remaining found opened told some all file passed.0 among unfit)) passed.1,
)

pub measured_among : {File : Type 0} (remaining : File → Option (List ℕ)) (found : FileWay → Option Found → Type 0)
    (opened : FileWay → FileNumber → File → Type 0) (told : List PlacedFile → Type 0) (some all : List ListedFile)
    (file : PlacedFile) (measured : Stamp × ℕ) → ComeFrom some all → IsMeasured remaining found opened told some file measured
    → IsMeasured remaining found opened told all file measured
measured_among remaining found opened told some all file measured among is = record {
  seen = is.seen;
  stamp = is.stamp;
  size = ⊎_elim (λ was. inl (counted_among some all file measured.0 measured.1 among was)) inr is.size;
}

-- files that are among those that were found are so among more
pub found_still : (IsSo : PlacedFile → Stamp × ℕ → Type 0) (before rest : List PlacedFile) (files : List ListedFile)
    → All (ListsFound IsSo before) files → All (ListsFound IsSo (before ++ rest)) files
found_still IsSo before rest files = All-weaker (ListsFound IsSo before) (ListsFound IsSo (before ++ rest))
    (λ listed (is : ListsFound IsSo before listed). record {
      file = is.file;
      there = Contains-append_left before rest is.file is.there;
      folder = is.folder;
      name = is.name;
      measured = is.measured;
    }) files

-- what was found before, and what comes yet, is all that was found
pub found_among : {Z : Type 0} (IsSo : PlacedFile → Stamp × ℕ → Type 0) (found : List PlacedFile)
    (s : IntoIter PlacedFile Z) (before : List PlacedFile) (t : IntoIter PlacedFile Z) (files : List ListedFile)
    → into_iter_items s ≡ found → Yields into_iter_steps s before t → All (ListsFound IsSo before) files
    → All (ListsFound IsSo found) files
found_among IsSo found s before t files is given all = subst (λ (every : List PlacedFile). All (ListsFound IsSo every) files)
    (sym (taken_front s before t given) ∙ is) (found_still IsSo before (into_iter_items t) files all)

-- a limit that isn't reached
pub below_limit : (most n : ℕ) → (most ≤ n → false ≡ true) → n < most
below_limit most n never = elim (cases_lt n most) [
  | inl below ↦ below
  | inr past ↦ absurd (false≢true (never past))
]
