-- A Maildir in memory: its names, and the files that they are of.
use Rattle.std.{
  proofs.Common.{◌≡◌, ◌≢◌, ◌⊎◌, ◌≤◌, ◌<◌, ◌∙◌, ◌++◌, ◌∷◌, [], ℕ, Bool, true, false, not, List, Result, Ok, Err, Some, None, IfOk, All},
  proofs.Common.{Contains, ap, append-nil, arith, get_or, inl, inr, length, map, refl, subst, sym},
  proofs.lemmas.{
    List.{get_or-map, get_or_append_left, get_or_push, length-map, length_push, map-append},
    List.Elements.{All-contains, All-contains_itself, All-cons, All-filter, All-head, All-map, All-tail, filter_passes},
    List.Sorted.{All-permutation, IsPermutation-map},
    Bool.false≢true,
  },
  specs.{
    List.{Sorted.IsPermutation, filter},
    declared.io.{ErrorKind.{ErrorKind, TheVariants.NotFound}, Error.Error},
    Prelude.string_bytes,
    Result.is_ok,
  },
}
use Rattle.folder_drop.specs.{
  declared.{
    mail_files.{FileWay.FileWay, Found.Found},
    maildir_names.{FileNumber.FileNumber, Folder.Folder},
    memory_files.{MemoryFile.MemoryFile, MemoryFiles.MemoryFiles, MemoryHandle.MemoryHandle},
    memory_names.{MemoryName.MemoryName, MemoryNames.MemoryNames},
  },
  MailFiles.{Bears, DropFile, Has, HasFile, HasOctetsOf, LacksSome, file_place, is_in_place},
  MemoryFiles.{IsHandle, LacksName, StaysLooked, TakesName, elsewhere, file_named, file_put, found_at, mail_files},
  MemoryFiles.{names_after, octets_at},
  MemoryLaws.{content_by_number, places},
  MemoryNames.{HaveFiles, RefusesName, is_elsewhere, place_of_name},
  Places.IsWayTo,
}
use Rattle.folder_drop.proofs.{
  MailLemmas.{at_its_place, is_at_place},
  MemoryLemmas.map-filter,
  TakenLemmas.{lacks_none, still_all},
}

-- ---- files that come, and names that change

still_at : {B : Type 0} (g : MemoryFile → B) (files more : List MemoryFile) (k : ℕ) (d : B) → k < length files
    → get_or (map g (files ++ more)) k d ≡ get_or (map g files) k d
still_at g files more k d within =
    let long = length-map files g in
    ap (λ l. get_or l k d) (map-append g files more) ∙ get_or_append_left (map g files) (map g more) d k (omega (arith, long, within))

file_still : (files more : List MemoryFile) (one : MemoryName) → one.file < length files
    → file_named (files ++ more) one ≡ file_named files one
file_still files more one within = rw (
  still_at (λ (f : MemoryFile). f.content.now) files more one.file [] within,
  still_at (λ (f : MemoryFile). f.is_regular) files more one.file false within,
) refl

map_still : (files more : List MemoryFile) (names : List MemoryName) → HaveFiles (length files) names
    → map (file_named (files ++ more)) names ≡ map (file_named files) names
map_still files more [] known = refl
map_still files more (one ∷ names) known =
    let P : MemoryName → Type 0 = λ n. n.file < length files in
    rw (file_still files more one (All-head P one names known)) (ap (λ l. file_named files one ∷ l)
    (map_still files more names (All-tail P one names known)))

pub now_known : (d : MemoryFiles) → HaveFiles (length d.files.items) d.names.items.items
now_known d =
    let long = length_push d.past.items d.names in
    subst (λ (names : MemoryNames). HaveFiles (length d.files.items) names.items.items)
    (get_or_push d.past.items d.names d.names (length d.past.items) refl) (d.known (length d.past.items) d.names (omega (arith, long)))

then_known : (d : MemoryFiles) (k : ℕ) → k ≤ length d.past.items → HaveFiles (length d.files.items) (names_after k d)
then_known d k le =
    let long = length_push d.past.items d.names in
    let within : k < length (d.past.items ++ d.names ∷ []) = omega (arith, long, le) in
    subst (HaveFiles (length d.files.items))
    (sym (get_or-map (λ (names : MemoryNames). names.items.items) (d.past.items ++ d.names ∷ []) k d.names [] within))
    (d.known k d.names within)

-- all versions stay, and so do all files
looked_still : (old new : MemoryFiles) (more : List MemoryFile) (later : List MemoryNames)
    → new.files.items ≡ old.files.items ++ more
    → new.past.items ++ new.names ∷ [] ≡ (old.past.items ++ old.names ∷ []) ++ later → length old.past.items ≤ length new.past.items
    → StaysLooked old new
looked_still old new more later files versions longer look was looked =
    let k = looked.0 in
    let long = length_push old.past.items old.names in
    let items : MemoryNames → List MemoryName = λ names. names.items.items in
    let all = old.past.items ++ old.names ∷ [] in
    let mapped = length-map all items in
    let same : names_after k new ≡ names_after k old =
    ap (λ l. get_or (map items l) k []) versions ∙ ap (λ l. get_or l k []) (map-append items all later)
    ∙ get_or_append_left (map items all) (map items later) [] k (omega (arith, mapped, long, looked.1)) in
    let kept : map (file_named new.files.items) (names_after k new) ≡ map (file_named old.files.items) (names_after k old) =
    ap (λ l. map (file_named new.files.items) l) same ∙ ap (λ (l : List MemoryFile). map (file_named l) (names_after k old)) files
    ∙ map_still old.files.items more (names_after k old) (then_known old k looked.1) in
    (k, omega (arith, looked.1, longer), looked.2, looked.3 ∙ sym kept)

-- nothing changed but that a file may have come that has no name
pub looked_same : (old new : MemoryFiles) (more : List MemoryFile) → new.files.items ≡ old.files.items ++ more
    → new.names ≡ old.names → new.past.items ≡ old.past.items → StaysLooked old new
looked_same old new more files names past = looked_still old new more [] files
    (rw (names, past) (sym (append-nil (old.past.items ++ old.names ∷ []))))
    (let e = ap (λ (l : List MemoryNames). length l) past in omega (arith, e))

pub looked_changed : (old new : MemoryFiles) (more : List MemoryFile) → new.files.items ≡ old.files.items ++ more
    → new.past.items ≡ old.past.items ++ old.names ∷ [] → StaysLooked old new
looked_changed old new more files past = looked_still old new more (new.names ∷ []) files (rw past refl)
    (let e = ap (λ (l : List MemoryNames). length l) past in let long = length_push old.past.items old.names in omega (arith, e, long))

pub known_more : (count : ℕ) (one : MemoryName) (names new : List MemoryName) → one.file < count → HaveFiles count names
    → IsPermutation (one ∷ names) new → HaveFiles count new
known_more count one names new within known moved =
    let P : MemoryName → Type 0 = λ n. n.file < count in
    All-permutation P (one ∷ names) new moved (All-cons P one names within known)

-- ---- what others do

put_at : {B : Type 0} (g : MemoryFile → B) (files : List MemoryFile) (file : MemoryFile) (d : B)
    → get_or (map g (files ++ file ∷ [])) (length files) d ≡ g file
put_at g files file d = ap (λ l. get_or l (length files) d) (map-append g files (file ∷ []))
    ∙ get_or_push (map g files) (g file) d (length files) (length-map files g)

pub puts_one : (old new : MemoryFiles) (one : MemoryName) (file : MemoryFile) → one.file ≡ length old.files.items
    → new.files.items ≡ old.files.items ++ file ∷ [] → IsPermutation (one ∷ old.names.items.items) new.names.items.items
    → IsPermutation (file_put old (place_of_name one) file.is_regular file.content.now ∷ mail_files old) (mail_files new)
puts_one old new one file number files moved =
    let own : file_named (old.files.items ++ file ∷ []) one ≡ file_put old (place_of_name one) file.is_regular file.content.now = rw (
      number,
      put_at (λ (f : MemoryFile). f.content.now) old.files.items file [],
      put_at (λ (f : MemoryFile). f.is_regular) old.files.items file false,
    ) refl in
    let rest = map_still old.files.items (file ∷ []) old.names.items.items (now_known old) in
    let put = file_put old (place_of_name one) file.is_regular file.content.now in
    let all : file_named new.files.items one ∷ map (file_named new.files.items) old.names.items.items ≡ put ∷ mail_files old =
    subst (λ (fs : List MemoryFile). file_named fs one ∷ map (file_named fs) old.names.items.items ≡ put ∷ mail_files old) (sym files)
    (rw own (ap (λ l. put ∷ l) rest)) in
    subst (λ l. IsPermutation l (mail_files new)) all
    (IsPermutation-map (file_named new.files.items) (one ∷ old.names.items.items) new.names.items.items moved)

pub without_place : (d : MemoryFiles) (place : Folder × List ℕ) (left : List MemoryName)
    → left ≡ filter (λ one. is_elsewhere place (place_of_name one)) d.names.items.items
    → map (file_named d.files.items) left ≡ elsewhere place (mail_files d)
without_place d place left is = ap (map (file_named d.files.items)) is
    ∙ map-filter (file_named d.files.items) (λ (file : DropFile). is_elsewhere place (file_place file)) d.names.items.items

pub lacks_place : (d : MemoryFiles) (place : Folder × List ℕ) (kind : ErrorKind) → kind ≡ NotFound
    → All (λ one. place_of_name one ≢ place) d.names.items.items → LacksName place (mail_files d) kind
lacks_place d place kind is none =
    (is, All-map (λ (file : DropFile). file_place file ≢ place) (file_named d.files.items) d.names.items.items none)

pub refuses_place : (d : MemoryFiles) (place : Folder × List ℕ) (kind : ErrorKind)
    → RefusesName (map place_of_name d.names.items.items) place kind → RefusesName (map file_place (mail_files d)) place kind
refuses_place d place kind refused = subst (λ l. RefusesName l place kind) (sym (places d)) refused

pub contains_map : {A B : Type 0} (f : A → B) (xs : List A) (x : A) → Contains xs x → Contains (map f xs) (f x)
contains_map f xs x there =
    let long = length-map xs f in
    (there.0, omega (arith, long, there.1), get_or-map f xs there.0 x (f x) there.1 ∙ ap f there.2)

pub place_there : (d : MemoryFiles) (one : MemoryName) (place : Folder × List ℕ) → Contains d.names.items.items one
    → place_of_name one ≡ place → Contains (map file_place (mail_files d)) place
place_there d one place there is = subst (Contains (map file_place (mail_files d))) is
    (contains_map file_place (mail_files d) (file_named d.files.items one)
    (contains_map (file_named d.files.items) d.names.items.items one there))

pub taken_place : (d : MemoryFiles) (place : Folder × List ℕ) (r : Result MemoryName Error) → is_ok r ≡ true
    → IfOk r (λ one. Contains d.names.items.items one × (place_of_name one ≡ place)) → Contains (map file_place (mail_files d)) place
taken_place d place (Ok one) is there = place_there d one place there.0 there.1
taken_place d place (Err error) is there = absurd (false≢true is)

-- a file came, but it has no name
pub puts_none : (old new : MemoryFiles) (more : List MemoryFile) → new.files.items ≡ old.files.items ++ more → new.names ≡ old.names
    → mail_files new ≡ mail_files old
puts_none old new more files names = rw (files, names) (map_still old.files.items more old.names.items.items (now_known old))

-- one more name of a file
pub names_one : (old new : MemoryFiles) (one : MemoryName) (before : List MemoryName) → new.files ≡ old.files
    → IsPermutation (one ∷ before) new.names.items.items
    → IsPermutation (file_named old.files.items one ∷ map (file_named old.files.items) before) (mail_files new)
names_one old new one before files moved =
    rw files (IsPermutation-map (file_named old.files.items) (one ∷ before) new.names.items.items moved)

pub left_known : (d : MemoryFiles) (place : Folder × List ℕ) (left : List MemoryName)
    → left ≡ filter (λ one. is_elsewhere place (place_of_name one)) d.names.items.items → HaveFiles (length d.files.items) left
left_known d place left is = subst (HaveFiles (length d.files.items)) (sym is)
    (All-filter (λ one. is_elsewhere place (place_of_name one)) (λ one. one.file < length d.files.items) d.names.items.items (now_known d))

-- a name that isn't added to those that are left
refused_left : (names left : List MemoryName) (place : Folder × List ℕ) (kind : ErrorKind) → All (Contains names) left
    → RefusesName (map place_of_name left) place kind → RefusesName (map place_of_name names) place kind
refused_left names left place kind among (inl taken) = inl (
  taken.0,
  All-contains (Contains (map place_of_name names)) (map place_of_name left) place
      (All-map (Contains (map place_of_name names)) place_of_name left
      (λ k d within. contains_map place_of_name names (get_or left k d) (among k d within)))
      taken.1,
)
refused_left names left place kind among (inr other) = inr other

pub refuses_left : (d : MemoryFiles) (from place : Folder × List ℕ) (left : List MemoryName) (kind : ErrorKind)
    → left ≡ filter (λ one. is_elsewhere from (place_of_name one)) d.names.items.items → RefusesName (map place_of_name left) place kind
    → RefusesName (map file_place (mail_files d)) place kind
refuses_left d from place left kind is refused = refuses_place d place kind
    (refused_left d.names.items.items left place kind (subst (All (Contains d.names.items.items)) (sym is)
    (All-filter (λ one. is_elsewhere from (place_of_name one)) (Contains d.names.items.items) d.names.items.items
    (All-contains_itself d.names.items.items))) refused)

-- ---- calls

pub has_file : (d : MemoryFiles) (way : FileWay) (one : MemoryName) (what : Found) → Contains d.names.items.items one
    → place_of_name one ≡ (way.folder, string_bytes way.name) → what ≡ found_at d.files.items one.file → HasFile (mail_files d) way what
has_file d way one what there place is = record {
  file = file_named d.files.items one;
  there = contains_map (file_named d.files.items) d.names.items.items one there;
  leads = (sym (ap (λ (p : Folder × List ℕ). p.0) place), sym (ap (λ (p : Folder × List ℕ). p.1) place));
  regular = ap (λ (f : Found). f.is_regular) is;
  stamp = ap (λ (f : Found). f.stamp) is;
}

pub nothing_bears : (d : MemoryFiles) (way : FileWay)
    → All (λ one. place_of_name one ≢ (way.folder, string_bytes way.name)) d.names.items.items → Bears (mail_files d) way None
nothing_bears d way none = All-map (λ (file : DropFile). IsWayTo way (file_place file) → ⊥) (file_named d.files.items) d.names.items.items
    (λ k d within leads. none k d within (sym (rw (leads.0, leads.1) refl)))

pub octets_of : (files : List MemoryFile) (k : ℕ) (file : MemoryFile) → k < length files → file ≡ get_or files k file
    → file.content.now ≡ octets_at files k
octets_of files k file within is = ap (λ (f : MemoryFile). f.content.now) is
    ∙ sym (get_or-map (λ (f : MemoryFile). f.content.now) files k file [] within)

pub handle_octets : (d : MemoryFiles) (handle : MemoryHandle) → IsHandle d handle
    → HasOctetsOf (λ (h : MemoryHandle). Some h.rest.now) (mail_files d) handle.found.stamp.number handle
handle_octets d handle is = λ k e within same.
    let files = d.files.items in
    let file = get_or (mail_files d) k e in
    let there = All-contains_itself (mail_files d) k e within in
    ap Some (is.2 ∙ ap (λ (n : FileNumber). octets_at files n.inode) (sym (same ∙ ap (λ (f : Found). f.stamp.number) is.1))
    ∙ sym (content_by_number files d.names.items.items file there))

not_true : (b : Bool) → b ≡ true → not b ≡ true → ⊥
not_true true e f = false≢true f
not_true false e f = false≢true e

stays_or_has : (way : FileWay) (file : DropFile) (b : Bool) → is_in_place (way.folder, string_bytes way.name) file ≡ b
    → (not b ≡ true) ⊎ Has way file
stays_or_has way file false e = inl refl
stays_or_has way file true e =
    let same = at_its_place (way.folder, string_bytes way.name) file e in
    inr (ap (λ (p : Folder × List ℕ). p.0) same, ap (λ (p : Folder × List ℕ). p.1) same)

pub takes_named_one : (way : FileWay) (old new : List DropFile) (result : Result Unit Error)
    → TakesName (way.folder, string_bytes way.name) old result new → LacksSome (Has way) old new
takes_named_one way old new (Ok done) takes = (
  λ file. is_elsewhere (way.folder, string_bytes way.name) (file_place file),
  takes.1,
  λ k d within. stays_or_has way (get_or old k d) (is_in_place (way.folder, string_bytes way.name) (get_or old k d)) refl,
)
takes_named_one way old new (Err error) takes = subst (LacksSome (Has way) old) (sym takes.0) (lacks_none (Has way) old)

named_gone : (way : FileWay) (old new : List DropFile) → new ≡ elsewhere (way.folder, string_bytes way.name) old → Bears new way None
named_gone way old new is = λ k d within leads.
    let place : Folder × List ℕ = (way.folder, string_bytes way.name) in
    let file = get_or new k d in
    let left = subst (All (λ (f : DropFile). is_elsewhere place (file_place f) ≡ true)) (sym is)
    (filter_passes (λ (f : DropFile). is_elsewhere place (file_place f)) old) k d within in
    not_true (is_in_place place file) (is_at_place place file leads.0 leads.1) left

pub gone_if : (way : FileWay) (old new : List DropFile) (result : Result Unit Error)
    → TakesName (way.folder, string_bytes way.name) old result new → IfOk result (λ _. Bears new way None)
gone_if way old new (Ok done) takes = named_gone way old new takes.1
gone_if way old new (Err error) takes = tt

pub still_none : (way : FileWay) (old new : List DropFile) → LacksSome (Has way) old new → (other : FileWay) → Bears old other None
    → Bears new other None
still_none way old new lacks other none = still_all (Has way) (λ (f : DropFile). IsWayTo other (file_place f) → ⊥) old new lacks none
