-- What follows several calls that use the folders of a Maildir.
use Rattle.std.proofs.Common.{◌≡◌, ⊎_elim, ℕ, List, Bool, true, refl, sym, ap, ◌∙◌, subst, Result, Ok, Err}
use Rattle.std.proofs.Common.{◌<◌, ◌+◌, ◌≢◌, ◌++◌, ◌∷◌, [], append_assoc, append-nil, arith, cond, length, map, not, suc}
use Rattle.std.proofs.lemmas.List.{Elements.filter-append, length-map}
use Rattle.std.specs.{Prelude.{IfOk, Vec, string_bytes, vec_len}, Borrow.Bor}
use Rattle.mail_terms.specs.UniqueId.{has_id}
use Rattle.mail_store.specs.declared.maildir.disk.Folder.{Folder, TheVariants.{New, Cur}}
use Rattle.folder_store.specs.declared.{
  listed_names.Opened.{Opened, TheVariants.{File, Gone, Shut}},
  mail_folders.FoundNames.{FoundNames},
}
use Rattle.std.specs.IoError.{error_kind}
use Rattle.system_calls.specs.declared.refusal.Denial.{Denial}
use Rattle.mail_store.specs.declared.fault.StoreFault.{StoreFault}
use Rattle.folder_store.specs.{
  Calls.{Creates, answered},
  FileFolder.{MadeFile, Makes},
  HostAnswers.{refuses_links},
  MailCalls.{MakesDraft, Then, TellsFiles, file_names, odd_names},
  MailFolders.{Directories, Moved, odd_names_in, unopened_in},
  SharedCalls.{AddsNames, Did, AreUnflushed, IsOpenedAs, IsSame, LeavesSome, LeftAfter, Links, Shared, borrowed_texts},
}
use Rattle.folder_store.proofs.{MailMoves.{on, rest}, Refusing.{missing_absent}}

-- a call that saw the folders, and then another one
pub did_on : (Does : Directories → Directories → Type 0) (a b c : Shared) → Did IsSame a b → Did Does b c → Did Does a c
did_on Does a b c first then = (
  then.0 ∙ ap (λ (s : Shared). record s { directories = c.directories }) first.0,
  (
    then.1.0,
    on a.directories b.directories then.1.0 (subst (Moved a.directories) (sym first.1.2) first.1.1) then.1.1,
    then.1.2,
  ),
)

-- a file that can't have a second name got none
pub links_none : (T : Type 0) (file : MadeFile) (name : List ℕ) (d : Denial) (a b : Shared) → refuses_links (error_kind d.error) ≡ true
    → Did (Links {T = T} file name (Err d)) a b → Did IsSame a b
links_none T file name d a b refuses did =
    (did.0, (did.1.0, did.1.1, ⊎_elim (λ same. same) (λ other. cc (refuses, other.0)) did.1.2))

-- a call that nobody else sees
pub unseen : (a b : Shared) → b ≡ a → Moved a.directories b.directories
unseen a b same = subst (λ (s : Shared). Moved a.directories s.directories) (sym same) (rest a.directories)

-- a file was made, or wasn't
makes_in : {N : Type 0} (made : N → MadeFile) (Sound : N → Type 0) (has_tmp : Bool) (r : Result N Denial) (answer : Result N StoreFault)
    → answer ≡ answered r → (IfOk r Sound → Creates made has_tmp r) → IfOk answer Sound → Makes made has_tmp answer
makes_in made Sound has_tmp (Ok file) answer is creates = rw is (λ s. creates s)
makes_in made Sound has_tmp (Err d) answer is creates = rw is (λ s missing. creates s (missing_absent (error_kind d.error) missing))

pub makes_draft : {N : Type 0} (made : N → MadeFile) (Sound : N → Type 0) (a b : Shared) (r : Result N Denial)
    (answer : Result N StoreFault) → answer ≡ answered r → b ≡ a → (IfOk r Sound → Creates made a.directories.there.tmp r)
    → IfOk answer Sound → Then (MakesDraft made answer) a.directories b.directories
makes_draft made Sound a b r answer is same creates sound = (
  a.directories,
  rest a.directories,
  (ap (λ (s : Shared). s.directories) same, makes_in made Sound a.directories.there.tmp r answer is creates sound),
)

-- nothing was called
pub did_none : (a : Shared) → Did IsSame a a
did_none a = (refl, (a.directories, rest a.directories, refl))

-- ---- what names lead to

-- one name
pub files_one : (us : List (List ℕ)) (name : List ℕ) (is : Bool) → has_id us name ≡ is
    → file_names us (name ∷ []) ≡ cond (not is) (name ∷ []) []
files_one us name is so = ap (λ (b : Bool). cond (not b) (name ∷ []) []) so

pub odds_one : (us : List (List ℕ)) (name : List ℕ) (is : Bool) → has_id us name ≡ is
    → odd_names us (name ∷ []) ≡ cond is (name ∷ []) []
odds_one us name is so = ap (λ (b : Bool). cond b (name ∷ []) []) so

-- no name
pub adds_none : (d : Directories) (folder : Folder) (a : FoundNames) → AddsNames d folder [] a a
adds_none d folder a = (sym (append-nil (map string_bytes a.files.items)), sym (append-nil (map string_bytes a.odd.items)))

-- names, and then others
pub adds_on : (d : Directories) (folder : Folder) (xs ys : List (List ℕ)) (a b c : FoundNames) → AddsNames d folder xs a b
    → AddsNames d folder ys b c → AddsNames d folder (xs ++ ys) a c
adds_on d folder xs ys a b c first then =
    let us = unopened_in folder d in
    let os = odd_names_in folder d in (
      then.0 ∙ ap (λ (l : List (List ℕ)). l ++ file_names us ys) first.0
          ∙ append_assoc (map string_bytes a.files.items) (file_names us xs) (file_names us ys)
          ∙ ap (λ (l : List (List ℕ)). map string_bytes a.files.items ++ l) (sym (filter-append (λ name. not (has_id us name)) xs ys)),
      then.1 ∙ ap (λ (l : List (List ℕ)). l ++ odd_names os ys) first.1
          ∙ append_assoc (map string_bytes a.odd.items) (odd_names os xs) (odd_names os ys)
          ∙ ap (λ (l : List (List ℕ)). map string_bytes a.odd.items ++ l) (sym (filter-append (has_id os) xs ys)),
    )

-- a name that was odd in a listing stays so
moved_unopened : (folder : Folder) (a b : Directories) → Moved a b → unopened_in folder b ≡ unopened_in folder a
moved_unopened New a b moved = moved.odd_new
moved_unopened Cur a b moved = rw (moved.dirs_cur, moved.odd_cur) refl

moved_odd : (folder : Folder) (a b : Directories) → Moved a b → odd_names_in folder b ≡ odd_names_in folder a
moved_odd New a b moved = moved.odd_new
moved_odd Cur a b moved = moved.odd_cur

seen_moves : (a b : Shared) → Did IsSame a b → Moved a.directories b.directories
seen_moves a b did = subst (Moved a.directories) (sym did.1.2) did.1.1

moved_opened : {H : Type 0} (folder : Folder) (name : List ℕ) (a b : Directories) (opened : Opened H) → Moved a b
    → IsOpenedAs b folder name opened → IsOpenedAs a folder name opened
moved_opened folder name a b (File file) moved is = sym (ap (λ us. has_id us name) (moved_unopened folder a b moved)) ∙ is
moved_opened folder name a b Gone moved is = sym (ap (λ us. has_id us name) (moved_unopened folder a b moved)) ∙ is
moved_opened folder name a b (Shut kind why) moved is = (
  sym (ap (λ us. has_id us name) (moved_unopened folder a b moved)) ∙ is.0,
  sym (ap (λ os. has_id os name) (moved_odd folder a b moved)) ∙ is.1,
)

answer_opened : {H : Type 0} (folder : Folder) (name : List ℕ) (a b : Directories) (r : Result (Opened H) Denial) → Moved a b
    → IfOk r (IsOpenedAs b folder name) → IfOk r (IsOpenedAs a folder name)
answer_opened folder name a b (Ok opened) moved is = moved_opened folder name a b opened moved is
answer_opened folder name a b (Err d) moved is = tt

-- a name was opened after another call
pub opened_then : {H : Type 0} (folder : Folder) (name : List ℕ) (r : Result (Opened H) Denial) (a b c : Shared) → Did IsSame a b
    → Did IsSame b c → IfOk r (IsOpenedAs b.directories folder name)
    → Did IsSame a c × IfOk r (IsOpenedAs a.directories folder name)
opened_then folder name r a b c first then is =
    (did_on IsSame a b c first then, answer_opened folder name a.directories b.directories r (seen_moves a b first) is)

moved_adds : (folder : Folder) (a b : Directories) (names : List (List ℕ)) (x y : FoundNames) → Moved a b → AddsNames b folder names x y
    → AddsNames a folder names x y
moved_adds folder a b names x y moved adds = (
  subst (λ (us : List (List ℕ)). map string_bytes y.files.items ≡ map string_bytes x.files.items ++ file_names us names)
      (moved_unopened folder a b moved) adds.0,
  subst (λ (os : List (List ℕ)). map string_bytes y.odd.items ≡ map string_bytes x.odd.items ++ odd_names os names)
      (moved_odd folder a b moved) adds.1,
)

-- the same after another call
pub adds_then : (folder : Folder) (a b : Shared) (xs ys : List (List ℕ)) (x y z : FoundNames) → Did IsSame a b
    → AddsNames a.directories folder xs x y → AddsNames b.directories folder ys y z
    → AddsNames a.directories folder (xs ++ ys) x z
adds_then folder a b xs ys x y z did first then = adds_on a.directories folder xs ys x y z first
    (moved_adds folder a.directories b.directories ys y z (seen_moves a b did) then)

-- the names of both folders
pub tells_both : (a b c : Shared) (in_new in_cur : List (List ℕ)) (x y z : FoundNames) → map string_bytes x.files.items ≡ []
    → map string_bytes x.odd.items ≡ [] → Did IsSame a b → Did IsSame b c → AddsNames a.directories New in_new x y
    → AddsNames b.directories Cur in_cur y z → Did (TellsFiles in_new in_cur (Ok z)) a c
tells_both a b c in_new in_cur x y z no_files no_odd first then new cur =
    let old = seen_moves a b first in
    let moved = on a.directories b.directories c.directories old (seen_moves b c then) in
    let late = moved_adds Cur a.directories b.directories in_cur y z old cur in
    let is = did_on IsSame a b c first then in
    let us = moved_unopened New a.directories c.directories moved in
    let vs = moved_unopened Cur a.directories c.directories moved in (
      is.0,
      (
        c.directories,
        moved,
        (
          refl,
          (
            late.0 ∙ rw (new.0, no_files, us, vs) refl,
            late.1 ∙ rw (new.1, no_odd, moved.odd_new, moved.odd_cur) refl,
          ),
        ),
      ),
    )

-- ---- passes

-- no stem is among none
texts_some : {A : Type 0} (left : Vec (Bor (List ℕ)) A) → 0 < vec_len left → borrowed_texts left.items ≢ []
texts_some left some none = omega (arith, some, ap length none, length-map left.items (λ (t : Bor (List ℕ)). t.now), left.ok)

-- one more pass
pub left_next : (left : LeftAfter) (stems : List (List ℕ)) (passes : ℕ) (some : List (List ℕ)) → left stems (passes + 1) some
    → AreUnflushed left stems (passes + 1) some
left_next left stems passes some is =
    let e : passes + 1 ≡ suc passes = omega arith in
    subst (λ (n : ℕ). AreUnflushed left stems n some) (sym e) (subst (λ (n : ℕ). left stems n some) e is)

-- eight passes
pub left_eight : {A : Type 0} (left : LeftAfter) (stems : List (List ℕ)) (passes : ℕ) (some : Vec (Bor (List ℕ)) A)
    → passes ≡ 8 → (0 < passes → 0 < vec_len some) → AreUnflushed left stems passes (borrowed_texts some.items) → LeavesSome (left stems)
left_eight left stems passes some eight are is = (
  borrowed_texts some.items,
  texts_some some (are (omega (arith, eight))),
  subst (λ (n : ℕ). AreUnflushed left stems n (borrowed_texts some.items)) eight is,
)
