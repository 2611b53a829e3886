-- The file of a listed message, among all that are there.
use Rattle.std.{
  proofs.Common.{◌≡◌, ◌≢◌, ◌⊎◌, ◌<◌, ◌≤◌, ◌==◌, ◌&&◌, ◌∙◌, ◌∷◌, [], ℕ, Bool, true, false, List, Option, Some, None},
  proofs.Common.{ap, arith, get_or, inl, inr, length, map, refl, suc, subst, sym, zero, ⊎_elim},
  proofs.lemmas.{
    Bool.{cases_lt, cond_both, false≢true},
    List.{get_or-map, get_or_default, length-map},
    Option.{none-some, same_Some},
    Slice.Eq.bytes_eq-Decides,
  },
  specs.{List.{All, Contains, HoldsAt, find}, Option.option_or, Prelude.{bytes_eq, string_bytes}},
}
use Rattle.mail_terms.specs.{Distinct.AreDistinct, MaildirName.base}
use Rattle.folder_drop.specs.{
  declared.{
    listed_file.ListedFile.ListedFile,
    mail_files.{FileWay.FileWay, Found.Found},
    maildir_names.{FileNumber.FileNumber, Folder.{Folder, TheVariants.{Cur, New}}, Stamp.Stamp},
  },
  Finding.{IsFoundNow, IsOpenNow},
  MaildirMail.{IsKnown, IsOwn, is_namesake, own_file},
  MailFiles.{AreMailFiles, Bears, DropFile, HasOctetsOf, is_in_place, file_place},
  Places.{IsWayTo, rank},
  RealMaildir.{listed_name, listed_place},
}

-- ---- the first that passes a test

pub contains_later : {A : Type 0} (y : A) (xs : List A) (x : A) → Contains xs x → Contains (y ∷ xs) x
contains_later y xs x there = (suc there.0, omega (arith, there.1), there.2)

pub found_passes : {A : Type 0} (test : A → Bool) (xs : List A) (x : A) → find test xs ≡ Some x
    → Contains xs x × (test x ≡ true)
found_passes test [] x e = absurd (none-some x e)
found_passes {A} test (y ∷ ys) x e = cond_both (test y) (Some y) (find test ys)
    (λ (o : Option A). o ≡ Some x → Contains (y ∷ ys) x × (test x ≡ true))
    (λ is same. subst (λ (z : A). Contains (y ∷ ys) z × (test z ≡ true)) (same_Some y x same) ((0, omega arith, refl), is))
    (λ _ later. let rest = found_passes test ys x later in (contains_later y ys x rest.0, rest.1)) e

none_passes : {A : Type 0} (test : A → Bool) (xs : List A) → find test xs ≡ None → (k : ℕ) (d : A) → k < length xs
    → test (get_or xs k d) ≡ false
none_passes test [] e k d within = absurd (omega (arith, within))
none_passes {A} test (y ∷ ys) e zero d within = cond_both (test y) (Some y) (find test ys)
    (λ (o : Option A). o ≡ None → test y ≡ false) (λ _ some. absurd (none-some y (sym some))) (λ not _. not) e
none_passes {A} test (y ∷ ys) e (suc k) d within = cond_both (test y) (Some y) (find test ys)
    (λ (o : Option A). o ≡ None → test (get_or ys k d) ≡ false) (λ _ some. absurd (none-some y (sym some)))
    (λ _ later. none_passes test ys later k d (omega (arith, within))) e

pub none_of : {A : Type 0} (test : A → Bool) (xs : List A) (x : A) → find test xs ≡ None → Contains xs x → test x ≡ false
none_of {A} test xs x e there = subst (λ (y : A). test y ≡ false) there.2 (none_passes test xs e there.0 x there.1)

pub one_or_none : {A : Type 0} (o : Option A) → ((x : A) × (o ≡ Some x)) ⊎ (o ≡ None)
one_or_none None = inr refl
one_or_none (Some x) = inl (x, refl)

pub finds_one : {A : Type 0} (test : A → Bool) (xs : List A) (x : A) → Contains xs x → test x ≡ true
    → (y : A) × (find test xs ≡ Some y)
finds_one {A} test xs x there is = elim (one_or_none (find test xs)) [
  | inl some ↦ some
  | inr none ↦ absurd (false≢true (sym (none_of test xs x none there) ∙ is))
]

-- ---- places

rank_same : (a b : Folder) → (rank a == rank b) ≡ true → a ≡ b
rank_same Cur Cur e = refl
rank_same New New e = refl
rank_same Cur New e = absurd (false≢true e)
rank_same New Cur e = absurd (false≢true e)

rank_itself : (a : Folder) → (rank a == rank a) ≡ true
rank_itself Cur = refl
rank_itself New = refl

pub both_true : (a b : Bool) → (a && b) ≡ true → (a ≡ true) × (b ≡ true)
both_true true true e = (refl, refl)
both_true true false e = absurd (false≢true e)
both_true false b e = absurd (false≢true e)

pub and_true : (a b : Bool) → a ≡ true → b ≡ true → (a && b) ≡ true
and_true true true e f = refl
and_true true false e f = absurd (false≢true f)
and_true false b e f = absurd (false≢true e)

pub same_pair : (a b : Folder) (m n : List ℕ) → a ≡ b → m ≡ n → ◌≡◌ {A = Folder × List ℕ} (a, m) (b, n)
same_pair a b m n e f = rw (e, f) refl

pub at_its_place : (place : Folder × List ℕ) (file : DropFile) → is_in_place place file ≡ true → place ≡ file_place file
at_its_place place file is =
    let both = both_true (rank place.0 == rank file.folder) (bytes_eq place.1 file.name) is in
    same_pair place.0 file.folder place.1 file.name (rank_same place.0 file.folder both.0)
    ((bytes_eq-Decides place.1 file.name).0 both.1)

pub is_at_place : (place : Folder × List ℕ) (file : DropFile) → place.0 ≡ file.folder → place.1 ≡ file.name
    → is_in_place place file ≡ true
is_at_place place file folder name = and_true (rank place.0 == rank file.folder) (bytes_eq place.1 file.name)
    (subst (λ (f : Folder). (rank place.0 == rank f) ≡ true) folder (rank_itself place.0))
    ((bytes_eq-Decides place.1 file.name).1 name)

-- two files in one place are one
pub same_by_place : (files : List DropFile) → AreDistinct (map file_place files) → (a b : DropFile) → Contains files a → Contains files b
    → file_place a ≡ file_place b → a ≡ b
same_by_place files distinct a b one other same =
    let i = one.0 in
    let j = other.0 in
    let d = file_place a in
    let at_i : get_or (map file_place files) i d ≡ file_place a = get_or-map file_place files i a d one.1 ∙ ap file_place one.2 in
    let at_j : get_or (map file_place files) j d ≡ file_place b = get_or-map file_place files j b d other.1 ∙ ap file_place other.2 in
    let long = length-map files file_place in
    ⊎_elim (λ (lt : i < j). absurd (distinct i j d lt (omega (arith, long, other.1)) (at_i ∙ same ∙ sym at_j)))
    (λ (ge : j ≤ i). ⊎_elim (λ (lt : j < i). absurd (distinct j i d lt (omega (arith, long, one.1)) (at_j ∙ sym same ∙ sym at_i)))
    (λ (le : i ≤ j). let e : i ≡ j = omega (arith, ge, le) in
    sym one.2 ∙ ap (λ (k : ℕ). get_or files k a) e ∙ get_or_default files j a b other.1 ∙ other.2) (cases_lt j i)) (cases_lt i j)

-- the file in a place is found there
pub finds_at : (files : List DropFile) → AreDistinct (map file_place files) → (place : Folder × List ℕ) (file : DropFile)
    → Contains files file → place.0 ≡ file.folder → place.1 ≡ file.name → find (is_in_place place) files ≡ Some file
finds_at files distinct place file there folder name =
    let some = finds_one (is_in_place place) files file there (is_at_place place file folder name) in
    let passes = found_passes (is_in_place place) files some.0 some.1 in
    let same = same_by_place files distinct some.0 file passes.0 there
    (sym (at_its_place place some.0 passes.1) ∙ same_pair place.0 file.folder place.1 file.name folder name) in
    some.1 ∙ ap Some same

-- ---- the file that is read for a listed message

pub first_if_some : (files : List DropFile) (listed : ListedFile) (file : DropFile) → find (is_in_place (listed_place listed)) files ≡ Some
    file
    → own_file files listed ≡ Some file
first_if_some files listed file e = ap (λ (o : Option DropFile). option_or o (find (is_namesake listed) files)) e

pub second_if_none : (files : List DropFile) (listed : ListedFile) (file : DropFile) → find (is_in_place (listed_place listed)) files ≡ None
    → find (is_namesake listed) files ≡ Some file → own_file files listed ≡ Some file
second_if_none files listed file none e = ap (λ (o : Option DropFile). option_or o (find (is_namesake listed) files)) none ∙ e

-- nothing bears a name that leads to a place, so nothing is there
none_at : (files : List DropFile) (place : Folder × List ℕ) (way : FileWay) → IsWayTo way place → Bears files way None
    → find (is_in_place place) files ≡ None
none_at files place way leads none = elim (one_or_none (find (is_in_place place) files)) [
  | inl some ↦
      let passes = found_passes (is_in_place place) files some.0 some.1 in
      let at = at_its_place place some.0 passes.1 in
      let lacks = subst (λ (f : DropFile). IsWayTo way (file_place f) → ⊥) passes.0.2 (none passes.0.0 some.0 passes.0.1) in
      absurd (lacks (leads.0 ∙ ap (λ (p : Folder × List ℕ). p.0) at, leads.1 ∙ ap (λ (p : Folder × List ℕ). p.1) at))
  | inr e ↦ e
]

-- another file with the base of a listed one that isn't where it was has its octets
other_own : (files : List DropFile) (listed : ListedFile) (file : DropFile) → IsKnown files listed → Contains files file
    → is_namesake listed file ≡ true → find (is_in_place (listed_place listed)) files ≡ None
    → (own : DropFile) × (own_file files listed ≡ Some own) × (file.content ≡ own.content)
other_own files listed file known there is none =
    let some = finds_one (is_namesake listed) files file there is in
    let passes = found_passes (is_namesake listed) files some.0 some.1 in
    ⊎_elim (λ at. absurd (none-some at.0 (sym none ∙ at.1)))
    (λ same. (some.0, second_if_none files listed some.0 none some.1, same.1 file some.0 there passes.0 is passes.1)) known

pub all_at : {A : Type 0} (P : A → Type 0) (xs : List A) (x : A) → All P xs → Contains xs x → P x
all_at P xs x all there = subst P there.2 (all there.0 x there.1)

pub own_opened : {File : Type 0} (remaining : File → Option (List ℕ)) (found : FileWay → Option Found → Type 0)
    (opened : FileWay → FileNumber → File → Type 0) (files : List DropFile) (listed : ListedFile) (handle : File)
    → AreMailFiles files
    → ((way : FileWay) (what : Option Found) → found way what → Bears files way what)
    → ((way : FileWay) (number : FileNumber) (file : File) → opened way number file → HasOctetsOf remaining files number file)
    → IsOpenNow found opened (listed_place listed) handle → IsKnown files listed → IsOwn remaining files listed handle
own_opened remaining found opened files listed handle whole finds reads is_open known =
    let now = is_open.0 in
    let is = is_open.1 in
    let here = finds now.0 (Some now.1) is.bears in
    let file = here.file in
    let octets = all_at (λ (f : DropFile). f.stamp.number ≡ now.1.stamp.number → remaining handle ≡ Some f.content) files file
    (reads now.0 now.1.stamp.number handle is_open.3) here.there (ap (λ (s : Stamp). s.number) (sym here.stamp)) in
    ⊎_elim (λ leads. (
      file,
      first_if_some files listed file (finds_at files whole.distinct (listed_place listed) file here.there
          (sym leads.0 ∙ here.leads.0) (sym leads.1 ∙ here.leads.1)),
      octets,
    ))
    (λ missed.
    let none = none_at files (listed_place listed) missed.0 missed.1 (finds missed.0 None missed.2) in
    let same_base : base (listed_name listed) ≡ base file.name = sym is.based ∙ ap base here.leads.1 in
    let namesake = and_true file.is_regular (bytes_eq (base (listed_name listed)) (base file.name)) (sym here.regular ∙ is_open.2)
    ((bytes_eq-Decides (base (listed_name listed)) (base file.name)).1 same_base) in
    let own = other_own files listed file known here.there namesake none in
    (own.0, own.1, octets ∙ ap Some own.2)) is.first
