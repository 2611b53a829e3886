-- What is taken away with a message, if only this server changes the Maildir.
use Rattle.std.{
  proofs.Common.{◌≡◌, ◌≢◌, ◌⊎◌, ◌<◌, ◌≤◌, ◌+◌, ◌==◌, ◌&&◌, ◌∙◌, ◌++◌, ◌∷◌, [], ℕ, Bool, true, false, List, Option, Some, None},
  proofs.Common.{ap, arith, cond, get_or, inl, inr, length, map, refl, suc, subst, sym, ⊎_elim},
  proofs.lemmas.{
    Bool.{cond_both, false≢true, false_from_ne_true},
    List.Elements.{All-contains, All-contains_itself, All-cons, All-filter, All-head, All-nil, All-tail, All-weaker, AllWithin-none},
    Slice.Eq.bytes_eq-Decides,
  },
  specs.{List.{All, AllWithin, Contains, filter}, Prelude.{IfNone, bytes_eq, string_bytes}},
}
use Rattle.mail_terms.specs.MaildirName.{base}
use Rattle.folder_drop.specs.{
  declared.{
    folders_look.FoldersLook.FoldersLook,
    listed_file.ListedFile.ListedFile,
    mail_files.{FileWay.FileWay, Found.Found},
    maildir_names.{FileNumber.FileNumber, Folder.Folder, PlacedFile.PlacedFile, Stamp.Stamp},
    removal.{Namesake.Namesake, TwoMessages.TwoMessages},
  },
  MaildirMail.is_namesake,
  MailFiles.{AreMailFiles, Bears, Has, LacksSome, TellsEach, DropFile, HasOctetsOf, Stays, TakesSome, file_place},
  Places.{IsWayTo, base_of_file, folder_and_name},
  RealMaildir.listed_name,
  Removal.{AreCopies, AreNamesakes, BearsOne, IsNamesake, MayGo, RemovesWith, SeesAll, TakesCopies, TellsInstead},
  SeenFiles.HaveBase,
}
use Rattle.folder_drop.proofs.{
  MailLemmas.{and_true, both_true, contains_later, same_by_place, same_pair},
  RemovalLemmas.within_more,
}

-- ---- lists of which some are taken away

pub filter_all : {A : Type 0} (xs : List A) → filter (λ _. true) xs ≡ xs
filter_all [] = refl
filter_all (x ∷ xs) = ap (λ ys. x ∷ ys) (filter_all xs)

pub filter_twice : {A : Type 0} (p q : A → Bool) (xs : List A) → filter q (filter p xs) ≡ filter (λ x. p x && q x) xs
filter_twice p q [] = refl
filter_twice p q (x ∷ xs) = grind (arith, filter_twice p q xs)

filter_first : {A : Type 0} (P : A → Type 0) (b : Bool) (x : A) (xs : List A) → All P (cond b (x ∷ xs) xs)
    → ((b ≡ false) ⊎ P x) × All P xs
filter_first P true x xs all = (inr (All-head P x xs all), All-tail P x xs all)
filter_first P false x xs all = (inl refl, all)

-- what holds of all that stay
of_those : {A : Type 0} (p : A → Bool) (P : A → Type 0) (xs : List A) → All P (filter p xs) → All (λ x. (p x ≡ false) ⊎ P x) xs
of_those p P [] all = All-nil (λ x. (p x ≡ false) ⊎ P x)
of_those p P (x ∷ xs) all =
    let both = filter_first P (p x) x (filter p xs) all in
    All-cons (λ y. (p y ≡ false) ⊎ P y) x xs both.0 (of_those p P xs both.1)

pub lacks_none : (P : DropFile → Type 0) (files : List DropFile) → LacksSome P files files
lacks_none P files = (λ _. true, sym (filter_all files), λ k d within. inl refl)

pub lacks_then : (P : DropFile → Type 0) (old mid new : List DropFile) → LacksSome P old mid → LacksSome P mid new → LacksSome P old new
lacks_then P old mid new one other =
    let p = one.0 in
    let q = other.0 in
    let left = of_those p (λ file. (q file ≡ true) ⊎ P file) old
    (subst (All (λ file. (q file ≡ true) ⊎ P file)) one.1 other.2) in (
      λ file. p file && q file,
      other.1 ∙ ap (filter q) one.1 ∙ filter_twice p q old,
      λ k d within. let file = get_or old k d in
          ⊎_elim (λ stays. ⊎_elim (λ goes. absurd (false≢true (sym goes ∙ stays)))
          (λ then. ⊎_elim (λ yes. inl (and_true (p file) (q file) stays yes)) inr then) (left k d within)) inr (one.2 k d within),
    )

pub lacks_by : (P Q : DropFile → Type 0) (old new : List DropFile) → ((file : DropFile) → Contains old file → P file → Q file)
    → LacksSome P old new → LacksSome Q old new
lacks_by P Q old new follows lacks = (
  lacks.0,
  lacks.1,
  λ k d within. ⊎_elim inl
      (λ p. inr (follows (get_or old k d) (All-contains_itself old k d within) p)) (lacks.2 k d within),
)

pub still_all : (P Q : DropFile → Type 0) (old new : List DropFile) → LacksSome P old new → All Q old → All Q new
still_all P Q old new lacks all = subst (All Q) (sym lacks.1) (All-filter lacks.0 Q old all)

pub was_there : (P : DropFile → Type 0) (old new : List DropFile) (file : DropFile) → LacksSome P old new → Contains new file
    → Contains old file
was_there P old new file lacks there = All-contains (Contains old) new file
    (still_all P (Contains old) old new lacks (All-contains_itself old)) there

-- ---- a device of which some files are taken away

module _ {D : Type 0} (path : D → List ℕ) (looked : D → FoldersLook → List DropFile → Type 0) where
  pub stays_so : (d : D) → Stays path looked d d
  stays_so d = record { place = refl; looks = λ look was is. is }

  pub stays_on : (old mid new : D) → Stays path looked old mid → Stays path looked mid new → Stays path looked old new
  stays_on old mid new one other = record {
    place = other.place ∙ one.place;
    looks = λ look was is. other.looks look was (one.looks look was is);
  }

module _ {D : Type 0} (path : D → List ℕ) (looked : D → FoldersLook → List DropFile → Type 0)
    (removed : D → FileWay → FileNumber → Type 0) (sound : D → Type 0) (files : D → List DropFile) where
  pub takes_none : (P : DropFile → Type 0) (d : D) → TakesSome path looked removed sound files P d d
  takes_none P d = record {
    stays = stays_so path looked d;
    names = λ way number is. is;
    lacks = λ s. (s, lacks_none P (files d));
  }

  pub takes_then : (P : DropFile → Type 0) (old mid new : D) → TakesSome path looked removed sound files P old mid
      → TakesSome path looked removed sound files P mid new → TakesSome path looked removed sound files P old new
  takes_then P old mid new one other = record {
    stays = stays_on path looked old mid new one.stays other.stays;
    names = λ way number is. other.names way number (one.names way number is);
    lacks = λ s. let later = other.lacks s in let before = one.lacks later.0 in
        (before.0, lacks_then P (files old) (files mid) (files new) before.1 later.1);
  }

  -- one of these names was taken away
  pub takes_named : (names : List Namesake) (i : ℕ) (name : Namesake) (old new : D) → i < length names → name ≡ get_or names i name
      → TakesSome path looked removed sound files (Has name.file) old new
      → TakesSome path looked removed sound files (BearsOne names) old new
  takes_named names i name old new within is one = record {
    stays = one.stays;
    names = one.names;
    lacks = λ s. let lacks = one.lacks s in (
      lacks.0,
      lacks_by (Has name.file) (BearsOne names) (files old) (files new)
          (λ file there has. (name, (i, within, sym is), has)) lacks.1,
    );
  }

  -- one more of these names was taken away, if it's to be
  pub takes_more : (Q : Namesake → Type 0) (names : List Namesake) (i : ℕ) (name : Namesake) (old mid new : D) → i < length names
      → name ≡ get_or names i name
      → AllWithin (λ n. Q n → removed mid n.file n.stamp.number) names 0 i × TakesSome path looked removed sound files (BearsOne names) old
      mid
      → (Q name → removed new name.file name.stamp.number) → TakesSome path looked removed sound files (Has name.file) mid new
      → AllWithin (λ n. Q n → removed new n.file n.stamp.number) names 0 (i + 1)
      × TakesSome path looked removed sound files (BearsOne names) old new
  takes_more Q names i name old mid new within is before goes one = (
    within_more (λ n. Q n → removed new n.file n.stamp.number) names i name within is goes
        (λ k d low high q. one.names (get_or names k d).file (get_or names k d).stamp.number (before.0 k d low high q)),
    takes_then (BearsOne names) old mid new before.1 (takes_named names i name mid new within is one),
  )

-- ---- the files with a message's base, all of which were seen

same_there : (files : List DropFile) (way : FileWay) (a b : DropFile) → AreMailFiles files → Contains files a → Contains files b
    → Has way a → Has way b → a ≡ b
same_there files way a b whole one other to_a to_b = same_by_place files whole.distinct a b one other
    (same_pair a.folder b.folder a.name b.name (sym to_a.0 ∙ to_b.0) (sym to_a.1 ∙ to_b.1))

namesake_if : (listed : ListedFile) (file : DropFile) → file.is_regular ≡ true → base (listed_name listed) ≡ base file.name
    → is_namesake listed file ≡ true
namesake_if listed file regular same = and_true file.is_regular (bytes_eq (base (listed_name listed)) (base file.name)) regular
    ((bytes_eq-Decides (base (listed_name listed)) (base file.name)).1 same)

pub namesake_then : (listed : ListedFile) (file : DropFile) → is_namesake listed file ≡ true
    → (file.is_regular ≡ true) × (base (listed_name listed) ≡ base file.name)
namesake_then listed file is =
    let both = both_true file.is_regular (bytes_eq (base (listed_name listed)) (base file.name)) is in
    (both.0, (bytes_eq-Decides (base (listed_name listed)) (base file.name)).0 both.1)

module _ (found : FileWay → Option Found → Type 0) (files : List DropFile) (listed : ListedFile) (from seen : List PlacedFile)
    (all : List Namesake) (whole : AreMailFiles files)
    (finds : (way : FileWay) (what : Option Found) → found way what → Bears files way what)
    (are : AreNamesakes found listed seen all) (have : HaveBase (base (listed_name listed)) from seen) where
  -- what bears one of the names
  bearer : (name : Namesake) → Contains all name
      → (file : DropFile) × Contains files file × Has name.file file × (file.is_regular ≡ true) × (name.stamp ≡ file.stamp)
      × (base (listed_name listed) ≡ base file.name)
  bearer name among =
      let was = All-contains (λ n. (s : PlacedFile) × Contains seen s × IsNamesake found listed s (Some n)) all name are.only among in
      let told = was.2.1 in
      let here = finds name.file (Some told.0) told.1 in
      let based = All-contains (λ s. (base_of_file s ≡ base (listed_name listed)) × Contains from s) seen was.0 have.only was.1 in (
        here.file,
        here.there,
        here.leads,
        sym here.regular ∙ told.2,
        told.3 ∙ here.stamp,
        sym based.0 ∙ sym (ap base was.2.0.1) ∙ ap base here.leads.1,
      )

  pub named_has_base : (file : DropFile) → Contains files file → BearsOne all file → is_namesake listed file ≡ true
  named_has_base file there named =
      let bears = bearer named.0 named.1 in
      subst (λ f. is_namesake listed f ≡ true) (same_there files named.0.file bears.0 file whole bears.1 there bears.2 named.2)
      (namesake_if listed bears.0 bears.3 bears.5)

  -- a regular file with the base has one of the names
  pub has_name : SeesAll files from → (file : DropFile) → Contains files file → is_namesake listed file ≡ true
      → (name : Namesake) × Contains all name × Has name.file file × (name.stamp ≡ file.stamp)
  has_name sees file there is =
      let parts = namesake_then listed file is in
      let s = All-contains (λ f. (s : PlacedFile) × Contains from s × (folder_and_name s ≡ file_place f)) files file sees there in
      let folder = ap (λ (p : Folder × List ℕ). p.0) s.2 in
      let name = ap (λ (p : Folder × List ℕ). p.1) s.2 in
      let among = All-contains (λ p. base_of_file p ≡ base (listed_name listed) → Contains seen p) from s.0 have.each s.1
      (ap base name ∙ sym parts.1) in
      let was = All-contains (λ p. IsNamesake found listed p None ⊎ ((n : Namesake) × Contains all n × IsNamesake found listed p (Some n)))
      seen s.0 are.each among in
      ⊎_elim
      (λ none. let here = finds none.0 (Some none.1) none.3 in
      let same = same_there files none.0 here.file file whole here.there there here.leads (none.2.0 ∙ folder, none.2.1 ∙ name) in
      absurd (false≢true (sym none.4 ∙ here.regular ∙ ap (λ f. f.is_regular) same ∙ parts.0)))
      (λ some. let bears = bearer some.0 some.1 in
      let has : Has some.0.file file = (some.2.0.0 ∙ folder, some.2.0.1 ∙ name) in
      let same = same_there files some.0.file bears.0 file whole bears.1 there bears.2 has in
      (some.0, some.1, has, bears.4 ∙ ap (λ f. f.stamp) same)) was

  -- if all names are gone, none of these files is left
  pub none_left : SeesAll files from → (P : DropFile → Type 0) (new : List DropFile) → LacksSome P files new
      → All (λ (name : Namesake). Bears new name.file None) all → All (λ (file : DropFile). is_namesake listed file ≡ false) new
  none_left sees P new lacks gone = λ k d within. let file = get_or new k d in
      let there = All-contains_itself new k d within in
      false_from_ne_true (is_namesake listed file) (λ is.
      let named = has_name sees file (was_there P files new file lacks there) is in
      All-contains (λ f. IsWayTo named.0.file (file_place f) → ⊥) new file
      (All-contains (λ n. Bears new n.file None) all named.0 gone named.1) there named.2)

  number_of : (a b : Stamp) → a ≡ b → a.number ≡ b.number
  number_of a b same = ap (λ (s : Stamp). s.number) same

  -- the files with names that may go have the octets of the listed one
  goes_same : {File : Type 0} (remaining : File → Option (List ℕ)) (opened : FileWay → FileNumber → File → Type 0)
      → ((way : FileWay) (number : FileNumber) (file : File) → opened way number file → HasOctetsOf remaining files number file)
      → (own name : Namesake) (o a : DropFile) → Contains files o → Contains files a → own.stamp ≡ o.stamp → name.stamp ≡ a.stamp
      → MayGo remaining opened own name → a.content ≡ o.content
  goes_same remaining opened reads own name o a own_there there owned named (inl same) =
      whole.one a o there own_there (number_of a.stamp name.stamp (sym named) ∙ same ∙ number_of own.stamp o.stamp owned)
  goes_same remaining opened reads own name o a own_there there owned named (inr were) =
      let octets = All-contains (λ f. f.stamp.number ≡ name.stamp.number → remaining were.2.0 ≡ Some f.content) files a
      (reads name.file name.stamp.number were.2.0 were.2.1) there (number_of a.stamp name.stamp (sym named)) in
      let other = All-contains (λ f. f.stamp.number ≡ own.stamp.number → remaining were.3.0 ≡ Some f.content) files o
      (reads own.file own.stamp.number were.3.0 were.3.1) own_there (number_of o.stamp own.stamp (sym owned)) in
      (were.4 a.content o.content (sym were.2.2 ∙ octets) (sym were.3.2 ∙ other)).0 refl

  pub are_copies : {File : Type 0} (remaining : File → Option (List ℕ)) (opened : FileWay → FileNumber → File → Type 0)
      → ((way : FileWay) (number : FileNumber) (file : File) → opened way number file → HasOctetsOf remaining files number file)
      → SeesAll files from → (own : Namesake) → Contains all own → All (MayGo remaining opened own) all → AreCopies listed files
  are_copies remaining opened reads sees own among may a b one other is_a is_b =
      let o = bearer own among in
      let to_a = has_name sees a one is_a in
      let to_b = has_name sees b other is_b in
      goes_same remaining opened reads own to_a.0 o.0 a o.1 one o.4 to_a.3 (All-contains (MayGo remaining opened own) all to_a.0 may to_a.1)
      ∙ sym (goes_same remaining opened reads own to_b.0 o.0 b o.1 other o.4 to_b.3
      (All-contains (MayGo remaining opened own) all to_b.0 may to_b.1))

  -- what is taken away of these names
  pub takes_copies : {File : Type 0} (remaining : File → Option (List ℕ)) (opened : FileWay → FileNumber → File → Type 0)
      → ((way : FileWay) (number : FileNumber) (file : File) → opened way number file → HasOctetsOf remaining files number file)
      → SeesAll files from → (own : Namesake) → Contains all own → own.stamp ≡ listed.stamp → (new : List DropFile)
      → LacksSome (BearsOne all) files new → (new ≡ files) ⊎ All (MayGo remaining opened own) all → TakesCopies listed files new
  takes_copies remaining opened reads sees own among is new lacks (inl same) = inl same
  takes_copies remaining opened reads sees own among is new lacks (inr may) = let bears = bearer own among in inr (
    are_copies remaining opened reads sees own among may,
    lacks_by (BearsOne all) (λ (file : DropFile). is_namesake listed file ≡ true) files new named_has_base lacks,
    (bears.0, bears.1, namesake_if listed bears.0 bears.3 bears.5, sym bears.4 ∙ is),
  )

  pub told_instead : SeesAll files from → (told : Option TwoMessages) → TellsInstead all told
      → IfNone told (All (λ (file : DropFile). is_namesake listed file ≡ false) files)
  told_instead sees None e = none_left sees (BearsOne all) files (lacks_none (BearsOne all) files)
      (subst (All (λ (name : Namesake). Bears files name.file None)) (sym e) (All-nil (λ (name : Namesake). Bears files name.file None)))
  told_instead sees (Some two) e = tt

  pub told_with : {File : Type 0} (remaining : File → Option (List ℕ)) (opened : FileWay → FileNumber → File → Type 0)
      (removed : FileWay → FileNumber → Type 0) (own : Namesake) (new : List DropFile) → SeesAll files from
      → LacksSome (BearsOne all) files new → ((way : FileWay) (number : FileNumber) → removed way number → Bears new way None)
      → (told : Option TwoMessages) → RemovesWith remaining opened removed own all told
      → IfNone told (All (λ (file : DropFile). is_namesake listed file ≡ false) new)
  told_with remaining opened removed own new sees lacks gone None all_went = none_left sees (BearsOne all) new lacks
      (λ k d within. gone (get_or all k d).file (get_or all k d).stamp.number (all_went.1 k d within))
  told_with remaining opened removed own new sees lacks gone (Some two) told = tt

-- ---- one try after another

pub copies_then : (listed : ListedFile) (old mid new : List DropFile) → TakesCopies listed old mid → TakesCopies listed mid new
    → TakesCopies listed old new
copies_then listed old mid new (inl same) then = subst (λ files. TakesCopies listed files new) same then
copies_then listed old mid new (inr one) (inl same) = inr (
  one.0,
  subst (LacksSome (λ (file : DropFile). is_namesake listed file ≡ true) old) (sym same) one.1,
  one.2,
)
copies_then listed old mid new (inr one) (inr other) = inr (
  one.0,
  lacks_then (λ (file : DropFile). is_namesake listed file ≡ true) old mid new one.1 other.1,
  one.2,
)

pub sees_left : (listed : ListedFile) (old new : List DropFile) (seen : List PlacedFile) → TakesCopies listed old new
    → SeesAll old seen → SeesAll new seen
sees_left listed old new seen (inl same) sees = subst (λ files. SeesAll files seen) (sym same) sees
sees_left listed old new seen (inr copies) sees = still_all (λ (file : DropFile). is_namesake listed file ≡ true)
    (λ (file : DropFile). (from : PlacedFile) × Contains seen from × (folder_and_name from ≡ file_place file)) old new copies.1 sees

abbrev head_of : {A : Type 0} → A → List A → A
head_of x [] = x
head_of x (y ∷ ys) = y

abbrev rest_of : {A : Type 0} → List A → List A
rest_of [] = []
rest_of (y ∷ ys) = ys

none_first : {A : Type 0} (x : A) (xs : List A) → [] ≡ x ∷ xs → ⊥
none_first x xs e = let long : 0 ≡ suc (length xs) = ap length e in omega (arith, long)

-- all are seen in a listing
pub sees_told : (files : List DropFile) (told : List PlacedFile) → TellsEach files told → SeesAll files told
sees_told [] told all = λ k d within. absurd (omega (arith, within))
sees_told (file ∷ files) [] all = absurd (none_first (file_place file) (map file_place files) all)
sees_told (file ∷ files) (from ∷ told) all =
    All-cons (λ (f : DropFile). (s : PlacedFile) × Contains (from ∷ told) s × (folder_and_name s ≡ file_place f)) file files
    (from, (0, omega arith, refl), ap (head_of (file_place file)) all)
    (λ k d within. let s = sees_told files told (ap rest_of all) k d within in (s.0, contains_later from told s.0 s.1, s.2))
