-- The messages of a listing after a removal.
use Rattle.std.{
  proofs.Common.{◌≡◌, ◌≢◌, ◌⊎◌, ◌<◌, ◌≤◌, ◌+◌, ◌∙◌, ◌∷◌, [], ℕ, Bool, true, false, List, Option, Some, None, Ok, Err, Result},
  proofs.Common.{ap, arith, cond, get_or, inl, inr, length, map, refl, slice_set, suc, subst, sym, zero, ⊎_elim},
  proofs.lemmas.{
    Bool.{cases_eq, cases_lt, cond_both, false≢true},
    List.{get_or-map, get_or_default, length-map},
    List.Elements.{All-contains, All-contains_itself, All-head, All-tail},
    Option.{none-some, same_Some},
    Slice.Eq.bytes_eq-Decides,
  },
  specs.{List.{All, Contains, HoldsAt, filter, find}, Prelude.{IfNone, IfOk, bytes_eq}},
}
use Rattle.mail_terms.specs.MaildirName.{base}
use Rattle.pop3_wire.specs.World.{Message}
use Rattle.pop3_server.specs.Size.{size_of}
use Rattle.folder_drop.specs.{
  declared.{listed_file.ListedFile.ListedFile, maildir_names.Folder.Folder, removal.TwoMessages.TwoMessages},
  MaildirMail.{IsKnown, is_namesake, message_of, own_file, slot_of, slots_of},
  MailFiles.{AreMailFiles, LacksSome, DropFile, is_in_place, file_place},
  RealMaildir.{AreAscending, listed_name, listed_names, listed_place},
  Removal.{TakesCopies, TakesMessage},
}
use Rattle.folder_drop.proofs.{
  MaildirLemmas.before_differs,
  MailLemmas.{and_true, at_its_place, finds_one, found_passes, none_of, one_or_none, same_by_place, first_if_some, second_if_none},
  TakenLemmas.{lacks_none, namesake_then, still_all, was_there},
}

-- ---- lists

kept_first : {A : Type 0} (test : A → Bool) (b : Bool) (x : A) (xs : List A) → (test x ≡ true → b ≡ true)
    → find test (cond b (x ∷ xs) xs) ≡ cond (test x) (Some x) (find test xs)
kept_first test true x xs stays = refl
kept_first {A} test false x xs stays = cond_both (test x) (Some x) (find test xs) (λ (o : Option A). find test xs ≡ o)
    (λ is. absurd (false≢true (stays is))) (λ _. refl)

-- the first that passes is the same, if all that pass stay
pub find_kept : {A : Type 0} (test stays : A → Bool) (xs : List A) → All (λ x. test x ≡ true → stays x ≡ true) xs
    → find test (filter stays xs) ≡ find test xs
find_kept test stays [] all = refl
find_kept {A} test stays (x ∷ xs) all = kept_first test (stays x) x (filter stays xs)
    (All-head (λ y. test y ≡ true → stays y ≡ true) x xs all)
    ∙ ap (λ (o : Option A). cond (test x) (Some x) o) (find_kept test stays xs (All-tail (λ y. test y ≡ true → stays y ≡ true) x xs all))

pub find_none : {A : Type 0} (test : A → Bool) (xs : List A) → All (λ x. test x ≡ false) xs → find test xs ≡ None
find_none test xs all = elim (one_or_none (find test xs)) [
  | inl some ↦ let passes = found_passes test xs some.0 some.1 in
      absurd (false≢true (sym (All-contains (λ x. test x ≡ false) xs some.0 all passes.0) ∙ passes.1))
  | inr none ↦ none
]

map_same : {A B : Type 0} (f g : A → B) (xs : List A) → All (λ x. f x ≡ g x) xs → map f xs ≡ map g xs
map_same f g [] all = refl
map_same f g (x ∷ xs) all = rw (All-head (λ y. f y ≡ g y) x xs all, map_same f g xs (All-tail (λ y. f y ≡ g y) x xs all)) refl

-- all but one are the same
map_set : {A B : Type 0} (f g : A → B) (xs : List A) (i : ℕ) (y : B) → i < length xs
    → ((j : ℕ) (d : A) → j < length xs → j ≢ i → f (get_or xs j d) ≡ g (get_or xs j d)) → ((d : A) → f (get_or xs i d) ≡ y)
    → map f xs ≡ slice_set (map g xs) i y
map_set f g [] i y within same other = absurd (omega (arith, within))
map_set f g (x ∷ xs) zero y within same other = rw (
  other x,
  map_same f g xs (λ k d lt.
      same (suc k) d (omega (arith, lt)) (λ e. omega (arith, e))),
) refl
map_set f g (x ∷ xs) (suc i) y within same other = rw (
  same 0 x (omega arith) (λ e. omega (arith, e)),
  map_set f g xs i y (omega (arith, within))
      (λ j d lt ne. same (suc j) d (omega (arith, lt)) (λ e. ne (omega (arith, e)))) other,
) refl

-- ---- another message

-- a file that stays or has the base of another message stays
stays_if : (stays : DropFile → Bool) (listed : ListedFile) (file : DropFile) → (stays file ≡ true) ⊎ (is_namesake listed file ≡ true)
    → (base (listed_name listed) ≢ base file.name) → stays file ≡ true
stays_if stays listed file (inl is) differs = is
stays_if stays listed file (inr is) differs = absurd (differs (namesake_then listed file is).1)

other_found : (listed other : ListedFile) (old new : List DropFile) → base (listed_name listed) ≢ base (listed_name other)
    → TakesCopies listed old new → (find (is_in_place (listed_place other)) new ≡ find (is_in_place (listed_place other)) old)
    × (find (is_namesake other) new ≡ find (is_namesake other) old)
other_found listed other old new differs (inl same) = (
  ap (find (is_in_place (listed_place other))) same,
  ap (find (is_namesake other)) same,
)
other_found listed other old new differs (inr copies) =
    let stays = copies.1.0 in (
      ap (find (is_in_place (listed_place other))) copies.1.1
          ∙ find_kept (is_in_place (listed_place other)) stays old (λ k d within is. let file = get_or old k d in
          stays_if stays listed file (copies.1.2 k d within) (λ e. differs (e ∙ sym (ap base (ap (λ (p : Folder × List ℕ). p.1)
          (at_its_place (listed_place other) file is)))))),
      ap (find (is_namesake other)) copies.1.1
          ∙ find_kept (is_namesake other) stays old (λ k d within is. let file = get_or old k d in
          stays_if stays listed file (copies.1.2 k d within) (λ e. differs (e ∙ sym (namesake_then other file is).1))),
    )

same_own : (files later : List DropFile) (listed : ListedFile) → find (is_in_place (listed_place listed)) later ≡ find
    (is_in_place (listed_place listed)) files
    → find (is_namesake listed) later ≡ find (is_namesake listed) files → slot_of later listed ≡ slot_of files listed
same_own files later listed place namesake = rw (place, namesake) refl

-- each file that is left was there
left_there : (listed : ListedFile) (old new : List DropFile) (file : DropFile) → TakesCopies listed old new → Contains new file
    → Contains old file
left_there listed old new file (inl same) there = subst (λ files. Contains files file) same there
left_there listed old new file (inr copies) there = was_there (λ (f : DropFile). is_namesake listed f ≡ true) old new file copies.1 there

pub other_slot : (listed other : ListedFile) (old new : List DropFile) → base (listed_name listed) ≢ base (listed_name other)
    → TakesCopies listed old new → slot_of new other ≡ slot_of old other
other_slot listed other old new differs takes =
    let same = other_found listed other old new differs takes in same_own old new other same.0 same.1

pub other_known : (listed other : ListedFile) (old new : List DropFile) → base (listed_name listed) ≢ base (listed_name other)
    → TakesCopies listed old new → IsKnown old other → IsKnown new other
other_known listed other old new differs takes (inl at) =
    inl (at.0, (other_found listed other old new differs takes).0 ∙ at.1, at.2, at.3, at.4)
other_known listed other old new differs takes (inr copies) = inr (
  (other_found listed other old new differs takes).0 ∙ copies.0,
  λ a b one two. copies.1 a b (left_there listed old new a takes one) (left_there listed old new b takes two),
)

-- ---- the message itself

at_is_namesake : (listed : ListedFile) (file : DropFile) → is_in_place (listed_place listed) file ≡ true → file.is_regular ≡ true
    → is_namesake listed file ≡ true
at_is_namesake listed file at regular = and_true file.is_regular (bytes_eq (base (listed_name listed)) (base file.name)) regular
    ((bytes_eq-Decides (base (listed_name listed)) (base file.name)).1
    (ap base (ap (λ (p : Folder × List ℕ). p.1) (at_its_place (listed_place listed) file at))))

same_message : (listed : ListedFile) (a b : DropFile) → a.content ≡ b.content → message_of listed a ≡ message_of listed b
same_message listed a b e = rw e refl

slot_some : (files : List DropFile) (listed : ListedFile) (file : DropFile) → own_file files listed ≡ Some file
    → slot_of files listed ≡ Some (message_of listed file)
slot_some files listed file e = rw e refl

slot_none : (files : List DropFile) (listed : ListedFile) → find (is_in_place (listed_place listed)) files ≡ None
    → find (is_namesake listed) files ≡ None → slot_of files listed ≡ None
slot_none files listed place namesake = rw (place, namesake) refl

-- any regular file with the base is of the message, if one of them was taken away
own_message : (files : List DropFile) (listed : ListedFile) (file : DropFile) → IsKnown files listed
    → ((a b : DropFile) → Contains files a → Contains files b → is_namesake listed a ≡ true → is_namesake listed b ≡ true
    → a.content ≡ b.content) → Contains files file → is_namesake listed file ≡ true
    → slot_of files listed ≡ Some (message_of listed file)
own_message files listed file (inl at) copies there is =
    let passes = found_passes (is_in_place (listed_place listed)) files at.0 at.1 in
    slot_some files listed at.0 (first_if_some files listed at.0 at.1) ∙ ap Some (same_message listed at.0 file
    (copies at.0 file passes.0 there (at_is_namesake listed at.0 passes.1 at.2) is))
own_message files listed file (inr known) copies there is =
    let some = finds_one (is_namesake listed) files file there is in
    let passes = found_passes (is_namesake listed) files some.0 some.1 in
    slot_some files listed some.0 (second_if_none files listed some.0 known.0 some.1) ∙ ap Some (same_message listed some.0 file
    (copies some.0 file passes.0 there passes.1 is))

-- what is at the place is what was there
still_at : (files later : List DropFile) (listed : ListedFile) (file : DropFile) → AreMailFiles files
    → ((f : DropFile) → Contains later f → Contains files f) → find (is_in_place (listed_place listed)) later ≡ Some file
    → find (is_in_place (listed_place listed)) files ≡ Some file
still_at files later listed file whole were e =
    let passes = found_passes (is_in_place (listed_place listed)) later file e in
    let there = were file passes.0 in
    let some = finds_one (is_in_place (listed_place listed)) files file there passes.1 in
    let first = found_passes (is_in_place (listed_place listed)) files some.0 some.1 in
    some.1 ∙ ap Some (same_by_place files whole.distinct some.0 file first.0 there
    (sym (at_its_place (listed_place listed) some.0 first.1) ∙ at_its_place (listed_place listed) file passes.1))

pub own_known : (listed : ListedFile) (old new : List DropFile) → AreMailFiles old → TakesCopies listed old new → IsKnown old listed
    → IsKnown new listed
own_known listed old new whole (inl same) known = subst (λ files. IsKnown files listed) (sym same) known
own_known listed old new whole (inr copies) known = elim (one_or_none (find (is_in_place (listed_place listed)) new)) [
  | inl some ↦
      let before = still_at old new listed some.0 whole (λ f there. left_there listed old new f (inr copies) there) some.1 in
      ⊎_elim (λ at. let same = same_Some at.0 some.0 (sym at.1 ∙ before) in inl (
        some.0,
        some.1,
        subst (λ f. f.is_regular ≡ true) same at.2,
        ap (λ f. f.stamp) (sym same) ∙ at.3,
        subst (λ f. size_of f.content ≡ listed.size) same at.4,
      )) (λ gone. absurd (none-some some.0 (sym gone.0 ∙ before))) known
  | inr none ↦ inr (
    none,
    λ a b one two. copies.0 a b (left_there listed old new a (inr copies) one)
        (left_there listed old new b (inr copies) two),
  )
]

pub own_slot : (listed : ListedFile) (old new : List DropFile) → AreMailFiles old → TakesCopies listed old new → IsKnown old listed
    → (slot_of new listed ≡ slot_of old listed) ⊎ (slot_of new listed ≡ None)
own_slot listed old new whole (inl same) known = inl (ap (λ files. slot_of files listed) same)
own_slot listed old new whole (inr copies) known = elim (one_or_none (find (is_in_place (listed_place listed)) new)) [
  | inl some ↦ inl (slot_some new listed some.0 (first_if_some new listed some.0 some.1)
      ∙ sym (slot_some old listed some.0 (first_if_some old listed some.0 (still_at old new listed some.0 whole
      (λ f there. left_there listed old new f (inr copies) there) some.1))))
  | inr none ↦ elim (one_or_none (find (is_namesake listed) new)) [
    | inl some ↦ let passes = found_passes (is_namesake listed) new some.0 some.1 in
        inl (slot_some new listed some.0 (second_if_none new listed some.0 none some.1)
        ∙ sym (own_message old listed some.0 known copies.0 (left_there listed old new some.0 (inr copies) passes.0) passes.1))
    | inr nothing ↦ inr (slot_none new listed none nothing)
  ]
]

-- if no regular file has the base any more, the message is gone
pub gone_slot : (files : List DropFile) (listed : ListedFile) → IsKnown files listed
    → All (λ (file : DropFile). is_namesake listed file ≡ false) files → slot_of files listed ≡ None
gone_slot files listed (inl at) none =
    let passes = found_passes (is_in_place (listed_place listed)) files at.0 at.1 in
    absurd (false≢true (sym (All-contains (λ f. is_namesake listed f ≡ false) files at.0 none passes.0)
    ∙ at_is_namesake listed at.0 passes.1 at.2))
gone_slot files listed (inr known) none = slot_none files listed known.0 (find_none (is_namesake listed) files none)

-- ---- the whole listing

-- no two listed files have one base
differ : (listing : List ListedFile) (i j : ℕ) (d e : ListedFile) → AreAscending (listed_names listing) → i < length listing
    → j < length listing → j ≢ i → base (listed_name (get_or listing i d)) ≢ base (listed_name (get_or listing j e))
differ listing i j d e ascending one other ne =
    let b = base (listed_name d) in
    let bases = map base (listed_names listing) in
    let long : length bases ≡ length listing = length-map (listed_names listing) base ∙ length-map listing listed_name in
    let at : (k : ℕ) (f : ListedFile) → k < length listing → get_or bases k b ≡ base (listed_name (get_or listing k f)) =
    λ k f within. get_or-map base (listed_names listing) k (listed_name f) b (omega (arith, length-map listing listed_name, within))
    ∙ ap base (get_or-map listed_name listing k f (listed_name f) within) in
    ⊎_elim
    (λ (lt : i < j). λ same. before_differs (get_or bases i b) (get_or bases j b) (ascending i j b lt (omega (arith, long, other)))
    (at i d one ∙ same ∙ sym (at j e other)))
    (λ (ge : j ≤ i). λ same. before_differs (get_or bases j b) (get_or bases i b)
    (ascending j i b (omega (arith, ge, ne)) (omega (arith, long, one))) (at j e other ∙ sym same ∙ sym (at i d one)))
    (cases_lt i j)

pub known_left : (listing : List ListedFile) (i : ℕ) (d : ListedFile) (old new : List DropFile) → AreMailFiles old
    → AreAscending (listed_names listing) → i < length listing → TakesCopies (get_or listing i d) old new
    → All (IsKnown old) listing → All (IsKnown new) listing
known_left listing i d old new whole ascending one takes known = λ j e within.
    ⊎_elim (λ (same : j ≡ i). subst (IsKnown new) (get_or_default listing i d e one ∙ ap (λ (k : ℕ). get_or listing k e) (sym same))
    (own_known (get_or listing i d) old new whole takes (known i d one)))
    (λ (ne : j ≢ i). other_known (get_or listing i d) (get_or listing j e) old new (differ listing i j d e ascending one within ne) takes
    (known j e within)) (cases_eq j i)

pub slots_are : (files : List DropFile) (listing : List ListedFile) → 0 < length listing → slots_of files listing ≡ map (slot_of files)
    listing
slots_are files [] some = absurd (omega (arith, some))
slots_are files (listed ∷ more) some = refl

-- the slot of the message is gone
pub slots_set : (listing : List ListedFile) (i : ℕ) (d : ListedFile) (old new : List DropFile)
    → AreAscending (listed_names listing) → i < length listing → TakesCopies (get_or listing i d) old new
    → slot_of new (get_or listing i d) ≡ None → slots_of new listing ≡ slice_set (slots_of old listing) i None
slots_set listing i d old new ascending one takes gone =
    slots_are new listing (omega (arith, one))
    ∙ map_set (slot_of new) (slot_of old) listing i None one (λ j e within ne.
    other_slot (get_or listing i d) (get_or listing j e) old new (differ listing i j d e ascending one within ne) takes)
    (λ e. ap (slot_of new) (get_or_default listing i e d one) ∙ gone)
    ∙ ap (λ (slots : List (Option Message)). slice_set slots i None) (sym (slots_are old listing (omega (arith, one))))

-- all slots are as they were
pub slots_same : (listing : List ListedFile) (i : ℕ) (d : ListedFile) (old new : List DropFile)
    → AreAscending (listed_names listing) → i < length listing → TakesCopies (get_or listing i d) old new
    → slot_of new (get_or listing i d) ≡ slot_of old (get_or listing i d) → slots_of new listing ≡ slots_of old listing
slots_same listing i d old new ascending one takes same =
    slots_are new listing (omega (arith, one))
    ∙ map_same (slot_of new) (slot_of old) listing (λ j e within. ⊎_elim
    (λ (is : j ≡ i). subst (λ listed. slot_of new listed ≡ slot_of old listed)
    (get_or_default listing i d e one ∙ ap (λ (k : ℕ). get_or listing k e) (sym is)) same)
    (λ (ne : j ≢ i). other_slot (get_or listing i d) (get_or listing j e) old new (differ listing i j d e ascending one within ne) takes)
    (cases_eq j i))
    ∙ sym (slots_are old listing (omega (arith, one)))

-- after a removal, or one that failed, the message is there or is gone, and the others are there
pub slots_after : (listing : List ListedFile) (i : ℕ) (d : ListedFile) (old new : List DropFile) → AreMailFiles old
    → AreAscending (listed_names listing) → All (IsKnown old) listing → i < length listing → TakesCopies (get_or listing i d) old new
    → (slots_of new listing ≡ slots_of old listing) ⊎ (slots_of new listing ≡ slice_set (slots_of old listing) i None)
slots_after listing i d old new whole ascending known one takes = ⊎_elim
    (λ same. inl (slots_same listing i d old new ascending one takes same))
    (λ gone. inr (slots_set listing i d old new ascending one takes gone))
    (own_slot (get_or listing i d) old new whole takes (known i d one))

-- once it is removed the message is gone
pub slots_removed : (E : Type 0) (listing : List ListedFile) (i : ℕ) (d : ListedFile) (old new : List DropFile) → AreMailFiles old
    → AreAscending (listed_names listing) → All (IsKnown old) listing → i < length listing
    → TakesMessage {E = E} (get_or listing i d) old (Ok None) new → slots_of new listing ≡ slice_set (slots_of old listing) i None
slots_removed E listing i d old new whole ascending known one takes = slots_set listing i d old new ascending one takes.0
    (gone_slot new (get_or listing i d) (own_known (get_or listing i d) old new whole takes.0 (known i d one)) takes.1)
