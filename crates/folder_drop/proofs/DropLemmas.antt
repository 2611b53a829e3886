-- A listing of all that is there is the Maildir's mail.
use Rattle.std.{
  proofs.Common.{◌≡◌, ◌⊎◌, ◌<◌, ◌≤◌, ◌&&◌, ◌∙◌, ◌++◌, ◌∷◌, [], ℕ, Bool, true, false, List, Option, Some, None},
  proofs.Common.{All, Contains, ap, arith, get_or, inl, inr, length, map, not, refl, suc, subst, sym, take, zero, ⊎_elim},
  proofs.lemmas.{
    Bool.{cond_both, false≢true},
    List.{length-take, take-append-drop, Elements.{Contains-append_left, Contains-get_or}},
    Option.same_Some,
  },
  specs.{List.{filter, find}, Option.option_map, Prelude.{bytes_eq, drop, nat_le}},
}
use Rattle.pop3_wire.specs.World.{Message}
use Rattle.pop3_server.specs.{Maildrop.{max_count, max_size}, Size.size_of}
use Rattle.folder_drop.specs.{
  declared.{
    folders_look.FoldersLook.FoldersLook,
    listed_file.ListedFile.ListedFile,
    maildir_names.{Folder.Folder, Stamp.Stamp},
  },
  FoldersLook.IsUnchanged,
  Listing.FileListing,
  MaildirMail.{AreRight, IsAsListed, IsListing, ListsChosen, chosen, listed_entry, first_of_ids, is_fit, message_in, message_of},
  MaildirMail.{WasListed, messages_of, own_file, slot_of, told_of, uid_in},
  MailFiles.{AreMailFiles, DropFile, is_in_place, file_place},
  RealMaildir.{id_of_name, listed_name, listed_place},
}
use Rattle.folder_drop.proofs.MailLemmas.{all_at, at_its_place, both_true, contains_later, finds_at, first_if_some, found_passes}

contains_cases : {A : Type 0} (y : A) (ys : List A) (x : A) → Contains (y ∷ ys) x → (y ≡ x) ⊎ Contains ys x
contains_cases y ys x (zero, fits, e) = inl e
contains_cases y ys x (suc k, fits, e) = inr (k, omega (arith, fits), e)

contains_here : {A : Type 0} (x : A) (xs : List A) → Contains (x ∷ xs) x
contains_here x xs = (0, omega arith, refl)

contains_filter : {A : Type 0} (p : A → Bool) (xs : List A) (x : A) → Contains (filter p xs) x → Contains xs x × (p x ≡ true)
contains_filter p [] x there = absurd (omega (arith, there.1))
contains_filter {A} p (y ∷ ys) x there = cond_both (p y) (y ∷ filter p ys) (filter p ys)
    (λ (l : List A). Contains l x → Contains (y ∷ ys) x × (p x ≡ true))
    (λ passes had. ⊎_elim (λ is. (subst (λ (z : A). Contains (y ∷ ys) z) is (contains_here y ys), subst (λ (z : A). p z ≡ true) is passes))
    (λ later. let rest = contains_filter p ys x later in (contains_later y ys x rest.0, rest.1)) (contains_cases y (filter p ys) x had))
    (λ _ had. let rest = contains_filter p ys x had in (contains_later y ys x rest.0, rest.1)) there

contains_firsts : (xs : List DropFile) (x : DropFile) → Contains (first_of_ids xs) x → Contains xs x
contains_firsts [] x there = there
contains_firsts (y ∷ ys) x there = ⊎_elim (λ is. subst (λ (z : DropFile). Contains (y ∷ ys) z) is (contains_here y ys))
    (λ later. contains_later y ys x (contains_firsts ys x
    (contains_filter (λ (o : DropFile). not (bytes_eq (uid_in y) (uid_in o))) (first_of_ids ys) x later).0))
    (contains_cases y (filter (λ (o : DropFile). not (bytes_eq (uid_in y) (uid_in o))) (first_of_ids ys)) x there)

contains_taken : {A : Type 0} (n : ℕ) (xs : List A) (x : A) → Contains (take n xs) x → Contains xs x
contains_taken {A} n xs x there = subst (λ (l : List A). Contains l x) (take-append-drop n xs)
    (Contains-append_left (take n xs) (drop n xs) x there)

chosen_is : (files : List DropFile) (f : DropFile) → Contains (chosen files) f → Contains files f × (is_fit f ≡ true)
chosen_is files f there = contains_filter is_fit files f
    (contains_firsts (filter is_fit files) f (contains_taken max_count (first_of_ids (filter is_fit files)) f there))

abbrev rest_of : List ((Folder × List ℕ) × Stamp × ℕ) → List ((Folder × List ℕ) × Stamp × ℕ)
rest_of [] = []
rest_of (x ∷ xs) = xs

-- the file that an entry is of
file_of : (listed : List ListedFile) (files : List DropFile) → map listed_entry listed ≡ map told_of files → (l : ListedFile)
    → Contains listed l → (f : DropFile) × Contains files f × (listed_entry l ≡ told_of f)
file_of [] files e l there = absurd (omega (arith, there.1))
file_of (x ∷ xs) [] e l there = absurd (let long : suc (length (map listed_entry xs)) ≡ 0 = ap length e in omega (arith, long))
file_of (x ∷ xs) (f ∷ fs) e l there = ⊎_elim
    (λ is. (f, contains_here f fs, ap listed_entry (sym is) ∙ ap (λ (t : List ((Folder × List ℕ) × Stamp × ℕ)). get_or t 0 (told_of f)) e))
    (λ later. let rest = file_of xs fs (ap rest_of e) l later in (rest.0, contains_later f fs rest.0 rest.1, rest.2))
    (contains_cases x xs l there)

found_listed : (files : List DropFile) → AreMailFiles files → (l : ListedFile) (f : DropFile) → Contains files f → listed_entry l ≡ told_of
    f
    → find (is_in_place (listed_place l)) files ≡ Some f
found_listed files whole l f there e = finds_at files whole.distinct (listed_place l) f there
    (ap (λ (t : (Folder × List ℕ) × Stamp × ℕ). t.0.0) e) (ap (λ (t : (Folder × List ℕ) × Stamp × ℕ). t.0.1) e)

slot_is : (files : List DropFile) → AreMailFiles files → (l : ListedFile) (f : DropFile) → Contains files f → listed_entry l ≡ told_of f
    → slot_of files l ≡ Some (message_in f)
slot_is files whole l f there e =
    let uid : id_of_name (listed_name l) ≡ uid_in f = ap (λ (t : (Folder × List ℕ) × Stamp × ℕ). id_of_name t.0.1) e in
    let size : l.size ≡ size_of f.content = ap (λ (t : (Folder × List ℕ) × Stamp × ℕ). t.2) e in
    let made : List ℕ → ℕ → Message = λ uid size. record { uid = uid; size = size; text = f.content } in
    ap (option_map (message_of l)) (first_if_some files l f (found_listed files whole l f there e))
    ∙ ap Some (ap (λ (u : List ℕ). made u l.size) uid ∙ ap (made (uid_in f)) size)

slots_are : (files : List DropFile) → AreMailFiles files → (listed : List ListedFile) (some : List DropFile)
    → ((f : DropFile) → Contains some f → Contains files f) → map listed_entry listed ≡ map told_of some
    → map (slot_of files) listed ≡ map Some (map message_in some)
slots_are files whole [] [] among e = refl
slots_are files whole [] (f ∷ fs) among e = absurd (let long : 0 ≡ suc (length (map told_of fs)) = ap length e in omega (arith, long))
slots_are files whole (l ∷ ls) [] among e = absurd (let long : suc (length (map listed_entry ls)) ≡ 0 = ap length e in omega (arith, long))
slots_are files whole (l ∷ ls) (f ∷ fs) among e =
    let first : listed_entry l ≡ told_of f = ap (λ (t : List ((Folder × List ℕ) × Stamp × ℕ)). get_or t 0 (told_of f)) e in
    let rest = slots_are files whole ls fs (λ g there. among g (contains_later f fs g there)) (ap rest_of e) in
    ap (λ (s : Option Message). s ∷ map (slot_of files) ls) (slot_is files whole l f (among f (contains_here f fs)) first)
    ∙ ap (λ (s : List (Option Message)). Some (message_in f) ∷ s) rest

known_of : (files : List DropFile) → AreMailFiles files → (l : ListedFile) (f : DropFile) → Contains files f → is_fit f ≡ true
    → listed_entry l ≡ told_of f → IsAsListed files l
known_of files whole l f there fit e = (
  f,
  found_listed files whole l f there e,
  (both_true f.is_regular (nat_le f.stamp.length max_size && nat_le (size_of f.content) max_size) fit).0,
  sym (ap (λ (t : (Folder × List ℕ) × Stamp × ℕ). t.1) e),
  sym (ap (λ (t : (Folder × List ℕ) × Stamp × ℕ). t.2) e),
)

pub is_listing : (files : List DropFile) (listed : List ListedFile) → AreMailFiles files → ListsChosen files listed → IsListing files listed
is_listing files listed whole lists = record {
  known = λ k d fits.
      let of = file_of listed (chosen files) lists (get_or listed k d) (Contains-get_or listed k d fits) in
      let is = chosen_is files of.0 of.1 in
      known_of files whole (get_or listed k d) of.0 is.0 is.1 of.2;
  slots = slots_are files whole listed (chosen files) (λ f there. (chosen_is files f there).0) lists;
}

-- ---- an earlier listing

pub still_right : (files : List DropFile) (looked : FoldersLook → List DropFile → Type 0) (listing : FileListing)
    → ((look : FoldersLook) (was : List DropFile) (f then : DropFile) → looked look was → Contains files f → Contains was then
    → file_place f ≡ file_place then → f.stamp ≡ then.stamp → f.content ≡ then.content)
    → WasListed looked listing → AreRight files listing.files
still_right files looked listing keeps was = ⊎_elim
    (λ none. λ l f there in_files place stamp. absurd (let long = ap length none.0 in omega (arith, long, there.1)))
    (λ some. λ l f there in_files place stamp.
    let is = all_at (IsAsListed some.0) listing.files l some.2.known there in
    let then = found_passes (is_in_place (listed_place l)) some.0 is.0 is.1 in
    let at = at_its_place (listed_place l) is.0 then.1 in
    let same = keeps listing.look some.0 f is.0 some.1 in_files then.0 (sym place ∙ at) (sym stamp ∙ sym is.3) in
    sym is.4 ∙ ap size_of (sym same)) was

pub still_listed : (files : List DropFile) (looked : FoldersLook → List DropFile → Type 0) (listing : FileListing) (later : FoldersLook)
    → ((earlier later : FoldersLook) (was now : List DropFile) → looked earlier was → looked later now → IsUnchanged earlier later
    → was ≡ now)
    → looked later files → IsUnchanged listing.look later → WasListed looked listing → IsListing files listing.files
still_listed files looked listing later rests now same was = ⊎_elim (λ none. absurd (none.1 later same))
    (λ some. subst (λ (f : List DropFile). IsListing f listing.files) (rests listing.look later some.0 files some.1 now same) some.2) was

pub still_was : (looked more : FoldersLook → List DropFile → Type 0) (listing : FileListing)
    → ((look : FoldersLook) (was : List DropFile) → looked look was → more look was) → WasListed looked listing → WasListed more listing
still_was looked more listing stay was = ⊎_elim inl (λ some. inr (some.0, stay listing.look some.0 some.1, some.2)) was
