-- What is told of a file that is there, if the premise holds.
use Rattle.std.{
  proofs.Common.{◌≡◌, ◌≢◌, ◌⊎◌, ◌<◌, ◌≤◌, ◌-◌, ◌^◌, ◌&&◌, ◌∙◌, ℕ, Bool, true, false, List, Option, Some, None, IfSome},
  proofs.Common.{All, Contains, ap, arith, get_or, inl, inr, length, map, min, refl, subst, sym, ⊎_elim},
  proofs.Math.Nat.{min-eq_left, min-le_left, min_comm},
  proofs.lemmas.{
    Bool.{cases_lt, false≢true, le-leb, leb-true},
    List.{get_or-map, length-map, Elements.Contains-get_or},
    Option.same_Some,
  },
  specs.Prelude.{nat_le, string_bytes},
}
use Rattle.mail_terms.specs.MaildirName.{base}
use Rattle.pop3_server.specs.{Maildrop.max_size, Size.{capped, size_of}}
use Rattle.folder_drop.specs.{
  declared.{
    listed_file.ListedFile.ListedFile,
    mail_files.{FileWay.FileWay, Found.Found},
    maildir_names.{FileNumber.FileNumber, Folder.Folder, PlacedFile.PlacedFile, Stamp.Stamp},
    seen_files.SeenFiles.SeenFiles,
  },
  CountedSizes.WasCounted,
  Finding.{IsFoundNow, IsGone, IsLeftOut, IsOpenNow, IsSizeNow, TellsStamp},
  Listing.{IsMeasured, IsPassedOver, IsUnfit},
  MaildirMail.{AreRight, is_fit},
  MailFiles.{AreMailFiles, Bears, TellsEach, DropFile, HasOctetsOf, is_in_place, file_place},
  Places.{base_of_file, folder_and_name},
  RealMaildir.listed_place,
  SeenFiles.{NoneHasBase, those_seen},
}
use Rattle.folder_drop.proofs.MailLemmas.{all_at, and_true, same_by_place}

-- what the answers of a device tell
pub record Told {File : Type 0} (remaining : File → Option (List ℕ)) (found : FileWay → Option Found → Type 0)
    (opened : FileWay → FileNumber → File → Type 0) (told : List PlacedFile → Type 0) (files : List DropFile) : Type 0 where
  pub whole : AreMailFiles files
  pub lists : (all : List PlacedFile) → told all → TellsEach files all
  pub finds : (way : FileWay) (what : Option Found) → found way what → Bears files way what
  pub reads : (way : FileWay) (number : FileNumber) (file : File) → opened way number file → HasOctetsOf remaining files number file

bool_cases : (b : Bool) → (b ≡ true) ⊎ (b ≡ false)
bool_cases true = inl refl
bool_cases false = inr refl

pair_same : (p q : Folder × List ℕ) → p.0 ≡ q.0 → p.1 ≡ q.1 → p ≡ q
pair_same p q e f = rw (e, f) refl

same_small : (n : ℕ) → capped n ≤ max_size → capped n ≡ n
same_small n small = ⊎_elim (λ (lt : n < 2 ^ 64 - 1). min-eq_left (omega (arith, lt)))
    (λ (ge : 2 ^ 64 - 1 ≤ n). absurd (let most : min (2 ^ 64 - 1) n ≡ 2 ^ 64 - 1 = min-eq_left ge in
    let turned = min_comm n (2 ^ 64 - 1) in omega (arith, small, most, turned))) (cases_lt n (2 ^ 64 - 1))

above : (n size : ℕ) → size ≡ capped n → max_size < size → max_size < n
above n size is over = let most = min-le_left n (2 ^ 64 - 1) in omega (arith, is, over, most)

not_le : (n : ℕ) → max_size < n → nat_le n max_size ≡ false
not_le n over = ⊎_elim (λ (yes : nat_le n max_size ≡ true). absurd (let le = leb-true n max_size yes in omega (arith, over, le)))
    (λ no. no) (bool_cases (nat_le n max_size))

no_part : (a b c : Bool) → (a ≡ false) ⊎ ((b ≡ false) ⊎ (c ≡ false)) → (a && (b && c)) ≡ false
no_part false b c h = refl
no_part true false c h = refl
no_part true true false h = refl
no_part true true true (inl e) = e
no_part true true true (inr (inl e)) = e
no_part true true true (inr (inr e)) = e

module _ {File : Type 0} (remaining : File → Option (List ℕ)) (found : FileWay → Option Found → Type 0)
    (opened : FileWay → FileNumber → File → Type 0) (told : List PlacedFile → Type 0) (files : List DropFile)
    (knows : Told remaining found opened told files) (placed : PlacedFile) (file : DropFile) (there : Contains files file)
    (place : folder_and_name placed ≡ file_place file) where
  -- what was found for the place of a file is that file
  found_it : (now : FileWay × Found) → IsFoundNow found (folder_and_name placed) now
      → (now.1.is_regular ≡ file.is_regular) × (now.1.stamp ≡ file.stamp)
  found_it now is =
      let here = knows.finds now.0 (Some now.1) is.bears in
      let same : here.file ≡ file = ⊎_elim
      (λ leads. same_by_place files knows.whole.distinct here.file file here.there there
      (pair_same (file_place here.file) (folder_and_name placed) (sym here.leads.0 ∙ leads.0) (sym here.leads.1 ∙ leads.1) ∙ place))
      (λ missed. absurd (all_at (λ (f : DropFile). (missed.0.folder ≡ f.folder) × (string_bytes missed.0.name ≡ f.name) → ⊥) files file
      (knows.finds missed.0 None missed.2) there
      (missed.1.0 ∙ ap (λ (p : Folder × List ℕ). p.0) place, missed.1.1 ∙ ap (λ (p : Folder × List ℕ). p.1) place))) is.first in (
        here.regular ∙ ap (λ (f : DropFile). f.is_regular) same,
        here.stamp ∙ ap (λ (f : DropFile). f.stamp) same,
      )

  -- no listing lacks its base
  not_gone : (seen : SeenFiles) → IsGone told seen (base_of_file placed) → ⊥
  not_gone seen gone =
      let all = those_seen seen.files in
      let e = knows.lists all gone.0 in
      let k = there.0 in
      let long : length all ≡ length files = sym (length-map all folder_and_name) ∙ ap length e ∙ length-map files file_place in
      let fits : k < length all = omega (arith, long, there.1) in
      let is : folder_and_name (get_or all k placed) ≡ file_place file =
      sym (get_or-map folder_and_name all k placed (file_place file) fits) ∙ ap
      (λ (l : List (Folder × List ℕ)). get_or l k (file_place file)) e
      ∙ get_or-map file_place files k file (file_place file) there.1 ∙ ap file_place there.2 in
      gone.1 k placed fits (ap (λ (p : Folder × List ℕ). base p.1) (is ∙ sym place))

  -- what was read of it is its content
  read_it : (size : ℕ) → IsSizeNow remaining found opened (folder_and_name placed) size → size ≡ capped (size_of file.content)
  read_it size is =
      let handle = is.0 in
      let now = is.1.0 in
      let same = found_it now is.1.1 in
      let octets = all_at (λ (f : DropFile). f.stamp.number ≡ now.1.stamp.number → remaining handle ≡ Some f.content) files file
      (knows.reads now.0 now.1.stamp.number handle is.1.3) there (ap (λ (s : Stamp). s.number) (sym same.1)) in
      rw octets at is.2

  counted_it : (earlier : List ListedFile) (stamp : Stamp) (size : ℕ) → AreRight files earlier → stamp ≡ file.stamp
      → WasCounted earlier placed stamp size → size ≡ size_of file.content
  counted_it earlier stamp size right is was = sym was.size ∙ right was.file file was.listed there
      (pair_same (listed_place was.file) (folder_and_name placed) was.folder was.name ∙ place) (was.same ∙ is)

  pub measured_so : (earlier : List ListedFile) (measured : Stamp × ℕ) → AreRight files earlier → measured.0.length ≤ max_size
      → measured.1 ≤ max_size → IsMeasured remaining found opened told earlier placed measured
      → (is_fit file ≡ true) × (measured.0 ≡ file.stamp) × (measured.1 ≡ size_of file.content)
  measured_so earlier measured right short small is =
      let now = is.stamp.0 in
      let same = found_it now is.stamp.1 in
      let stamp : measured.0 ≡ file.stamp = sym is.stamp.3 ∙ same.1 in
      let size : measured.1 ≡ size_of file.content = ⊎_elim (λ was. counted_it earlier measured.0 measured.1 right stamp was)
      (λ read. let e = read_it measured.1 read in e ∙ same_small (size_of file.content) (subst (λ (n : ℕ). n ≤ max_size) e small)) is.size
      in (
        and_true file.is_regular _ (sym same.0 ∙ is.stamp.2)
            (and_true (nat_le file.stamp.length max_size) (nat_le (size_of file.content) max_size)
            (le-leb file.stamp.length max_size (subst (λ (s : Stamp). s.length ≤ max_size) stamp short))
            (le-leb (size_of file.content) max_size (subst (λ (n : ℕ). n ≤ max_size) size small))),
        stamp,
        size,
      )

  not_fit : (file.is_regular ≡ false) ⊎ ((max_size < file.stamp.length) ⊎ (max_size < size_of file.content)) → is_fit file ≡ false
  not_fit why = no_part file.is_regular (nat_le file.stamp.length max_size) (nat_le (size_of file.content) max_size)
      (⊎_elim inl (λ over. inr (⊎_elim (λ long. inl (not_le file.stamp.length long)) (λ great. inr (not_le (size_of file.content) great))
      over)) why)

  unfit_so : (earlier : List ListedFile) (seen : SeenFiles) → AreRight files earlier
      → IsUnfit remaining found opened told earlier placed seen → is_fit file ≡ false
  unfit_so earlier seen right unfit =
      let stamp = unfit.0 in
      let known = unfit.1 in
      let then = unfit.2.1 in
      let same : stamp ≡ file.stamp = sym then.3 ∙ (found_it then.0 then.1).1 in
      ⊎_elim (λ long. not_fit (inr (inl (subst (λ (s : Stamp). max_size < s.length) same long))))
      (λ other. ⊎_elim
      (λ great. not_fit (inr (inr (⊎_elim
      (λ e. subst (λ (n : ℕ). max_size < n) (counted_it earlier stamp great.0 right same (rw e at unfit.3)) great.1)
      (λ read. above (size_of file.content) great.0 (read_it great.0 read) great.1) great.2))))
      (λ gone. absurd (not_gone seen gone)) other) unfit.4

  pub passed_so : (earlier : List ListedFile) → AreRight files earlier → IsPassedOver remaining found opened told earlier placed
      → is_fit file ≡ false
  passed_so earlier right passed = ⊎_elim
      (λ none. ⊎_elim (λ odd. not_fit (inl (sym (found_it odd.0 odd.1).0 ∙ odd.2))) (λ gone. absurd (not_gone passed.0 gone)) none)
      (λ unfit. unfit_so earlier passed.0 right unfit) passed.1
