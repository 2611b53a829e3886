-- The files with a message's base, one more at a time, and which of them go.
use Rattle.std.{
  proofs.Common.{◌≡◌, ◌≢◌, ◌⊎◌, ◌<◌, ◌≤◌, ◌+◌, ◌==◌, ◌∙◌, ◌++◌, ◌∷◌, [], ℕ, Bool, true, false, List, Option, Some, None},
  proofs.Common.{ap, append-nil, arith, get_or, inl, inr, length, not, refl, subst, sym, ⊎_elim},
  proofs.lemmas.{Bool.{cases_eq, cases_lt, false≢true}, List.{get_or_default, Elements.{All-push, Contains-append_left, Contains-push}}},
  specs.{
    Io.{Buffered.{reader_buffer, reader_capacity, reader_inner, reader_remaining}, KnownBytes.prepend_known},
    List.{All, AllWithin, Contains, HoldsAt},
    declared.io.buffered.BufReader.BufReader,
  },
}
use Rattle.folder_drop.specs.{
  declared.{
    listed_file.ListedFile.ListedFile,
    mail_files.{FileWay.FileWay, Found.Found},
    maildir_names.{FileNumber.FileNumber, PlacedFile.PlacedFile},
    removal.{Namesake.Namesake, TwoMessages.TwoMessages},
  },
  Removal.{AreNamesakes, IsNamesake, IsOther, MayGo, RemovesMessage, WereCompared, if_any},
}

pub namesake_more : (found : FileWay → Option Found → Type 0) (listed : ListedFile) (seen : List PlacedFile) (files : List Namesake)
    (from : PlacedFile) (file : Namesake) → IsNamesake found listed from (Some file) → AreNamesakes found listed seen files
    → AreNamesakes found listed (seen ++ from ∷ []) (files ++ file ∷ [])
namesake_more found listed seen files from file is are = record {
  only = All-push (λ (f : Namesake). (s : PlacedFile) × Contains (seen ++ from ∷ []) s × IsNamesake found listed s (Some f)) files file
      (λ k d within. let before = are.only k d within in
      (before.0, Contains-append_left seen (from ∷ []) before.0 before.1, before.2)) (from, Contains-push seen from, is);
  each = All-push (λ (s : PlacedFile). IsNamesake found listed s None ⊎ ((f : Namesake) × Contains (files ++ file ∷ []) f
      × IsNamesake found listed s (Some f))) seen from
      (λ k d within. elim (are.each k d within) [
        | inl none ↦ inl none
        | inr some ↦ inr (some.0, Contains-append_left files (file ∷ []) some.0 some.1, some.2)
      ]) (inr (file, Contains-push files file, is));
}

pub none_more : (found : FileWay → Option Found → Type 0) (listed : ListedFile) (seen : List PlacedFile) (files : List Namesake)
    (from : PlacedFile) → IsNamesake found listed from None → AreNamesakes found listed seen files
    → AreNamesakes found listed (seen ++ from ∷ []) files
none_more found listed seen files from is are = record {
  only = λ k d within. let before = are.only k d within in
      (before.0, Contains-append_left seen (from ∷ []) before.0 before.1, before.2);
  each = All-push (λ (s : PlacedFile). IsNamesake found listed s None ⊎ ((f : Namesake) × Contains files f
      × IsNamesake found listed s (Some f))) seen from are.each (inl is);
}

-- one more file was looked at
pub looked_more : (found : FileWay → Option Found → Type 0) (listed : ListedFile) (seen : List PlacedFile) (files : List Namesake)
    (from : PlacedFile) (told : Option Namesake) → IsNamesake found listed from told → AreNamesakes found listed seen files
    → AreNamesakes found listed (seen ++ from ∷ []) (files ++ if_any told)
looked_more found listed seen files from None is are = rw (append-nil files) (none_more found listed seen files from is are)
looked_more found listed seen files from (Some file) is are = namesake_more found listed seen files from file is are

pub none_yet : (found : FileWay → Option Found → Type 0) (listed : ListedFile) → AreNamesakes found listed [] []
none_yet found listed = record {
  only = λ k d within. absurd (omega (arith, within));
  each = λ k d within. absurd (omega (arith, within));
}

-- what was read of both shows that they have the same octets
pub goes_if : {File : Type 0} (remaining : File → Option (List ℕ)) (opened : FileWay → FileNumber → File → Type 0)
    (listed file : Namesake) (same : Bool) → WereCompared remaining opened listed file same → same ≡ true
    → MayGo remaining opened listed file
goes_if remaining opened listed file same were is = inr (subst (WereCompared remaining opened listed file) is were)

pub stays_if : {File : Type 0} (remaining : File → Option (List ℕ)) (opened : FileWay → FileNumber → File → Type 0)
    (listed file : Namesake) (same : Bool) → file.stamp.number ≢ listed.stamp.number → WereCompared remaining opened listed file same
    → same ≡ false → IsOther remaining opened listed file
stays_if remaining opened listed file same other were is = (other, subst (WereCompared remaining opened listed file) is were)

same_inode : (a b : FileNumber) → a.device ≡ b.device → (a.inode ≡ b.inode) ⊎ (a.inode ≢ b.inode) → (a ≡ b) ⊎ (a ≢ b)
same_inode a b device (inl inode) =
    let made : ℕ → ℕ → FileNumber = λ device inode. record { device = device; inode = inode } in
    inl (ap (λ (d : ℕ). made d a.inode) device ∙ ap (λ (i : ℕ). made b.device i) inode)
same_inode a b device (inr other) = inr (λ e. other (ap (λ (n : FileNumber). n.inode) e))

same_device : (a b : FileNumber) → (a.device ≡ b.device) ⊎ (a.device ≢ b.device) → (a ≡ b) ⊎ (a ≢ b)
same_device a b (inl device) = same_inode a b device (cases_eq a.inode b.inode)
same_device a b (inr other) = inr (λ e. other (ap (λ (n : FileNumber). n.device) e))

pub number_cases : (a b : FileNumber) → (a ≡ b) ⊎ (a ≢ b)
number_cases a b = same_device a b (cases_eq a.device b.device)

-- all are removed, if those of the number are and those of others
pub each_removed : (removed : FileWay → FileNumber → Type 0) (number : FileNumber) (files : List Namesake)
    → All (λ (file : Namesake). file.stamp.number ≢ number → removed file.file file.stamp.number) files
    → All (λ (file : Namesake). file.stamp.number ≡ number → removed file.file file.stamp.number) files
    → All (λ (file : Namesake). removed file.file file.stamp.number) files
each_removed removed number files copies names = λ k d within.
    ⊎_elim (names k d within) (copies k d within) (number_cases (get_or files k d).stamp.number number)

-- what holds at a place, and of its file, is the same
pub contains_at : (P : Namesake → Type 0) (files : List Namesake) (i : ℕ) (file : Namesake) → i < length files
    → file ≡ get_or files i file → HoldsAt P files i → Contains files file × P file
contains_at P files i file within is holds = ((i, within, sym is), subst P (sym is) (holds file))

pub holds_at : (P : Namesake → Type 0) (files : List Namesake) (i : ℕ) (file : Namesake) → i < length files
    → file ≡ get_or files i file → P file → HoldsAt P files i
holds_at P files i file within is holds = λ d. subst P (is ∙ get_or_default files i file d within) holds

prepend_nothing : (known : Option (List ℕ)) → known ≡ prepend_known [] known
prepend_nothing None = refl
prepend_nothing (Some bytes) = refl

-- a reader with an empty buffer has what is below it
pub shown_by : {T A : Type 0} (remaining : T → Option (List ℕ)) (reader : BufReader T A) (inner : T) → reader_inner reader ≡ inner
    → reader_buffer reader ≡ [] → reader_capacity reader ≡ 65536 → remaining inner ≡ reader_remaining remaining reader
shown_by remaining reader inner is empty capacity = rw (capacity, empty, is) (prepend_nothing (remaining inner))

-- what holds below a place, and there, holds below the next
pub within_more : (P : Namesake → Type 0) (files : List Namesake) (i : ℕ) (file : Namesake) → i < length files
    → file ≡ get_or files i file → P file → AllWithin P files 0 i → AllWithin P files 0 (i + 1)
within_more P files i file within is holds before = λ k d low high. ⊎_elim (λ (lt : k < i). before k d low lt)
    (λ (ge : i ≤ k). let same : i ≡ k = omega (arith, ge, high) in subst (λ (n : ℕ). P (get_or files n d)) same
    (subst P (is ∙ get_or_default files i file d within) holds)) (cases_lt k i)

pub true_from : (b : Bool) → not b ≡ false → b ≡ true
true_from true e = refl
true_from false e = absurd (false≢true (sym e))

pub false_from : (b : Bool) → not b ≡ true → b ≡ false
false_from true e = absurd (false≢true e)
false_from false e = refl

pub some_from : (n : ℕ) → (n == 0) ≡ false → 0 < n
some_from n e = ⊎_elim (λ (is : n ≡ 0). absurd (false≢true (sym (subst (λ (m : ℕ). (m == 0) ≡ false) is e))))
    (λ (other : n ≢ 0). omega (arith, other)) (cases_eq n 0)

-- the same by what follows of the files that were seen
pub by_those : {File : Type 0} (remaining : File → Option (List ℕ)) (found : FileWay → Option Found → Type 0)
    (opened : FileWay → FileNumber → File → Type 0) (removed : FileWay → FileNumber → Type 0)
    (were other : List PlacedFile → Type 0) (listed : ListedFile) (told : Option TwoMessages)
    → ((from : List PlacedFile) → were from → other from)
    → RemovesMessage remaining found opened removed were listed told → RemovesMessage remaining found opened removed other listed told
by_those remaining found opened removed were other listed told follows removes = record {
  from = removes.from;
  were = follows removes.from removes.were;
  these = removes.these;
  have = removes.have;
  removes = removes.removes;
}
