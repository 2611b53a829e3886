-- A message's text, in parts.
use Rattle.std.{
  proofs.Common.{◌≡◌, ◌<◌, ◌≤◌, ◌-◌, ◌+◌, ◌∙◌, ◌++◌, ◌∷◌, [], ℕ, List, Option, Some, None, IfSome},
  proofs.Common.{ap, arith, drop, length, refl, suc, subst, sym, take, zero},
  proofs.Math.Seq.{drop-append_seam, drop-nil, take-append_seam},
  proofs.lemmas.List.{length-drop, length-take-le},
  specs.Io.KnownBytes.{Consumes, IsAtEnd},
}
use Rattle.folder_drop.specs.{
  declared.{listed_file.ListedFile.ListedFile, maildir_drop.OpenText.OpenText},
  MailFiles.DropFile,
  OpenText.{IsOwnFrom, IsTextPart, ReadsOn},
}

drop_twice : {A : Type 0} (n m : ℕ) (xs : List A) → drop (n + m) xs ≡ drop m (drop n xs)
drop_twice {A} zero m xs = ap (λ (k : ℕ). drop k xs) (omega arith)
drop_twice {A} (suc n) m [] = drop-nil (suc n + m) ∙ sym (drop-nil m)
drop_twice {A} (suc n) m (x ∷ xs) = let e : suc n + m ≡ suc (n + m) = omega arith in
    ap (λ (k : ℕ). drop k (x ∷ xs)) e ∙ drop_twice n m xs

consumed : (xs : List ℕ) (new : Option (List ℕ)) (bytes : List ℕ) → Consumes (Some xs) new bytes
    → (rest : List ℕ) × (new ≡ Some rest) × (xs ≡ bytes ++ rest)
consumed xs None bytes h = absurd h
consumed xs (Some rest) bytes h = (rest, refl, h)

pub part_of : {File : Type 0} (remaining : File → Option (List ℕ)) (files : List DropFile) (listed : ListedFile) (text : OpenText File)
    (piece : List ℕ) (count : ℕ) (left : Option (OpenText File)) → count ≤ length piece → IsOwnFrom remaining files listed text
    → ReadsOn remaining text piece count left → IsTextPart files listed text.read count piece
    × IfSome left (λ (more : OpenText File). (more.place ≡ text.place) × IsOwnFrom remaining files listed more)
part_of remaining files listed text piece count None within own on =
    let content = own.0.content in
    let at_end : drop text.read content ≡ [] = subst IsAtEnd own.2 on.1 in
    let long = length-drop text.read content in
    let none = ap length at_end in (
      (
        own.0,
        own.1,
        subst (λ (n : ℕ). take n piece ≡ take n (drop text.read content)) (sym on.0) refl,
        λ _. omega (arith, long, none),
      ),
      tt,
    )
part_of {File} remaining files listed text piece count (Some left) within own on =
    let content = own.0.content in
    let front = take count piece in
    let given = subst (λ (o : Option (List ℕ)). Consumes o (remaining left.file) front) own.2 on.3 in
    let rest = consumed (drop text.read content) (remaining left.file) front given in
    let long : length front ≡ count = length-take-le count piece within in
    let first : take count (drop text.read content) ≡ front = ap (take count) rest.2
    ∙ subst (λ (n : ℕ). take n (front ++ rest.0) ≡ front) long (take-append_seam front rest.0) in
    let later : drop count (drop text.read content) ≡ rest.0 = ap (drop count) rest.2
    ∙ subst (λ (n : ℕ). drop n (front ++ rest.0) ≡ rest.0) long (drop-append_seam front rest.0) in
    let some = on.0 in (
      (own.0, own.1, sym first, λ (none : count ≡ 0). absurd (omega (arith, some, none))),
      (
        on.1,
        (
          own.0,
          own.1,
          rest.1 ∙ ap Some (sym later ∙ sym (drop_twice text.read count content)
              ∙ ap (λ (n : ℕ). drop n content) (sym on.2)),
        ),
      ),
    )

-- what is asked of a file that is read on is asked of none
pub none_goes : {File : Type 0} (kept : Option (OpenText File)) (P Q : OpenText File → Type 0) → IfSome kept (λ text. P text → ⊥)
    → IfSome kept (λ text. P text → Q text)
none_goes None P Q none = tt
none_goes (Some text) P Q none = λ goes. absurd (none goes)
