-- Names that end in the mark of a process.
use Rattle.std.{
  proofs.Common.{◌≡◌, ◌≢◌, ◌∙◌, ◌<◌, ◌≤◌, ℕ, true, false, List, [], ◌∷◌, ◌++◌, All, Option, Some, None, Bor, arith, sym},
  proofs.Common.{ap, ap₂, drop, get_or, refl, subst, take, true≢false, length},
  proofs.lemmas.Bool.{and_parts},
  proofs.lemmas.List.{take-append-drop},
  proofs.lemmas.List.Elements.{All-append, All-cons, All-from_get_or, All-from_recursion, All-head, All-tail},
  proofs.lemmas.Str.Pattern.{IsSplitOnceResult, NoCharPasses-char, drop_at_char, split_parts},
  specs.{Char.digit_value, List.{AllByRecursion, list_all}, Str.Parse.{AllDigits}, Str.Pattern.{RFindsChar, SplitsAroundMatch}},
}
use Rattle.mail_store.specs.FileName.{is_lower_hex_digit}
use Rattle.folder_store.specs.Marks.{AreMarkParts, EndsInMark, IsProcessId, IsFreeOf, is_random}

pub cons_parts : {A : Type 0} {c d : A} {a b : List A} → c ∷ a ≡ d ∷ b → (c ≡ d) × (a ≡ b)
cons_parts e = (cc, cc)

has_it : (c : ℕ) (a x : List ℕ) → IsFreeOf c (a ++ c ∷ x) → ⊥
has_it c [] x lacks = All-head (λ (o : ℕ). o ≢ c) c x lacks refl
has_it c (d ∷ a) x lacks = has_it c a x (All-tail (λ (o : ℕ). o ≢ c) d (a ++ c ∷ x) lacks)

-- what is after the last of an octet
last_same : (c : ℕ) (a b x y : List ℕ) → IsFreeOf c x → IsFreeOf c y → a ++ c ∷ x ≡ b ++ c ∷ y → x ≡ y
last_same c [] [] x y p q e = (cons_parts e).1
last_same c [] (d ∷ b) x y p q e = absurd (has_it c b y (subst (λ (l : List ℕ). IsFreeOf c l) (cons_parts e).1 p))
last_same c (k ∷ a) [] x y p q e = absurd (has_it c a x (subst (λ (l : List ℕ). IsFreeOf c l) (sym (cons_parts e).1) q))
last_same c (k ∷ a) (d ∷ b) x y p q e = last_same c a b x y p q (cons_parts e).1

-- what is before the first of an octet, and after it
first_same : (c : ℕ) (a b x y : List ℕ) → IsFreeOf c a → IsFreeOf c b → a ++ c ∷ x ≡ b ++ c ∷ y → (a ≡ b) × (x ≡ y)
first_same c [] [] x y p q e = (refl, (cons_parts e).1)
first_same c [] (d ∷ b) x y p q e = absurd (All-head (λ (o : ℕ). o ≢ c) d b q (sym (cons_parts e).0))
first_same c (k ∷ a) [] x y p q e = absurd (All-head (λ (o : ℕ). o ≢ c) k a p (cons_parts e).0)
first_same c (k ∷ a) (d ∷ b) x y p q e =
    let parts = cons_parts e in
    let rest = first_same c a b x y (All-tail (λ (o : ℕ). o ≢ c) k a p) (All-tail (λ (o : ℕ). o ≢ c) d b q) parts.1 in
    (ap₂ (λ m l. m ∷ l) parts.0 rest.0, rest.1)

digits_lack : (c : ℕ) → 10 ≤ digit_value c → (id : List ℕ) → AllDigits 10 id → AllByRecursion (λ o. o ≢ c) id
digits_lack c big [] all = tt
digits_lack c big (d ∷ id) all = (
  λ is. omega (arith, subst (λ (k : ℕ). digit_value k < 10) is all.0, big),
  digits_lack c big id all.1,
)

hex_lack : (c : ℕ) → is_lower_hex_digit c ≡ false → (text : List ℕ) → list_all is_lower_hex_digit text ≡ true
    → AllByRecursion (λ o. o ≢ c) text
hex_lack c off [] all = tt
hex_lack c off (d ∷ text) all =
    let parts = and_parts (is_lower_hex_digit d) (list_all is_lower_hex_digit text) all in (
      λ is. true≢false (sym (subst (λ (k : ℕ). is_lower_hex_digit k ≡ true) is parts.0) ∙ off),
      hex_lack c off text parts.1,
    )

id_lacks : (c : ℕ) → 10 ≤ digit_value c → (id : List ℕ) → IsProcessId id → IsFreeOf c id
id_lacks c big id ((_, digits), _) = All-from_recursion (λ (o : ℕ). o ≢ c) id (digits_lack c big id digits)

-- a mark has no full stop
mark_lacks : (id random : List ℕ) → IsProcessId id → is_random random ≡ true → IsFreeOf 46 (80 ∷ (id ++ 82 ∷ random))
mark_lacks id random is rand =
    let P : ℕ → Type 0 = λ o. o ≢ 46 in
    All-cons P 80 (id ++ 82 ∷ random) (λ e. omega (arith, e))
    (All-append P id (82 ∷ random) (id_lacks 46 (omega arith) id is)
    (All-cons P 82 random (λ e. omega (arith, e))
    (All-from_recursion P random (hex_lack 46 refl random (and_parts _ (list_all is_lower_hex_digit random) rand).1))))

-- ---- a name without a mark, and one that has it

pub unparted : (name : List ℕ) → IsFreeOf 46 name → EndsInMark name → ⊥
unparted name lacks (front, id, random, is, process, rand) =
    has_it 46 front (80 ∷ (id ++ 82 ∷ random)) (subst (λ (l : List ℕ). IsFreeOf 46 l) is lacks)

its_mark : (name part front id random : List ℕ) → IsFreeOf 46 part → (before : List ℕ) × (name ≡ before ++ 46 ∷ part)
    → name ≡ front ++ 46 ∷ 80 ∷ (id ++ 82 ∷ random) → IsProcessId id → is_random random ≡ true → part ≡ 80 ∷ (id ++ 82 ∷ random)
its_mark name part front id random lacks (before, cut) is process rand =
    last_same 46 before front part (80 ∷ (id ++ 82 ∷ random)) lacks (mark_lacks id random process rand) (sym cut ∙ is)

pub ends_in_no_mark : (name part : List ℕ) → IsFreeOf 46 part → (before : List ℕ) × (name ≡ before ++ 46 ∷ part)
    → ((id random : List ℕ) → part ≢ 80 ∷ (id ++ 82 ∷ random)) → EndsInMark name → ⊥
ends_in_no_mark name part lacks cut never (front, id, random, is, process, rand) =
    never id random (its_mark name part front id random lacks cut is process rand)

pub its_parts : (name part id random : List ℕ) → IsFreeOf 46 part → (before : List ℕ) × (name ≡ before ++ 46 ∷ part) → IsFreeOf 82 id
    → part ≡ 80 ∷ (id ++ 82 ∷ random) → EndsInMark name → IsProcessId id × (is_random random ≡ true)
its_parts name part id random lacks cut before_r whole (front, other, more, is, process, rand) =
    let mark = its_mark name part front other more lacks cut is process rand in
    let same = first_same 82 id other random more before_r (id_lacks 82 (omega arith) other process) (cons_parts (sym whole ∙ mark)).1 in (
      subst (λ (l : List ℕ). IsProcessId l) (sym same.0) process,
      subst (λ (l : List ℕ). is_random l ≡ true) (sym same.1) rand,
    )

pub marked : (name part id random : List ℕ) → (before : List ℕ) × (name ≡ before ++ 46 ∷ part) → part ≡ 80 ∷ (id ++ 82 ∷ random)
    → IsProcessId id → is_random random ≡ true → EndsInMark name
marked name part id random (before, cut) whole process rand =
    (before, id, random, cut ∙ ap (λ (l : List ℕ). before ++ 46 ∷ l) whole, process, rand)

-- ---- what std says of a split

lacks_each : (c : ℕ) (text : List ℕ) → ((i : ℕ) → i < length text → get_or text i 0 ≢ c) → IsFreeOf c text
lacks_each c text none = All-from_get_or (λ (o : ℕ). o ≢ c) text 0 none

pub none_last : (name : List ℕ) → RFindsChar 46 name None → IsFreeOf 46 name
none_last name none = lacks_each 46 name (λ i lt. NoCharPasses-char 46 name i none (omega arith) lt)

pub some_last : (name before part : List ℕ) → SplitsAroundMatch (RFindsChar 46) name before part
    → IsFreeOf 46 part × ((front : List ℕ) × (name ≡ front ++ 46 ∷ part))
some_last name before part (i, j, found, is, rest, _, _, _) = (
  subst (λ (l : List ℕ). IsFreeOf 46 l) (sym rest) (none_last (drop j name) found.0),
  (
    take i name,
    sym (take-append-drop i name) ∙ ap (λ (l : List ℕ). take i name ++ l)
        (drop_at_char 46 name i j found.1 (omega arith) ∙ ap (λ (l : List ℕ). 46 ∷ l) (sym rest)),
  ),
)

pub mark_is_split : (mark rest : List ℕ) (parts : Option (Bor (List ℕ) × Bor (List ℕ))) → mark ≡ 80 ∷ rest → IsSplitOnceResult 82 rest parts
    → AreMarkParts mark parts
mark_is_split mark rest None is split = λ id random whole. has_it 82 id random (subst (λ (l : List ℕ). IsFreeOf 82 l)
    (cons_parts (sym is ∙ whole)).1 (lacks_each 82 rest (split_parts 82 rest None split (omega arith))))
mark_is_split mark rest (Some found) is split =
    let parts = split_parts 82 rest (Some found) split (omega arith) in
    (lacks_each 82 found.0.now parts.1, is ∙ ap (λ (l : List ℕ). 80 ∷ l) parts.0)
