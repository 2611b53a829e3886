-- What a loss of power may leave of the files of a Maildir in memory, one by one.
use Rattle.std.proofs.{
  Common.{◌≡◌, ◌⊎◌, ◌≤◌, inl, inr, Bool, true, false, not, List, [], ◌∷◌, refl, sym, ap, subst, ◌∙◌, arith, filter, map, drop, length},
  Common.{get_or, take, cond, ◌-◌, true≢false},
  lemmas.List.take_all,
  lemmas.Bool.{cases_Bool, or_left},
}
use Rattle.folder_store.specs.{MailFolders.{MailFile, Directories, is_left}, MailPower.{IsMailLeftAs}}
use Rattle.test_devices.{
  specs.declared.stored_mail.{FoundMail.FoundMail, StoredMail.StoredMail},
  specs.MemoryFolders.{MayBeFound, MayFind, found_file, stored_file},
  proofs.Losses.left_here,
}

-- nothing that is there has to be left of the file
abbrev pub MayGo : MailFile → Type 0
MayGo s = (s.is_named ≡ false) ⊎ (s.is_gone ≡ true)

stays_gone : (s : MailFile) → s.is_gone ≡ true → IsMailLeftAs s (left_here s)
stays_gone s gone = record {
  title = refl;
  in_new = λ is. or_left _ _ is;
  in_cur = λ is. or_left _ _ (ap not is);
  content = λ _. refl;
  flushed = refl;
  named = refl;
  firm = (refl, refl);
  gone = λ there. there;
}

-- what is there, with a file in front
kept_on : (t : MailFile) (ts : List MailFile) → t.is_gone ≡ false → filter is_left (t ∷ ts) ≡ t ∷ filter is_left ts
kept_on t ts here = ap (λ (gone : Bool). cond (not gone) (t ∷ filter is_left ts) (filter is_left ts)) here

gone_on : (t : MailFile) (ts : List MailFile) → t.is_gone ≡ true → filter is_left (t ∷ ts) ≡ filter is_left ts
gone_on t ts gone = ap (λ (gone : Bool). cond (not gone) (t ∷ filter is_left ts) (filter is_left ts)) gone

pub goes : (s : MailFile) (es there : List MailFile) → MayGo s → MayBeFound es there → MayBeFound (s ∷ es) there
goes s es there (inl unnamed) (left, are, is) = (left, inl (unnamed, are), is)
goes s es there (inr gone) (left, are, is) =
    (left_here s ∷ left, inr (left_here s, left, refl, stays_gone s gone, are), gone_on (left_here s) left gone ∙ is)

pub stays : (s t : MailFile) (es rest : List MailFile) → IsMailLeftAs s t → t.is_gone ≡ false → MayBeFound es rest
    → MayBeFound (s ∷ es) (t ∷ rest)
stays s t es rest kept there (left, are, is) =
    (t ∷ left, inr (t, left, refl, kept, are), kept_on t left there ∙ ap (λ (ts : List MailFile). t ∷ ts) is)

-- the next file goes, or is the first one that is there
abbrev pub NextThere : MailFile → List MailFile → List MailFile → Type 0
NextThere s es there = (MayGo s × MayBeFound es there)
    ⊎ ((t : MailFile) × (rest : List MailFile) × (there ≡ t ∷ rest) × IsMailLeftAs s t × MayBeFound es rest)

pub next_there : (s : MailFile) (es there : List MailFile) → MayBeFound (s ∷ es) there → NextThere s es there
next_there s es there (left, inl (unnamed, are), is) = inl (inl unnamed, (left, are, is))
next_there s es there (left, inr (t, rest, whole, kept, are), is) = elim (cases_Bool t.is_gone) [
  | inl gone ↦ inl (was_gone gone, (rest, are, sym (gone_on t rest gone) ∙ sym (ap (filter is_left) whole) ∙ is))
  | inr here ↦ inr (t, filter is_left rest, sym is ∙ ap (filter is_left) whole ∙ kept_on t rest here, kept, (rest, are, refl))
]
  where
    was_gone : t.is_gone ≡ true → MayGo s
    was_gone gone = elim (cases_Bool s.is_gone) [
      | inl was ↦ inr was
      | inr wasnt ↦ absurd (true≢false (sym gone ∙ kept.gone wasnt))
    ]

-- what a pattern has behind the first one
pub behind_first : {A : Type 0} (x : A) (xs : List A) → take (length (x ∷ xs) - 1) (drop 1 (x ∷ xs)) ≡ xs
behind_first x xs = take_all (length (x ∷ xs) - 1) xs (omega arith)

abbrev pub behind : {A : Type 0} → List A → List A
behind xs = take (length xs - 1) (drop 1 xs)

-- the same of files in memory, of which the first is known
pub goes_first : (ks : List StoredMail) (k : StoredMail) (there : List MailFile) → 1 ≤ length ks → k ≡ get_or ks 0 k
    → MayGo (stored_file k) → MayBeFound (map stored_file (behind ks)) there → MayBeFound (map stored_file ks) there
goes_first [] _ _ some _ _ _ = absurd (omega (arith, some))
goes_first (x ∷ ks) k there _ is go more =
    goes (stored_file x) (map stored_file ks) there (subst (λ (y : StoredMail). MayGo (stored_file y)) is go)
    (subst (λ (zs : List StoredMail). MayBeFound (map stored_file zs) there) (behind_first x ks) more)

pub stays_first : (ks : List StoredMail) (k : StoredMail) (ls : List FoundMail) (l : FoundMail) → 1 ≤ length ks → k ≡ get_or ks 0 k
    → 1 ≤ length ls → l ≡ get_or ls 0 l → IsMailLeftAs (stored_file k) (found_file l)
    → MayBeFound (map stored_file (behind ks)) (map found_file (behind ls)) → MayBeFound (map stored_file ks) (map found_file ls)
stays_first [] _ _ _ some _ _ _ _ _ = absurd (omega (arith, some))
stays_first (_ ∷ _) _ [] _ _ _ some _ _ _ = absurd (omega (arith, some))
stays_first (x ∷ ks) k (y ∷ ls) l _ is _ left kept more = stays (stored_file x) (found_file y) (map stored_file ks) (map found_file ls)
    (subst (λ (z : FoundMail). IsMailLeftAs (stored_file x) (found_file z)) left
    (subst (λ (z : StoredMail). IsMailLeftAs (stored_file z) (found_file l)) is kept)) refl
    (subst (λ (zs : List FoundMail). MayBeFound (map stored_file ks) (map found_file zs)) (behind_first y ls)
    (subst (λ (zs : List StoredMail). MayBeFound (map stored_file zs) (map found_file (behind (y ∷ ls)))) (behind_first x ks) more))

rest_of : (ls : List FoundMail) (t : MailFile) (rest : List MailFile) → map found_file ls ≡ t ∷ rest → rest ≡ map found_file (behind ls)
rest_of [] _ _ e = absurd (omega (arith, ap length e))
rest_of (y ∷ ls) _ _ e = sym (ap (drop 1) e) ∙ ap (map found_file) (sym (behind_first y ls))

pub next_first : (ks : List StoredMail) (k : StoredMail) (ls : List FoundMail) → 1 ≤ length ks → k ≡ get_or ks 0 k
    → (MayGo (stored_file k) → MayBeFound (map stored_file (behind ks)) (map found_file ls) → ⊥)
    → MayBeFound (map stored_file ks) (map found_file ls) → MayBeFound (map stored_file (behind ks)) (map found_file (behind ls))
next_first [] _ _ some _ _ _ = absurd (omega (arith, some))
next_first (x ∷ ks) k ls _ is goes_not may =
    subst (λ (zs : List StoredMail). MayBeFound (map stored_file zs) (map found_file (behind ls))) (sym (behind_first x ks))
    (elim (next_there (stored_file x) (map stored_file ks) (map found_file ls) may) [
      | inl went ↦ absurd (goes_not (subst (λ (y : StoredMail). MayGo (stored_file y)) (sym is) went.0)
          (subst (λ (zs : List StoredMail). MayBeFound (map stored_file zs) (map found_file ls)) (sym (behind_first x ks)) went.1))
      | inr stayed ↦ subst (MayBeFound (map stored_file ks)) (rest_of ls stayed.0 stayed.1 stayed.2) stayed.4
    ])

-- of the folders as of their files
pub have_there : (d : Directories) (there : List MailFile) → MayBeFound d.entries there → MayFind d there
have_there d _ (left, are, is) = (record d { entries = left }, record { there = refl; each = are; taken = refl }, is)

pub there_of : (d : Directories) (there : List MailFile) → MayFind d there → MayBeFound d.entries there
there_of d _ (new, loses, is) = (new.entries, loses.each, is)
