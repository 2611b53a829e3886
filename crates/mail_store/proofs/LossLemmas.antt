-- What a loss of power leaves of a Maildir, and what keeps its files flushed.
use Rattle.std.{
  proofs.Common.{◌≡◌, ℕ, suc, zero, Bool, true, List, [], ◌∷◌, ◌++◌, refl, sym, ap, ◌∙◌, arith, inl, inr, Contains, map, Result, Ok, Err},
  proofs.lemmas.Bool.{false_from_ne_true, false≢true},
  specs.List.AllZip,
}
use Rattle.mail_store.{
  specs.{declared.fault.StoreFault.{StoreFault, TheVariants.{Missing, Refused, NoMemory}}, Loss.{AreLeftAs, IsLeftAs}},
  specs.Maildir.{AllDurable, AllFlushed, AreReached, Delivers, File, IsDurableFile, IsNamed, IsPart, IsWithout, Maildir, MayBeNamed, mail},
  specs.Maildir.{IsAsDurable, names_of},
  proofs.MaildirLemmas.{reached_same, without_more},
}
use Rattle.mail_terms.proofs.ListLemmas.{all_append}

module _ {A : Type 0} where
  first : (x : A) (xs : List A) → Contains (x ∷ xs) x
  first x _ = (0, omega arith, refl)

  later : (y : A) (xs : List A) (x : A) → Contains xs x → Contains (y ∷ xs) x
  later y _ x c = (suc c.0, omega (arith, c.1), c.2)

file_is : (f : File) (name content : List ℕ) (is_named is_flushed : Bool) → name ≡ f.name → content ≡ f.content → is_named ≡ f.is_named
    → is_flushed ≡ f.is_flushed → record { name = name; content = content; is_named = is_named; is_flushed = is_flushed } ≡ f
file_is f _ _ _ _ n c d b = rw (n, c, d, b) refl

-- a durable file is left as it was
left_same : (f g : File) → IsDurableFile f → IsLeftAs f g → g ≡ f
left_same f g on left = file_is f _ _ _ _ left.name (left.content on.1) (cc) (cc)

pub names_left : (files left : List File) (f : File) → AreLeftAs files left → Contains files f → IsNamed f → Contains (names_of left) f.name
names_left [] _ f _ c _ = absurd (omega (arith, c.1))
names_left (h ∷ _) _ f (inl (gone, _)) (zero, _, is) named = absurd (false≢true (cc))
names_left (h ∷ files) left f (inl (_, are)) (suc k, below, is) named = names_left files _ f are (k, omega (arith, below), is) named
names_left (h ∷ _) _ f (inr (g, rest, made, kept, _)) (zero, _, is) _ = rw (made, sym (ap (λ x. x.name) is), ← kept.name) (first _ _)
names_left (h ∷ files) _ f (inr (g, rest, made, _, are)) (suc k, below, is) named =
    rw made (later g.name (names_of rest) f.name (names_left files _ f are (k, omega (arith, below), is) named))

pub files_left : (files left : List File) (f : File) → AreLeftAs files left → Contains files f → IsDurableFile f → Contains left f
files_left [] _ f _ c _ = absurd (omega (arith, c.1))
files_left (h ∷ _) _ f (inl (gone, _)) (zero, _, is) on = absurd (false≢true (cc))
files_left (h ∷ files) left f (inl (_, are)) (suc k, below, is) on = files_left files _ f are (k, omega (arith, below), is) on
files_left (h ∷ _) _ f (inr (g, rest, made, kept, _)) (zero, _, is) on = rw (made, left_same f g on (rw is at kept)) (first f _)
files_left (h ∷ files) _ f (inr (g, rest, made, _, are)) (suc k, below, is) on =
    rw made (later g rest f (files_left files _ f are (k, omega (arith, below), is) on))

-- if the bytes of each file were durable, some of the files are left, each whole
pub files_part_left : (files left : List File) → AllFlushed files → AreLeftAs files left → IsPart files left
files_part_left [] _ _ are = ([], rw are tt)
files_part_left (f ∷ files) _ all (inl (_, are)) =
    let (others, is) = files_part_left files _ all.1 are in
    (f ∷ others, ([], files, reached_same (f ∷ files), is))
files_part_left (f ∷ files) _ all (inr (g, rest, made, kept, are)) =
    let (others, is) = files_part_left files _ all.1 are in
    let reaches : IsAsDurable f g = record {
      name = kept.name;
      content = kept.content all.0;
      named =
          λ _. kept.durable.0;
      flushed = λ _. kept.durable.1;
    } in
    (others, rw made (without_more _ _ _ f g reaches is))

-- if all is durable, all is left
pub files_all_left : (files left : List File) → AllDurable files → AreLeftAs files left → left ≡ files
files_all_left [] _ _ are = are
files_all_left (f ∷ _) _ all (inl (gone, _)) = absurd (false≢true (cc))
files_all_left (f ∷ files) _ ((named, names), (flushed, contents)) (inr (g, rest, made, kept, are)) =
    made ∙ rw (left_same f g (named, flushed) kept, files_all_left files rest (names, contents) are) refl

-- what is left is durable
pub left_durable : (files left : List File) → AreLeftAs files left → AllDurable left
left_durable [] _ are = rw are (tt, tt)
left_durable (f ∷ files) _ (inl (_, are)) = left_durable files _ are
left_durable (f ∷ files) _ (inr (g, rest, made, kept, are)) =
    let others = left_durable files _ are in
    rw made ((kept.durable.0, others.0), (kept.durable.1, others.1))

-- all of them may be left
abbrev pub secured : File → File
secured f = record f { is_named = true; is_flushed = true }

pub all_may_be_left : (files : List File) → AreLeftAs files (map secured files)
all_may_be_left [] = refl
all_may_be_left (f ∷ files) = inr (
  secured f,
  map secured files,
  refl,
  record { name = refl; content = λ _. refl; durable = (refl, refl) },
  all_may_be_left files,
)

-- ---- what keeps files flushed

flushed_reached : (files risen : List File) → AllFlushed files → AreReached files risen → AllFlushed risen
flushed_reached [] [] _ _ = tt
flushed_reached [] (g ∷ _) _ are = absurd are
flushed_reached (f ∷ _) [] _ are = absurd are
flushed_reached (f ∷ files) (g ∷ risen) all are = (are.0.flushed all.0, flushed_reached files risen all.1 are.1)

flushed_named : (files risen : List File) → AllFlushed files → AllZip MayBeNamed files risen → AllFlushed risen
flushed_named [] [] _ _ = tt
flushed_named [] (g ∷ _) _ never = absurd never
flushed_named (f ∷ _) [] _ never = absurd never
flushed_named (f ∷ files) (g ∷ risen) all (inl same, are) = (rw same all.0, flushed_named files risen all.1 are)
flushed_named (f ∷ files) (g ∷ risen) all (inr same, are) = (rw same all.0, flushed_named files risen all.1 are)

flushed_others : (front back : List File) (f : File) → AllFlushed (front ++ f ∷ back) → AllFlushed (front ++ back)
flushed_others [] _ f all = all.1
flushed_others (g ∷ front) _ f all = (all.0, flushed_others front _ f all.1)

pub flushed_part : (gone files left : List File) → AllFlushed files → IsWithout files gone left → AllFlushed left
flushed_part [] _ _ all are = flushed_reached _ _ all are
flushed_part (f ∷ gone) _ _ all (_, _, are, is) = flushed_part gone _ _ (flushed_others _ _ f (flushed_reached _ _ all are)) is

pub flushed_delivers : {T : Type 0} (old new : Maildir) (name text : List ℕ) (r : Result T StoreFault) → Delivers old (mail name text) r new
    → AllFlushed old.files → AllFlushed new.files
flushed_delivers old _ name text (Ok _) (risen, are, is) all = rw is (all_append _ _ _ (flushed_named _ _ all are) (refl, tt))
flushed_delivers _ _ _ _ (Err Missing) is all = rw is.1 all
flushed_delivers _ _ _ _ (Err Refused) (inl is) all = rw is all
flushed_delivers old _ name text (Err Refused) (inr (risen, are, (named, is))) all =
    rw is (all_append _ _ _ (flushed_named _ _ all are) (refl, tt))
flushed_delivers _ _ _ _ (Err NoMemory) is all = rw is all
flushed_delivers _ _ _ _ (Err _) is _ = absurd is

-- ---- what may be left after more calls

before_reached : (f g h : File) → IsAsDurable f g → IsLeftAs g h → IsLeftAs f h
before_reached f g h reaches left = record {
  name = cc;
  content = λ is. left.content (reaches.flushed is) ∙ reaches.content;
  durable = left.durable;
}

pub left_before : (files risen left : List File) → AreReached files risen → AreLeftAs risen left → AreLeftAs files left
left_before [] [] _ _ is = is
left_before [] (g ∷ _) _ are _ = absurd are
left_before (f ∷ _) [] _ are _ = absurd are
left_before (f ∷ files) (g ∷ risen) left are (inl (gone, is)) =
    inl (false_from_ne_true _ (λ named. false≢true (cc (are.0.named named))), left_before files risen left are.1 is)
left_before (f ∷ files) (g ∷ risen) _ are (inr (h, rest, made, kept, is)) =
    inr (h, rest, made, before_reached f g h are.0 kept, left_before files risen rest are.1 is)

pub left_of_both : (files added left : List File) → AreLeftAs (files ++ added) left
    → (before part : List File) × AreLeftAs files before × AreLeftAs added part × (left ≡ before ++ part)
left_of_both [] _ left is = ([], left, refl, is, refl)
left_of_both (f ∷ files) _ _ (inl (gone, is)) =
    let (before, part, first, next, same) = left_of_both files _ _ is in
    (before, part, inl (gone, first), next, same)
left_of_both (f ∷ files) added _ (inr (g, rest, made, kept, is)) =
    let (before, part, first, next, same) = left_of_both files _ _ is in
    (g ∷ before, part, inr (g, before, refl, kept, first), next, cc)
