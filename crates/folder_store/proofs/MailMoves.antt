-- What others' moves and flushes of names leave as it was.
use Rattle.std.{
  proofs.Common.{◌≡◌, ◌⊎◌, ◌||◌, Contains, inl, inr, ⊎_elim, ℕ, zero, suc, Bool, true, false, not, List, [], ◌∷◌, ◌++◌, map, Option, refl},
  proofs.Common.{ap, ◌∙◌, arith},
  proofs.lemmas.Bool.or_left,
  specs.List.{AllByRecursion, AllZip},
}
use Rattle.mail_terms.{specs.MaildirName.base, proofs.ListLemmas.{zip_on, zip_same}}
use Rattle.mail_store.specs.{
  declared.maildir.disk.Folder.{Folder, TheVariants.{New, Cur}},
  Loss.AreLeftAs,
  Maildir.{AreReached, Draft, File, IsAsDurable, AllNamed},
}
use Rattle.folder_store.specs.{
  MailFolders.{MailFile, Directories, KeepsFile, MovesFile, RestsFile, Moved, mail_at, files_at, name_at, entries_in, touches_new, is_in},
  MailFolders.{touches_cur, maildir_in, OneMoves},
  MailPower.{EntriesLeftAs, IsMailLeftAs, MailCanLosePower},
  MailCalls.{Leads, SameFiles, named_by},
}

-- what holds of two lists of files that are so related one by one
pub each_by : (Does : MailFile → MailFile → Type 0) (P : List MailFile → List MailFile → Type 0) → P [] []
    → ((s t : MailFile) (ss ts : List MailFile) → Does s t → P ss ts → P (s ∷ ss) (t ∷ ts)) → (a b : List MailFile)
    → AllZip Does a b → P a b
each_by Does P none more [] [] h = none
each_by Does P none more [] (t ∷ ts) h = absurd h
each_by Does P none more (s ∷ ss) [] h = absurd h
each_by Does P none more (s ∷ ss) (t ∷ ts) h = more s t ss ts h.0 (each_by Does P none more ss ts h.1)

-- one of the files is such
abbrev pub SomeIs : (MailFile → Type 0) → List MailFile → Type 0
SomeIs Is [] = ⊥
SomeIs Is (s ∷ entries) = Is s ⊎ SomeIs Is entries

-- what holds of one of the files, then holds of one of the others
pub some_after : {Does : MailFile → MailFile → Type 0} {Is Will : MailFile → Type 0} → (a b : List MailFile) → AllZip Does a b → SomeIs Is a
    → ((s t : MailFile) → Does s t → Is s → Will t) → SomeIs Will b
some_after {Does} {Is} {Will} a b h is each =
    each_by Does (λ a b. SomeIs Is a → SomeIs Will b) (λ is. is)
    (λ s t ss ts d rest. ⊎_elim (λ is. inl (each s t d is)) (λ is. inr (rest is))) a b h is

pub some_map : {Is : MailFile → Type 0} (Will : MailFile → Type 0) (f : MailFile → MailFile) (ss : List MailFile)
    → SomeIs Is ss → ((s : MailFile) → Is s → Will (f s)) → SomeIs Will (map f ss)
some_map Will f [] is each = absurd is
some_map Will f (s ∷ ss) (inl is) each = inl (each s is)
some_map Will f (s ∷ ss) (inr is) each = inr (some_map Will f ss is each)

pub there_some : {A : Type 0} (g : MailFile → A) (x : A) (P : MailFile → Type 0) → (ss : List MailFile)
    → AllByRecursion P ss → Contains (map g ss) x → SomeIs (λ (s : MailFile). (g s ≡ x) × P s) ss
there_some g x P [] all c = absurd (omega (arith, c.1))
there_some g x P (s ∷ ss) all (zero, below, is) = inl (is, all.0)
there_some g x P (s ∷ ss) all (suc k, below, is) = inr (there_some g x P ss all.1 (k, omega (arith, below), is))

-- ---- files that keep their names up to the colon and their bytes

pub same_mail : (s t : MailFile) → base t.name ≡ base s.name → t.content ≡ s.content → t.is_named ≡ s.is_named → t.is_flushed ≡ s.is_flushed
    → mail_at t ≡ mail_at s
same_mail s t title content named flushed = rw (title, content, named, flushed) refl

pub reaches_at : (s t : MailFile) → KeepsFile s t → IsAsDurable (mail_at s) (mail_at t)
reaches_at s t k = record { name = k.title; content = k.content; named = k.named; flushed = k.flushed }

pub files_reached : (a b : List MailFile) → AllZip KeepsFile a b → AreReached (files_at a) (files_at b)
files_reached a b = each_by KeepsFile (λ a b. AreReached (files_at a) (files_at b)) tt (λ s t ss ts k rest. (reaches_at s t k, rest)) a b

pub files_moved : (a b : List MailFile) → AllZip MovesFile a b → files_at b ≡ files_at a
files_moved a b = each_by MovesFile (λ a b. files_at b ≡ files_at a) refl
    (λ s t ss ts m same. ap (λ (f : File). f ∷ files_at ts) (same_mail s t m.keeps.title m.keeps.content m.named m.flushed)
    ∙ ap (λ (fs : List File). mail_at s ∷ fs) same) a b

-- ---- others' moves, and flushes of names

pub each_keeps : (a b : List MailFile) → AllZip MovesFile a b → AllZip KeepsFile a b
each_keeps a b = each_by MovesFile (AllZip KeepsFile) tt (λ s t ss ts m rest. (m.keeps, rest)) a b

pub moved_leads : (a b : Directories) → Moved a b → Leads a b
moved_leads a b m = record {
  there = m.there;
  taken = m.taken;
  odd = rw (m.odd_new, m.odd_cur) refl;
  keeps = each_keeps a.entries b.entries m.moves;
}

-- others moved files, and a call changed nothing
pub moved_same : (a m b : Directories) → Moved a m → b ≡ m → Leads a b
moved_same a m b v e = rw e (moved_leads a m v)

pub flush_keeps : (folder : Folder) (s : MailFile) → KeepsFile s (named_by folder s)
flush_keeps New s = record { title = refl; content = refl; flushed = λ h. h; named = or_left s.is_named (touches_new s) }
flush_keeps Cur s = record { title = refl; content = refl; flushed = λ h. h; named = or_left s.is_named (touches_cur s) }

pub same_keeps : (s : MailFile) → KeepsFile s s
same_keeps s = record { title = refl; content = refl; flushed = λ h. h; named = λ h. h }

pub leads_same : (a : Directories) → Leads a a
leads_same a = record { there = refl; taken = refl; odd = refl; keeps = zip_same KeepsFile same_keeps a.entries }

-- ---- one after another

pub keeps_on : (s t u : MailFile) → KeepsFile s t → KeepsFile t u → KeepsFile s u
keeps_on s t u a b = record {
  title = b.title ∙ a.title;
  content = b.content ∙ a.content;
  flushed = λ is. b.flushed (a.flushed is);
  named = λ h. b.named (a.named h);
}

-- others moved files, and then something was done to each that keeps it
pub mapped_leads : (f : MailFile → MailFile) → ((s : MailFile) → KeepsFile s (f s)) → (a m : Directories) → Moved a m
    → Leads a (record m { entries = map f m.entries })
mapped_leads f keeps a m v = record {
  there = v.there;
  taken = v.taken;
  odd = rw (v.odd_new, v.odd_cur) refl;
  keeps = each_by MovesFile (λ a b. AllZip KeepsFile a (map f b)) tt
      (λ s t ss ts m rest. (keeps_on s t (f t) m.keeps (keeps t), rest)) a.entries m.entries v.moves;
}

-- the Maildir is as it was
pub moved_maildir : {odd : List (List ℕ)} (a m b : Directories) (begun : Option Draft) (n : ℕ) → Moved a m → b ≡ m
    → maildir_in b begun odd n ≡ maildir_in a begun odd n
moved_maildir a m b begun n v e = rw e (rw (v.there, v.taken, v.odd_new, v.odd_cur, files_moved a.entries m.entries v.moves) refl)

pub moved_rests : (a b : Directories) → Moved a b → SameFiles a b
moved_rests a b v = record {
  there = v.there;
  taken = v.taken;
  odd = rw (v.odd_new, v.odd_cur) refl;
  files = files_moved a.entries b.entries v.moves;
}

pub same_rests_at : (a m b : Directories) → Moved a m → b ≡ m → SameFiles a b
same_rests_at a m b v e = rw e (moved_rests a m v)

-- ---- durable names

-- a flush of `new` and then one of `cur`, with moves between them, make all names durable
near : (s t : MailFile) → MovesFile (named_by New s) t → (named_by Cur t).is_named ≡ true
near s t m = grind (arith, m.keeps.named, m.cur)

pub both_named : (ss ts : List MailFile) → AllZip MovesFile (map (named_by New) ss) ts → AllNamed (files_at (map (named_by Cur) ts))
both_named [] [] h = tt
both_named [] (t ∷ ts) h = absurd h
both_named (s ∷ ss) [] h = absurd h
both_named (s ∷ ss) (t ∷ ts) h = (near s t h.0, both_named ss ts h.1)

-- ---- `new` at rest

abbrev SameNames : List MailFile → List MailFile → Type 0
SameNames ss ts = map name_at ts ≡ map name_at ss

rests_one : (s t : MailFile) (ss ts : List MailFile) → RestsFile New s t → SameNames (entries_in New ss) (entries_in New ts)
    → SameNames (entries_in New (s ∷ ss)) (entries_in New (t ∷ ts))
rests_one s t ss ts r rest = grind (arith, r.place, r.name, r.gone, rest)

pub rests_new : (a b : List MailFile) → AllZip (RestsFile New) a b → SameNames (entries_in New a) (entries_in New b)
rests_new a b = each_by (RestsFile New) (λ a b. SameNames (entries_in New a) (entries_in New b)) refl rests_one a b

-- ---- what readers do is a step that `Moved` allows

pub same_moves : (s : MailFile) → MovesFile s s
same_moves s = record { keeps = same_keeps s; flushed = refl; named = refl; new = λ h. h; cur = λ h. h }

pub same_rests : (folder : Folder) (s : MailFile) → RestsFile folder s s
same_rests folder s = record { place = refl; name = λ h. refl; gone = λ h. refl }

pub rest : (b : Directories) → Moved b b
rest b = record {
  there = refl;
  taken = refl;
  odd_new = refl;
  odd_cur = refl;
  dirs_cur = refl;
  moves = zip_same MovesFile same_moves b.entries;
  rests = λ folder quiet. (quiet, zip_same (RestsFile folder) (same_rests folder) b.entries);
}

pub each_one : (Does : MailFile → MailFile → Type 0) → ((s : MailFile) → Does s s)
    → (front back : List MailFile) (s t : MailFile) → Does s t → AllZip Does (front ++ s ∷ back) (front ++ t ∷ back)
each_one Does same [] back s t m = (m, zip_same Does same back)
each_one Does same (x ∷ front) back s t m = (same x, each_one Does same front back s t m)

pub one : (old : Directories) (front back : List MailFile) (s t : MailFile) (new : Directories)
    → OneMoves old front back s t new → Moved old new
one old front back s t new o = record {
  there = o.there;
  taken = o.taken;
  odd_new = o.odd_new;
  odd_cur = o.odd_cur;
  dirs_cur = o.dirs_cur;
  moves = rw (o.before, o.after) (each_one MovesFile same_moves front back s t o.moves);
  rests = λ folder quiet.
      let r = o.rests folder quiet in
      (r.0, rw (o.before, o.after) (each_one (RestsFile folder) (same_rests folder) front back s t r.1));
}

moves_on : (s t u : MailFile) → MovesFile s t → MovesFile t u → MovesFile s u
moves_on s t u a b = record {
  keeps = keeps_on s t u a.keeps b.keeps;
  flushed = b.flushed ∙ a.flushed;
  named = b.named ∙ a.named;
  new = λ h. b.new (a.new h);
  cur = λ h. b.cur (a.cur h);
}

still_in : (folder : Folder) (s t : MailFile) → t.is_new ≡ s.is_new → is_in folder s ≡ true → is_in folder t ≡ true
still_in New s t e h = e ∙ h
still_in Cur s t e h = ap (λ (b : Bool). not b) e ∙ h

rests_on : (folder : Folder) (s t u : MailFile) → RestsFile folder s t → RestsFile folder t u → RestsFile folder s u
rests_on folder s t u a b = record {
  place = b.place ∙ a.place;
  name = λ h. b.name (still_in folder s t a.place h) ∙ a.name h;
  gone = λ h. b.gone (still_in folder s t a.place h) ∙ a.gone h;
}

pub on : (a b c : Directories) → Moved a b → Moved b c → Moved a c
on a b c first then = record {
  there = then.there ∙ first.there;
  taken = then.taken ∙ first.taken;
  odd_new = then.odd_new ∙ first.odd_new;
  odd_cur = then.odd_cur ∙ first.odd_cur;
  dirs_cur = then.dirs_cur ∙ first.dirs_cur;
  moves = zip_on MovesFile moves_on a.entries b.entries c.entries first.moves then.moves;
  rests = λ folder quiet.
      let after = then.rests folder quiet in
      let before = first.rests folder after.0 in
      (before.0, zip_on (RestsFile folder) (rests_on folder) a.entries b.entries c.entries before.1 after.1);
}

-- ---- what a loss of power leaves of the folders of a Maildir

-- is what it may leave of the files
pub left_as : (ss left : List MailFile) → EntriesLeftAs ss left → AreLeftAs (files_at ss) (files_at left)
left_as [] left l = ap files_at l
left_as (s ∷ ss) left (inl (gone, l)) = inl (gone, left_as ss left l)
left_as (s ∷ ss) left (inr (t, rest, e, is, l)) = inr (
  mail_at t,
  files_at rest,
  ap files_at e,
  record { name = is.title; content = is.content; durable = (is.named, is.flushed) },
  left_as ss rest l,
)

-- each file stays where it is, with its bytes
abbrev pub staying : MailFile → MailFile
staying s = record s { is_flushed = true; is_named = true; left_new = false; left_cur = false }

pub staying_left : (s : MailFile) → IsMailLeftAs s (staying s)
staying_left s = record {
  title = refl;
  in_new = λ new. ap (λ (b : Bool). b || s.left_new) new;
  in_cur = λ cur. ap (λ (b : Bool). not b || s.left_cur) cur;
  content = λ flushed. refl;
  flushed = refl;
  named = refl;
  firm = (refl, refl);
  gone = λ here. here;
}

pub mail_can_lose_power : MailCanLosePower
mail_can_lose_power old =
    let r = all_staying old.entries in
    (record old { entries = r.0 }, record { there = refl; each = r.1; taken = refl })
  where
    all_staying : (ss : List MailFile) → (left : List MailFile) × EntriesLeftAs ss left
    all_staying [] = ([], refl)
    all_staying (s ∷ ss) = let r = all_staying ss in (staying s ∷ r.0, inr (staying s, r.0, refl, staying_left s, r.1))
