-- What a loss of power leaves of devices in memory: of a Maildir the files whose names are durable, and of a file
-- whatever may be left.
use Rattle.std.{
  proofs.Common.{◌≡◌, inl, inr, ℕ, List, [], ◌∷◌, Bool, true, false, cond, refl, sym, ap, subst, ◌∙◌, Option, Some, None, not},
  proofs.lemmas.{Bool.or_left, Slice.Eq.bytes_eq-Decides},
  specs.{List.filter, Prelude.option_map},
}
use Rattle.mail_terms.specs.MaildirName.{base}
use Rattle.mail_store.specs.{
  Durable.{DurableIsLeft, IsDurable, IsFlushed, MayLeave, content_in, secured},
  Maildir.{File, names_of},
}
use Rattle.folder_store.{
  specs.FileFolder.{Directory, content_at, entry, find},
  specs.MailFolders.{Directories, MailFile, files_at, mail_at},
  specs.MailPower.{EntriesLeftAs, LosesMail},
  specs.PowerLoss.{disk_at, left_under},
  proofs.Files.find_here,
}
use Rattle.test_devices.specs.MemoryFolders.{left_with}

-- ---- a Maildir

-- a file as it is left, where it is
abbrev pub left_here : MailFile → MailFile
left_here s = left_with s.is_new s.content s

abbrev pub keep : List MailFile → List MailFile
keep [] = []
keep (s ∷ entries) = cond s.is_named (left_here s ∷ keep entries) (keep entries)

kept_left : (entries : List MailFile) → EntriesLeftAs entries (keep entries)
kept_left [] = refl
kept_left (s ∷ entries) = by s.is_named refl (kept_left entries)
  where
    by : (named : Bool) → s.is_named ≡ named → EntriesLeftAs entries (keep entries)
        → EntriesLeftAs (s ∷ entries) (cond named (left_here s ∷ keep entries) (keep entries))
    by true _ rest = inr (
      left_here s,
      keep entries,
      refl,
      record {
        title = refl;
        in_new = λ is. or_left _ _ is;
        in_cur = λ is. or_left _ _ (ap not is);
        content = λ _. refl;
        flushed = refl;
        named = refl;
        firm = (refl, refl);
        gone = λ there. there;
      },
      rest,
    )
    by false unnamed rest = inl (unnamed, rest)

pub named_are_left : (entries : List MailFile) → names_of (files_at (keep entries))
    ≡ names_of (filter (λ (f : File). f.is_named) (files_at entries))
named_are_left [] = refl
named_are_left (s ∷ entries) = by s.is_named (named_are_left entries)
  where
    by : (named : Bool)
        → names_of (files_at (keep entries)) ≡ names_of (filter (λ (f : File). f.is_named) (files_at entries))
        → names_of (files_at (cond named (left_here s ∷ keep entries) (keep entries)))
        ≡ names_of (cond named
        (mail_at s ∷ filter (λ (f : File). f.is_named) (files_at entries))
        (filter (λ (f : File). f.is_named) (files_at entries)))
    by true same = ap (λ (names : List (List ℕ)). base s.name ∷ names) same
    by false same = same

-- the folders after it
abbrev pub lost : Directories → Directories
lost d = record d { entries = keep d.entries }

pub loses : (d : Directories) → LosesMail d (lost d)
loses d = record { there = refl; each = kept_left d.entries; taken = refl }

-- ---- a file

-- a folder with nothing but what is left under the name
abbrev pub only_name : List ℕ → Option (List ℕ) → Directory
only_name name bytes = record { can_make = true; entries = left_under name bytes; older = [] }

found_alone : (name bytes : List ℕ) → find name (left_under name (Some bytes)) ≡ Some (secured bytes)
found_alone name bytes = find_here name (entry name (secured bytes)) [] ((bytes_eq-Decides name name).1 refl)

pub seen_alone : (name : List ℕ) (bytes : Option (List ℕ)) → content_at (only_name name bytes) name ≡ bytes
seen_alone name None = refl
seen_alone name (Some bytes) = ap (option_map content_in) (found_alone name bytes)

durable_alone : (name : List ℕ) (bytes : Option (List ℕ)) → IsDurable (disk_at (only_name name bytes) name)
durable_alone name None = record { named = refl; flushed = tt }
durable_alone name (Some bytes) = record { named = refl; flushed = subst IsFlushed (sym (found_alone name bytes)) refl }

pub left_alone : DurableIsLeft → (name : List ℕ) (bytes other : Option (List ℕ)) → MayLeave (disk_at (only_name name bytes) name) other
    → other ≡ bytes
left_alone law name bytes other may = law (disk_at (only_name name bytes) name) other (durable_alone name bytes) may ∙ seen_alone name bytes
