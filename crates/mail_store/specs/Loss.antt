-- What a flush of files does, and what a loss of power may leave of a Maildir.
use Rattle.std.specs.{
  Prelude.{◌≡◌, ◌⊎◌, ◌||◌, ℕ, List, [], ◌∷◌, map, bytes_eq, Bool, true, false, None, Result, Ok, Err, String},
  Prelude.string_bytes,
  List.list_any,
}
use Rattle.mail_store.specs.{
  declared.fault.StoreFault.StoreFault,
  FileName.stem,
  Maildir.{File, IsDurableFile, Maildir, maildir_refused, with_files},
}

-- whether one of these texts is this one
abbrev pub is_among : {A : Type 0} → List (String A) → List ℕ → Bool
is_among texts text = list_any (λ other. bytes_eq text (string_bytes other)) texts

-- a file once those with one of these stems were flushed
abbrev pub flushed_by : {A : Type 0} → List (String A) → File → File
flushed_by stems f = record f { is_flushed = f.is_flushed || is_among stems (stem f.name) }

abbrev pub with_flushed : {A : Type 0} → List (String A) → Maildir → Maildir
with_flushed stems old = with_files (map (flushed_by stems) old.files) old

-- `flush`: the bytes of each file with one of these stems are durable, if the answer is true
abbrev pub Flushes : {A : Type 0} → Maildir → List (String A) → Result Bool StoreFault → Maildir → Type 0
Flushes old stems (Ok true) new = new ≡ with_flushed stems old
Flushes old stems (Ok false) new = new ≡ old
Flushes old stems (Err fault) new = new ≡ maildir_refused old

-- ---- a loss of power

-- a file after it: under its name, with its bytes if they were durable, else with any, and durable
pub record IsLeftAs (f g : File) : Type 0 where
  pub name : g.name ≡ f.name
  pub content : f.is_flushed ≡ true → g.content ≡ f.content
  pub durable : IsDurableFile g

-- the files after it, one by one: a file is gone only if its name wasn't durable
abbrev pub AreLeftAs : List File → List File → Type 0
AreLeftAs [] left = left ≡ []
AreLeftAs (f ∷ files) left = ((f.is_named ≡ false) × AreLeftAs files left)
    ⊎ ((g : File) × (rest : List File) × (left ≡ g ∷ rest) × IsLeftAs f g × AreLeftAs files rest)

-- the Maildir after it: no file is being written
pub record LosesPower (old new : Maildir) : Type 0 where
  pub there : new.there ≡ old.there
  pub files : AreLeftAs old.files new.files
  pub begun : new.begun ≡ None
  pub taken : new.taken ≡ old.taken
