-- What a loss of power may leave of the folders of a Maildir. A rename is one step, which a loss of power leaves done
-- or not, and a flush of either of the folders that it changed makes it durable.
use Rattle.std.specs.Prelude.{◌≡◌, ◌⊎◌, true, false, List, [], ◌∷◌}
use Rattle.mail_terms.specs.MaildirName.{base}
use Rattle.folder_store.specs.MailFolders.{MailFile, Directories, touches_new, touches_cur}

-- a file as it is after a loss of power: in one of the places that it has or had, with all its bytes if they were
-- flushed, else with any, and all of it is durable
pub record IsMailLeftAs (s t : MailFile) : Type 0 where
  pub title : base t.name ≡ base s.name
  pub in_new : t.is_new ≡ true → touches_new s ≡ true
  pub in_cur : t.is_new ≡ false → touches_cur s ≡ true
  pub content : s.is_flushed ≡ true → t.content ≡ s.content
  pub flushed : t.is_flushed ≡ true
  pub named : t.is_named ≡ true
  pub firm : (t.left_new ≡ false) × (t.left_cur ≡ false)
  pub gone : s.is_gone ≡ false → t.is_gone ≡ false

-- some files after a loss of power, one by one: a file is there once, or is gone if no name of it was durable
abbrev pub EntriesLeftAs : List MailFile → List MailFile → Type 0
EntriesLeftAs [] left = left ≡ []
EntriesLeftAs (s ∷ entries) left =
    ((s.is_named ≡ false) × EntriesLeftAs entries left)
    ⊎ ((t : MailFile) × (rest : List MailFile) × (left ≡ t ∷ rest) × IsMailLeftAs s t × EntriesLeftAs entries rest)

-- the folders after a loss of power
pub record LosesMail (old new : Directories) : Type 0 where
  pub there : new.there ≡ old.there
  pub each : EntriesLeftAs old.entries new.entries
  pub taken : new.taken ≡ old.taken

-- a loss of power is possible in each state
abbrev pub MailCanLosePower : Type 0
MailCanLosePower = (old : Directories) → (new : Directories) × LosesMail old new
