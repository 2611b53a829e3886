-- Whether the superuser may use a Maildir.
use Rattle.std.specs.Prelude.{◌≡◌, ◌∷◌, ℕ, List, [], map}
use Rattle.file_reading.specs.declared.ReadFile.{Ghosts as ReadGhosts}
use Rattle.safe_path.specs.{
  Check.{AreAllSafe, IsFirstRefused},
  declared.{
    looks.Looks.Ghosts,
    rule.{Flaw.Flaw, Kind.{Kind, TheVariants.Folder}, Named.Named},
  },
}
use Rattle.folder_drop.specs.{
  MaildirNames.maildir_folder,
  declared.maildir_names.Folder.TheVariants.{Cur, New},
}

abbrev pub named_so : Named → List ℕ × Kind
named_so named = (named.path.now, named.kind)

-- these name a Maildir and its folders
abbrev pub AreFolders : List ℕ → List Named → Type 0
AreFolders maildir things = map named_so things ≡ (maildir, Folder) ∷ (maildir_folder maildir New, Folder)
    ∷ (maildir_folder maildir Cur, Folder) ∷ []

-- nobody but the superuser controls any of them, or another user looks
abbrev pub IsSafeMaildir : {L : Type 0} → Ghosts L → ReadGhosts L → L → List ℕ → Type 0
IsSafeMaildir told read looks maildir = (things : List Named) × AreFolders maildir things
    × AreAllSafe told read looks things

-- this on the way to one of them is refused to the superuser
abbrev pub IsRefusedOn : {L : Type 0} → Ghosts L → ReadGhosts L → L → List ℕ → List ℕ → Flaw → Type 0
IsRefusedOn told read looks maildir path flaw = (things : List Named) × AreFolders maildir things
    × IsFirstRefused told read looks things path flaw

-- something is
abbrev pub IsUnsafeMaildir : {L : Type 0} → Ghosts L → ReadGhosts L → L → List ℕ → Type 0
IsUnsafeMaildir told read looks maildir = (path : List ℕ) × (flaw : Flaw)
    × IsRefusedOn told read looks maildir path flaw
