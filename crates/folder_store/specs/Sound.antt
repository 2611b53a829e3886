-- What is known of a call of a file system if its premise holds after the call.
use Rattle.std.specs.Prelude.{◌≡◌, ℕ, List}
use Rattle.mail_store.specs.Durable.{Disk}
use Rattle.folder_store.specs.{FileFolder.Directory, PowerLoss.disk_at}

-- it held before, and the call did this to the files
abbrev pub WhereFilesSound : {S X : Type 0} → (S → Type 0) → (S → X) → S → S → (X → X → Type 0) → Type 0
WhereFilesSound sound files old new Does = sound new → sound old × Does (files old) (files new)

-- it held before, and the call left the files as they were and told this of them
abbrev pub WhereFilesStay : {S X : Type 0} → (S → Type 0) → (S → X) → S → S → (X → Type 0) → Type 0
WhereFilesStay sound files old new Tells = sound new → sound old × (files new ≡ files old) × Tells (files old)

-- it held before, and the call did this to the file of a name
abbrev pub WhereFileSound : {S : Type 0} → (S → Type 0) → (S → Directory) → (name : List ℕ) → S → S
    → (Disk → Disk → Type 0) → Type 0
WhereFileSound sound directory name old new Does = WhereFilesSound sound (λ s. disk_at (directory s) name) old new Does
