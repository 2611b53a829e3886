-- Which files are still to be flushed after a pass through the folders of a Maildir.
use Rattle.std.specs.{Prelude.{ℕ, List, Bool, not, ◌&&◌, bytes_eq, string_bytes}, List.list_any}
use Rattle.mail_store.specs.FileName.{stem}
use Rattle.folder_store.specs.declared.flush_pass.Found.{Found}

-- a file was found under a name of this stem, and flushed
abbrev pub has_flushed : List Found → List ℕ → Bool
has_flushed found q = list_any (λ (f : Found). f.is_flushed && bytes_eq q (stem (string_bytes f.name))) found

-- a name of this stem was found, and its file wasn't flushed: it had gone from there
abbrev pub has_missed : List Found → List ℕ → Bool
has_missed found q = list_any (λ (f : Found). not f.is_flushed && bytes_eq q (stem (string_bytes f.name))) found

-- a message is settled if some name of it was found, and each file of such a name was flushed
abbrev pub was_flushed : List Found → List ℕ → Bool
was_flushed found q = has_flushed found q && not (has_missed found q)
