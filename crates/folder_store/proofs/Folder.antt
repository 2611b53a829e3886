-- What the calls of a folder do, from what is done to the paths in it.
use Rattle.std.proofs.{
  Common.{◌≡◌, ◌⊎◌, ℕ, refl, List, [], ◌∷◌, ◌++◌, sym, ap, ◌∙◌, Bool, true, Option, Some, None, option_map, Result, Ok, Err, inl, inr},
  Common.{⊎_elim},
}
use Rattle.std.specs.{Prelude.{OnOk, Vec}, IoError.{error_kind}}
use Rattle.system_calls.specs.declared.refusal.Denial.{Denial}
use Rattle.mail_store.specs.{
  declared.{fault.StoreFault.{StoreFault}, file.flat_file.Edges.{Edges}},
  Durable.{Blob, content_in},
}
use Rattle.folder_store.specs.{
  FileFolder.{Directory, MadeFile, Older, AltersInPart, FlushesNames, Makes, MeasuresFile, PutsFile, ReadsFile, ReadsPiece},
  FileFolder.{TellsFileSize, content_at, find, names_flushed, put_in},
  Calls.{FlushesFolder, IsAbsent, Renames, Tree, answered, device_fault, names_synced},
  Under.{after, directory_under, front_of, older_entry_under, older_under, outside, outside_entry, under},
}
use Rattle.folder_store.proofs.{Refusing.{missing_absent}, Under.{alters_under, find_under, put_under}}

content_under : (front name : List ℕ) (d : Directory) → content_at d (front ++ name) ≡ content_at (directory_under front d) name
content_under front name d = ap (option_map content_in) (find_under front name d.entries)

-- ---- what is only read

pub reads_under : {B : Type 0} → (front name : List ℕ) (d : Directory) (r : Result (Vec ℕ B) StoreFault) → ReadsFile d (front ++ name) r d
    → ReadsFile (directory_under front d) name r (directory_under front d)
reads_under front name d (Ok bytes) is = (sym (content_under front name d) ∙ is.0, refl)
reads_under front name d (Err fault) is = (refl, λ gone. sym (content_under front name d) ∙ is.1 gone)

pub measures_under : (front name : List ℕ) (d : Directory) (r : Result Edges StoreFault) → MeasuresFile d (front ++ name) r d
    → MeasuresFile (directory_under front d) name r (directory_under front d)
measures_under front name d (Ok edges) ((was, there, same), _) = ((was, sym (content_under front name d) ∙ there, same), refl)
measures_under front name d (Err fault) is = (refl, λ gone. sym (content_under front name d) ∙ is.1 gone)

pub pieces_under : (front name : List ℕ) (d : Directory) (start : ℕ) (r : Result ℕ StoreFault) (buf : List ℕ)
    → ReadsPiece d (front ++ name) start r buf d
    → ReadsPiece (directory_under front d) name start r buf (directory_under front d)
pieces_under front name d start (Ok n) buf ((was, there, count, bytes), _) =
    ((was, sym (content_under front name d) ∙ there, count, bytes), refl)
pieces_under front name d start (Err fault) buf is = (refl, λ gone. sym (content_under front name d) ∙ is.1 gone)

pub sizes_under : (front name : List ℕ) (d : Directory) (r : Result ℕ StoreFault) → TellsFileSize d (front ++ name) r d
    → TellsFileSize (directory_under front d) name r (directory_under front d)
sizes_under front name d (Ok size) ((was, there, same), _) = ((was, sym (content_under front name d) ∙ there, same), refl)
sizes_under front name d (Err fault) is = (refl, λ gone. sym (content_under front name d) ∙ is.1 gone)

-- ---- what is changed

pub part_under : {T : Type 0} → (Done Part : Blob → Blob → Type 0) → (front name : List ℕ) (old new : Directory) (r : Result T StoreFault)
    → AltersInPart Done Part old (front ++ name) r new
    → AltersInPart Done Part (directory_under front old) name r (directory_under front new)
part_under Done Part front name old new (Ok done) is = alters_under front name old new is
part_under Done Part front name old new (Err fault) is =
    ⊎_elim (λ same. inl (ap (directory_under front) same)) (λ part. inr (alters_under front name old new part)) is

pub puts_under : {T : Type 0} → (Sound : Type 0) (front name : List ℕ) (old new : Tree) (file : MadeFile) (r : Result T Denial)
    → Renames Sound old file (front ++ name) r new
    → PutsFile Sound (directory_under front old.directory) file name (answered r) (directory_under front new.directory)
puts_under Sound front name old new file (Ok done) (sound, is) =
    (sound, ap (λ (t : Tree). directory_under front t.directory) is ∙ put_under front name file old.directory)
puts_under Sound front name old new file (Err d) is = ⊎_elim (λ same. inl (ap (directory_under front) same))
    (λ put. inr (put.0, ap (directory_under front) put.1 ∙ put_under front name file old.directory)) is

-- ---- the names

outside_step : (front : List ℕ) (o : Older) (os : List Older) (name : Option (List ℕ)) → after front o.name ≡ name
    → older_under front (outside front os) ≡ [] → older_under front (outside_entry name o (outside front os)) ≡ []
outside_step front o os None is rest =
    ap (λ (n : Option (List ℕ)). older_entry_under n o (older_under front (outside front os))) is ∙ rest
outside_step front o os (Some name) is rest = rest

none_outside : (front : List ℕ) (os : List Older) → older_under front (outside front os) ≡ []
none_outside front [] = refl
none_outside front (o ∷ os) = outside_step front o os (after front o.name) refl (none_outside front os)

synced_under : (folder : List ℕ) (t : Tree)
    → directory_under (front_of folder) (names_synced t folder).directory ≡ names_flushed (directory_under (front_of folder) t.directory)
synced_under folder t = ap (λ (os : List Older). record (directory_under (front_of folder) t.directory) { older = os })
    (none_outside (front_of folder) t.directory.older)

pub names_under : (folder : List ℕ) (old new : Tree) (r : Result Bool Denial) → FlushesFolder old folder r new
    → FlushesNames (directory_under (front_of folder) old.directory) (answered r) (directory_under (front_of folder) new.directory)
names_under folder old new (Ok flushes) is =
    (is.0, ap (λ (t : Tree). directory_under (front_of folder) t.directory) is.1 ∙ synced_under folder old)
names_under folder old new (Err d) is = ⊎_elim (λ same. inl (ap (λ (t : Tree). directory_under (front_of folder) t.directory) same))
    (λ done. inr (ap (λ (t : Tree). directory_under (front_of folder) t.directory) done ∙ synced_under folder old)) is
