-- Files that are changed by their handles, in the terms of paths.
use Rattle.std.proofs.{
  Common.{◌≡◌, ◌≢◌, ◌⊎◌, ℕ, refl, List, [], ◌∷◌, ◌++◌, take, drop, sym, ap, subst, ◌∙◌, Bool, true, false, Option, Some, None},
  Common.{bytes_eq, cond, is_some, true≢false},
  Common.{Result, Ok, Err, inl, inr, ⊎_elim, append_assoc, append-nil, take-append-drop, option_map, length, ◌-◌, ◌+◌},
  lemmas.{Slice.Eq.bytes_eq-Decides, Option.same_Some, Bool.{cases_Bool, cond-true, cond-false, cond_both}, List.take_rest},
}
use Rattle.std.specs.{IoError.{error_kind}, Prelude.{Vec, string_bytes}}
use Rattle.system_calls.specs.declared.refusal.Denial.{Denial}
use Rattle.mail_store.specs.{
  declared.{fault.StoreFault.{StoreFault, TheVariants.{Missing}}, file.flat_file.Edges.{Edges}},
  Durable.{Blob, content_in},
  DiskCalls.{appended, cut, doubted, flushed},
}
use Rattle.folder_store.specs.{
  declared.calls.{FileCalls.Ghosts as CallsGhosts, OpenHandle.Ghosts as HandleGhosts},
  declared.handles.{Changed.{Changed}, Handles.{Handles}, Names.{Names}},
  Kept.{IsAsTold, KeptHolds},
  Under.{front_of},
  FileFolder.{Directory, DirEntry, LacksFile, content_at, entry, find, placed, with_blob, AltersInPart, AppendsTo, CutsTo, FlushesFile},
  FileFolder.{MeasuresFile, ReadsFile, ReadsPiece, TellsFileSize},
  Calls.{AppendsOpened, AppendsSome, Truncates, IsAbsent, IsAppendedSoFar, IsOpenedAt, StillLeads, MeasuresOpened, OpenPath, ReadsOpened},
  Calls.{ReadsPieceOpened, StatsOpened},
  Calls.{Syncs, Tree, answered, device_fault, with_file_at},
}
use Rattle.folder_store.proofs.{Files.{appended_nothing, find_here, find_later, find_placed}, Refusing.{missing_absent}}

-- ---- a file that is put where it was

placed_same : (name : List ℕ) (b : Blob) (es : List DirEntry) → find name es ≡ Some b → placed name b es ≡ es
placed_same name b [] found = absurd (true≢false (sym (ap is_some found)))
placed_same name b (e ∷ es) found = elim (cases_Bool (bytes_eq name e.name)) [
  | inl same ↦ cond-true (bytes_eq name e.name) (entry name b ∷ es) (e ∷ placed name b es) same
      ∙ ap (λ (n : List ℕ). entry n b ∷ es) ((bytes_eq-Decides name e.name).0 same)
      ∙ ap (λ (x : Blob). entry e.name x ∷ es) (same_Some b e.blob (sym found ∙ find_here name e es same))
  | inr apart ↦ cond-false (bytes_eq name e.name) (entry name b ∷ es) (e ∷ placed name b es) apart
      ∙ ap (λ (xs : List DirEntry). e ∷ xs) (placed_same name b es (sym (find_later name e es apart) ∙ found))
]

placed_twice : (name : List ℕ) (b c : Blob) (es : List DirEntry) → placed name c (placed name b es) ≡ placed name c es
placed_twice name b c [] = cond-true (bytes_eq name name) (entry name c ∷ []) (entry name b ∷ placed name c [])
    ((bytes_eq-Decides name name).1 refl)
placed_twice name b c (e ∷ es) = elim (cases_Bool (bytes_eq name e.name)) [
  | inl same ↦ ap (placed name c) (cond-true (bytes_eq name e.name) (entry name b ∷ es) (e ∷ placed name b es) same)
      ∙ cond-true (bytes_eq name name) (entry name c ∷ es) (entry name b ∷ placed name c es) ((bytes_eq-Decides name name).1 refl)
      ∙ sym (cond-true (bytes_eq name e.name) (entry name c ∷ es) (e ∷ placed name c es) same)
  | inr apart ↦ ap (placed name c) (cond-false (bytes_eq name e.name) (entry name b ∷ es) (e ∷ placed name b es) apart)
      ∙ cond-false (bytes_eq name e.name) (entry name c ∷ placed name b es) (e ∷ placed name c (placed name b es)) apart
      ∙ ap (λ (xs : List DirEntry). e ∷ xs) (placed_twice name b c es)
      ∙ sym (cond-false (bytes_eq name e.name) (entry name c ∷ es) (e ∷ placed name c es) apart)
]

with_files : (t : Tree) (es fs : List DirEntry) → es ≡ fs
    → record t { directory = record t.directory { entries = es } } ≡ record t { directory = record t.directory { entries = fs } }
with_files t es fs same = ap (λ (xs : List DirEntry). record t { directory = record t.directory { entries = xs } }) same

-- nothing was appended yet
pub appended_none : (t : Tree) (o : OpenPath) (b : Blob) → StillLeads t o b → t ≡ with_file_at t o.path (appended b [])
appended_none t o b leads = sym (ap (with_file_at t o.path) (appended_nothing b)
    ∙ with_files t _ _ (placed_same o.path b t.directory.entries leads.there))

-- the file is still the one that its path leads to
leads_still : (old new : Tree) (o now : OpenPath) (b c : Blob) → StillLeads old o b → now ≡ o → new ≡ with_file_at old o.path c
    → StillLeads new now c
leads_still old new o now b c leads stays is = record {
  turn = ap (λ (x : OpenPath). x.turn) stays ∙ leads.turn ∙ ap (λ (t : Tree). t.turn) (sym is);
  there = ap (λ (x : OpenPath). find x.path new.directory.entries) stays ∙ ap (λ (t : Tree). find o.path t.directory.entries) is
      ∙ find_placed o.path c old.directory.entries;
}

twice : (old mid new : Tree) (path : List ℕ) (b c : Blob) → mid ≡ with_file_at old path b → new ≡ with_file_at mid path c
    → new ≡ with_file_at old path c
twice old mid new path b c first then = then ∙ ap (λ (t : Tree). with_file_at t path c) first
    ∙ with_files old _ _ (placed_twice path b c old.directory.entries)

appended_both : (b : Blob) (xs ys : List ℕ) → appended (appended b xs) ys ≡ appended b (xs ++ ys)
appended_both b xs ys = ap (λ (zs : List ℕ). record b { content = zs }) (append_assoc b.content xs ys)

-- some more was appended
pub appended_more : (old mid new : Tree) (o now : OpenPath) (front more : List ℕ) → IsAppendedSoFar old o front mid → now ≡ o
    → ((b : Blob) → StillLeads mid now b → new ≡ with_file_at mid now.path (appended b more)) → IsAppendedSoFar old o (front ++ more) new
appended_more old mid new o now front more so stays wrote = record {
  is = λ b leads.
      let first = so.is b leads in
      let then = wrote (appended b front) (leads_still old mid o now b (appended b front) leads stays first) in
      twice old mid new o.path (appended b front) (appended b (front ++ more)) first
      (then ∙ ap (λ (x : OpenPath). with_file_at mid x.path (appended (appended b front) more)) stays
      ∙ ap (with_file_at mid o.path) (appended_both b front more));
}

-- a later call was refused
pub appended_part : (old mid new : Tree) (o now : OpenPath) (bytes front rest : List ℕ) → IsAppendedSoFar old o front mid → now ≡ o
    → bytes ≡ front ++ rest
    → ((b : Blob) → StillLeads mid now b → (new ≡ mid)
    ⊎ ((more left : List ℕ) × (rest ≡ more ++ left) × (new ≡ with_file_at mid now.path (appended b more))))
    → (b : Blob) → StillLeads old o b
    → (new ≡ old) ⊎ ((xs ys : List ℕ) × (bytes ≡ xs ++ ys) × (new ≡ with_file_at old o.path (appended b xs)))
appended_part old mid new o now bytes front rest so stays split wrote b leads =
    let first = so.is b leads in
    ⊎_elim (λ same. inr (front, rest, split, same ∙ first))
    (λ (w : (more left : List ℕ) × (rest ≡ more ++ left) × (new ≡ with_file_at mid now.path (appended (appended b front) more))).
    inr (
      front ++ w.0,
      w.1,
      split ∙ ap (λ (xs : List ℕ). front ++ xs) w.2 ∙ sym (append_assoc front w.0 w.1),
      (appended_more old mid new o now front w.0 so stays (λ c there. let is = same_file old mid o now b c front first leads stays there in
          rw is w.3)).is b leads,
    ))
    (wrote (appended b front) (leads_still old mid o now b (appended b front) leads stays first))
  where
    same_file : (old mid : Tree) (o now : OpenPath) (b c : Blob) (front : List ℕ) → mid ≡ with_file_at old o.path (appended b front)
        → StillLeads old o b → now ≡ o
        → StillLeads mid now c → c ≡ appended b front
    same_file old mid o now b c front first leads stays there = same_Some c (appended b front)
        (sym there.there ∙ (leads_still old mid o now b (appended b front) leads stays first).there)

-- the rest of the bytes
pub rest_after : (all front rest : List ℕ) (n : ℕ) → all ≡ front ++ rest
    → all ≡ (front ++ take n rest) ++ take (length rest - n) (drop n rest)
rest_after all front rest n is = is ∙ ap (λ (l : List ℕ). front ++ l) (sym (take-append-drop n rest))
    ∙ sym (append_assoc front (take n rest) (drop n rest))
    ∙ ap (λ (l : List ℕ). (front ++ take n rest) ++ l) (sym (take_rest rest n))

-- what isn't none
some_there : (found : Option Blob) → found ≢ None → (b : Blob) × (found ≡ Some b)
some_there None there = absurd (there refl)
some_there (Some b) there = (b, refl)

-- ---- by paths

-- a regular file that is open is the one at its path
pub open_leads : (t : Tree) (path : List ℕ) (o : OpenPath) (b : Blob) → o ≡ record { path = path; turn = t.turn; place = 0 }
    → find path t.directory.entries ≡ Some b → StillLeads t o b
open_leads t path o b at found = record {
  turn = ap (λ (x : OpenPath). x.turn) at;
  there = ap (λ (x : OpenPath). find x.path t.directory.entries) at ∙ found;
}

path_is : (t : Tree) (path : List ℕ) (o : OpenPath) → o ≡ record { path = path; turn = t.turn; place = 0 } → o.path ≡ path
path_is t path o at = ap (λ (x : OpenPath). x.path) at

-- the directory of a tree in which a file was changed
changed_at : (old new : Tree) (path : List ℕ) (o : OpenPath) (c : Blob) → o ≡ record { path = path; turn = old.turn; place = 0 }
    → new ≡ with_file_at old o.path c → new.directory ≡ with_blob old.directory path c
changed_at old new path o c at is = ap (λ (t : Tree). t.directory) is
    ∙ ap (λ (p : List ℕ). with_blob old.directory p c) (path_is old path o at)

pub appends_answer : {T : Type 0} → (old new : Tree) (path : List ℕ) (o : OpenPath) (bytes : List ℕ) (r : Result T Denial)
    → IsOpenedAt old path o
    → AppendsOpened old o bytes r new → AppendsTo old.directory path bytes (answered r) new.directory
appends_answer old new path o bytes (Ok done) (at, (b, found)) is =
    (b, appended b bytes, found, refl, changed_at old new path o (appended b bytes) at (is b (open_leads old path o b at found)))
appends_answer old new path o bytes (Err d) (at, (b, found)) is = ⊎_elim (λ same. inl (ap (λ (t : Tree). t.directory) same))
    (λ (w : (front rest : List ℕ) × (bytes ≡ front ++ rest) × (new ≡ with_file_at old o.path (appended b front))).
    inr (b, appended b w.0, found, (w.0, w.1, w.2, refl), changed_at old new path o (appended b w.0) at w.3))
    (is b (open_leads old path o b at found))

pub cuts_answer : {T : Type 0} → (old new : Tree) (path : List ℕ) (o : OpenPath) (len : ℕ) (r : Result T Denial) → IsOpenedAt old path o
    → Truncates old o len r new → CutsTo old.directory path len (answered r) new.directory
cuts_answer old new path o len (Ok done) (at, (b, found)) is =
    (b, cut b len, found, refl, changed_at old new path o (cut b len) at (is b (open_leads old path o b at found)))
cuts_answer old new path o len (Err d) (at, (b, found)) is = ⊎_elim (λ same. inl (ap (λ (t : Tree). t.directory) same))
    (λ w. inr (b, cut b len, found, refl, changed_at old new path o (cut b len) at w)) (is b (open_leads old path o b at found))

pub syncs_answer : {T : Type 0} → (old new : Tree) (path : List ℕ) (o : OpenPath) (r : Result T Denial) → IsOpenedAt old path o
    → Syncs old o r new → FlushesFile old.directory path (answered r) new.directory
syncs_answer old new path o (Ok done) (at, (b, found)) is =
    (b, flushed b, found, refl, changed_at old new path o (flushed b) at (is b (open_leads old path o b at found)))
syncs_answer old new path o (Err d) (at, (b, found)) is = ⊎_elim (λ same. inl (ap (λ (t : Tree). t.directory) same))
    (λ w. ⊎_elim (λ k. inr (b, flushed b, found, inl refl, changed_at old new path o (flushed b) at k))
    (λ k. inr (b, doubted b, found, inr refl, changed_at old new path o (doubted b) at k)) w) (is b (open_leads old path o b at found))

-- ---- what stays open

-- a change of an open file, or none
abbrev pub Changes : Tree → Tree → OpenPath → Type 0
Changes old new o = (new ≡ old) ⊎ ((c : Blob) × (new ≡ with_file_at old o.path c))

pub appends_change : {T : Type 0} → (old new : Tree) (path : List ℕ) (o : OpenPath) (bytes : List ℕ) (r : Result T Denial)
    → IsOpenedAt old path o
    → AppendsOpened old o bytes r new → Changes old new o
appends_change old new path o bytes (Ok done) (at, (b, found)) is = inr (appended b bytes, is b (open_leads old path o b at found))
appends_change old new path o bytes (Err d) (at, (b, found)) is = ⊎_elim (λ same. inl same)
    (λ (w : (front rest : List ℕ) × (bytes ≡ front ++ rest) × (new ≡ with_file_at old o.path (appended b front))). inr
    (appended b w.0, w.3))
    (is b (open_leads old path o b at found))

pub cuts_change : {T : Type 0} → (old new : Tree) (path : List ℕ) (o : OpenPath) (len : ℕ) (r : Result T Denial) → IsOpenedAt old path o
    → Truncates old o len r new → Changes old new o
cuts_change old new path o len (Ok done) (at, (b, found)) is = inr (cut b len, is b (open_leads old path o b at found))
cuts_change old new path o len (Err d) (at, (b, found)) is =
    ⊎_elim (λ same. inl same) (λ w. inr (cut b len, w)) (is b (open_leads old path o b at found))

pub syncs_change : {T : Type 0} → (old new : Tree) (path : List ℕ) (o : OpenPath) (r : Result T Denial) → IsOpenedAt old path o
    → Syncs old o r new → Changes old new o
syncs_change old new path o (Ok done) (at, (b, found)) is = inr (flushed b, is b (open_leads old path o b at found))
syncs_change old new path o (Err d) (at, (b, found)) is = ⊎_elim (λ same. inl same)
    (λ w. ⊎_elim (λ k. inr (flushed b, k)) (λ k. inr (doubted b, k)) w) (is b (open_leads old path o b at found))

-- it is still open at its path
pub still_open : (old new : Tree) (path : List ℕ) (o now : OpenPath) → IsOpenedAt old path o → Changes old new o → now ≡ o
    → IsOpenedAt new path now
still_open old new path o now (at, (b, found)) (inl same) stays = (
  stays ∙ at ∙ ap (λ (t : Tree). record { path = path; turn = t.turn; place = 0 }) (sym same),
  (b, ap (λ (t : Tree). find path t.directory.entries) same ∙ found),
)
still_open old new path o now (at, (b, found)) (inr (c, is)) stays = (
  stays ∙ at ∙ ap (λ (t : Tree). record { path = path; turn = t.turn; place = 0 }) (sym is),
  (c, ap (λ (d : Directory). find path d.entries) (changed_at old new path o c at is) ∙ find_placed path c old.directory.entries),
)

-- ---- what a folder keeps open

module _ {C M F : Type 0} (system : CallsGhosts C M F) (handle : HandleGhosts F) (folder : List ℕ) where
  -- a handle that was kept
  pub kept_opens : (calls : C) (h : Handles F) (x : Changed F) → KeptHolds system handle calls folder h → h.changed ≡ Some x
      → system.sound calls → IsOpenedAt (system.tree calls) (front_of folder ++ string_bytes x.name) (handle.opened x.file)
  kept_opens calls h x k is s = (
    k.changed x is s,
    some_there (find (front_of folder ++ string_bytes x.name) (system.tree calls).directory.entries) (k.there x is s),
  )

  pub keeps_open : (before after : C) (g h : Handles F) (x : Changed F) → KeptHolds system handle before folder g
      → (system.sound after → system.sound before) → h.changed ≡ Some x → h.names ≡ g.names
      → (system.sound after → IsOpenedAt (system.tree after) (front_of folder ++ string_bytes x.name) (handle.opened x.file))
      → KeptHolds system handle after folder h
  keeps_open before after g h x k back is names here = record {
    changed = λ c at s. subst
        (λ (y : Changed F). handle.opened y.file
        ≡ record { path = front_of folder ++ string_bytes y.name; turn = (system.tree after).turn; place = 0 })
        (same_Some x c (sym is ∙ at)) (here s).0;
    there = λ c at s. subst
        (λ (y : Changed F). find (front_of folder ++ string_bytes y.name) (system.tree after).directory.entries ≢ None)
        (same_Some x c (sym is ∙ at)) (let (_, (_, found)) = here s in λ gone. true≢false (ap is_some (sym found ∙ gone)));
    names = λ n at s. k.names n (sym names ∙ at) (back s);
    which = λ n at. k.which n (sym names ∙ at);
  }

  pub keeps_none : (before after : C) (g h : Handles F) → KeptHolds system handle before folder g
      → (system.sound after → system.sound before) → h.changed ≡ None → h.names ≡ g.names
      → KeptHolds system handle after folder h
  keeps_none before after g h k back is names = record {
    changed = λ c at s. absurd (true≢false (ap is_some (sym at ∙ is)));
    there = λ c at s. absurd (true≢false (ap is_some (sym at ∙ is)));
    names = λ n at s. k.names n (sym names ∙ at) (back s);
    which = λ n at. k.which n (sym names ∙ at);
  }

  -- the folder whose names were flushed stays open
  pub keeps_names : (before after : C) (g h : Handles F) (x : Names F) → KeptHolds system handle before folder g
      → (system.sound after → system.sound before × ((system.tree after).turn ≡ (system.tree before).turn)
      × ((system.tree after).directory.entries ≡ (system.tree before).directory.entries) × ((handle.opened x.folder).path ≡ folder))
      → h.changed ≡ g.changed → h.names ≡ Some x → IsAsTold handle.told x → KeptHolds system handle after folder h
  keeps_names before after g h x k stays same is told = record {
    changed = λ c at s. let (held, turn, _, _) = stays s in rw turn (k.changed c (sym same ∙ at) held);
    there = λ c at s. let (held, _, entries, _) = stays s in rw entries (k.there c (sym same ∙ at) held);
    names = λ n at s. let (_, _, _, path) = stays s in
        subst (λ (y : Names F). (handle.opened y.folder).path ≡ folder) (same_Some x n (sym is ∙ at)) path;
    which = λ n at. subst (λ (y : Names F). IsAsTold handle.told y) (same_Some x n (sym is ∙ at)) told;
  }

-- ---- what is only read

-- a device's answer that a file isn't there
lacks : (t : Tree) (path : List ℕ) (d : Denial) → (IsAbsent d → ⊥)
    → LacksFile t.directory path (device_fault (error_kind d.error)) t.directory
lacks t path d isnt = (refl, λ gone. absurd (isnt (missing_absent (error_kind d.error) gone)))

pub piece_answer : (t u : Tree) (path : List ℕ) (o : OpenPath) (start : ℕ) (r : Result ℕ Denial) (buf : List ℕ) → u ≡ t
    → IsOpenedAt t path o
    → ReadsPieceOpened u o start r buf → ReadsPiece t.directory path start (answered r) buf t.directory
piece_answer t u path o start (Ok n) buf same (at, (b, found)) is =
    let read = is b (rw same (open_leads t path o b at found)) in
    ((b.content, ap (option_map content_in) found, read.0, read.1), refl)
piece_answer t u path o start (Err d) buf same at is = lacks t path d is

pub edges_answer : (t u : Tree) (path : List ℕ) (o : OpenPath) (size : ℕ) (r : Result Edges Denial) → u ≡ t → IsOpenedAt t path o
    → ((b : Blob) → StillLeads t o b → size ≡ length b.content) → MeasuresOpened u o size r
    → MeasuresFile t.directory path (answered r) t.directory
edges_answer t u path o size (Ok edges) same (at, (b, found)) sized is =
    let leads = open_leads t path o b at found in
    ((b.content, ap (option_map content_in) found, is b (rw same leads) (ap (λ (x : OpenPath). x.place) at) (sized b leads)), refl)
edges_answer t u path o size (Err d) same at sized is = lacks t path d is

pub size_answer : (t u : Tree) (path : List ℕ) (o : OpenPath) (size : ℕ) → u ≡ t → IsOpenedAt t path o
    → ((b : Blob) → StillLeads u o b → size ≡ length b.content)
    → (was : List ℕ) × (content_at t.directory path ≡ Some was) × (size ≡ length was)
size_answer t u path o size same (at, (b, found)) sized =
    (b.content, ap (option_map content_in) found, sized b (rw same (open_leads t path o b at found)))

-- what was appended stays although a later call was refused
pub appends_failed : {T : Type 0} → (old mid after new : Tree) (o : OpenPath) (bytes : List ℕ) (r : Result T Denial) → mid ≡ old
    → new ≡ after
    → AppendsOpened mid o bytes r after → (b : Blob) → StillLeads old o b
    → (new ≡ old) ⊎ ((front rest : List ℕ) × (bytes ≡ front ++ rest) × (new ≡ with_file_at old o.path (appended b front)))
appends_failed old mid after new o bytes (Ok done) same on is b leads =
    inr (bytes, [], sym (append-nil bytes), on ∙ is b (rw same leads) ∙ ap (λ (t : Tree). with_file_at t o.path (appended b bytes)) same)
appends_failed old mid after new o bytes (Err d) same on is b leads = rw (on, ← same) (is b (rw same leads))

-- a file was flushed, whatever is answered
pub syncs_whatever : {S T : Type 0} → (old new : Tree) (o : OpenPath) (done : S) (r : Result T Denial) → Syncs {T = S} old o (Ok done) new
    → Syncs old o r new
syncs_whatever old new o done (Ok _) is = is
syncs_whatever old new o done (Err d) is = λ b leads. inr (inl (is b leads))
