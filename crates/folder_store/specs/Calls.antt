-- What each single call of a file system does to the files that have names, for either outcome, as POSIX and Linux have
-- it. Names are here the texts of paths.
use Rattle.std.specs.{
  Prelude.{◌≡◌, ◌≢◌, ◌⊎◌, ◌+◌, ◌≤◌, ℕ, List, [], ◌++◌, length, take, drop, Bool, false, true},
  Prelude.{Option, Some, None, Result, Ok, Err, IfErr, IfOk, OnOk, Vec},
  IoError.error_kind,
  declared.io.ErrorKind.{ErrorKind, TheVariants.{InvalidInput, Interrupted, NotFound, Unsupported}},
}
use Rattle.system_calls.specs.declared.refusal.Denial.{Denial}
use Rattle.mail_store.specs.{
  declared.{fault.StoreFault.{StoreFault, TheVariants.{Missing, Refused}}, file.flat_file.Edges.Edges},
  DiskCalls.{appended, cut, doubted, flushed},
  Durable.Blob,
  FlatFile.{edges_of, piece_at},
}
use Rattle.folder_store.specs.{
  declared.calls.{FileStat.FileStat, FileKind.TheVariants.File},
  FileFolder.{Directory, MadeFile, empty_made, find, put_in, unknown_directory, with_blob},
  Under.{front_of, outside},
}

-- the files, by the texts of their paths, and how many times one of them got a name
pub record Tree : Type 0 where
  pub directory : Directory
  pub turn : ℕ

-- a file or a folder that was opened: by which path, after how many names were given, and where the next read begins
pub record OpenPath : Type 0 where
  pub path : List ℕ
  pub turn : ℕ
  pub place : ℕ

-- it is the file that its path leads to: no file got a name since it was opened
pub record StillLeads (t : Tree) (o : OpenPath) (b : Blob) : Type 0 where
  pub turn : o.turn ≡ t.turn
  pub there : find o.path t.directory.entries ≡ Some b

-- ENOENT
abbrev pub IsAbsent : Denial → Type 0
IsAbsent d = error_kind d.error ≡ NotFound

-- a call isn't refused because nothing is there
abbrev pub NeverAbsent : {T : Type 0} → Result T Denial → Type 0
NeverAbsent r = IfErr r (λ d. IsAbsent d → ⊥)

-- EINTR
abbrev pub WasInterrupted : Denial → Type 0
WasInterrupted d = error_kind d.error ≡ Interrupted

-- the path leads to a file with these bytes now
abbrev pub with_file_at : Tree → List ℕ → Blob → Tree
with_file_at t path b = record t { directory = with_blob t.directory path b }

-- ---- files that have no name yet

-- open(2) with O_CREAT and O_EXCL: a file without bytes, at a path that no other call is given; ENOENT only if none can
-- be made
abbrev pub Creates : {N : Type 0} → (N → MadeFile) → (can_make : Bool) → Result N Denial → Type 0
Creates made can_make (Ok file) = (can_make ≡ true) × (made file ≡ empty_made)
Creates made can_make (Err d) = IsAbsent d → can_make ≡ false

-- write(2) to such a file: a front of the bytes was appended; EINTR: none was
abbrev pub WritesMade : MadeFile → List ℕ → Result ℕ Denial → MadeFile → Type 0
WritesMade old bytes (Ok n) new = new ≡ record { content = old.content ++ take n bytes; is_flushed = false }
WritesMade old bytes (Err d) new = WasInterrupted d → new ≡ old

-- rename(2) of such a file, whose premise holds: its new path leads to it, in the place of another. A refused call did
-- that, or nothing
abbrev pub Renames : {T : Type 0} → (Sound : Type 0) → Tree → MadeFile → List ℕ → Result T Denial → Tree → Type 0
Renames Sound old file to (Ok done) new =
    Sound × (new ≡ record { directory = put_in old.directory file to; turn = old.turn + 1 })
Renames Sound old file to (Err d) new =
    (new.directory ≡ old.directory) ⊎ (Sound × (new.directory ≡ put_in old.directory file to))

-- ---- files that have names

-- what stat(2) says of what a path leads to
abbrev pub TellsFile : Option Blob → FileStat → Type 0
TellsFile found stat = (stat.kind ≡ File → (b : Blob) × (found ≡ Some b) × (stat.len ≡ length b.content))
    × (stat.kind ≢ File → found ≡ None)

-- stat(2): whether a regular file is there, and its size; ENOENT: none is
abbrev pub Stats : Tree → List ℕ → Result FileStat Denial → Type 0
Stats t path (Ok stat) = TellsFile (find path t.directory.entries) stat
Stats t path (Err d) = IsAbsent d → find path t.directory.entries ≡ None

-- open(2) of what is there; ENOENT: no file is
abbrev pub Opens : {H : Type 0} → (H → OpenPath) → Tree → List ℕ → Result H Denial → Type 0
Opens opened t path (Ok file) = opened file ≡ record { path = path; turn = t.turn; place = 0 }
Opens opened t path (Err d) = IsAbsent d → find path t.directory.entries ≡ None

-- fstat(2): the size of the file
abbrev pub StatsOpened : Tree → OpenPath → Result FileStat Denial → Type 0
StatsOpened t file r = IfOk r (λ stat. (b : Blob) → StillLeads t file b → stat.len ≡ length b.content)

-- the bytes from a place on, as many as were read
abbrev pub bytes_read : Blob → ℕ → ℕ → List ℕ
bytes_read b place n = take n (drop place b.content)

-- what read(2) gives of a file: bytes from a place on, none only at the end
pub record IsRead (b : Blob) (place n : ℕ) (buf : List ℕ) : Type 0 where
  pub bytes : take n buf ≡ bytes_read b place n
  pub count : n ≡ length (bytes_read b place n)
  pub ends : n ≡ 0 → length b.content ≤ place

-- read(2) into some room: the front of the buffer has what was read, and the next read begins behind it; EINTR: nothing
-- was read
abbrev pub ReadsInto : Tree → OpenPath → Result ℕ Denial → List ℕ → OpenPath → Type 0
ReadsInto t file (Ok n) buf later =
    (later ≡ record file { place = file.place + n }) × ((b : Blob) → StillLeads t file b → IsRead b file.place n buf)
ReadsInto t file (Err d) buf later = WasInterrupted d → later ≡ file

-- lseek(2) to a place, from the beginning on; after an error the place isn't known
abbrev pub Seeks : {T : Type 0} → OpenPath → ℕ → Result T Denial → OpenPath → Type 0
Seeks file place r later = OnOk r (later ≡ record file { place = place })

-- write(2) to a file that was opened with O_APPEND: a front of the bytes was appended. After an error a front of them
-- may have been; EINTR: none was
abbrev pub WritesOnto : Tree → OpenPath → List ℕ → Result ℕ Denial → Tree → Type 0
WritesOnto old file bytes (Ok n) new =
    (b : Blob) → StillLeads old file b → new ≡ with_file_at old file.path (appended b (take n bytes))
WritesOnto old file bytes (Err d) new = (WasInterrupted d → new ≡ old) × ((b : Blob) → StillLeads old file b
    → (new ≡ old) ⊎ ((front rest : List ℕ) × (bytes ≡ front ++ rest)
    × (new ≡ with_file_at old file.path (appended b front))))

-- the open file has at least so many bytes
abbrev pub IsLongEnough : Tree → OpenPath → ℕ → Type 0
IsLongEnough t file len = (b : Blob) → StillLeads t file b → len ≤ length b.content

-- ftruncate(2) to at most the size of the file; a refused call did that, or nothing
abbrev pub Truncates : {T : Type 0} → Tree → OpenPath → ℕ → Result T Denial → Tree → Type 0
Truncates old file len (Ok done) new = (b : Blob) → StillLeads old file b → new ≡ with_file_at old file.path (cut b len)
Truncates old file len (Err d) new =
    (b : Blob) → StillLeads old file b → (new ≡ old) ⊎ (new ≡ with_file_at old file.path (cut b len))

-- fsync(2) of a file: its bytes are durable. After an error they may be, or nothing more of the file is known to reach
-- the disk
abbrev pub Syncs : {T : Type 0} → Tree → OpenPath → Result T Denial → Tree → Type 0
Syncs old file (Ok done) new = (b : Blob) → StillLeads old file b → new ≡ with_file_at old file.path (flushed b)
Syncs old file (Err d) new = (b : Blob) → StillLeads old file b → (new ≡ old)
    ⊎ ((new ≡ with_file_at old file.path (flushed b)) ⊎ (new ≡ with_file_at old file.path (doubted b)))

-- the names in a folder are durable; of others that isn't known
abbrev pub names_synced : Tree → List ℕ → Tree
names_synced t folder = record t {
  directory = record t.directory { older = outside (front_of folder) t.directory.older };
}

-- EINVAL, EOPNOTSUPP: the system flushes no folders
abbrev pub flushes_none : ErrorKind → Bool
flushes_none InvalidInput = true
flushes_none Unsupported = true
flushes_none _ = false

-- fsync(2) of the folder at a path: the names in it are durable; a refused call did that, or nothing. That the file
-- system flushes no folders ends the premise
abbrev pub SyncsNames : {T : Type 0} → Tree → List ℕ → Result T Denial → Tree → Type 0
SyncsNames old folder (Ok done) new = new ≡ names_synced old folder
SyncsNames old folder (Err d) new =
    (flushes_none (error_kind d.error) ≡ false) × ((new ≡ old) ⊎ (new ≡ names_synced old folder))

-- ---- what a device answers

-- a refused call of a device: the file isn't there, or anything else
abbrev pub device_fault : ErrorKind → StoreFault
device_fault NotFound = Missing
device_fault _ = Refused

-- the answer of a device, from that of the system
abbrev pub answered : {T : Type 0} → Result T Denial → Result T StoreFault
answered (Ok value) = Ok value
answered (Err d) = Err (device_fault (error_kind d.error))

-- ---- steps of what is done in several calls

-- some of the bytes were written to a file that was made, or the call was interrupted
abbrev pub WritesSome : MadeFile → List ℕ → MadeFile → Option ℕ → Type 0
WritesSome old bytes new (Some n) = new ≡ record { content = old.content ++ take n bytes; is_flushed = false }
WritesSome old bytes new None = new ≡ old

-- some of the bytes of an open file were read, or the call was interrupted
abbrev pub ReadsSome : Tree → OpenPath → List ℕ → OpenPath → Option ℕ → Type 0
ReadsSome t file buf later (Some n) =
    (later ≡ record file { place = file.place + n }) × ((b : Blob) → StillLeads t file b → IsRead b file.place n buf)
ReadsSome t file buf later None = later ≡ file

-- the regular file at a path is open at its beginning
abbrev pub IsOpenedAt : Tree → List ℕ → OpenPath → Type 0
IsOpenedAt t path file =
    (file ≡ record { path = path; turn = t.turn; place = 0 }) × ((b : Blob) × (find path t.directory.entries ≡ Some b))

-- the regular file at a path was opened, or there is none, or the call was refused
abbrev pub OpensRegular : {H : Type 0} → (H → OpenPath) → Tree → List ℕ → Result H Denial → Type 0
OpensRegular opened t path (Ok file) = IsOpenedAt t path (opened file)
OpensRegular opened t path (Err d) = IsAbsent d → find path t.directory.entries ≡ None

-- the same; None is a folder, so that no file is there
abbrev pub OpensFound : {H : Type 0} → (H → OpenPath) → Tree → List ℕ → Result (Option H) Denial → Type 0
OpensFound opened t path (Ok (Some file)) = IsOpenedAt t path (opened file)
OpensFound opened t path (Ok None) = find path t.directory.entries ≡ None
OpensFound opened t path (Err d) = IsAbsent d → find path t.directory.entries ≡ None

-- the front of a buffer has this many bytes of an open file from its place on
pub record IsFilled (t : Tree) (file : OpenPath) (n : ℕ) (buf : List ℕ) (later : OpenPath) : Type 0 where
  pub at : later ≡ record file { place = file.place + n }
  pub bytes : (b : Blob) → StillLeads t file b
      → (n ≡ length (piece_at file.place n b.content)) × (take n buf ≡ piece_at file.place n b.content)

-- a buffer was filled with the bytes of an open file from its place on, as far as there are any
abbrev pub Fills : Tree → OpenPath → Result ℕ Denial → List ℕ → OpenPath → Type 0
Fills t file (Ok n) buf later = (later ≡ record file { place = file.place + n })
    × ((b : Blob) → StillLeads t file b
    → (n ≡ length (piece_at file.place (length buf) b.content))
    × (take n buf ≡ piece_at file.place (length buf) b.content))
Fills t file (Err d) buf later = IsAbsent d → ⊥

-- the same if all of the buffer was filled
abbrev pub FillsWhole : {T : Type 0} → Tree → OpenPath → Result T Denial → List ℕ → OpenPath → Type 0
FillsWhole t file (Ok done) buf later = (later ≡ record file { place = file.place + length buf })
    × ((b : Blob) → StillLeads t file b → buf ≡ piece_at file.place (length buf) b.content)
FillsWhole t file (Err d) buf later = IsAbsent d → ⊥

-- an open file was read from its beginning on, or the call was refused
abbrev pub ReadsOpened : {B : Type 0} → Tree → OpenPath → Result (Vec ℕ B) Denial → Type 0
ReadsOpened t file (Ok bytes) = (b : Blob) → StillLeads t file b → file.place ≡ 0 → bytes.items ≡ b.content
ReadsOpened t file (Err d) = IsAbsent d → ⊥

-- the same of its ends, if its size is known
abbrev pub MeasuresOpened : Tree → OpenPath → ℕ → Result Edges Denial → Type 0
MeasuresOpened t file size (Ok edges) =
    (b : Blob) → StillLeads t file b → file.place ≡ 0 → size ≡ length b.content → edges ≡ edges_of b.content
MeasuresOpened t file size (Err d) = IsAbsent d → ⊥

-- the same of the bytes from a place on, as many as fit
abbrev pub ReadsPieceOpened : Tree → OpenPath → ℕ → Result ℕ Denial → List ℕ → Type 0
ReadsPieceOpened t file start (Ok n) buf = (b : Blob) → StillLeads t file b
    → (n ≡ length (piece_at start (length buf) b.content)) × (take n buf ≡ piece_at start (length buf) b.content)
ReadsPieceOpened t file start (Err d) buf = IsAbsent d → ⊥

-- some of the bytes were appended to an open file, or the call was interrupted; a refused call appended a front of
-- them, or nothing
abbrev pub AppendsSome : Tree → OpenPath → List ℕ → Result (Option ℕ) Denial → Tree → Type 0
AppendsSome old file bytes (Ok (Some n)) new =
    (b : Blob) → StillLeads old file b → new ≡ with_file_at old file.path (appended b (take n bytes))
AppendsSome old file bytes (Ok None) new = new ≡ old
AppendsSome old file bytes (Err d) new = (b : Blob) → StillLeads old file b
    → (new ≡ old) ⊎ ((front rest : List ℕ) × (bytes ≡ front ++ rest)
    × (new ≡ with_file_at old file.path (appended b front)))

-- these bytes were appended to an open file
pub record IsAppendedSoFar (old : Tree) (file : OpenPath) (front : List ℕ) (new : Tree) : Type 0 where
  pub is : (b : Blob) → StillLeads old file b → new ≡ with_file_at old file.path (appended b front)

-- bytes were appended to an open file; or a front of them, or nothing
abbrev pub AppendsOpened : {T : Type 0} → Tree → OpenPath → List ℕ → Result T Denial → Tree → Type 0
AppendsOpened old file bytes (Ok done) new =
    (b : Blob) → StillLeads old file b → new ≡ with_file_at old file.path (appended b bytes)
AppendsOpened old file bytes (Err d) new = (b : Blob) → StillLeads old file b
    → (new ≡ old) ⊎ ((front rest : List ℕ) × (bytes ≡ front ++ rest)
    × (new ≡ with_file_at old file.path (appended b front)))

-- the names in the folder at a path were flushed; or that was refused, and done or not
abbrev pub FlushesFolder : Tree → List ℕ → Result Bool Denial → Tree → Type 0
FlushesFolder old folder (Ok flushes) new = (flushes ≡ true) × (new ≡ names_synced old folder)
FlushesFolder old folder (Err d) new = (new ≡ old) ⊎ (new ≡ names_synced old folder)

-- ---- a system of which nothing is known

abbrev pub unknown_opened : OpenPath
unknown_opened = record { path = []; turn = 0; place = 0 }

abbrev pub unknown_tree : Tree
unknown_tree = record { directory = unknown_directory; turn = 0 }
