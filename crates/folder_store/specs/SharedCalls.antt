-- What each single call does to the folders of a Maildir that others use too, for either outcome, as POSIX and Linux
-- have it. Names are here those in a folder.
use Rattle.std.specs.{
  Prelude.{◌≡◌, ◌≢◌, ◌⊎◌, ◌==◌, ◌+◌, ◌-◌, ◌<◌, ◌↔◌, ◌&&◌, ℕ, zero, Bool, false, true, IsTrue, List, [], ◌++◌},
  Prelude.{Option, None, Some, map, String, string_bytes, Result, Ok, Err, Vec, vec_len, if◌then◌else◌},
  Borrow.Bor,
  Duration.as_nanos,
  IoError.error_kind,
  declared.{io.ErrorKind.{ErrorKind, TheVariants.{NotFound, OutOfMemory}}, time.Duration.Duration},
}
use Rattle.system_calls.specs.declared.refusal.Denial.{Denial}
use Rattle.mail_terms.specs.UniqueId.{has_id}
use Rattle.mail_store.specs.{
  declared.maildir.disk.Folder.{Folder, TheVariants.{New, Cur}},
  Maildir.is_there,
}
use Rattle.folder_store.specs.{
  declared.{calls.FileStat.FileStat, exact_listing.ChangeTime.ChangeTime},
  declared.calls.FileKind.{FileKind, TheVariants.{File as Regular, Folder as Dir, Other}},
  declared.listed_names.{Lead.{Lead, TheVariants.{File, Directory, Odd}}, Opened.{Opened, TheVariants.Shut}},
  declared.mail_folders.{FoundNames.FoundNames, Sought.Sought},
  declared.shared_calls.ListedNames.ListedNames,
  Calls.{IsAbsent, flushes_none},
  FileFolder.MadeFile,
  HostAnswers.{IsFolder, refuses_links, tells_odd},
  MailCalls.{FlushesFiles, ListsIn, PutsIntoNew, Then, file_names, names_flushed_in, odd_names},
  MailFolders.{Directories, odd_names_in, rests_in, unknown_directories, unopened_in},
}

-- the folders, and the time of change that each had when it was last listed
pub record Shared : Type 0 where
  pub directories : Directories
  pub new_listed : Option ChangeTime
  pub cur_listed : Option ChangeTime

abbrev pub listed_in : Folder → Shared → Option ChangeTime
listed_in New s = s.new_listed
listed_in Cur s = s.cur_listed

abbrev pub with_listed : Folder → ChangeTime → Shared → Shared
with_listed New change s = record s { new_listed = Some change }
with_listed Cur change s = record s { cur_listed = Some change }

-- others moved files, and then a call that lists no folder did this
abbrev pub Did : (Directories → Directories → Type 0) → Shared → Shared → Type 0
Did Does old new = (new ≡ record old { directories = new.directories }) × Then Does old.directories new.directories

-- nothing was done
abbrev pub IsSame : Directories → Directories → Type 0
IsSame old new = new ≡ old

-- stat(2) of a folder, and when it was last listed: it is there; it has rested since if its time of change is the same.
-- ENOENT: it isn't there
abbrev pub StatsFolder : Folder → Option ChangeTime → Result FileStat Denial → Directories → Directories → Type 0
StatsFolder folder listed (Ok stat) old new = (new ≡ old)
    × (IsFolder stat → is_there old.there folder ≡ true)
    × (listed ≡ Some stat.change → rests_in folder old ≡ true)
StatsFolder folder listed (Err d) old new = (new ≡ old) × (IsAbsent d → is_there old.there folder ≡ false)

-- a listing of a folder, with the folder's time of change, after which each later change gives it another one
abbrev pub ListsShared : Folder → Sought → Result ListedNames Denial → Shared → Shared → Type 0
ListsShared folder sought (Ok listed) old new =
    (new ≡ with_listed folder listed.change (record old { directories = new.directories }))
    × Then (ListsIn folder sought (Ok listed.names)) old.directories new.directories
ListsShared folder sought (Err d) old new =
    Did (λ old new. (new ≡ old) × (IsAbsent d → is_there old.there folder ≡ false)) old new

-- whether a name wasn't that of a file when its folder was listed
abbrev pub was_unopened : Directories → Folder → List ℕ → Bool
was_unopened d folder name = has_id (unopened_in folder d) name

-- whether a name was odd when its folder was listed
abbrev pub was_odd : Directories → Folder → List ℕ → Bool
was_odd d folder name = has_id (odd_names_in folder d) name

-- the name of a folder in `cur` isn't odd
abbrev pub may_be_odd : FileKind → Folder → Bool
may_be_odd Dir Cur = false
may_be_odd _ _ = true

-- stat(2) of a name that was listed: it was that of a file only if it leads to one. That it leads to a regular file, or
-- how the call was refused, is known of the state after it
abbrev pub StatsName : (file : Type 0) → (refused : ErrorKind → Type 0) → Result FileStat Denial → (unopened : Bool)
    → Type 0
StatsName file refused (Ok stat) unopened = (stat.kind ≡ Regular → file) × (stat.kind ≢ Regular → unopened ≡ true)
StatsName file refused (Err d) unopened = refused (error_kind d.error)

-- open(2) of a name that was listed: it was that of a file if fstat(2) doesn't tell that a folder was opened
abbrev pub OpensName : {H : Type 0} → (H → FileStat → Type 0) → (ErrorKind → Type 0) → Result H Denial
    → (unopened : Bool) → Type 0
OpensName told refused (Ok file) unopened = (stat : FileStat) → told file stat → IsFolder stat ↔ (unopened ≡ true)
OpensName told refused (Err d) unopened = refused (error_kind d.error)

-- lstat(2) of a name that was listed, just after stat(2) or open(2) of it, which may have been refused so. If that was
-- EACCES, ELOOP, ENOTDIR, or that no file can have it: what has the name can't be opened. If it was ENOENT: nor can a
-- link, which leads nowhere; but if nothing has the name, that was a file's
abbrev pub LstatsName : (ErrorKind → Type 0) → Folder → Result FileStat Denial → (unopened odd : Bool) → Type 0
LstatsName refused folder (Ok stat) unopened odd =
    ((kind : ErrorKind) → refused kind → tells_odd kind ≡ true → unopened ≡ true)
    × (refused NotFound → (stat.kind ≡ Other) ↔ (unopened ≡ true))
    × (odd ≡ (unopened && may_be_odd stat.kind folder))
LstatsName refused folder (Err d) unopened odd = IsAbsent d → refused NotFound → unopened ≡ false

-- link(2) of a file that was made to a name in `new`, where nothing has it. EPERM, EOPNOTSUPP, EXDEV, EMLINK: nothing
-- was done; another refused call did it, or nothing
abbrev pub Links : {T : Type 0} → MadeFile → List ℕ → Result T Denial → Directories → Directories → Type 0
Links file name (Ok done) old new = PutsIntoNew file name old new
Links file name (Err d) old new =
    (new ≡ old) ⊎ ((refuses_links (error_kind d.error) ≡ false) × PutsIntoNew file name old new)

-- fsync(2) of a folder: the names in it are durable. ENOENT: it isn't there; another refused call did that, or nothing.
-- That the file system flushes no folders (EINVAL, EOPNOTSUPP) ends the premise
abbrev pub SyncsFolder : {T : Type 0} → Folder → Result T Denial → Directories → Directories → Type 0
SyncsFolder folder (Ok done) old new = new ≡ names_flushed_in folder old
SyncsFolder folder (Err d) old new = (flushes_none (error_kind d.error) ≡ false)
    × (((new ≡ old) × (IsAbsent d → is_there old.there folder ≡ false))
    ⊎ ((IsAbsent d → ⊥) × (new ≡ names_flushed_in folder old)))

-- texts that were lent
abbrev pub borrowed_texts : List (Bor (List ℕ)) → List (List ℕ)
borrowed_texts texts = map (λ text. text.now) texts

-- some stems are left after so many passes for the files of all these, one just after the other; none is done before
-- the first
abbrev pub LeftAfter : Type 1
LeftAfter = (stems : List (List ℕ)) → (passes : ℕ) → (left : List (List ℕ)) → Type 0

abbrev pub AreUnflushed : LeftAfter → List (List ℕ) → ℕ → List (List ℕ) → Type 0
AreUnflushed was_left stems zero left = left ≡ stems
AreUnflushed was_left stems passes left = was_left stems passes left

-- a pass more: which stems it left, or why it was denied, is known of the state after it
abbrev pub LeavesStems : {A : Type 0} → (before : LeftAfter) → (stems left : List (List ℕ))
    → Result (Vec (Bor (List ℕ)) A) Denial → (after : LeftAfter) → (denied : Denial → Type 0) → Type 0
LeavesStems before stems left (Ok still) after denied =
    (passes : ℕ) → AreUnflushed before stems passes left → after stems (passes + 1) (borrowed_texts still.items)
LeavesStems before stems left (Err d) after denied = denied d

-- a pass through both folders: the bytes of each file with one of these stems are durable, if it leaves none of them
abbrev pub FlushesPass : {A B : Type 0} → List (String A) → Result (Vec (Bor (List ℕ)) B) Denial → Directories
    → Directories → Type 0
FlushesPass stems (Ok left) old new = FlushesFiles stems (Ok (vec_len left == 0)) old new
FlushesPass stems (Err d) old new = new ≡ old

-- ---- a system of which nothing is known

abbrev pub unknown_shared : Shared
unknown_shared = record { directories = unknown_directories; new_listed = None; cur_listed = None }

-- ---- what a device does in several calls

-- a name leads to what it was when its folder was listed: a file, a folder in `cur`, or what can't be opened
abbrev pub IsLead : Lead → (unopened odd : Bool) → Type 0
IsLead File unopened odd = (unopened ≡ false) × (odd ≡ false)
IsLead Directory unopened odd = (unopened ≡ true) × (odd ≡ false)
IsLead (Odd why) unopened odd = (unopened ≡ true) × (odd ≡ true)

abbrev pub IsLeadOf : Directories → Folder → List ℕ → Lead → Type 0
IsLeadOf d folder name lead = IsLead lead (was_unopened d folder name) (was_odd d folder name)

-- a name was opened, and is what it was when its folder was listed
abbrev pub IsOpenedAs : {H : Type 0} → Directories → Folder → List ℕ → Opened H → Type 0
IsOpenedAs d folder name (Shut kind why) =
    (was_unopened d folder name ≡ true) × (was_odd d folder name ≡ may_be_odd kind folder)
IsOpenedAs d folder name opened = was_unopened d folder name ≡ false

-- a device knows when its folders were last listed
abbrev pub KnowsListed : Type 0 → Shared → (new cur : Option ChangeTime) → Type 0
KnowsListed sound s new cur = sound → (s.new_listed ≡ new) × (s.cur_listed ≡ cur)

-- of these names in a folder those of files were added, and those that what can't be opened bears
abbrev pub AddsNames : Directories → Folder → List (List ℕ) → FoundNames → FoundNames → Type 0
AddsNames d folder names old new =
    (map string_bytes new.files.items ≡ map string_bytes old.files.items ++ file_names (unopened_in folder d) names)
    × (map string_bytes new.odd.items ≡ map string_bytes old.odd.items ++ odd_names (odd_names_in folder d) names)

-- whether the folders are listed again, by the clock, and when they were first seen to change. Not if the clock fails
abbrev pub MayListAgain : Option Duration → ℕ → (old : Duration) → Bool → (new : Duration) → Type 0
MayListAgain None times old may new = may ≡ false
MayListAgain (Some now) times old may new = (new ≡ (if times == 0 then now else old))
    × (IsTrue may ↔ as_nanos now - as_nanos new < 4_000_000_000)

-- after eight passes some of the stems are left
abbrev pub LeavesSome : (left : ℕ → List (List ℕ) → Type 0) → Type 0
LeavesSome left = (some : List (List ℕ)) × (some ≢ []) × left 8 some

-- how passes end, but where none of the stems is left: after eight some are, which is refused unless this may be; or a
-- pass was denied, or memory ran out
abbrev pub EndsPasses : (left : ℕ → List (List ℕ) → Type 0) → (denied : Denial → Type 0) → (may_miss : Bool)
    → Result Bool Denial → Type 0
EndsPasses left denied may_miss (Ok true) = Unit {0}
EndsPasses left denied may_miss (Ok false) = (may_miss ≡ true) × LeavesSome left
EndsPasses left denied may_miss (Err d) =
    denied d ⊎ (error_kind d.error ≡ OutOfMemory) ⊎ ((may_miss ≡ false) × LeavesSome left)
