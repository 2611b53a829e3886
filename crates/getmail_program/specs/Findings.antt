-- What was noted of a session that a fault cut: which file or folder its refused call was about.
use Rattle.std.specs.{
  Prelude.{◌≡◌, ◌≢◌, ◌⊎◌, ◌↔◌, ◌==◌, ◌+◌, ◌++◌, ℕ, Bool, true, false, not, List, [], Option, None, Some, bytes_eq},
  Prelude.{IsSomeAnd, IsTrue, codes, drop, length, take, if◌then◌else◌},
  IoError.error_kind,
  List.{ends_with, prefix_len, starts_with},
  Str.{IsCharBoundary, Pattern.{RFindsChar, SplitsAroundMatch}},
  String.string_bytes,
  declared.io.ErrorKind.TheVariants.{PermissionDenied, WouldBlock},
}
use Rattle.session_parts.specs.declared.{
  fault.{Fault.{Fault, TheVariants.{ReadFailed, WriteFailed, StoreRefused, SeenRefused}}},
  fault.Why.{Why, TheVariants.{Missing, Refused, NotMbox}},
  report.Outcome.{Outcome, TheVariants.Cut},
}
use Rattle.system_calls.specs.{Line.IsRefusalText, declared.refusal.Refusal.Refusal}
use Rattle.getmail_program.specs.declared.findings.{
  Device.{Device, TheVariants.{Link, Store, Record}},
  Findings.Findings,
}

abbrev pub is_slash : ℕ → Bool
is_slash octet = octet == 47

abbrev pub is_in_name : ℕ → Bool
is_in_name octet = not (octet == 47)

-- where the first name in octets ends, that may have slashes before it
abbrev pub name_end : List ℕ → ℕ
name_end octets = prefix_len is_slash octets + prefix_len is_in_name (drop (prefix_len is_slash octets) octets)

-- where the folder of a Maildir ends in a path that leads there: at the first name below the destination; at the end of
-- the path if it doesn't lead below the destination
abbrev pub folder_end : List ℕ → List ℕ → ℕ
folder_end path destination = if starts_with (λ a b. a == b) path destination
    then length destination + name_end (drop (length destination) path) else length path

-- so many octets of a text; all of it if they cut a character
abbrev pub IsTextFront : List ℕ → ℕ → List ℕ → Type 0
IsTextFront text n front = (front ≡ take n text) ⊎ ((IsCharBoundary text n → ⊥) × (front ≡ text))

-- the folder of a Maildir that a path leads to
abbrev pub IsFolderIn : List ℕ → List ℕ → List ℕ → Type 0
IsFolderIn path destination folder = IsTextFront path (folder_end path destination) folder

-- the folder that may not be read or written; a name goes from `tmp` to `new`, and which of them refused it isn't known
abbrev pub IsDeniedIn : List ℕ → List ℕ → List ℕ → Type 0
IsDeniedIn path destination place = (folder : List ℕ) × IsFolderIn path destination folder
    × (place ≡ (if ends_with (λ a b. a == b) folder (codes "/tmp") then destination else folder))

-- the record, or the folder of what else lies there
abbrev pub IsRecordFolder : List ℕ → List ℕ → List ℕ → Type 0
IsRecordFolder path seen place = ((bytes_eq path seen ≡ true) × (place ≡ path))
    ⊎ ((bytes_eq path seen ≡ false) × (((name : List ℕ) × SplitsAroundMatch (RFindsChar 47) path place name)
    ⊎ (RFindsChar 47 path None × (place ≡ path))))

-- the path that a fault is told with, by the path of the call that was refused to its device, and whether that was
-- because rights were missing: of a folder in which something is missing or may not be written, and not of a file that
-- never was
abbrev pub IsStorePlace : Why → Bool → List ℕ → List ℕ → List ℕ → Type 0
IsStorePlace Missing true path destination place = IsDeniedIn path destination place
IsStorePlace Missing false path destination place = IsFolderIn path destination place
IsStorePlace Refused true path destination place = IsDeniedIn path destination place
IsStorePlace Refused false path destination place = place ≡ path
IsStorePlace NotMbox is_denied path destination place = place ≡ path

abbrev pub IsRecordPlace : Bool → List ℕ → List ℕ → List ℕ → Type 0
IsRecordPlace true path seen place = IsRecordFolder path seen place
IsRecordPlace false path seen place = place ≡ path

abbrev pub IsPlace : Fault → Bool → List ℕ → List ℕ → List ℕ → List ℕ → Type 0
IsPlace (StoreRefused why) is_denied path destination seen place = IsStorePlace why is_denied path destination place
IsPlace SeenRefused is_denied path destination seen place = IsRecordPlace is_denied path seen place
IsPlace fault is_denied path destination seen place = place ≡ path

-- it was refused because rights were missing
abbrev pub IsDenied : Option Refusal → Bool → Type 0
IsDenied refusal is_denied =
    IsTrue is_denied ↔ IsSomeAnd refusal (λ refusal. error_kind refusal.error ≡ PermissionDenied)

-- what was refused, with the path that its fault is told with
abbrev pub IsToldAt : Fault → List ℕ → List ℕ → Option Refusal → Option Refusal → Type 0
IsToldAt fault destination seen None told = told ≡ None
IsToldAt fault destination seen (Some refusal) told = IsSomeAnd told (λ told. (told.error ≡ refusal.error)
    × ((is_denied : Bool) × IsDenied (Some refusal) is_denied
    × IsPlace fault is_denied (string_bytes refusal.path) destination seen (string_bytes told.path)))

-- the words of a refusal have its path: of a call that waited for a limited time these; else the system's
abbrev pub IsWaited : Refusal → List ℕ → Type 0
IsWaited refusal text =
    ((error_kind refusal.error ≡ WouldBlock) × (text ≡ string_bytes refusal.path ++ codes ": silent for 180 seconds"))
    ⊎ ((error_kind refusal.error ≢ WouldBlock) × IsRefusalText (string_bytes refusal.path) text)

abbrev pub IsRefusedText : Option Refusal → List ℕ → Type 0
IsRefusedText None text = text ≡ []
IsRefusedText (Some refusal) text = IsWaited refusal text

-- what a fault's call was refused to; of a store that isn't what it should be no call was refused
abbrev pub faulty_device : Fault → Option Device
faulty_device ReadFailed = Some Link
faulty_device WriteFailed = Some Link
faulty_device (StoreRefused Missing) = Some Store
faulty_device (StoreRefused Refused) = Some Store
faulty_device SeenRefused = Some Record
faulty_device fault = None

-- what is noted of a cut, if reasons are asked for: what was refused to the fault's device, if it is one's and that is
-- known
abbrev pub NotesOn : Bool → Outcome → List ℕ → List ℕ → List ℕ → Bool → Type 0
NotesOn true (Cut fault) destination seen refused is_denied = (refusal told : Option Refusal)
    × (faulty_device fault ≡ None → refusal ≡ None)
    × IsToldAt fault destination seen refusal told × IsRefusedText told refused × IsDenied told is_denied
NotesOn asked outcome destination seen refused is_denied = (refused ≡ []) × (is_denied ≡ false)

-- that, and the paths of the run
pub record FindsOn (asked : Bool) (outcome : Outcome) (destination seen : List ℕ) (found : Findings) : Type 0 where
  pub notes : NotesOn asked outcome destination seen found.refused.items found.is_denied
  pub destination_is : found.destination.now ≡ destination
  pub record_is : found.record.now ≡ seen
