-- What fstat(2) told of a watched file.
use Rattle.std.proofs.Common.{◌≡◌, Bool, true, false, Option, Some, refl, sym, Ok, true≢false}
use Rattle.folder_store.specs.declared.{calls.FileStat.{FileStat}, file_state.FileState.{FileState}}
use Rattle.folder_store.specs.Watch.{ChecksLeft, IsSeenAfter, IsSeenAsLeft, file_state_of}

pub seen_as_left : {T : Type 0} → (told : FileStat → Type 0) (watches : Bool) (was left : Option FileState) (stat : FileStat) (done : T)
    → told stat → ChecksLeft watches was (file_state_of stat) (Ok done) left → IsSeenAsLeft told watches was left
seen_as_left told false was left stat done tells is = is
seen_as_left told true was left stat done tells is = (stat, tells, is)

pub seen_after : (told : FileStat → Type 0) (watches : Bool) (was left : Option FileState) (stat : FileStat) → told stat
    → watches ≡ true → left ≡ Some (file_state_of stat) → IsSeenAfter told watches was left
seen_after told true was left stat tells is at = (stat, tells, at)
seen_after told false was left stat tells is at = absurd (true≢false (sym is))

pub unseen_after : (told : FileStat → Type 0) (watches : Bool) (left : Option FileState) → watches ≡ false
    → IsSeenAfter told watches left left
unseen_after told false left is = refl
unseen_after told true left is = absurd (true≢false is)
