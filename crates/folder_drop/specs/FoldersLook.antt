-- How long an earlier listing of a Maildir's folders stays valid.
use Rattle.std.specs.Prelude.{◌≡◌, ◌≤◌, ◌<◌, ◌-◌, ℕ}
use Rattle.folder_store.specs.declared.exact_listing.ChangeTime.{ChangeTime}
use Rattle.folder_drop.specs.declared.folders_look.FoldersLook.{FoldersLook}

-- at the time of a look a folder's last change was more than two seconds old, so that any change after the
-- look gives it another time
abbrev pub IsAtRest : ChangeTime → ℕ → Type 0
IsAtRest change at = change.seconds < at - 2

-- a listing after the later look would find the same names as one after the earlier look: both folders were
-- at rest and haven't changed since; and the later look is less than an hour later
pub record IsUnchanged (earlier later : FoldersLook) : Type 0 where
  pub new_at_rest : IsAtRest earlier.new earlier.at
  pub cur_at_rest : IsAtRest earlier.cur earlier.at
  pub new_same : later.new ≡ earlier.new
  pub cur_same : later.cur ≡ earlier.cur
  pub behind : earlier.at ≤ later.at
  pub within : later.at - earlier.at < 3600
