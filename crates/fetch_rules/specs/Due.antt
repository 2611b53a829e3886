-- Which messages are to be deleted for their age.
use Rattle.std.specs.Prelude.{ℕ, ◌-◌, ◌*◌, Bool, not, ◌&&◌, ◌||◌, ◌==◌, nat_le}
use Rattle.rc_file.specs.declared.settings.Settings.{Settings}

abbrev pub seconds_per_day : ℕ
seconds_per_day = 86400

-- all are to be deleted, or those first seen `delete_after` days ago or more; a 0 sets no age; a
-- clock that went back makes no message older
abbrev pub is_due : Settings → ℕ → ℕ → Bool
is_due settings now since = settings.delete
    || (not (settings.delete_after == 0) && nat_le (seconds_per_day * settings.delete_after) (now - since))

-- whether the settings let any message be deleted
abbrev pub may_delete : Settings → Bool
may_delete settings = settings.delete || not (settings.delete_after == 0)
