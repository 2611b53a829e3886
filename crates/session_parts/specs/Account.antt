-- What an account holds.
use Rattle.std.specs.{Prelude.{◌≡◌, ℕ, List}, String.string_bytes}
use Rattle.rc_file.specs.declared.settings.Settings.{Settings}
use Rattle.mail_store.specs.FileName.{account_text}
use Rattle.session_parts.specs.{declared.work.Store.Store, Target.kind_of}

-- the settings, the store and the record's file
pub record Holding (D F : Type 0) : Type 0 where
  pub settings : Settings
  pub store : Store D F
  pub file : F

-- the same settings, and a store of the same kind
pub record IsSameAccount {D F : Type 0} (old new : Holding D F) : Type 0 where
  pub settings : new.settings ≡ old.settings
  pub kind : kind_of new.store ≡ kind_of old.store

-- the digits in the names of the account's files
abbrev pub digits_of : Settings → List ℕ
digits_of settings = account_text (string_bytes settings.server) settings.port (string_bytes settings.username)
