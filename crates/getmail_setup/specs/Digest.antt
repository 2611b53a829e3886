-- What tells things apart that aren't accounts.
use Rattle.std.specs.Prelude.{ℕ, List}
use Rattle.mail_store.specs.FileName.{account_text}

-- the digest of two texts: that of an account with port 0, which none has
abbrev pub digest_text : List ℕ → List ℕ → List ℕ
digest_text first second = account_text first 0 second
