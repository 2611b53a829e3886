-- Whose mail is served.
use Rattle.std.specs.{Prelude.{◌≡◌, ◌-◌, ◌^◌, ℕ, true, List, Some, option_map}, String.string_bytes}
use Rattle.popd_program.specs.{
  Password.password_of,
  Failures.has_right_count,
  declared.{account.Account.Account, words.Words.Words},
}

-- the words name this account: its user first and its Maildir last; and its password is in the octets that a read of
-- the password file gave, whose path is between them
pub record IsAccount (gave : List ℕ → ℕ → List ℕ → Type 0) (words : Words) (account : Account) : Type 0 where
  pub count : has_right_count words ≡ true
  pub user : option_map string_bytes words.user ≡ Some account.user.items
  pub passfile : List ℕ
  pub passfile_is : option_map string_bytes words.passfile ≡ Some passfile
  pub file : List ℕ
  pub given : gave passfile (2 ^ 64 - 1) file
  pub password : account.password.items ≡ password_of file
  pub maildir : option_map string_bytes words.maildir ≡ Some (string_bytes account.maildir)

-- the same user, password and Maildir
pub record IsCopy (copy account : Account) : Type 0 where
  pub user : copy.user.items ≡ account.user.items
  pub password : copy.password.items ≡ account.password.items
  pub maildir : string_bytes copy.maildir ≡ string_bytes account.maildir
