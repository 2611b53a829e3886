-- The password in a password file.
use Rattle.std.specs.{Prelude.{ℕ, List}, Io.BufRead.strip_last, List.before_first}
use Rattle.mail_terms.specs.Text.{is_line_feed}

-- the bytes before the first LF, or all if there is none, without the CR at their end
abbrev pub password_of : List ℕ → List ℕ
password_of bytes = strip_last 13 (before_first is_line_feed bytes)
