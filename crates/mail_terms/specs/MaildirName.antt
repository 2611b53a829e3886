-- Names of files in a Maildir.
use Rattle.std.specs.{Prelude.{ℕ, Bool, ◌==◌, List}, List.before_first}

abbrev pub is_colon : ℕ → Bool
is_colon byte = byte == 58

-- the part of a name before the first colon; mail readers put their flags after it
abbrev pub base : List ℕ → List ℕ
base name = before_first is_colon name
