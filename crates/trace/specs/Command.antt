-- What is shown of a command.
use Rattle.std.specs.{Prelude.{ℕ, Bool, List, codes, take, if◌then◌else◌}, Str.str_eq_ignore_ascii_case}

abbrev pub is_word : List ℕ → List ℕ → Bool
is_word command word = str_eq_ignore_ascii_case (take 4 command) word

-- a command, with `*` for all that follows PASS, AUTH and APOP
abbrev pub shown_command : List ℕ → List ℕ
shown_command command =
    if is_word command (codes "PASS") then codes "PASS *"
    else if is_word command (codes "AUTH") then codes "AUTH *"
    else if is_word command (codes "APOP") then codes "APOP *"
    else command

-- how many octets of a command or of an answer are shown
abbrev pub most_shown : ℕ
most_shown = 512
