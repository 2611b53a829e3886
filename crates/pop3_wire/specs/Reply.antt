-- The first line of a reply (RFC 1939, section 3).
use Rattle.std.specs.Prelude.{◌≡◌, ◌==◌, ℕ, List, [], ◌∷◌, ◌++◌, if◌then◌else◌, codes}
use Rattle.pop3_wire.specs.declared.reply.Status.{Status, TheVariants.{Positive, Negative}}

-- the status indicator that a first line begins with, in upper case
abbrev pub indicator : Status → List ℕ
indicator Positive = codes "+OK"
indicator Negative = codes "-ERR"

-- the text after a status indicator without its first space, if it begins with one
abbrev pub without_space : List ℕ → List ℕ
without_space [] = []
without_space (byte ∷ rest) = if byte == 32 then rest else byte ∷ rest

-- the line is a first line of this status, and this is its rest
abbrev pub IsFirstLine : List ℕ → Status → List ℕ → Type 0
IsFirstLine line status rest = (after : List ℕ) × (line ≡ indicator status ++ after) × (rest ≡ without_space after)
