use Rattle.std.proofs.Common.{◌≡◌, ℕ, ◌<◌, get_or, String, Vec, Global, string_bytes}
use Rattle.mail_store.proofs.maildir.memory.place_of.Given as goal

-- no file so far has the name
abbrev pub invariant-loop-place : goal.invariant-loop-place
invariant-loop-place l = (k : ℕ) (d : String Global × Vec ℕ Global) → k < l.place → string_bytes (get_or l.files k d).0 ≡ l.name → ⊥
