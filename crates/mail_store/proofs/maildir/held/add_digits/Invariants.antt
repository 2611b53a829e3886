use Rattle.std.proofs.Common.{◌≡◌, ℕ, List, take, ◌||◌}
use Rattle.mail_store.specs.Held.{any_name, has_text}
use Rattle.mail_store.proofs.maildir.held.add_digits.Given as goal

-- the set has what it had, and the digits in the names so far
abbrev pub invariant-loop-name : goal.invariant-loop-name
invariant-loop-name l = (q : List ℕ) → has_text l.found q ≡ (has_text l.initial.found q || any_name l.account q (take l.name-index l.names))
