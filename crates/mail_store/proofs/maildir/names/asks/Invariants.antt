use Rattle.std.proofs.Common.{◌≡◌, false, ℕ, ◌<◌}
use Rattle.mail_store.proofs.MaildirLemmas.{asks_at}
use Rattle.mail_store.proofs.maildir.names.asks.Given as goal

-- the text is the stem of none of the items so far that are asked for
abbrev pub invariant-loop-i : goal.invariant-loop-i
invariant-loop-i l = (k : ℕ) → k < l.i → asks_at l.asked.account.now l.text l.asked.listing.now l.asked.flags.now k ≡ false
