use Rattle.std.proofs.Common.{◌≡◌, List, ℕ, refl, false}
use Rattle.mail_store.{specs.Held.{has_text, is_asked}, proofs.MaildirLemmas.flags_among}
use Rattle.mail_store.proofs.maildir.held.held_of.Goals as goal

pub returns-clause-finds : goal.returns-clause-finds
returns-clause-finds g c = λ k.
    let (first, (left, taken, (new, cur, lists, named, same, told, _))) = c.in_ok-names.ensures.lists k in
    let none : (q : List ℕ) → has_text c.new-found.result q ≡ false = λ q. rw c.new-found.ensures.empty refl in
    let flags = rw (flags_among c.args.account.now left (is_asked c.args.account.now c.args.listing.now c.args.flags.now)
    c.args.listing.now c.args.flags.now (has_text c.add_digits.new.found) c.deref.result.now
    (λ q. rw (c.in_ok-add_digits.ensures q, none q, c.as_str.ensures.text) refl)
    (rw (← c.deref.ensures.value) at lists) (λ text is. is)) at
    c.in_ok-flags_sought.ensures.flags in
    (first, (left, taken, (flags, same, new, cur, named, told)))
