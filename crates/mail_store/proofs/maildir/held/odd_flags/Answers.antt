use Rattle.std.proofs.{Common.{◌≡◌, ◌∙◌, List, ℕ, refl, false}, lemmas.Result.IfOk-weaker}
use Rattle.hex.specs.Hex.{encode_lower}
use Rattle.mail_store.{specs.Held.has_text, proofs.MaildirLemmas.odd_found}
use Rattle.mail_store.proofs.maildir.held.odd_flags.Goals as goal

pub returns-clause-flags : goal.returns-clause-flags
returns-clause-flags g c = λ k are. IfOk-weaker c.flags_of.result _ _ (λ flags is.
    let none : (q : List ℕ) → has_text c.new-found.result q ≡ false = λ q. rw c.new-found.ensures.empty refl in
    is ∙ odd_found c.args.account.now (g.D.MaildirDisk.maildir c.args.disk.now) c.args.listing.now
    (has_text c.add_digits.new.found) c.odd.result.now
    (λ q. rw (c.in_ok-add_digits.ensures q, none q, c.as_str.ensures.text) refl) (c.odd.ensures k) are) c.flags_of.ensures.flags

pub returns-clause-by_ids : goal.returns-clause-by_ids
returns-clause-by_ids g c = IfOk-weaker c.flags_of.result _ _
    (λ flags is. (λ uid. has_text c.add_digits.new.found (encode_lower uid), is)) c.flags_of.ensures.flags
