use Rattle.std.proofs.{Common.{◌∙◌, sym, arith}, lemmas.{Cmp.nat_list_eq_equiv, Map.Text.is_eq-slice_cmp}}
use Rattle.mail_store.proofs.MaildirLemmas.{same_digits}
use Rattle.mail_store.proofs.maildir.held.add_name.Goals as goal

pub returns : goal.returns
returns c = λ q.
    let digits = c.in-Some.digits.now in
    let added = c.in_ok-insert.ensures.updates.0 (record c.in-Some.digits { now = q }) in
    rw (
      sym c.stem.ensures ∙ c.in-Some.ensures,
      same_digits c.args.account.now q digits,
      ← nat_list_eq_equiv.symm digits q,
      ← is_eq-slice_cmp digits q,
      added,
    ) (grind arith)
