use Rattle.std.proofs.{Common.{Bool, List, refl, sym, subst, true, ◌∙◌}, lemmas.Simd.splat_is_map}
use Rattle.mail_store.{specs.Held.FindsFlags, proofs.MaildirLemmas.{none_taken, sought_all}}
use Rattle.mail_terms.proofs.ErrLemmas.{err_is}
use Rattle.mail_store.proofs.maildir.held.held.Goals as goal

pub returns-clause-finds : goal.returns-clause-finds
returns-clause-finds g c = λ k.
    let (first, (left, taken, finds)) = c.held_of.ensures.finds k in
    let all = c.deref.ensures.value ∙ c.in_ok-all.ensures.items_if_clones_equal (λ y same. same)
    ∙ splat_is_map c.args.listing.now c.len.result true (sym c.len.ensures.count) in (
      first,
      (
        left,
        taken,
        subst (λ (flags : List Bool). FindsFlags flags left c.held_of.result (g.D.MaildirDisk.maildir c.held_of.new.disk))
            (sought_all c.args.account.now left c.args.listing.now _ all) finds,
      ),
    )

pub returns-in_err-all-clause-finds : goal.returns-in_err-all-clause-finds
returns-in_err-all-clause-finds g c =
    let maildir = g.D.MaildirDisk.maildir c.args.disk.now in
    rw (err_is c.from_residual.ensures.1) (λ k. (k, (maildir, none_taken maildir, refl)))
