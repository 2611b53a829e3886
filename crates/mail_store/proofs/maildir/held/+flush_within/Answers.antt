use Rattle.std.proofs.{Common.{◌∙◌, [], ap, sym, subst, eqb-true, Global}, lemmas.{Bool.false≢true, List.nil_from_length}}
use Rattle.mail_store.{
  specs.{Maildir.{Maildir, WereTaken}, Held.flags_asked, Loss.with_flushed},
  proofs.MaildirLemmas.{asked_flushed, durable_left, found_durable, named_flushed, taken_flushed, taken_on},
}
use Rattle.mail_store.proofs.maildir.held.+flush_within.Goals as goal

pub returns-then-is_empty-clause-finds : goal.returns-then-is_empty-clause-finds
returns-then-is_empty-clause-finds g t c = λ k.
    let (first, (left, taken, finds)) = c.in_ok-found.ensures.finds k in
    let held = c.deref.ensures.value ∙ finds.0 ∙ ap (λ (m : Maildir). flags_asked c.args.asked.all c.args.account.now m c.args.listing.now
    c.args.asked.flags.now) (sym finds.1) in
    let none = nil_from_length c.in_ok-stems.stems.items (sym c.in_ok-stems.stems.ok.0
    ∙ eqb-true c.in_ok-stems.stems.len 0 (sym c.is_empty.ensures ∙ c.if-is_empty.true)) in (
      first,
      (
        left,
        taken,
        (
          finds,
          found_durable {A = Global} c.args.asked.all c.args.account.now
              (g.D.MaildirDisk.maildir c.held_asked.new.disk) [] (λ uid among. absurd (false≢true among)) c.args.listing.now
              c.args.asked.flags.now (rw (held, none) at c.in_ok-stems.ensures),
        ),
      ),
    )

pub returns-then-branch-clause-finds : goal.returns-then-branch-clause-finds
returns-then-branch-clause-finds g t c = λ k.
    let (between, flushes) = c.in_ok-flush.ensures.flushes k in
    let (first, (left, taken, finds)) = c.in_ok-found.ensures.finds between in
    let account = c.args.account.now in
    let items = c.args.listing.now in
    let stems = c.in_ok-stems.stems.items in
    let is = rw (c.if-branch.true, c.deref-2.ensures.value, finds.1) at flushes in
    let same = asked_flushed c.args.asked.all account left stems items c.args.asked.flags.now in
    let held = c.deref.ensures.value ∙ finds.0 ∙ sym same in (
      first,
      (
        with_flushed stems left,
        taken_flushed stems (g.D.MaildirDisk.maildir c.args.disk.now) left taken,
        (
          (finds.0 ∙ sym same, is, finds.2, finds.3, named_flushed stems left.files finds.4, finds.5),
          rw is (found_durable c.args.asked.all account (with_flushed stems left) stems
              (durable_left account left stems finds.4) items c.args.asked.flags.now (rw held at c.in_ok-stems.ensures)),
        ),
      ),
    )

pub returns-clause-finds : goal.returns-clause-finds
returns-clause-finds g t c = λ k.
    let (later, (left, then, rest)) = c.flush_within.ensures.finds k in
    let (between, flushes) = c.in_ok-flush.ensures.flushes later in
    let (first, (_, taken, finds)) = c.in_ok-found.ensures.finds between in
    let missed = rw (c.if-branch.false, finds.1) at flushes in
    let before = subst (WereTaken (g.D.MaildirDisk.maildir c.args.disk.now)) (sym missed) taken in
    (first, (left, taken_on (g.D.MaildirDisk.maildir c.args.disk.now) (g.D.MaildirDisk.maildir c.flush.new.self) left before then, rest))
