use Rattle.std.proofs.Common.{ap, rules}
use Rattle.test_devices.{specs.declared.fused.Fused.Fused, proofs.PartLemmas.fused_lists_among}
use Rattle.mail_store.{specs.Held.asks, proofs.MaildirLemmas.none_taken}
use Rattle.test_devices.proofs.fused.FusedMaildirDisk.names_among.Goals as goal

pub returns-in_err-pass-clause-lists : goal.returns-in_err-pass-clause-lists
returns-in_err-pass-clause-lists g c = λ s. (search rules, (_, none_taken _, search rules))

pub returns-clause-lists : goal.returns-clause-lists
returns-clause-lists g c = λ s.
    let passed = c.in_ok-pass.ensures.passed in
    let device = ap (λ (f : Fused g.row.D.Denot). f.device) c.tally.ensures.others in
    let inner = rw (ap (λ (f : Fused g.row.D.Denot). f.device) passed.2) at (c.names_among-answer.ensures.lists (rw device at s.0)) in
    let count = rw (ap (λ (f : Fused g.row.D.Denot). f.failures) passed.2) at c.tally.ensures.count in (
      (inner.0, passed.0),
      rw (c.tally.ensures.answer, device)
          (fused_lists_among _ _ passed.0 _ _ (asks c.args.asked) c.names_among-answer.result count inner.1),
    )
