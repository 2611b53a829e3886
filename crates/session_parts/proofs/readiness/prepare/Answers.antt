use Rattle.mail_store.{specs.FlatFile.Stored, proofs.DiskLemmas.same_leaves}
use Rattle.std.proofs.Common.{ap, rules, ◌∙◌}
use Rattle.session_parts.{
  proofs.{TalkLemmas.err_is, readiness.prepare.Goals.In-Some},
  proofs.ReadyLemmas.{told_of, readies_from, rest_has_plan, rest_held, rest_named, unasked, unread, unsecured_same, untaken},
  specs.{Target.{stores_of, target_of}, Readiness.IsIdle},
}
use Rattle.session_parts.proofs.readiness.prepare.Goals as goal

-- ---- the store needn't be asked

idle : (g : _) (c : In-Some g) → IsIdle c.args.terms.settings.now c.read.new.seen c.args.listing.now c.args.terms.now c.in-Some.steps.items
idle g c = rw c.in-Some.is at c.in_ok-steps.ensures

pub returns-in-Some-clause-plans : goal.returns-in-Some-clause-plans
returns-in-Some-clause-plans g c =
    let here = (goal.at.returns-in-Some-clause-plans g c).In-Some in
    rw c.stay_idle.ensures.seen (rest_has_plan _ _ _ _ c.read.new.seen c.stay_idle.result c.in-Some.steps.items
    c.delivered_has_row.ensures (idle g here) c.stay_idle.ensures.steps c.stay_idle.ensures.length)

pub returns-in-Some-clause-held : goal.returns-in-Some-clause-held
returns-in-Some-clause-held g c =
    λ d. rest_held c.stay_idle.result (target_of c.args.work.now.store c.args.terms.account.now) c.in-Some.steps.items c.args.listing.now
    (stores_of g.D.MaildirDisk g.F.FlatFile c.stay_idle.new.work.store)
    (idle g (goal.at.returns-in-Some-clause-held g c).In-Some).quiet c.stay_idle.ensures.steps c.stay_idle.ensures.length

pub returns-in-Some-clause-named : goal.returns-in-Some-clause-named
returns-in-Some-clause-named g c = λ d. rest_named _ c.stay_idle.result c.in-Some.steps.items
    (idle g (goal.at.returns-in-Some-clause-named g c).In-Some).quiet c.stay_idle.ensures.steps

pub returns-in-Some-clause-readies : goal.returns-in-Some-clause-readies
returns-in-Some-clause-readies g c = λ d f.
    let stays = c.stay_idle.ensures.readies d f in
    let (sound, (_, _, same)) = c.in_ok-is_new.ensures.reads stays.1 in (
      stays.0,
      sound,
      untaken _ (rw c.stay_idle.ensures.seen (readies_from g.D.MaildirDisk g.F.FlatFile c.args.work.now.store c.args.work.now.ledger.file
          c.read.new.file c.stay_idle.new.work.ledger.file (same_leaves (c.in_ok-is_new.ensures.durable stays.1))
          same (λ trust. tt) stays.2)),
    )

-- ---- the record can't be read or flushed, or there is no memory for a plan

pub returns-in_err-is_new-clause-readies : goal.returns-in_err-is_new-clause-readies
returns-in_err-is_new-clause-readies g c = rw (err_is c.from_residual.ensures.1) (λ d f.
    let reads = c.in_err-is_new.ensures.reads f in
    let why = unread (target_of c.args.work.now.store c.args.terms.account.now) _ _ _ _ c.read.new.seen c.in_err-is_new.field-0.0 reads.1 in
    unasked _ _ _ _ c.read.new.file _ d reads.0 why.0 why.1 (same_leaves (c.in_err-is_new.ensures.durable f)))

pub returns-in_err-steps-clause-readies : goal.returns-in_err-steps-clause-readies
returns-in_err-steps-clause-readies g c = rw (err_is c.from_residual-in_err-steps.ensures.1) (λ d f.
    let (sound, (_, _, same)) = c.in_ok-is_new.ensures.reads f in
    unasked _ _ _ _ c.read.new.file _ d sound (search rules) (ap (λ (s : Stored). s.content) same)
    (same_leaves (c.in_ok-is_new.ensures.durable f)))

pub returns-in_err-secure-clause-readies : goal.returns-in_err-secure-clause-readies
returns-in_err-secure-clause-readies g c = rw (err_is c.from_residual-in_err-secure.ensures.1) (λ d f.
    let secures = c.in_err-secure.ensures.same f in
    let (sound, (_, _, same)) = c.in_ok-is_new.ensures.reads secures.0 in
    unasked _ _ _ _ c.secure.new.file _ d sound (search rules) (unsecured_same _ _ c.in_err-secure.field-0.0 secures.1
    ∙ ap (λ (s : Stored). s.content) same)
    (λ left may. same_leaves (c.in_ok-is_new.ensures.durable secures.0) left (c.in_err-secure.ensures.keeps f left may)))

-- ---- the store was asked

pub returns-clause-readies : goal.returns-clause-readies
returns-clause-readies g c = λ d f.
    let tail = c.prepare_by_store.ensures.readies d f in
    let secures = c.in_ok-secure.ensures.same tail.1 in
    let (sound, (_, _, same)) = c.in_ok-is_new.ensures.reads secures.0 in
    told_of (tail.0, tail.2) sound (λ left is. readies_from _ _ c.args.work.now.store c.args.work.now.ledger.file c.secure.new.file _
    (λ left may. same_leaves (c.in_ok-is_new.ensures.durable secures.0) left
    (c.in_ok-secure.ensures.keeps tail.1 left may)) (secures.1 ∙ same)
    (λ trust. (trust.0, c.in_ok-secure.ensures.durable tail.1 (rw (c.in_ok-is_new.ensures.durable secures.0) trust.1))) is)
