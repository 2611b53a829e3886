use Rattle.std.proofs.{Common.{◌≡◌, ℕ, Option, Some, Ok, Err, subst}, lemmas.Result.err_from_is_err_and}
use Rattle.fetch_record.specs.Record.{Intent}
use Rattle.mail_store.{
  specs.{Devices.known_file, Durable.MayLeave, Fault.is_refusal, SettlingCalls.SettlesFile},
  proofs.{DiskLemmas.durable_trust, SettledLemmas.settled_files_are_durable},
}
use Rattle.session_parts.{
  specs.{Durable.LeavesSettled, Mbox.SettlesIntent},
  proofs.{EnteredLemmas.tallied, SettleLemmas.{settled_left, settles_err}, readiness.settle.Goals.In-Some},
}
use Rattle.mail_store.specs.Devices.{stored_in}
use Rattle.session_parts.proofs.readiness.settle.Goals as goal

abbrev intent_is : (g : _) → In-Some g → Intent
intent_is g c = record { uid = c.in-Some.intent.uid.now; start = c.in-Some.intent.start; len = c.in-Some.intent.len }

intent_opened : (g : _) (c : In-Some g) → Some (intent_is g c) ≡ c.args.seen.now.intent
intent_opened g c = rw c.in-Some.is at c.intent.ensures

pub returns-in_err-settle_file-clause-settles : goal.returns-in_err-settle_file-clause-settles
returns-in_err-settle_file-clause-settles g c =
    let here = (goal.at.returns-in_err-settle_file-clause-settles g c).In-Some in
    let p = err_from_is_err_and c.from_residual.result c.from_residual.ensures.1 in
    let why = c.in_err-settle_file.field-0.0 in
    rw p.1 (λ kept. let did = c.in_err-settle_file.ensures.settles kept in (
      did.0,
      subst (λ (o : Option Intent). SettlesIntent o c.args.listing.now (stored_in g.F.FlatFile c.args.mbox.now) (Err p.0)
          (stored_in g.F.FlatFile c.settle_file.new.file)) (intent_opened g here)
          (settles_err (intent_is g here) c.args.listing.now (known_file g.F.FlatFile c.args.mbox.now)
          (known_file g.F.FlatFile c.settle_file.new.file) why p.0 (subst (λ (listed : Option ℕ). SettlesFile c.in-Some.intent.start
          c.in-Some.intent.len listed (g.F.FlatFile.disk c.args.mbox.now) (Err why) (g.F.FlatFile.disk c.settle_file.new.file))
          c.listed_size-listed.ensures did.1)
          (tallied (is_refusal why) (g.F.FlatFile.refusals c.args.mbox.now) (g.F.FlatFile.refusals c.settle_file.new.file)
          (g.met.F.FlatFile.below c.settle_file.new.file kept) c.in_err-settle_file.ensures.count) p.2),
    ))

pub returns-clause-durable : goal.returns-clause-durable
returns-clause-durable g c = λ kept trust. durable_trust (g.F.FlatFile.disk c.settle_file.new.file)
    ((settled_files_are_durable c.in-Some.intent.start c.in-Some.intent.len c.listed_size-listed.result
    (g.F.FlatFile.disk c.args.mbox.now) (g.F.FlatFile.disk c.settle_file.new.file) (Ok c.in_ok-settle_file.field-0)
    (c.in_ok-settle_file.ensures.settles kept).1).durable trust)

pub returns-in_err-settle_file-clause-leaves : goal.returns-in_err-settle_file-clause-leaves
returns-in_err-settle_file-clause-leaves g c = λ kept trust.
    let here = (goal.at.returns-in_err-settle_file-clause-leaves g c).In-Some in
    subst (λ (o : Option Intent). LeavesSettled o (stored_in g.F.FlatFile c.args.mbox.now).content
    (MayLeave (g.F.FlatFile.disk c.args.mbox.now)) (MayLeave (g.F.FlatFile.disk c.settle_file.new.file))) (intent_opened g here)
    (settled_left (intent_is g here) c.args.listing.now (known_file g.F.FlatFile c.args.mbox.now)
    (known_file g.F.FlatFile c.settle_file.new.file) c.settle_file.result
    (rw c.listed_size-listed.ensures at (c.settle_file.ensures.settles kept).1) trust)

pub returns-clause-leaves : goal.returns-clause-leaves
returns-clause-leaves g c = λ kept trust.
    let here = (goal.at.returns-clause-leaves g c).In-Some in
    subst (λ (o : Option Intent). LeavesSettled o (stored_in g.F.FlatFile c.args.mbox.now).content
    (MayLeave (g.F.FlatFile.disk c.args.mbox.now)) (MayLeave (g.F.FlatFile.disk c.settle_file.new.file))) (intent_opened g here)
    (settled_left (intent_is g here) c.args.listing.now (known_file g.F.FlatFile c.args.mbox.now)
    (known_file g.F.FlatFile c.settle_file.new.file) c.settle_file.result
    (rw c.listed_size-listed.ensures at (c.settle_file.ensures.settles kept).1) trust)
