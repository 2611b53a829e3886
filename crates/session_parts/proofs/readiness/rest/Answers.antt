use Rattle.session_parts.{specs.Target.{kind_of, stores_of}, proofs.ReadyLemmas.idle_check_refused}
use Rattle.std.proofs.lemmas.Result.{err_from_is_err_and}
use Rattle.session_parts.proofs.readiness.rest.Goals as goal

pub returns-in_err-check_store-clause-finds : goal.returns-in_err-check_store-clause-finds
returns-in_err-check_store-clause-finds g c =
    let p = err_from_is_err_and c.from_residual.result c.from_residual.ensures.1 in
    rw p.1 (λ sound.
    let checks = c.in_err-check_store.ensures.checks sound in (
      checks.0,
      idle_check_refused (kind_of c.args.store.now) c.args.listing.now (stores_of g.D.MaildirDisk g.F.FlatFile c.args.store.now)
          (stores_of g.D.MaildirDisk g.F.FlatFile c.check_store.new.store) c.in_err-check_store.field-0.0 p.0 checks.1 p.2,
    ))
