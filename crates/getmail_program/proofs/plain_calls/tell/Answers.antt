use Rattle.std.proofs.Common.{◌∙◌, ap}
use Rattle.getmail_program.specs.Telling.{status_when}
use Rattle.getmail_program.proofs.plain_calls.tell.Goals as goal

pub returns-clause-tells : goal.returns-clause-tells
returns-clause-tells g c = record {
  out' = c.put_report.new.out;
  reported = rw c.new-out.ensures at c.put_report.ensures;
  err' = c.put_outcome.new.err;
  cut = rw c.new-err.ensures at c.put_outcome.ensures;
  status_is = c.status_when.ensures.status ∙ ap (status_when c.args.report.now.outcome) c.refusal.ensures;
}
