use Rattle.std.proofs.Common.{refl}
use Rattle.session_parts.specs.declared.work.Store.TheVariants.{Maildir}
use Rattle.getmail_program.proofs.rehearsal.run_in_memory.Goals as goal

pub returns : goal.returns
returns g c = record {
  store = Maildir c.new.result;
  seen_file = c.missing.result;
  wire = c.new-wire-2.result;
  report = c.session-report.result;
  left = c.session-report.new.account;
  wire' = c.session-report.new.wire;
  runs = rw c.new-account.ensures at c.session-report.ensures.session;
  outcome_is = refl;
}
