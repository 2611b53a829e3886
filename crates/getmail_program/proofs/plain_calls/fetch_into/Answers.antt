use Rattle.std.proofs.Common.{◌∙◌}
use Rattle.getmail_program.proofs.plain_calls.fetch_into.Goals as goal

pub returns-clause-fetched : goal.returns-clause-fetched
returns-clause-fetched g c = (
  c.session-report.result,
  c.session-report.ensures.session,
  rw (c.settings.ensures.value ∙ c.session-report.ensures.same.settings) at c.tell.ensures.tells,
)
