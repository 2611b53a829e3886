use Rattle.std.proofs.Common.{◌∙◌}
use Rattle.getmail_program.proofs.errand.fetch_told.Goals as goal

pub returns-clause-fetched : goal.returns-clause-fetched
returns-clause-fetched g c =
    let told = c.hold-told.ensures in
    let same = c.settings-settings.ensures.value ∙ told.same.settings in (
      c.hold-told.result,
      told.held,
      record { reported = told.reported; errors = rw (c.refusal.ensures, same) at c.tell_all-fetched.ensures.told },
    )
