use Rattle.std.proofs.Common.{ap, refl}
use Rattle.getmail_program.proofs.told.hold_preview.Goals as goal

pub returns-clause-held : goal.returns-clause-held
returns-clause-held g c = (
  refl,
  (
    c.pretend-preview.result,
    rw (ap (λ s. s.wire) c.wipe.ensures.same) (λ w d f. (c.pretend-preview.ensures.pretends w d f).4),
    rw (c.settings-settings.ensures.value, c.pretend-preview.ensures.settings) at c.said_ahead-said.ensures,
  ),
)

pub returns-clause-reported : goal.returns-clause-reported
returns-clause-reported g c =
    rw (c.settings-settings.ensures.value, c.pretend-preview.ensures.settings) at c.put_preview.ensures
