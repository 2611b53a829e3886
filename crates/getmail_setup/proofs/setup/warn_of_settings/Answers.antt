use Rattle.std.proofs.Common.{Bool, [], ap, inl, inr, refl}
use Rattle.getmail_setup.specs.Warnings.{all_warning}
use Rattle.getmail_setup.proofs.OutputLemmas.{puts_three}
use Rattle.getmail_setup.proofs.setup.warn_of_settings.Goals as goal

pub returns-in-Ok : goal.returns-in-Ok
returns-in-Ok g c = (
  c.warn_of_others.ensures.0,
  c.warn_of_port.ensures.0,
  all_warning c.args.settings.now c.in-Ok.is_left,
  c.warn_of_others.ensures.1,
  c.warn_of_port.ensures.1,
  inl (ap (all_warning c.args.settings.now) c.in-Ok.ensures),
  puts_three g.E.Write.contents _ _ _ _ _ _ _ c.warn_of_others.ensures.2 c.warn_of_port.ensures.2 c.warn_of_all.ensures,
)

pub returns-in-Err : goal.returns-in-Err
returns-in-Err g c = (
  c.warn_of_others.ensures.0,
  c.warn_of_port.ensures.0,
  [],
  c.warn_of_others.ensures.1,
  c.warn_of_port.ensures.1,
  inr refl,
  puts_three g.E.Write.contents _ _ _ _ _ _ _ c.warn_of_others.ensures.2 c.warn_of_port.ensures.2 c.put.ensures,
)
