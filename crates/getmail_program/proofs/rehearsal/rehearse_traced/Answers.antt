use Rattle.std.proofs.Common.{◌∙◌, ap, arith, refl}
use Rattle.rc_file.specs.Flags.{overridden}
use Rattle.getmail_program.proofs.rehearsal.rehearse_traced.Goals as goal

pub returns-in-Ok-override_with-clause-rehearses : goal.returns-in-Ok-override_with-clause-rehearses
returns-in-Ok-override_with-clause-rehearses g c = record {
  ended = λ zero. record {
    settings = c.in-Ok-override_with.settings;
    agree = c.in-Ok-override_with.ensures.given.0 refl;
    changed = c.in-Ok-override_with.ensures.content ∙ ap (λ content. overridden content c.args.flags) c.in-Ok.ensures.content;
    held = c.rehearse_with.ensures.ended zero;
  };
  opposite = λ two. absurd (omega (arith, two, c.rehearse_with.ensures.within));
}
