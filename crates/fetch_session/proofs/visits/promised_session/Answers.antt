use Rattle.std.proofs.Common.{subst}
use Rattle.rc_file.specs.Settings.{IsValid}
use Rattle.fetch_session.proofs.visits.promised_session.Goals as goal

pub returns : goal.returns
returns g c = (subst IsValid c.settings.ensures.value c.settings.ensures.valid, c.session.ensures.same, c.session.ensures.session)
