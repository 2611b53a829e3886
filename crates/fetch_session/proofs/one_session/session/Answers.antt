use Rattle.std.proofs.Common.{rules, ◌≡◌}
use Rattle.fetch_session.proofs.one_session.session.Goals as goal

pub returns-clause-session : goal.returns-clause-session
returns-clause-session g c =
    let same : c.session_told.new.client.wire.now ≡ c.wire-1.given.0 = search rules in
    rw same at (rw c.new-client.ensures.place.0 at c.session_told.ensures.session)
