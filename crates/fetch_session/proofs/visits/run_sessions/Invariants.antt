use Rattle.std.proofs.Common.{◌≡◌, ◌≤◌, ℕ, take, get_or, length}
use Rattle.std.specs.Vec.{vec_capacity}
use Rattle.fetch_session.specs.Visits.{AreMade}
use Rattle.fetch_session.specs.declared.visits.Visit.{Visit}
use Rattle.fetch_session.proofs.visits.run_sessions.Given as goal

abbrev pub invariant-loop-i : goal.invariant-loop-i
invariant-loop-i g l = (length l.reports.items ≡ l.i)
    × (length l.fn.visits ≤ vec_capacity l.reports)
    × (length l.visits ≡ length l.fn.visits)
    × ((k : ℕ) (d : Visit (g.row.W).Denot) → l.i ≤ k → get_or l.visits k d ≡ get_or l.fn.visits k d)
    × AreMade g.W.Wire g.D.MaildirDisk g.F.FlatFile (take l.i l.fn.visits) l.fn.account l.reports.items (take l.i l.visits) l.account
