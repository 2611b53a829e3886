use Rattle.std.proofs.Common.{◌≡◌, ◌≤◌, ℕ, ◌&&◌, Bool, drop, Some, slice_get}
use Rattle.pop3_server.specs.{declared.rows.MessageRow.MessageRow, Maildrop.{DropMail, HasPlace}, ServerMachine.{Empties, with_marked}}
use Rattle.pop3_server.proofs.commands.leave.Given as goal

abbrev pub invariant-loop-i : goal.invariant-loop-i
invariant-loop-i g l = (with_marked (drop l.i l.rows) (g.D.Maildrop.mail l.drop).removals ≡ with_marked l.rows
    (g.D.Maildrop.mail l.fn.drop).removals) × (g.D.Maildrop.sound l.drop → g.D.Maildrop.sound l.fn.drop
    × ((k : ℕ) (row : MessageRow) → l.i ≤ k → slice_get l.rows k ≡ Some row → HasPlace (g.D.Maildrop.mail l.drop) k)
    × ((tail : Bool) (end : DropMail) → Empties l.i (drop l.i l.rows) (g.D.Maildrop.mail l.drop) tail end
    → Empties 0 l.rows (g.D.Maildrop.mail l.fn.drop) (l.all && tail) end))
