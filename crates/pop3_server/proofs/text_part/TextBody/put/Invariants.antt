use Rattle.std.proofs.Common.{◌≡◌, ◌≤◌, ◌-◌, Some, false, vec_capacity, vec_len}
use Rattle.pop3_server.specs.TextAnswer.{ContinuesAnswer, OnlyReads}
use Rattle.pop3_server.proofs.text_part.TextBody.put.Given as goal

abbrev pub invariant-loop-next : goal.invariant-loop-next
invariant-loop-next g l = OnlyReads g.D.Maildrop.sound g.D.Maildrop.mail false l.fn.drop l.drop
    × ContinuesAnswer g.D.Maildrop.sound g.D.Maildrop.mail l.fn.drop l.fn.reply.items l.fn.self l.drop l.reply.items (Some l.text)
    × (l.text.place ≡ l.fn.self.place) × (l.fn.self.start ≤ l.text.start) × (vec_capacity l.fn.reply ≤ vec_capacity l.reply)
    × (vec_len l.fn.reply ≤ l.limit → vec_len l.reply ≤ l.limit)

abbrev pub decreases-loop-next : goal.decreases-loop-next
decreases-loop-next g l = 18446744073709551616 - l.text.start
