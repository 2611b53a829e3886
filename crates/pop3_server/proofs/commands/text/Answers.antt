use Rattle.std.proofs.Common.{◌≡◌, []}
use Rattle.pop3_server.{specs.{declared.state.State.TheVariants.Transaction, ServerMachine.Give}, proofs.TextAnswerLemmas.begins_new}
use Rattle.pop3_server.proofs.commands.text.Goals as goal

pub returns-in-Ok-clause-ok : goal.returns-in-Ok-clause-ok
returns-in-Ok-clause-ok g c =
    let rows = c.args.rows.now in
    let found = c.in-Some.ensures in
    let same : c.row.result.now ≡ found.2.0 = cc in
    let reply = c.in_ok-reply.reply.items in
    let place = c.new.ensures.place in
    rw (found.2.2, ← found.0, ← same, ← c.in_ok-reply.ensures.ok, ← place)
    (c.in-Ok.ensures.goes_on (Give rows c.new.result.place reply c.args.count) c.args.drop.now [] (Transaction rows)
    (begins_new g.D.Maildrop.sound g.D.Maildrop.mail c.args.drop.now rows reply c.args.count c.new.result c.new.ensures.start
    (λ s. rw place (c.requires s _ _ found.2.1)) c.new.ensures.whole))
