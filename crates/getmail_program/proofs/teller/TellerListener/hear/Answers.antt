use Rattle.std.proofs.Common.{[]}
use Rattle.getmail_program.{proofs.EarlyLemmas.one_early_line, specs.Teller.heard_both}
use Rattle.getmail_program.proofs.teller.TellerListener.hear.Goals as goal

pub loop-i-preserved : goal.loop-i-preserved
loop-i-preserved g c =
    let now = c.loop-i.self in
    let next = c.tell.new.self in
    heard_both g.O.Write.contents c.args.self.now now next [] [] c.loop-i.invariant (record {
      links = c.tell.ensures.links;
      wrote = one_early_line g.O.Write.contents now next _ c.tell.ensures.wrote c.tell.ensures.closed;
      plan = c.tell.ensures.plan;
    })
