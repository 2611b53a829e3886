use Rattle.std.proofs.Common.{◌∙◌, ap}
use Rattle.getmail_program.{specs.Telling.status_when, proofs.OutputLemmas.{puts_both, said_on}}
use Rattle.getmail_program.proofs.ending.tell_all.Goals as goal

pub returns-clause-told : goal.returns-clause-told
returns-clause-told g c =
    let cut = rw c.outcome-outcome.ensures at c.tell_cut.ensures in
    let unwritten = rw (c.as_bytes.ensures.value, c.unwritten_line.ensures, c.outcome-outcome.ensures) at c.put.ensures in
    let left = rw c.tell_cut.ensures.same at c.tell_left_out.ensures in
    let last = puts_both _ _ _ _ _ left.0 unwritten left.2 in
    record {
      idle = c.is_idle.ensures;
      unknown = c.unknown.ensures;
      status = c.status_when-status.ensures.status ∙ ap (λ outcome. status_when outcome c.args.refusal) c.outcome-outcome.ensures;
      reasons = cut.reasons;
      are_reasons = said_on _ _ _ _ _ _ _ _ _ cut last;
      left_out = left.0;
      is_left_out = left.1;
      said = puts_both _ _ _ _ _ left.0 (puts_both _ _ _ _ _ _ cut.puts unwritten) left.2;
    }
