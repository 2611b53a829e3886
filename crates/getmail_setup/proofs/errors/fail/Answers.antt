use Rattle.getmail_setup.proofs.OutputLemmas.{puts_three}
use Rattle.getmail_setup.proofs.errors.fail.Goals as goal

pub returns-clause-told : goal.returns-clause-told
returns-clause-told g c = record {
  line = c.tell-status.ensures.line.0;
  is_line = c.tell-status.ensures.line.1;
  cause = c.tell_cause-is_denied.ensures.0;
  is_cause = c.tell_cause-is_denied.ensures.1;
  denied = c.tell_cause-is_denied.result;
  puts = puts_three g.E.Write.contents _ _ _ _ _ _ _ c.tell-status.ensures.line.2 c.tell_cause-is_denied.ensures.2 c.tell_hint.ensures;
}
