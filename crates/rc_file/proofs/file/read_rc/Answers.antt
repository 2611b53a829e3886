use Rattle.std.proofs.Common.{arith, rules}
use Rattle.rc_file.{specs.{KeyReading.key_fault, RcMeaning.rc_meaning}, proofs.RcMeaningLemmas.{all_meant, good_rows}}
use Rattle.rc_file.proofs.file.read_rc.Goals as goal

pub returns-in_err-settings-clause-meaning : goal.returns-in_err-settings-clause-meaning
unfolding rc_meaning key_fault
returns-in_err-settings-clause-meaning c = search (rules, good_rows c.in_ok-rows.rows.items)

pub returns-clause-meaning : goal.returns-clause-meaning
returns-clause-meaning c = cc (
  all_meant c.args.bytes.now c.deref-3.result.now (omega arith) (search rules) (search rules) (search rules) c.in_ok-settings.ensures.sound,
  c.in_ok-settings.ensures.content_is,
  c.in_ok-warnings.ensures,
  c.deref-3.ensures.value,
  c.deref-4.ensures.value,
)
