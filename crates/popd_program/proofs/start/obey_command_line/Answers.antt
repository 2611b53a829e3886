use Rattle.std.proofs.Common.{inr}
use Rattle.popd_program.proofs.start.obey_command_line.Goals as goal

pub returns-after-len-le1-clause-leads : goal.returns-after-len-le1-clause-leads
returns-after-len-le1-clause-leads g c = rw c.in-Ok.is (inr (record {
  words = c.in-Ok-read_words.words;
  none = rw c.as_slice.ensures.value at c.in-Ok-read_words.ensures.faults;
  asks = rw c.as_slice.ensures.value at c.in-Ok-read_words.ensures.asks;
  obeys = c.obey_words-status.ensures.obeys;
}))
