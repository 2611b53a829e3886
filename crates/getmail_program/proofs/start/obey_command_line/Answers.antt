use Rattle.std.proofs.{Common.{inr, sym, ◌∙◌}, lemmas.Bool.false≢true}
use Rattle.getmail_program.proofs.start.obey_command_line.Goals as goal

pub returns-then-words-2-clause-leads : goal.returns-then-words-2-clause-leads
returns-then-words-2-clause-leads g c = rw c.in-Ok.is (inr (record {
  words = c.in-Ok-words.words;
  none = rw c.deref.ensures.value at c.in-Ok-words.ensures.faults;
  asks = rw c.deref.ensures.value at c.in-Ok-words.ensures.asks;
  obeys = record {
    rehearsal = λ _. c.rehearse_told.ensures.rehearses;
    run = λ no. absurd (false≢true (sym no ∙ c.if-words-2.true));
  };
}))

pub returns-then-is_unattended-clause-leads : goal.returns-then-is_unattended-clause-leads
returns-then-is_unattended-clause-leads g c = rw c.in-Ok.is (inr (record {
  words = c.in-Ok-words.words;
  none = rw c.deref.ensures.value at c.in-Ok-words.ensures.faults;
  asks = rw c.deref.ensures.value at c.in-Ok-words.ensures.asks;
  obeys = record {
    rehearsal = λ yes. absurd (false≢true (sym c.if-words-2.false ∙ yes));
    run = λ _. c.run_unattended.ensures.starts;
  };
}))

pub returns-clause-leads : goal.returns-clause-leads
returns-clause-leads g c = rw c.in-Ok.is (inr (record {
  words = c.in-Ok-words.words;
  none = rw c.deref.ensures.value at c.in-Ok-words.ensures.faults;
  asks = rw c.deref.ensures.value at c.in-Ok-words.ensures.asks;
  obeys = record {
    rehearsal = λ yes. absurd (false≢true (sym c.if-words-2.false ∙ yes));
    run = λ _. c.run.ensures.starts;
  };
}))
