use Rattle.std.proofs.Common.{inl, inr}
use Rattle.getmail_program.proofs.news.tell_news.Goals as goal

pub returns-in-Ok : goal.returns-in-Ok
returns-in-Ok g c = record {
  memory = _;
  is_memory = c.memory.ensures;
  time = _;
  is_time = c.time.ensures;
  tells = inl (_, rw c.time_mark-now.ensures at c.in-Ok.ensures, c.tell_decided.ensures);
}

pub returns-in-Err : goal.returns-in-Err
returns-in-Err g c = record {
  memory = _;
  is_memory = c.memory.ensures;
  time = _;
  is_time = c.time.ensures;
  tells = inr c.tell_all.ensures;
}
