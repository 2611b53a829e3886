use Rattle.getmail_program.proofs.news.decide.Goals as goal

pub returns : goal.returns
returns c = record {
  told = _;
  known = c.in_ok-memory.was;
  run = _;
  is_run = c.in_ok-run.ensures;
  is_news = c.in_ok-news.ensures.told;
  is_text = c.in_ok-words.ensures;
  changes = rw (c.deref.ensures.value, c.in_ok-before.ensures.written, c.in_ok-after.ensures.written, c.in_ok-news.ensures.kept)
      at c.changed_octets-octets.ensures;
}
