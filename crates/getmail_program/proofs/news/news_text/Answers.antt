use Rattle.getmail_program.proofs.news.news_text.Goals as goal

pub returns : goal.returns
returns c = record {
  again = _;
  is_again = rw c.as_slice-account.ensures.value at c.in_ok-again.ensures;
  limited = _;
  is_limited = rw c.as_slice-account.ensures.value at c.in_ok-limited.ensures;
  end = _;
  is_end = rw c.as_slice-account.ensures.value at c.in_ok-end.ensures;
  is = rw (c.deref.ensures.value, c.deref-2.ensures.value, c.deref-3.ensures.value) at c.in_ok-told_text.ensures;
}
