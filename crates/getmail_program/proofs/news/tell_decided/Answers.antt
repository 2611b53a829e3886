use Rattle.std.proofs.Common.{refl}
use Rattle.getmail_program.proofs.OutputLemmas.{puts_both}
use Rattle.getmail_program.proofs.news.tell_decided.Goals as goal

pub returns-in-None : goal.returns-in-None
returns-in-None g c = record {
  middle = _;
  puts = puts_both g.E.Write.contents _ _ _ _ _ (rw c.deref.ensures.value at c.put.ensures)
      (rw (c.as_bytes.ensures.value, c.lack_text.ensures) at c.put-2.ensures);
  keeps = rw c.in-None.is refl;
}

pub returns-in-Some : goal.returns-in-Some
returns-in-Some g c = record {
  middle = _;
  puts = puts_both g.E.Write.contents _ _ _ _ _ (rw c.deref.ensures.value at c.put.ensures)
      (rw (c.as_bytes.ensures.value, c.lack_text.ensures) at c.put-2.ensures);
  keeps = rw c.in-Some.is (rw c.deref-in-Some.ensures.value at c.keep_octets.ensures);
}
