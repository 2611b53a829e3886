use Rattle.std.proofs.Common.{[], inl, inr, refl}
use Rattle.getmail_program.proofs.OutputLemmas.{puts_both, puts_lacking}
use Rattle.getmail_program.proofs.ending.tell_cut.Goals as goal

pub returns-in-Ok : goal.returns-in-Ok
returns-in-Ok g c =
    let lines = rw c.deref.ensures.value at c.put.ensures in record {
      reasons = c.in-Ok.lines.items;
      are_reasons = inl c.in-Ok.ensures;
      puts = puts_both _ _ c.put_outcome.new.err _ _ _ c.put_outcome.ensures lines;
      same = refl;
    }

pub returns-in-Err : goal.returns-in-Err
returns-in-Err g c =
    let (refused, puts) = puts_lacking _ _ c.put_outcome.new.err _ _ c.put_outcome.ensures c.lack_memory.ensures in record {
      reasons = [];
      are_reasons = inr (refused, refl);
      puts = puts;
      same = refl;
    }
