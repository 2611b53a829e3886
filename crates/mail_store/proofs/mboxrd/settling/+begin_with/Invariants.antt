use Rattle.std.proofs.Common.{length}
use Rattle.mail_store.proofs.mboxrd.settling.+begin_with.Given as goal

abbrev pub decreases-begin_with : goal.decreases-begin_with
decreases-begin_with l = length l.words.now
