use Rattle.mail_store.proofs.LossLemmas.{flushed_delivers, flushed_part}
use Rattle.mail_store.proofs.maildir.loss.calls_keep_files_flushed.Goals as goal

pub returns-clause-taking : goal.returns-clause-taking
returns-clause-taking c = λ files left all (gone, is). flushed_part gone files left all is

pub returns-clause-delivering : goal.returns-clause-delivering
returns-clause-delivering c = λ old new name text r. flushed_delivers old new name text r
