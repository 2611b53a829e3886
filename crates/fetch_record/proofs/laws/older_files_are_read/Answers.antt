use Rattle.fetch_record.proofs.MeaningLemmas.{one_is_read}
use Rattle.fetch_record.proofs.laws.older_files_are_read.Goals as goal

pub returns : goal.returns
returns c = one_is_read
