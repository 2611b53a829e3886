use Rattle.fetch_record.proofs.MeaningLemmas.{cut_is_ignored}
use Rattle.fetch_record.proofs.laws.cut_is_ignored.Goals as goal

pub returns : goal.returns
returns c = cut_is_ignored
