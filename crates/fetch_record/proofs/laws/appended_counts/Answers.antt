use Rattle.fetch_record.proofs.MeaningLemmas.{appended_counts}
use Rattle.fetch_record.proofs.laws.appended_counts.Goals as goal

pub returns : goal.returns
returns c = appended_counts
