use Rattle.fetch_record.proofs.MeaningLemmas.{one_meaning}
use Rattle.fetch_record.proofs.laws.bytes_have_one_meaning.Goals as goal

pub returns : goal.returns
returns c = one_meaning
