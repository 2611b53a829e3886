use Rattle.fetch_record.proofs.MeaningLemmas.{torn_ignored_or_seen}
use Rattle.fetch_record.proofs.laws.torn_is_ignored_or_seen.Goals as goal

pub returns : goal.returns
returns c = torn_ignored_or_seen
