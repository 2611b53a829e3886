use Rattle.fetch_record.{specs.Lines.{version_of, open_seen}, proofs.MeaningLemmas.open_has_row}
use Rattle.fetch_record.proofs.seen.Seen.reread.Goals as goal

pub returns-clause-rows : goal.returns-clause-rows
returns-clause-rows g c = record {
  version = version_of c.in-Ok.read.0.older;
  torn = c.in-Ok.read.1;
  means = rw c.in-Ok-copied.ensures c.in-Ok.ensures.ok;
  outgrown = c.in-Ok.read.0.outgrown;
  grown = c.in-Ok.ensures.grown;
  stale = c.is_stale-self-inside.ensures;
}

pub invariant_of-self-2 : goal.invariant_of-self-2
invariant_of-self-2 g c = (
  c.in-Ok.ensures.is_record,
  rw c.in-Ok-copied.ensures (open_has_row c.args.bytes.now (version_of c.in-Ok.read.0.older) c.read.new.self
      (open_seen c.in-Ok.read.0.intent) c.in-Ok.read.1 c.in-Ok.ensures.ok),
)
