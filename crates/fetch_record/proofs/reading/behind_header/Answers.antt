use Rattle.fetch_record.{specs.RecordFile.{One, header}, proofs.LineLemmas.stripped}
use Rattle.fetch_record.proofs.reading.behind_header.Goals as goal

pub returns-in-Some-strip_prefix-clause-found : goal.returns-in-Some-strip_prefix-clause-found
returns-in-Some-strip_prefix-clause-found c = stripped (header One) c.args.bytes.now c.in-Some-strip_prefix.rest
    c.in-Some-strip_prefix.ensures.cases
