use Rattle.std.proofs.{Common.{map, arith}, lemmas.List.length-map}
use Rattle.mail_terms.{specs.Listing.UidRow, proofs.NumberingLemmas.few_numbers}
use Rattle.mail_terms.proofs.listing.Listing.join.Goals as goal

pub returns-then-uids-n-clause-disagree : goal.returns-then-uids-n-clause-disagree
returns-then-uids-n-clause-disagree c = λ _ agree. omega (
  arith,
  few_numbers c.args.n (map (λ (row : UidRow). row.number) c.args.uids.now) agree.0,
  length-map c.args.uids.now (λ (row : UidRow). row.number),
  c.if-uids-n.true,
)
