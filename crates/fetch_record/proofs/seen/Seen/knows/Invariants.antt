use Rattle.std.{proofs.Common.{◌≡◌, true}, specs.List.AllWithin}
use Rattle.fetch_record.specs.Record.{is_delivered}
use Rattle.fetch_record.proofs.seen.Seen.knows.Given as goal

abbrev pub invariant-loop-i : goal.invariant-loop-i
invariant-loop-i g l = AllWithin (λ item. is_delivered l.self.rows item.uid ≡ true) l.listing 0 l.i
