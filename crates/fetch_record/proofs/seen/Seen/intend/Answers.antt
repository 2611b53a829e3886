use Rattle.fetch_record.proofs.RowLemmas.{legal_of}
use Rattle.fetch_record.proofs.seen.Seen.intend.Goals as goal

pub invariant_of-self : goal.invariant_of-self
invariant_of-self g c =
    let has = rw (← c.self.view_is) at c.requires.row in (
      c.state.ensures.is_record,
      rw c.in_ok-copy.ensures (
        record {
          legal = legal_of c.self.inside.rows c.args.uid.now c.state.ensures.is_record has;
          start = c.ranges.start.fits;
          len = c.ranges.len.fits;
        },
        has,
      ),
    )
