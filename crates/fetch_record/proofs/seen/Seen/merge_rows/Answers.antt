use Rattle.std.proofs.{Common.{◌≡◌, take}, Math.Seq.take-append_seam}
use Rattle.fetch_record.proofs.MergeLemmas.{merge_updates}
use Rattle.fetch_record.proofs.seen.Seen.merge_rows.Goals as goal

pub returns-in-Ok-clause-updates : goal.returns-in-Ok-clause-updates
returns-in-Ok-clause-updates g c =
    let front : take c.len-count.result c.add_listed.new.self ≡ c.self.inside.rows =
    rw (c.in_ok-add_listed.ensures.rows, c.len-count.ensures.count) (take-append_seam c.self.inside.rows _) in
    rw (← c.self.view_is, c.in-Ok.ensures, front, ← c.mark_held.ensures.rows)
    (merge_updates c.self.inside.rows c.add_listed.new.self c.mark_held.new.self c.args.listing.now c.args.held.now c.args.now
    c.in_ok-add_listed.ensures.rows c.mark_held.ensures.rows c.mark_held.ensures.is_record c.in_ok-add_listed.ensures.limit)
