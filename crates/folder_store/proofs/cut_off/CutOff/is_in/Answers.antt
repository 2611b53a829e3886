use Rattle.std.proofs.Common.{◌≡◌, refl, Some}
use Rattle.folder_store.proofs.Kept.{agrees_on, folder_alone, piece_fits}
use Rattle.folder_store.proofs.cut_off.CutOff.is_in.Goals as goal

pub pieces-preserved : goal.pieces-preserved
pieces-preserved g c =
    let (alone, fits, agrees) = c.pieces.invariant in
    let begun = c.if-not-begins_with.ensures.begins refl in (
      folder_alone c.pieces.self c.args.self.now c.read_at.new.self alone,
      piece_fits c.pieces.at c.in_ok-count.count c.args.entry.now c.read_at.new.buf fits c.in_ok-count.ensures.within begun,
      λ s was there.
          let (held, ((had, has, count, bytes), stays)) = c.in_ok-count.ensures.reads s in
          let same : Some had ≡ Some was = cc (there, stays, has) in
          agrees_on c.pieces.at c.in_ok-count.count c.args.entry.now was c.read_at.new.buf (cc (count, same))
          (cc (bytes, same)) begun (agrees held was (cc (there, stays))),
    )
