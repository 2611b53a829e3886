use Rattle.std.specs.List.{slice_index_or}
use Rattle.folder_drop.proofs.TextLemmas.{part_of}
use Rattle.folder_drop.proofs.maildir_drop.texts.part_at.Goals as goal

pub returns-clause-own : goal.returns-clause-own
returns-clause-own g c = λ s d known before.
    let own = c.in_ok-text.ensures.own s d known before in
    let there = c.in_ok-text.ensures.there in
    rw (there.0, there.1) at (part_of g.D.File.Read.remaining (g.D.MailFiles.files c.args.files.now)
    (slice_index_or c.args.listing.now c.args.from.0 d) c.in_ok-text.text c.read_on.new.piece c.in_ok-read.read.0 c.in_ok-read.read.1
    c.in_ok-read.ensures.within own c.in_ok-read.ensures.on)
