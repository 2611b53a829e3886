use Rattle.folder_drop.specs.Removal.{MayGo}
use Rattle.folder_drop.proofs.RemovalLemmas.{within_more}
use Rattle.folder_drop.proofs.removal.place_of_other.Goals as goal

pub loop-place-preserved : goal.loop-place-preserved
loop-place-preserved g c = within_more (MayGo g.D.File.Read.remaining (g.D.MailFiles.opened c.args.files.now) c.args.listed.now)
    c.args.others.now c.loop-place.place c.index-others-place.result c.loop-place-test.true c.index-others-place.is
    (c.in_ok-goes.ensures.goes c.if-not-goes.false) c.loop-place.invariant
