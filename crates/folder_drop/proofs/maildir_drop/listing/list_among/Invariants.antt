use Rattle.std.proofs.Common.{All}
use Rattle.folder_drop.{
  specs.{CountedSizes.ComeFrom, Listing.{AreListed, IsAccountedFor, IsMeasured, IsPassedOver, ListsFound}, MaildirMail.AreRight},
  proofs.{ListingLemmas.ListsSo, MaildirLemmas.LastIsOf},
}
use Rattle.folder_drop.proofs.maildir_drop.listing.list_among.Given as goal

abbrev pub invariant-loop-file : goal.invariant-loop-file
invariant-loop-file g l = AreListed l.listed.long_ids l.listed.files.items × LastIsOf l.listed.files.items l.yielded
    × ComeFrom l.counted.files.now l.earlier
    × All (IsAccountedFor (IsPassedOver g.D.File.Read.remaining (g.D.MailFiles.found l.files) (g.D.MailFiles.opened l.files)
    (g.D.MailFiles.told l.files) l.earlier) l.listed.files.items) l.yielded
    × All (ListsFound (IsMeasured g.D.File.Read.remaining (g.D.MailFiles.found l.files) (g.D.MailFiles.opened l.files)
    (g.D.MailFiles.told l.files) l.earlier) l.yielded) l.listed.files.items
    × (g.D.MailFiles.sound l.files → AreRight (g.D.MailFiles.files l.files) l.earlier
    → ListsSo (g.D.MailFiles.files l.files) l.yielded l.listed.files.items)
