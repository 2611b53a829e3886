use Rattle.std.proofs.Common.{subst}
use Rattle.folder_drop.proofs.finding.open_regular.Goals as goal

pub open-requires : goal.open-requires
open-requires g c =
    (c.args.number, (c.in_ok-there.there, c.in_ok-there.ensures, c.in_ok-check.ensures.0, c.in_ok-check.ensures.1))

pub returns : goal.returns
returns g c = subst (λ number. g.D.MailFiles.opened c.args.files.now c.args.file.now number c.in_ok-opened.opened)
    c.in_ok-check-2.ensures.1
    (c.in_ok-found.ensures c.in_ok-check-2.ensures.0 c.args.file.now c.in_ok-opened.ensures)
