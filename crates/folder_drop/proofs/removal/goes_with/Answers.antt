use Rattle.std.proofs.{Common.{arith, rules}, lemmas.Grind.common_steps}
use Rattle.folder_drop.proofs.RemovalLemmas.{goes_if, stays_if}
use Rattle.folder_drop.proofs.removal.goes_with.Goals as goal

pub returns-clause-goes : goal.returns-clause-goes
returns-clause-goes g c = goes_if g.D.File.Read.remaining (g.D.MailFiles.opened c.args.files.now) c.args.listed.now c.args.file.now
    c.in_ok-same.same (_, _, c.in_ok-own.ensures, c.in_ok-other.ensures, c.in_ok-same.ensures)

pub returns-clause-stays : goal.returns-clause-stays
returns-clause-stays g c = stays_if g.D.File.Read.remaining (g.D.MailFiles.opened c.args.files.now) c.args.listed.now c.args.file.now
    c.in_ok-same.same (first_of (search rules, grind (arith, common_steps)))
    (_, _, c.in_ok-own.ensures, c.in_ok-other.ensures, c.in_ok-same.ensures)
