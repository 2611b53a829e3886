use Rattle.std.proofs.{Common.{◌<◌, arith, length, rules, subst, sym}, lemmas.Grind.common_steps}
use Rattle.folder_drop.proofs.KnownLemmas.{none_own, knows_open, knows_part}
use Rattle.folder_drop.proofs.maildir_drop.known_mail.KnownMail.read_part.Goals as goal

pub returns-in_err-read-clause-own : goal.returns-in_err-read-clause-own
returns-in_err-read-clause-own g c = λ s knows.
    let old = c.args.self.now in (
      knows_open g.D.File.Read.remaining _ _ old.listing old.earlier old.since old.reading _
          (none_own g.D.File.Read.remaining _ old.listing _ c.take-kept.ensures.after) knows,
      (search rules),
    )

pub returns-clause-own : goal.returns-clause-own
returns-clause-own g c = λ s knows.
    let old = c.args.self.now in
    let within : c.args.i < length old.listing.files = first_of (search rules, grind (arith, common_steps)) in
    let part = knows_part g.D.File.Read.remaining (g.D.MailFiles.files old.files) old.listing.files c.args.i c.args.start
    c.in_ok-read.read.0
    c.part_at.new.piece old.reading c.in_ok-read.read.1 knows.known within knows.own
    (rw (c.take-kept.ensures.value, c.files-listing.ensures.files) at c.in_ok-read.ensures.own s) in
    (knows_open g.D.File.Read.remaining _ _ old.listing old.earlier old.since old.reading _ part.0 knows, part.1)
