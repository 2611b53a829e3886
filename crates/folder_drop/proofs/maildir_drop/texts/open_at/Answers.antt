use Rattle.std.{proofs.Common.subst, specs.List.slice_index_or}
use Rattle.folder_drop.specs.{declared.listed_file.ListedFile.ListedFile, Finding.IsOpenNow, RealMaildir.listed_place}
use Rattle.folder_drop.proofs.MailLemmas.{own_opened}
use Rattle.folder_drop.proofs.maildir_drop.texts.open_at.Goals as goal

pub returns-in-Some-2-clause-there : goal.returns-in-Some-2-clause-there
returns-in-Some-2-clause-there g c =
    let there = c.in-Some.ensures.lookup.3 in
    let now = (rw c.as_str.ensures.value at (rw c.in-Some-2.is at c.in_ok-file.ensures.there)) in (
      there.0,
      λ d. subst (λ (listed : ListedFile). IsOpenNow (g.D.MailFiles.found c.args.files.now) (g.D.MailFiles.opened c.args.files.now)
          (listed_place listed) c.in-Some-2.file) (there.1 d) now,
    )

pub returns-in-Some-2-clause-own : goal.returns-in-Some-2-clause-own
returns-in-Some-2-clause-own g c = λ s d known.
    let files = c.args.files.now in
    let now = (rw c.as_str.ensures.value at (rw c.in-Some-2.is at c.in_ok-file.ensures.there)) in
    let there = c.in-Some.ensures.lookup.3.1 d in
    own_opened g.D.File.Read.remaining (g.D.MailFiles.found files) (g.D.MailFiles.opened files) (g.D.MailFiles.files files)
    (slice_index_or c.args.listing.now c.args.i d) c.in-Some-2.file (g.met.D.MailFiles.whole files s)
    (λ way what. g.met.D.MailFiles.finds files way what s) (λ way number file. g.met.D.MailFiles.reads files way number file s)
    (subst (λ (listed : ListedFile). IsOpenNow (g.D.MailFiles.found files) (g.D.MailFiles.opened files) (listed_place listed)
    c.in-Some-2.file) there now) known
