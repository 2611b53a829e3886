use Rattle.std.proofs.{Common.{◌∙◌, arith}, lemmas.Result.err_from_is_err_and}
use Rattle.mail_store.proofs.DiskLemmas.{all_seen, may_seen}
use Rattle.folder_store.specs.{CutOff.{bytes_from, bytes_of, seen_in}, PowerLoss.disk_at}
use Rattle.folder_store.proofs.Keeping.{all_front, copies_lacked, keeps_all, keeps_front}
use Rattle.folder_store.proofs.cut_off.CutOff.keep.Goals as goal

pub returns-in_err-copy-clause-keeps : goal.returns-in_err-copy-clause-keeps
returns-in_err-copy-clause-keeps g c =
    rw (err_from_is_err_and c.from_residual-in_err-copy.result c.from_residual-in_err-copy.ensures.1).1 (λ other s.
    let directory = g.F.FolderState.directory in
    let old = seen_in directory c.args.self.now in
    let text = bytes_from (directory c.args.other.now) c.args.name.now c.args.start in
    let (two, _) = c.in_err-copy.ensures.reads other in
    let (one, still) = c.in_ok-octets_there.ensures.reads two in
    let (_, measured) = c.in_ok-end.ensures.measures one in
    let (mid, (front, rest, parts, copied)) = c.in_err-copy.ensures.copies other s in
    let (first, (had, made)) = c.in_ok-octets_there.ensures.tells two mid in
    let is = copies_lacked (directory c.args.other.now) (directory c.edges.new.self) (directory c.octets_there.new.other) c.args.name.now
    c.in_ok-end.field-0 c.args.start c.saturating_add-from.result c.in_ok-octets_there.field-0 (bytes_of old) measured still
    (omega arith) c.ranges.start.fits had c.saturating_add-from.ensures in (
      first,
      keeps_front text _ front rest old (seen_in directory c.octets_there.new.self) (seen_in directory c.copy.new.self) is made
          parts copied,
    ))

pub returns-in_err-flush_both-clause-keeps : goal.returns-in_err-flush_both-clause-keeps
returns-in_err-flush_both-clause-keeps g c =
    rw (err_from_is_err_and c.from_residual-in_err-flush_both.result c.from_residual-in_err-flush_both.ensures.1).1 (λ other s.
    let directory = g.F.FolderState.directory in
    let old = seen_in directory c.args.self.now in
    let text = bytes_from (directory c.args.other.now) c.args.name.now c.args.start in
    let (two, _) = c.in_ok-copy.ensures.reads other in
    let (one, still) = c.in_ok-octets_there.ensures.reads two in
    let (_, measured) = c.in_ok-end.ensures.measures one in
    let (last, flushed) = c.in_err-flush_both.ensures s in
    let (mid, (_, copied)) = c.in_ok-copy.ensures.copies other last in
    let (first, (had, made)) = c.in_ok-octets_there.ensures.tells two mid in
    let is = copies_lacked (directory c.args.other.now) (directory c.edges.new.self) (directory c.octets_there.new.other) c.args.name.now
    c.in_ok-end.field-0 c.args.start c.saturating_add-from.result c.in_ok-octets_there.field-0 (bytes_of old) measured still
    (omega arith) c.ranges.start.fits had c.saturating_add-from.ensures in
    let seen = may_seen (disk_at (directory c.copy.new.self.folder) c.copy.new.self.name.now)
    (disk_at (directory c.flush_both.new.folder) c.copy.new.self.name.now) flushed in
    (first, all_front text old _ (keeps_all text _ old (seen_in directory c.octets_there.new.self) _ is made (seen ∙ copied))))

pub returns-clause-keeps : goal.returns-clause-keeps
returns-clause-keeps g c = λ other s.
    let directory = g.F.FolderState.directory in
    let old = seen_in directory c.args.self.now in
    let text = bytes_from (directory c.args.other.now) c.args.name.now c.args.start in
    let (two, _) = c.in_ok-copy.ensures.reads other in
    let (one, still) = c.in_ok-octets_there.ensures.reads two in
    let (_, measured) = c.in_ok-end.ensures.measures one in
    let (last, flushed) = c.in_ok-flush_both.ensures s in
    let (mid, (_, copied)) = c.in_ok-copy.ensures.copies other last in
    let (first, (had, made)) = c.in_ok-octets_there.ensures.tells two mid in
    let is = copies_lacked (directory c.args.other.now) (directory c.edges.new.self) (directory c.octets_there.new.other) c.args.name.now
    c.in_ok-end.field-0 c.args.start c.saturating_add-from.result c.in_ok-octets_there.field-0 (bytes_of old) measured still
    (omega arith) c.ranges.start.fits had c.saturating_add-from.ensures in
    let seen = all_seen (disk_at (directory c.copy.new.self.folder) c.copy.new.self.name.now)
    (disk_at (directory c.flush_both.new.folder) c.copy.new.self.name.now) flushed in
    (first, keeps_all text _ old (seen_in directory c.octets_there.new.self) _ is made (seen ∙ copied))
