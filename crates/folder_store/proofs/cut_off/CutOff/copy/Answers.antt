use Rattle.std.proofs.{Common.{◌-◌, ◌∙◌, arith, sym, ap, length}, lemmas.Result.err_from_is_err_and}
use Rattle.folder_store.specs.{FileFolder.{Directory, content_at}, PowerLoss.disk_at}
use Rattle.folder_store.proofs.{Kept.folder_alone, Keeping.{copied_front, copied_on, copied_part}}
use Rattle.folder_store.proofs.cut_off.CutOff.copy.Goals as goal

pub returns-in_err-read_at-clause-copies : goal.returns-in_err-read_at-clause-copies
returns-in_err-read_at-clause-copies g c = rw (err_from_is_err_and c.from_residual.result c.from_residual.ensures.1).1 (λ other s.
    let was = c.loop-at.invariant in
    let (held, _) = c.in_err-read_at.ensures.reads other in
    let (first, (_, copied)) = was.copied held s in
    (first, copied_front _ (c.loop-at.at - c.args.from) (c.args.end - c.args.from) _ _ was.within copied))

pub returns-then-count-eq0-clause-copies : goal.returns-then-count-eq0-clause-copies
returns-then-count-eq0-clause-copies g c = λ other s.
    let was = c.loop-at.invariant in
    let (held, _) = c.in_ok-read_at.ensures.reads other in
    let (first, (_, copied)) = was.copied held s in
    (first, copied_front _ (c.loop-at.at - c.args.from) (c.args.end - c.args.from) _ _ was.within copied)

pub returns-in_err-append_in-clause-copies : goal.returns-in_err-append_in-clause-copies
returns-in_err-append_in-clause-copies g c =
    let p = err_from_is_err_and c.from_residual-in_err-append_in.result c.from_residual-in_err-append_in.ensures.1 in
    rw p.1 (λ other s.
    let directory = g.F.FolderState.directory in
    let was = c.loop-at.invariant in
    let (held, ((theirs, there, counted, piece), _)) = c.in_ok-read_at.ensures.reads other in
    let (mid, part) = c.in_err-append_in.ensures s in
    let (first, (_, copied)) = was.copied held mid in (
      first,
      copied_part (content_at (directory c.args.other.now) c.args.name.now) theirs c.read_at.new.buf c.args.from c.loop-at.at
          c.args.end (length c.read_at.new.buf) c.in_ok-read_at.field-0 c.min-count.result _
          (disk_at (directory c.loop-at.self.folder) c.loop-at.self.name.now)
          (disk_at (directory c.append_in.new.folder) c.loop-at.self.name.now) c.in_err-append_in.field-0.0
          (sym (ap (λ (d : Directory). content_at d c.args.name.now) (was.reads held).1) ∙ there) was.begun c.loop-at-test.true
          counted piece (omega arith) (omega arith) copied part,
    ))

pub loop-at-preserved : goal.loop-at-preserved
loop-at-preserved g c =
    let directory = g.F.FolderState.directory in
    let was = c.loop-at.invariant in record {
      same = folder_alone c.loop-at.self c.args.self.now c.append_in.new.folder was.same;
      reads = λ other. let (held, (_, still)) = c.in_ok-read_at.ensures.reads other in
          let before = was.reads held in (before.0, still ∙ before.1);
      within = omega arith;
      begun = omega arith;
      copied = λ other s.
          let (held, ((theirs, there, counted, piece), _)) = c.in_ok-read_at.ensures.reads other in
          let (mid, done) = c.in_ok-append_in.ensures s in
          let (first, (fits, copied)) = was.copied held mid in (
            first,
            copied_on (content_at (directory c.args.other.now) c.args.name.now) theirs c.read_at.new.buf c.args.from
                c.loop-at.at (length c.read_at.new.buf) c.in_ok-read_at.field-0 c.min-count.result _
                (disk_at (directory c.loop-at.self.folder) c.loop-at.self.name.now)
                (disk_at (directory c.append_in.new.folder) c.loop-at.self.name.now)
                (sym (ap (λ (d : Directory). content_at d c.args.name.now) (was.reads held).1) ∙ there) was.begun
                counted piece (omega arith) fits copied done,
          );
    }
