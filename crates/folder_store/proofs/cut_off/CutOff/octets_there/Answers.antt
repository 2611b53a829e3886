use Rattle.std.proofs.Common.{◌≡◌, ◌+◌, ◌-◌, ◌∙◌, arith, sym, ap, refl, true≢false, ℕ, List, Some, length, take, drop}
use Rattle.folder_store.specs.{CutOff.{bytes_from, bytes_of, last_of, seen_in}, FileFolder.{Directory, content_at}}
use Rattle.folder_store.proofs.{Kept.folder_alone, Keeping.{alike_on, all_alike, front_alike, had_all, had_none, last_long, piece_read}}
use Rattle.folder_store.proofs.cut_off.CutOff.octets_there.Goals as goal

pub loop-done-preserved : goal.loop-done-preserved
loop-done-preserved g c =
    let directory = g.F.FolderState.directory in
    let was = c.loop-done.invariant in
    let shared : ℕ = c.min-shared.result in
    let done : ℕ = c.loop-done.done in record {
      same = folder_alone c.loop-done.self c.args.self.now c.read_at.new.self was.same;
      reads = λ other. let (held, (_, still)) = c.in_ok-in_other.ensures.reads other in
          let before = was.reads held in (before.0, still ∙ before.1);
      stays = λ s. let (held, (_, still)) = c.in_ok-count.ensures.reads s in
          let (first, (size, seen)) = was.stays held in
          (first, (size, ap (λ (d : Directory). content_at d c.loop-done.self.name.now) still ∙ seen));
      alike = λ other s.
          let (held, ((had, here, counted, bytes), _)) = c.in_ok-count.ensures.reads s in
          let (other_held, ((theirs, there, _, their_bytes), _)) = c.in_ok-in_other.ensures.reads other in
          let (_, (size, seen)) = was.stays held in
          let (within, alike) = was.alike other_held held in
          let ours : List ℕ = bytes_of (seen_in directory c.args.self.now) in
          let n : ℕ = length c.read_at.new.buf in
          let text : List ℕ = bytes_from (directory c.args.other.now) c.args.name.now c.args.start in
          let same_buffers : length c.read_at-in-loop-done.new.buf ≡ n = omega arith in
          let front = piece_read (Some ours) had c.read_at.new.buf (length ours - shared) done (c.in_ok-size.size - shared + done)
          c.in_ok-count.count n (sym seen ∙ here) (omega (arith, size)) bytes in
          let piece = piece_read (content_at (directory c.args.other.now) c.args.name.now) theirs c.read_at-in-loop-done.new.buf
          c.args.start done (c.args.start + done) c.in_ok-in_other.in_other (length c.read_at-in-loop-done.new.buf)
          (sym (ap (λ (d : Directory). content_at d c.args.name.now) (was.reads other_held).1) ∙ there) refl their_bytes in
          alike_on (last_of shared ours) text _ _ n done
          c.in_ok-count.count _ shared front (piece ∙ ap (λ (k : ℕ). take k (drop done text)) same_buffers)
          (c.is_front.ensures.0 c.if-not-is_front.false).1 (counted ∙ sym (ap length bytes))
          (last_long shared ours (omega (arith, size))) within alike c.saturating_add-done.ensures (omega arith);
    }

pub returns-then-not-is_front-clause-tells : goal.returns-then-not-is_front-clause-tells
returns-then-not-is_front-clause-tells g c = λ other s.
    let directory = g.F.FolderState.directory in
    let was = c.loop-done.invariant in
    let shared : ℕ = c.min-shared.result in
    let done : ℕ = c.loop-done.done in
    let (held, ((had, here, counted, bytes), still)) = c.in_ok-count.ensures.reads s in
    let (other_held, ((theirs, there, _, their_bytes), _)) = c.in_ok-in_other.ensures.reads other in
    let (first, (size, seen)) = was.stays held in
    let ours : List ℕ = bytes_of (seen_in directory c.args.self.now) in
    let n : ℕ = length c.read_at.new.buf in
    let text : List ℕ = bytes_from (directory c.args.other.now) c.args.name.now c.args.start in
    let same_buffers : length c.read_at-in-loop-done.new.buf ≡ n = omega arith in
    let front = piece_read (Some ours) had c.read_at.new.buf (length ours - shared) done (c.in_ok-size.size - shared + done)
    c.in_ok-count.count n (sym seen ∙ here) (omega (arith, size)) bytes in
    let piece = piece_read (content_at (directory c.args.other.now) c.args.name.now) theirs c.read_at-in-loop-done.new.buf
    c.args.start done (c.args.start + done) c.in_ok-in_other.in_other (length c.read_at-in-loop-done.new.buf)
    (sym (ap (λ (d : Directory). content_at d c.args.name.now) (was.reads other_held).1) ∙ there) refl their_bytes in
    let differ : last_of shared ours ≡ take shared text → ⊥ = λ same.
    true≢false (sym (c.is_front.ensures.1 (front_alike (last_of shared ours) text _ _ n done shared front
    (piece ∙ ap (λ (k : ℕ). take k (drop done text)) same_buffers) (omega arith) (omega arith)
    (last_long shared ours (omega (arith, size))) same))
    ∙ c.if-not-is_front.true) in (
      first,
      (
        had_none (c.args.end - c.args.start) shared text ours (omega (arith, size)) differ,
        ap (λ (d : Directory). content_at d c.loop-done.self.name.now) still ∙ seen,
      ),
    )

pub returns-clause-tells : goal.returns-clause-tells
returns-clause-tells g c = λ other s.
    let directory = g.F.FolderState.directory in
    let shared : ℕ = c.min-shared.result in
    let (first, (size, seen)) = c.loop-done.invariant.stays s in
    let (within, alike) = c.loop-done.invariant.alike other s in
    let ours : List ℕ = bytes_of (seen_in directory c.args.self.now) in
    let text : List ℕ = bytes_from (directory c.args.other.now) c.args.name.now c.args.start in (
      first,
      (
        had_all (c.args.end - c.args.start) shared text ours (omega (arith, size))
            (all_alike (last_of shared ours) text c.loop-done.done shared (last_long shared ours (omega (arith, size)))
            c.loop-done-test.false within alike),
        seen,
      ),
    )
