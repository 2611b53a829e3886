use Rattle.std.proofs.Common.{◌≡◌, ◌≤◌, ◌<◌, ◌-◌, ℕ, List, arith, ap, sym, subst, ◌∙◌, length, take}
use borrow.Rule.Slice.PartMut.{put_mid, same_len_mid}
use Rattle.folder_store.specs.Calls.{IsFilled}
use Rattle.folder_store.proofs.Reading.{filled_more, filled_roomy, filled_same, filled_whole, put_fits, put_same, vec_put}
use Rattle.folder_store.proofs.opened_file.bytes_in.Goals as goal
use Rattle.folder_store.proofs.opened_file.bytes_in.Goals.{in-Some+else-count-eq0, in-None}

pub returns-then-count-eq0 : goal.returns-then-count-eq0
returns-then-count-eq0 g c = λ s.
    let (held, stays, (at, read)) = rw (c.in-Some.is, c.if-count-eq0.true) at (c.in_ok-got.ensures.reads s) in
    let (before, stayed, filled) = c.loop.invariant.1 held in
    let there = c.deref_mut.ensures.value in
    let within : c.loop.filled < length c.deref_mut.result.now = omega (arith, c.in_ok-make_room.ensures.room, ap length there) in
    let whole = vec_put c.make_room.new.bytes.len
    (put_mid c.loop.filled (length c.deref_mut.result.now - c.loop.filled) c.deref_mut.result.now c.read_some.new.buf)
    c.make_room.new.bytes.items
    (same_len_mid c.loop.filled (length c.deref_mut.result.now - c.loop.filled) c.deref_mut.result.now c.read_some.new.buf
    c.read_some.auto.buf ∙ c.deref_mut.ensures.len) in (
      before,
      stays ∙ stayed,
      λ b leads begins. c.truncate.ensures.items ∙ ap (λ (xs : List ℕ). take c.loop.filled xs) whole
          ∙ filled_whole _ _ _ _ _ c.deref_mut.result.now c.read_some.new.buf c.loop.filled _ stayed (omega (arith, within))
          (filled_roomy _ _ _ _ _ _ (ap (λ (xs : List ℕ). take c.loop.filled xs) there ∙ c.make_room.ensures.front) filled)
          at read b leads begins,
    )

pub loop-preserved : goal.loop-preserved
loop-preserved g c =
    let there = c.deref_mut.ensures.value in
    let within : c.loop.filled < length c.deref_mut.result.now = omega (arith, c.in_ok-make_room.ensures.room, ap length there) in
    let whole = vec_put c.make_room.new.bytes.len
    (put_mid c.loop.filled (length c.deref_mut.result.now - c.loop.filled) c.deref_mut.result.now c.read_some.new.buf)
    c.make_room.new.bytes.items
    (same_len_mid c.loop.filled (length c.deref_mut.result.now - c.loop.filled) c.deref_mut.result.now c.read_some.new.buf
    c.read_some.auto.buf ∙ c.deref_mut.ensures.len) in
    elim c.match-got.branch [
      | in-Some+else-count-eq0 w ↦ (
        subst (λ (xs : List ℕ). c.match-got.filled ≤ length xs) (sym whole) (rw w.filled-is (put_fits c.loop.filled w.in-Some.count
            c.deref_mut.result.now c.read_some.new.buf (omega (arith, within)) (rw w.in-Some.is at c.in_ok-got.ensures.within)
            c.read_some.auto.buf)),
        λ s. let (held, stays, (at, read)) = rw w.in-Some.is at (c.in_ok-got.ensures.reads s) in
            let (before, stayed, filled) = c.loop.invariant.1 held in (
              before,
              stays ∙ stayed,
              subst (λ (xs : List ℕ). IsFilled (g.C.FileCalls.tree c.args.calls.now)
                  (g.C.File.OpenHandle.opened c.args.file.now) c.match-got.filled xs
                  (g.C.File.OpenHandle.opened c.read_some.new.file)) (sym whole)
                  (rw w.filled-is (filled_more _ _ _ _ _ c.deref_mut.result.now
                  c.read_some.new.buf c.loop.filled w.in-Some.count _ stayed (omega (arith, within))
                  (rw w.in-Some.is at c.in_ok-got.ensures.within)
                  (filled_roomy _ _ _ _ _ _ (ap (λ (xs : List ℕ). take c.loop.filled xs) there ∙ c.make_room.ensures.front) filled)
                  at read)),
            ),
      )
      | in-None w ↦ (
        subst (λ (xs : List ℕ). c.match-got.filled ≤ length xs) (sym whole)
            (rw w.filled-is (put_same c.loop.filled c.deref_mut.result.now c.read_some.new.buf
            (omega (arith, within)) c.read_some.auto.buf)),
        λ s. let (held, stays, at) = rw w.in-None.is at (c.in_ok-got.ensures.reads s) in
            let (before, stayed, filled) = c.loop.invariant.1 held in (
              before,
              stays ∙ stayed,
              subst (λ (xs : List ℕ). IsFilled (g.C.FileCalls.tree c.args.calls.now)
                  (g.C.File.OpenHandle.opened c.args.file.now) c.match-got.filled xs
                  (g.C.File.OpenHandle.opened c.read_some.new.file)) (sym whole) (rw w.filled-is (filled_same _ _ _ _ c.deref_mut.result.now
                  c.read_some.new.buf c.loop.filled _ (omega (arith, within))
                  (filled_roomy _ _ _ _ _ _ (ap (λ (xs : List ℕ). take c.loop.filled xs) there ∙ c.make_room.ensures.front) filled) at)),
            ),
      )
    ]
