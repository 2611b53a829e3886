use Rattle.std.proofs.Common.{rules, ◌∙◌, arith}
use Rattle.folder_store.proofs.Reading.{filled_more, filled_same, put_fits, put_same}
use Rattle.folder_store.proofs.opened_file.fill.Goals as goal
use Rattle.folder_store.proofs.opened_file.fill.Goals.{in-Some+else-count-eq0, in-None}

pub loop-preserved : goal.loop-preserved
loop-preserved g c = elim c.match-got.branch [
  | in-Some+else-count-eq0 w ↦ (
    rw w.filled-is (put_fits c.loop.filled w.in-Some.count c.loop.buf c.read_some.new.buf c.loop.invariant.0
        (rw w.in-Some.is at c.in_ok-got.ensures.within) c.read_some.auto.buf),
    λ s. let (held, stays, (at, read)) = rw w.in-Some.is at (c.in_ok-got.ensures.reads s) in
        let (before, stayed, filled) = c.loop.invariant.1 held in (
          before,
          stays ∙ stayed,
          rw w.filled-is (filled_more _ _ _ _ _ c.loop.buf c.read_some.new.buf c.loop.filled w.in-Some.count _ stayed c.loop.invariant.0
              (rw w.in-Some.is at c.in_ok-got.ensures.within) filled at read),
        ),
  )
  | in-None w ↦ (
    rw w.filled-is (put_same c.loop.filled c.loop.buf c.read_some.new.buf c.loop.invariant.0 c.read_some.auto.buf),
    λ s. let (held, stays, at) = rw w.in-None.is at (c.in_ok-got.ensures.reads s) in
        let (before, stayed, filled) = c.loop.invariant.1 held in (
          before,
          stays ∙ stayed,
          rw w.filled-is (filled_same _ _ _ _ c.loop.buf c.read_some.new.buf c.loop.filled _ c.loop.invariant.0 filled at),
        ),
  )
]
