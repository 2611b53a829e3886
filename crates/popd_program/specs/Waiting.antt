-- How long the answers to refused passwords are held back.
use Rattle.std.specs.Prelude.{◌≡◌, ◌≤◌, ◌<◌, ◌*◌, ℕ}
use Rattle.popd_program.specs.declared.waits.Pause.{Pause}

-- the next pause is twice as long, up to eight seconds
pub record IsNext (old new : Pause) : Type 0 where
  pub doubles : old.seconds < 8 → new.seconds ≡ 2 * old.seconds
  pub most : 8 ≤ old.seconds → new.seconds ≡ old.seconds
