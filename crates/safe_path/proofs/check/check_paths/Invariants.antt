use Rattle.std.specs.Prelude.{true}
use Rattle.std.specs.List.{AllWithin}
use Rattle.safe_path.specs.{Check.{IsSafePath}, Users.{IsWatched}}
use Rattle.safe_path.proofs.check.check_paths.Given as goal

abbrev pub invariant-loop-named : goal.invariant-loop-named
invariant-loop-named g l = IsWatched g.L.Looks g.L.ReadFile l.looks true × AllWithin (IsSafePath g.L.Looks l.looks) l.things 0 l.named-index
