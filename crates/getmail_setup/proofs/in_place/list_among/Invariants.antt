use Rattle.std.specs.{List.{AllWithin}, String.{string_bytes}}
use Rattle.getmail_setup.specs.InPlace.{HasNone}
use Rattle.getmail_setup.proofs.in_place.list_among.Given as goal

abbrev pub invariant-loop-name : goal.invariant-loop-name
invariant-loop-name g l =
    AllWithin (λ name. HasNone (g.F.LookAt.said l.files) l.folder l.username (string_bytes name)) l.names 0 l.name-index
