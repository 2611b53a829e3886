use Rattle.std.proofs.Common.{map}
use Rattle.std.specs.Prelude.{string_bytes}
use Rattle.folder_store.proofs.sweep.sweep.Goals as goal

pub returns : goal.returns
returns g c = (
  c.in_ok-now.now,
  c.in_ok-now.ensures,
  map string_bytes c.in_ok-names.names.items,
  c.in_ok-names.ensures,
  c.sweep_names.ensures,
)
