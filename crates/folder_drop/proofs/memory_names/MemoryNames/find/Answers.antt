use Rattle.std.proofs.Common.{◌≡◌, subst, sym}
use Rattle.folder_drop.specs.MemoryNames.{place_of_name}
use Rattle.folder_drop.proofs.MemoryLemmas.{none_there}
use Rattle.folder_drop.proofs.memory_names.MemoryNames.find.Goals as goal

pub returns-in-Ok-clause-ok : goal.returns-in-Ok-clause-ok
returns-in-Ok-clause-ok c =
    let found = c.in-Ok.ensures.found in (
      (c.in-Ok.at, found.0, sym c.index.ensures),
      subst (λ one. place_of_name one ≡ (c.args.folder, c.args.name.now)) (sym c.index.ensures) (found.1 c.index.result.now),
    )

pub returns-in-Err-clause-err : goal.returns-in-Err-clause-err
returns-in-Err-clause-err c = (
  c.from.ensures,
  none_there c.args.self.now.items.items (c.args.folder, c.args.name.now) c.in-Err.field-0 c.in-Err.ensures.between.1,
)
