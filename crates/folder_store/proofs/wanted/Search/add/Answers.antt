use Rattle.std.proofs.Common.{◌∙◌, refl}
use Rattle.folder_store.{proofs.Searching.{find_end, find_next}, specs.Wanted.is_listed}
use Rattle.folder_store.proofs.wanted.Search.add.Goals as goal

pub loop-name-init : goal.loop-name-init
loop-name-init c = (refl, λ names told. (names, told, refl))

pub loop-name-preserved : goal.loop-name-preserved
loop-name-preserved c = (
  c.in_ok-add_name.ensures.wanted ∙ c.loop-name.invariant.0,
  λ names told. find_next (is_listed c.args.self.now.wanted) _ _ _ _ _ _ c.in-Some.ensures.0 c.in-Some.ensures.1
      (rw (← c.loop-name.invariant.0) c.in_ok-add_name.ensures.adds) (c.loop-name.invariant.1 names told),
)

pub returns-clause-adds : goal.returns-clause-adds
returns-clause-adds c = λ names told. find_end (is_listed c.args.self.now.wanted) _ _ _ c.in_default.ensures
    (c.loop-name.invariant.1 names told)
