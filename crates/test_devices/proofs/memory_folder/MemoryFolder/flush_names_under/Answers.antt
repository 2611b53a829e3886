use Rattle.std.proofs.{Common.{◌∙◌, ap, List, map, refl, rules}, lemmas.Fn.filter_same}
use Rattle.test_devices.{
  specs.MemoryFolder.older_of,
  proofs.{MemoryFiles.Before, MemorySystem.{is_kept, outside_names}},
}
use Rattle.test_devices.proofs.memory_folder.MemoryFolder.flush_names_under.Goals as goal

pub returns : goal.returns
returns c =
    let was = c.self.inside in
    let left = filter_same _ (is_kept c.args.front.now) _ (λ x b f' k. search rules) _ _ c.retain.ensures.filtered in
    let kept = ap (λ (older : List Before). map older_of older) left ∙ outside_names c.args.front.now was.older.items in
    rw (← c.self.view_is) (rw kept refl)
