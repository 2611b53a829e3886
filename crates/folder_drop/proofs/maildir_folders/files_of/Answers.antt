use Rattle.std.proofs.{
  Common.{ℕ, List, map, rules, subst},
  lemmas.{Fn.always_returns_same, List.Sorted.{IsPermutation-map, ranks_by}},
}
use Rattle.std.specs.{List.Sorted.{IsPermutation}, Ordering.is_lt}
use Rattle.folder_drop.specs.{declared.maildir_names.{Folder.Folder, PlacedFile.PlacedFile}, Places.{folder_and_name, place_cmp}}
use Rattle.folder_drop.proofs.SeenLemmas.{place_total}
use Rattle.folder_drop.proofs.maildir_folders.files_of.Goals as goal

pub returns-clause-all : goal.returns-clause-all
returns-clause-all c = subst (λ (l : List (Folder × List ℕ)). IsPermutation l (map folder_and_name c.sort_unstable_by.new.self.items))
    (search rules) (IsPermutation-map folder_and_name _ _ c.sort_unstable_by.ensures.permutation)

pub returns-clause-in_order : goal.returns-clause-in_order
returns-clause-in_order c = c.sort_unstable_by.ensures.sorted (λ a b. is_lt (place_cmp a b))
    (ranks_by place_total (λ (file : PlacedFile). file)) (always_returns_same _ _ _ (λ a r q k. search rules))
