-- What is picked out of the lines of a record.
use Rattle.std.{
  proofs.Common.{◌≡◌, List, ◌∷◌, ◌++◌, Option, filter_map, option_to_list},
}
use Rattle.getmail_setup.proofs.ListedLemmas.{picked_first as picked}

pub picked_first : {X Y : Type 0} (h : X → Option Y) (x : X) (xs : List X)
    → filter_map h (x ∷ xs) ≡ option_to_list (h x) ++ filter_map h xs
picked_first h x xs = picked h x xs
