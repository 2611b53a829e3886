use Rattle.std.proofs.Common.{◌≡◌, ◌++◌, ℕ, List, filter, length, map, string_bytes}
use Rattle.folder_store.{proofs.Searching.WillFind, specs.Wanted.{TellsNames, is_listed}}
use Rattle.folder_store.proofs.wanted.Search.add.Given as goal

-- what was found, and what will be of the names that are left
abbrev pub invariant-loop-name : goal.invariant-loop-name
invariant-loop-name l = (l.self.wanted ≡ l.fn.self.wanted)
    × ((names : List (List ℕ)) → TellsNames l.octets names → WillFind (is_listed l.fn.self.wanted) l.left
    (map string_bytes l.found.items) (map string_bytes l.fn.found.items ++ filter (is_listed l.fn.self.wanted) names))

abbrev pub decreases-loop-name : goal.decreases-loop-name
decreases-loop-name l = length l.left
