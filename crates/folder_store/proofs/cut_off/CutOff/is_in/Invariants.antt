use Rattle.std.proofs.Common.{◌≡◌, ◌≤◌, ◌-◌, List, ℕ, Some, length}
use Rattle.folder_store.specs.FileFolder.{content_at}
use Rattle.folder_store.proofs.Kept.{AgreesTo}
use Rattle.folder_store.proofs.cut_off.CutOff.is_in.Given as goal

abbrev pub invariant-pieces : goal.invariant-pieces
invariant-pieces g l =
    (l.self ≡ record l.fn.self { folder = l.self.folder }) × (l.at ≤ length l.entry)
    × (g.F.FolderState.sound l.self.folder → (was : List ℕ)
    → content_at (g.F.FolderState.directory l.self.folder) l.self.name.now ≡ Some was → AgreesTo l.at l.entry was)

abbrev pub decreases-pieces : goal.decreases-pieces
decreases-pieces g l = length l.entry - l.at
