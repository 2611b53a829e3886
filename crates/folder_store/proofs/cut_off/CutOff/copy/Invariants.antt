use Rattle.std.proofs.Common.{◌≡◌, ◌-◌, ◌≤◌, length, take}
use Rattle.folder_store.specs.{CutOff.{WhereKeptSound, bytes_from, grown}, Sound.WhereFilesSound}
use Rattle.folder_store.proofs.cut_off.CutOff.copy.Given as goal

abbrev pub invariant-loop-at : goal.invariant-loop-at
invariant-loop-at g l =
    let sound = g.F.FolderState.sound in
    let directory = g.F.FolderState.directory in
    let text = bytes_from (directory l.fn.other) l.name l.from in record {
      same : l.self ≡ record l.fn.self { folder = l.self.folder };
      reads : WhereFilesSound sound directory l.fn.other l.other (λ old new. new ≡ old);
      within : l.at - l.from ≤ l.end - l.from;
      begun : l.from ≤ l.at;
      copied : sound l.other → WhereKeptSound sound directory l.fn.self l.self (λ old new.
          (l.at - l.from ≤ length text) × (new ≡ grown (take (l.at - l.from) text) old));
    }

abbrev pub decreases-loop-at : goal.decreases-loop-at
decreases-loop-at g l = l.end - l.at
