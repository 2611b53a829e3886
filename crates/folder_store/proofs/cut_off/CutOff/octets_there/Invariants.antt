use Rattle.std.proofs.Common.{◌≡◌, ◌-◌, ◌≤◌, Ok, take}
use Rattle.folder_store.specs.{CutOff.{MakesMissing, WhereKeptSound, bytes_from, bytes_of, last_of, seen_in}, Sound.WhereFilesSound}
use Rattle.folder_store.proofs.cut_off.CutOff.octets_there.Given as goal

abbrev pub invariant-loop-done : goal.invariant-loop-done
invariant-loop-done g l =
    let sound = g.F.FolderState.sound in
    let directory = g.F.FolderState.directory in
    let ours = last_of l.shared (bytes_of (seen_in directory l.fn.self)) in record {
      same : l.self ≡ record l.fn.self { folder = l.self.folder };
      reads : WhereFilesSound sound directory l.fn.other l.other (λ old new. new ≡ old);
      stays : WhereKeptSound sound directory l.fn.self l.self (λ old new. MakesMissing old (Ok l.size) new);
      alike : sound l.other → sound l.self.folder → (l.done ≤ l.shared)
          × (take l.done ours ≡ take l.done (bytes_from (directory l.fn.other) l.name l.start));
    }

abbrev pub decreases-loop-done : goal.decreases-loop-done
decreases-loop-done g l = l.shared - l.done
