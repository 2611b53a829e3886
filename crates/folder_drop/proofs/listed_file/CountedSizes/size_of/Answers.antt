use Rattle.std.proofs.{Common.{Contains, sym}, lemmas.{List.Elements.Contains-get_or, Option.IfSome_then}}
use Rattle.folder_drop.proofs.listed_file.CountedSizes.size_of.Goals as goal

pub returns-then-is_same-clause-counted : goal.returns-then-is_same-clause-counted
returns-then-is_same-clause-counted c =
    let file = c.file-item.result in
    let first : Contains c.loop-self.self.files.now file =
    rw c.file-item.is (Contains-get_or c.loop-self.self.files.now 0 file c.in-len1-up.len_at_least) in
    let there = c.is_same.ensures.0 c.if-is_same.true in
    IfSome_then c.size_at.result c.size_at.ensures (λ s is. record {
      file = file;
      listed = c.loop-self.invariant file first;
      folder = there.0;
      name = there.1;
      same =
          sym is.1;
      size = sym is.0;
    })
