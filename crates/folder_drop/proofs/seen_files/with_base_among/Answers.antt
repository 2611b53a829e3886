use Rattle.std.proofs.{
  Common.{◌≡◌, ◌-◌, List, arith, drop, length, rules, subst, sym, take},
  lemmas.List.{length-drop, take_all, Sorted.IsPartitionPoint-from_clause},
}
use Rattle.folder_drop.specs.{declared.maildir_names.PlacedFile.PlacedFile, SeenFiles.HaveBase}
use Rattle.folder_drop.proofs.SeenLemmas.{before_parted, is_before, with_base_are}
use Rattle.folder_drop.proofs.seen_files.with_base_among.Goals as goal

pub returns : goal.returns
returns c =
    let files = c.args.files.now in
    let start = c.partition_point-start.result in
    let count = c.count_with-count.result in
    let whole : take (length files - start) (drop start files) ≡ drop start files =
    take_all (length files - start) (drop start files) (omega (arith, length-drop start files)) in
    let are : HaveBase c.args.base.now files (take count (drop start files)) =
    with_base_are c.args.base.now files start count c.partition_point-start.ensures.bound
    (rw whole at c.count_with-count.ensures.within)
    c.requires (IsPartitionPoint-from_clause (is_before c.args.base.now) _ _ c.partition_point-start.ensures.partitioned
    (before_parted c.args.base.now _ c.requires) (λ a r q k. search rules))
    (rw whole at c.count_with-count.ensures.have) (rw whole at c.count_with-count.ensures.stops) in
    subst (λ (rest : List PlacedFile). HaveBase c.args.base.now files (take count rest)) (sym whole) are
