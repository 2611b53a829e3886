use Rattle.std.proofs.Common.{map, sym, ◌∙◌}
use Rattle.folder_drop.specs.{MemoryLaws.places, MemoryNames.place_of_name}
use Rattle.folder_drop.proofs.MemoryLemmas.{listed_in_order}
use Rattle.folder_drop.proofs.memory_files.MemoryFilesMailFiles.list.Goals as goal

pub returns-clause-told : goal.returns-clause-told
returns-clause-told c = c.in_ok-files.ensures ∙ sym (places c.args.self.now)

pub returns-clause-in_order : goal.returns-clause-in_order
returns-clause-in_order c =
    let names = c.args.self.now.names in
    listed_in_order c.in_ok-files.files.items (map place_of_name names.items.items) names.ascending c.in_ok-files.ensures
