use Rattle.std.proofs.{
  Common.{Global, bytes_eq, map, rules, string_bytes, tests},
  lemmas.Iterator.{Adapters.YieldsList-from_vec, Consumers.parts_from_yields_List},
}
use Rattle.mail_terms.{specs.UniqueId.has_id, proofs.ListLemmas.any_map}
use Rattle.test_devices.proofs.OddNames.{read_each}
use Rattle.test_devices.proofs.memory_folders.parted.Goals as goal

pub returns : goal.returns
returns c =
    let others = c.args.others.now in
    parts_from_yields_List _ (has_id (map string_bytes others)) _ c.partition.ensures.ran
    (read_each string_bytes (YieldsList-from_vec c.args.names.items (cc) (cc)))
    (λ x r q k. search (rules, tests, any_map (bytes_eq (string_bytes x)) (string_bytes {Z = Global}) others))
