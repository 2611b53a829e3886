use Rattle.std.proofs.{Common.{[], ◌∷◌, Global, map, string_bytes, sym, take}, lemmas.List.{map_more, Elements.filter-append}}
use Rattle.mail_store.specs.Held.{asks, is_sought}
use Rattle.mail_store.proofs.maildir.names.sought_names.Goals as goal

pub loop-name-preserved : goal.loop-name-preserved
loop-name-preserved c = rw (
  c.in_ok-add_sought.ensures,
  c.loop-name.invariant,
  map_more (string_bytes {Z = Global}) c.args.names.now c.loop-name.name-index c.name-item.result c.loop-name-test.true,
  ← c.name-item.is,
) (sym (filter-append (is_sought (asks c.args.asked)) (map string_bytes (take c.loop-name.name-index c.args.names.now))
    (string_bytes c.name-item.result ∷ [])))
