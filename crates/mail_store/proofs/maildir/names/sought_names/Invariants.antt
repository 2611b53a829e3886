use Rattle.std.proofs.Common.{◌≡◌, filter, map, string_bytes, take}
use Rattle.mail_store.specs.Held.{asks, is_sought}
use Rattle.mail_store.proofs.maildir.names.sought_names.Given as goal

-- the names kept so far are those of the ones in front
abbrev pub invariant-loop-name : goal.invariant-loop-name
invariant-loop-name l = map string_bytes l.kept.items ≡ filter (is_sought (asks l.asked)) (map string_bytes (take l.name-index l.names))
