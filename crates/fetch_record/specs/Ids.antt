-- The ids of the record's rows as the map keeps them.
use Rattle.std.specs.Prelude.{ℕ, List, string_bytes}
use Rattle.fetch_record.specs.declared.id.Id.{Id, TheVariants.{Short, Long}}

abbrev pub id_octets : Id → List ℕ
id_octets (Short text) = text.bytes
id_octets (Long text) = string_bytes text
