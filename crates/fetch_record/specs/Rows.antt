-- The record's rows as the reader and the map have them.
use Rattle.std.specs.Prelude.{ℕ, List, Option, map, find, option_map}
use Rattle.fetch_record.specs.{Ids.id_octets, Record.{Row, is_of}, declared.{id.Id.Id, row_map.State.State}}

-- the row of an id and what is known of its message
abbrev pub row_from : List ℕ → State → Row
row_from uid state = record { uid = uid; first_seen = state.first_seen; delivered = state.delivered }

abbrev pub row_of_state : Id × State → Row
row_of_state entry = row_from (id_octets entry.0) entry.1

-- the entries of the map, as rows
abbrev pub rows_of_states : List (Id × State) → List Row
rows_of_states entries = map row_of_state entries

-- what is known of a row's message
abbrev pub state_of : Row → State
state_of row = record { first_seen = row.first_seen; delivered = row.delivered }

-- what is known of an id's message, if it has a row
abbrev pub state_in : List Row → List ℕ → Option State
state_in rows uid = option_map state_of (find (is_of uid) rows)
