-- The listing of a maildrop: the rows of UIDL and of LIST, joined by their numbers (RFC 1939,
-- sections 5 and 7).
use Rattle.std.specs.{
  Prelude.{◌≡◌, ℕ, ◌-◌, Bool, not, ◌&&◌, List, length, map, take, drop, zip, bytes_eq, All, HoldsAt},
  List.{list_any, enumerate_from},
}
use Rattle.mail_terms.specs.{Distinct.AreDistinct, Numbering.IsNumbering, declared.listing.ScanRow.ScanRow}

-- how many messages a listing may hold
abbrev pub message_limit : ℕ
message_limit = 100000

-- one message of a maildrop: its unique-id and its listed size in octets
pub record Item : Type 0 where
  pub uid : List ℕ
  pub size : ℕ

-- the unique-ids of some messages
abbrev pub ids_of : List Item → List (List ℕ)
ids_of listing = map (λ (item : Item). item.uid) listing

-- no two of the messages have the same id
abbrev pub HasDistinctIds : List Item → Type 0
HasDistinctIds listing = AreDistinct (ids_of listing)

-- each message with its number, counted from 1
abbrev pub numbered : List Item → List (ℕ × Item)
numbered listing = enumerate_from 1 listing

-- whether one of these items has the id
abbrev pub has_item : List Item → List ℕ → Bool
has_item items uid = list_any (λ item. bytes_eq uid item.uid) items

-- whether no earlier message has the id
abbrev pub is_first : List Item → ℕ × Item → Bool
is_first listing message = not (has_item (take (message.0 - 1) listing) message.1.uid)

-- whether no later message has the id
abbrev pub is_last : List Item → ℕ × Item → Bool
is_last listing message = not (has_item (drop message.0 listing) message.1.uid)

-- whether a message of the id is flagged
abbrev pub is_flagged : List Item → List Bool → List ℕ → Bool
is_flagged listing flags uid = list_any (λ flagged. flagged.1 && bytes_eq flagged.0.uid uid) (zip listing flags)

-- a row of UIDL's answer
pub record UidRow : Type 0 where
  pub number : ℕ
  pub uid : List ℕ

-- the rows of UIDL and of LIST can be joined: both number the messages from 1 to n
abbrev pub Agree : ℕ → List UidRow → List ScanRow → Type 0
Agree n uids sizes = IsNumbering n (map (λ row. row.number) uids) × IsNumbering n (map (λ row. row.number) sizes)

-- the items are the messages 1 to n in order, and each row gives the id, or the size, of the item of its number
pub record Joins (n : ℕ) (uids : List UidRow) (sizes : List ScanRow) (items : List Item) : Type 0 where
  pub agree : Agree n uids sizes
  pub count : length items ≡ n
  pub ids : All (λ row. HoldsAt (λ item. item.uid ≡ row.uid) items (row.number - 1)) uids
  pub octets : All (λ row. HoldsAt (λ item. item.size ≡ row.size) items (row.number - 1)) sizes
