-- Unique-ids that stand in one buffer, and the places of rows and of messages in it.
use Rattle.std.specs.Prelude.{◌≡◌, ℕ, ◌<◌, ◌≤◌, ◌*◌, List, length, slice_index, slice_index_or, slice_range, All}
use Rattle.mail_terms.specs.{
  UniqueId.IsLegalId,
  declared.listing.{Span.Span, UidPlace.UidPlace, ItemPlace.ItemPlace, ScanRow.ScanRow},
  Listing.{Item, UidRow, message_limit},
}

-- the octets of a span
abbrev pub id_at : List ℕ → Span → List ℕ
id_at ids span = slice_range ids span.start span.end

-- the row, and the message, of a place
abbrev pub row_at : List ℕ → UidPlace → UidRow
row_at ids place = record { number = place.number; uid = id_at ids place.span }

abbrev pub item_at : List ℕ → ItemPlace → Item
item_at ids place = record { uid = id_at ids place.span; size = place.size }

-- the span is in the buffer, and a legal id is there
pub record IsIdAt (ids : List ℕ) (span : Span) : Type 0 where
  pub order : span.start ≤ span.end
  pub within : span.end ≤ length ids
  pub legal : IsLegalId (id_at ids span)

-- the buffer of these rows: it holds their ids, and is short enough for a u32
pub record HoldRows (ids : List ℕ) (places : List UidPlace) : Type 0 where
  pub are : All (λ place. IsIdAt ids place.span) places
  pub few : length places ≤ message_limit
  pub short : length ids ≤ 70 * length places

-- each message has the span of the row of UIDL, and the size of the row of LIST, at its place
pub record AreAt (uids : List UidPlace) (uid_places : List ℕ) (sizes : List ScanRow) (size_places : List ℕ)
    (items : List ItemPlace) : Type 0 where
  pub spans : (k : ℕ) (item : ItemPlace) (row : UidPlace) → k < length items
      → (slice_index_or items k item).span ≡ (slice_index_or uids (slice_index uid_places k) row).span
  pub octets : (k : ℕ) (item : ItemPlace) (row : ScanRow) → k < length items
      → (slice_index_or items k item).size ≡ (slice_index_or sizes (slice_index size_places k) row).size
