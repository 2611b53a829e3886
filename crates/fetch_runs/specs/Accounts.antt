-- What an account holds between sessions. A reader that moves files between `new` and `cur` or changes their
-- marks changes nothing here.
-- The messages of a maildrop: their ids, their listing, and which of them are selected.
use Rattle.std.specs.{Prelude.{◌&&◌, ℕ, Bool, List, map, bytes_eq, not}, List.{filter, list_any}}
use Rattle.fetch_record.specs.Record.{Row}
use Rattle.mail_store.specs.{Maildir.{File, Maildir, file}, FileName.{names_id, stem}}
use Rattle.mail_terms.specs.{UniqueId.has_id, Listing.Item}
use Rattle.fetch_rules.specs.Wanted.{is_within}
use Rattle.pop3_wire.specs.World.{Message}

-- the rows of the record, and the Maildir
pub record AccountMail : Type 0 where
  pub rows : List Row
  pub maildir : Maildir

-- the files of `new` and `cur`; delivered files come last
abbrev pub files : AccountMail → List File
files account = account.maildir.files

-- files by their names and bytes, whatever of them is durable
abbrev pub without_flags : List File → List File
without_flags fs = map (λ (f : File). file f.name f.content) fs

-- the contents of the files whose names have this stem
abbrev pub copies : List File → List ℕ → List (List ℕ)
copies fs front = map (λ (f : File). f.content) (filter (λ (f : File). bytes_eq front (stem f.name)) fs)

-- a file of the id is there whose name is durable
abbrev pub has_named : List ℕ → Maildir → List ℕ → Bool
has_named account maildir id = list_any (λ (f : File). names_id account id f.name && f.is_named) maildir.files

abbrev pub message_ids : List Message → List (List ℕ)
message_ids ms = map (λ (m : Message). m.uid) ms

-- what a listing says of a message
abbrev pub item_of : Message → Item
item_of m = record { uid = m.uid; size = m.size }

abbrev pub listing_of : List Message → List Item
listing_of ms = map item_of ms

-- the messages whose listed size is within the limit; 0 is no limit
abbrev pub is_selected : ℕ → Message → Bool
is_selected limit m = is_within limit m.size

abbrev pub selected : ℕ → List Message → List Message
selected limit ms = filter (is_selected limit) ms

-- the texts of the messages that have the id
abbrev pub texts_of : List Message → List ℕ → List (List ℕ)
texts_of ms id = map (λ (m : Message). m.text) (filter (λ (m : Message). bytes_eq id m.uid) ms)

-- the messages without those of these ids
abbrev pub without : List (List ℕ) → List Message → List Message
without ids ms = filter (λ (m : Message). not (has_id ids m.uid)) ms
