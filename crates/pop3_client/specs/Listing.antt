-- The rows of listings, and how two listings are joined with STAT's count (RFC 1939, sections 5 and 7).
use Rattle.std.specs.{
  Prelude.{◌≡◌, ◌⊎◌, ◌<◌, ℕ, true, List, [], ◌∷◌, ◌++◌, Result, Ok, Err},
  List.{AllByRecursion, AllZip},
}
use Rattle.pop3_wire.specs.{
  Body.{IsContent, body_of},
  Reading.{WholeReply, IsUidLine, IsScanLine, HasListing},
  Link.Link,
  Bodies.Drew,
  Place.{Place, GoesOn},
}
use Rattle.mail_terms.specs.{Listing.{Item, Agree, Joins, message_limit, UidRow}, declared.listing.ScanRow.ScanRow}
use Rattle.pop3_client.specs.{
  declared.fault.ClientFault.ClientFault,
  declared.fault.ClientFault.TheVariants.{ConnectionEnded, ReadFailed, ReplyTooLong, BadListing, ListingsDisagree},
  declared.fault.ClientFault.TheVariants.{TooMany, NoMemory},
  Turns.{Turn, uidl, list, IsListingRow, LinesFit},
  Causes.{IsPartOfListing, HasRows, IsOverlong, RowBehind},
  Conversation.{Talked, Stopped, Broke},
}

-- both listings were asked for and taken, whole
pub record Listed (old new : Place) (uids : List UidRow) (sizes : List ScanRow) : Type 0 where
  pub first : WholeReply
  pub second : WholeReply
  pub talked : Talked (uidl ∷ list ∷ []) (first ∷ second ∷ []) old new
  pub names : HasListing IsUidLine first uids
  pub octets : HasListing IsScanLine second sizes

-- both listings were taken, and these are the messages, joined; or the conversation stopped; or the listings don't
-- agree with the count and with each other; or memory ran out while they were joined, and nothing else was sent
abbrev pub GetsListing : ℕ → Place → Result (List Item) ClientFault → Place → Type 0
GetsListing count old (Ok items) new = (uids : List UidRow) × (sizes : List ScanRow) × Listed old new uids sizes
    × Joins count uids sizes items
GetsListing count old (Err fault) new = Stopped (uidl ∷ list ∷ []) old new fault
    ⊎ ((fault ≡ ListingsDisagree) × ((uids : List UidRow) × (sizes : List ScanRow) × Listed old new uids sizes
    × (Agree count uids sizes → ⊥)))
    ⊎ ((fault ≡ NoMemory) × ((uids : List UidRow) × (sizes : List ScanRow) × Listed old new uids sizes))

-- ---- the parts of a listing

-- the rows that a call returned
abbrev pub rows_taken : {S R E : Type 0} → (S → List R) → Result S E → Result (List R) E
rows_taken rows (Ok taken) = Ok (rows taken)
rows_taken rows (Err fault) = Err fault

-- why a listing isn't good, given the octets after its first line
abbrev pub RowsCause : ClientFault → Turn → Link → Link → List ℕ → Type 0
RowsCause ConnectionEnded turn old new after = (new.ended ≡ true) × IsPartOfListing turn after
RowsCause ReadFailed turn old new after = (old.failures < new.failures) × IsPartOfListing turn after
RowsCause ReplyTooLong turn old new after = (behind : List ℕ) × (lines : List (List ℕ))
    × HasRows turn after behind lines × IsOverlong behind
RowsCause BadListing turn old new after = (row : List ℕ) × (rows : ℕ) × RowBehind turn after row rows
    × (rows < message_limit) × (IsListingRow turn row → ⊥)
RowsCause TooMany turn old new after = (row : List ℕ) × RowBehind turn after row message_limit
RowsCause NoMemory turn old new after = (row : List ℕ) × (rows : ℕ) × RowBehind turn after row rows
    × (rows < message_limit) × IsListingRow turn row
RowsCause _ turn old new after = ⊥

-- the lines of a listing were taken, its end mark included
pub record TookLines (turn : Turn) (old new : Place) (lines : List (List ℕ)) : Type 0 where
  pub gained : List ℕ
  pub drew : Drew old.link new.link gained
  pub goes_on : GoesOn old.link new.link
  pub content : AllByRecursion IsContent lines
  pub fit : LinesFit turn lines
  pub heard : old.waiting ++ gained ≡ body_of lines ++ new.waiting

-- why the rows after a first line weren't taken; these of them were used
pub record NotTaken (turn : Turn) (old new : Place) (fault : ClientFault) : Type 0 where
  pub gained : List ℕ
  pub used : List (List ℕ)
  pub drew : Drew old.link new.link gained
  pub cause : RowsCause fault turn old.link new.link (old.waiting ++ gained)
  pub has : HasRows turn (old.waiting ++ gained) new.waiting used

-- the rows after a first line were taken, or why not
abbrev pub TakesRows : {R : Type 0} → Turn → (List ℕ → R → Type 0) → Place → Result (List R) ClientFault
    → Place → Type 0
TakesRows turn IsThisRow old (Ok rows) new = (lines : List (List ℕ)) × TookLines turn old new lines
    × AllZip IsThisRow lines rows
TakesRows turn IsThisRow old (Err fault) new = NotTaken turn old new fault

-- a listing was asked for and taken, or its turn broke
abbrev pub ListsRows : {R : Type 0} → Turn → (List ℕ → R → Type 0) → Place → Result (List R) ClientFault
    → Place → Type 0
ListsRows turn IsThisRow old (Ok rows) new = (reply : WholeReply) × Talked (turn ∷ []) (reply ∷ []) old new
    × HasListing IsThisRow reply rows
ListsRows turn IsThisRow old (Err fault) new = Broke turn old new fault
