-- Taking one body from a link.
use Rattle.std.specs.Prelude.{◌≡◌, ◌+◌, ◌<◌, ◌≤◌, ℕ, Bool, true, false, List, [], ◌++◌, length, take, Result, Ok, Err}
use Rattle.std.specs.Prelude.{Vec}
use Rattle.pop3_wire.specs.{
  Body.HasNoBody,
  Link.Link,
  Unstuffing.Reaches,
  declared.body_reader.{Piece.Piece, BodyFault.{BodyFault, TheVariants.{Ended, Failed, TooLong}}},
  declared.unstuffer.Spot.Spot,
  Place.{Place, GoesOn},
}

-- nothing was sent, and these octets were got
pub record Drew (old new : Link) (gained : List ℕ) : Type 0 where
  pub got : new.got ≡ old.got ++ gained
  pub sent : new.sent ≡ old.sent

-- nothing came: the link has ended, or a call was refused
abbrev pub DrawsNothing : BodyFault → Link → Link → Type 0
DrawsNothing Ended old new = Drew old new [] × (new.ended ≡ true) × (new.failures ≡ old.failures)
DrawsNothing Failed old new = Drew old new [] × (new.ended ≡ old.ended) × (new.failures ≡ old.failures + 1)
DrawsNothing TooLong old new = ⊥

-- at most `limit` of the octets that waited and were gained were used, and all that follow them wait
pub record LeavesRest (limit : ℕ) (old new : Place) : Type 0 where
  pub gained : List ℕ
  pub used : List ℕ
  pub got : new.link.got ≡ old.link.got ++ gained
  pub within : length used ≤ limit
  pub heard : old.waiting ++ gained ≡ used ++ new.waiting

-- why there is no text, given the octets that have come: the link has ended, a call was refused, or the limit is
-- reached
abbrev pub BodyCause : ℕ → BodyFault → Link → Link → List ℕ → Type 0
BodyCause limit Ended old new bytes = HasNoBody bytes × (length bytes < limit) × (new.ended ≡ true)
    × (new.failures ≡ old.failures)
BodyCause limit Failed old new bytes = HasNoBody bytes × (length bytes < limit) × (new.ended ≡ old.ended)
    × (new.failures ≡ old.failures + 1)
BodyCause limit TooLong old new bytes = HasNoBody (take limit bytes) × (limit ≤ length bytes) × GoesOn old new

-- a reader's spot in a body, and how many octets it may still take
pub record Rest : Type 0 where
  pub spot : Spot
  pub left : ℕ

abbrev pub rest_of : Spot → ℕ → Rest
rest_of spot left = record { spot = spot; left = left }

-- a body is being read, or has ended: of the octets that waited and were gained these were used, they give
-- this part of the text, and the rest waits
pub record UnderWay (limit : ℕ) (old new : Place) (body : Rest) (text : List ℕ) : Type 0 where
  pub used : List ℕ
  pub gained : List ℕ
  pub reached : Reaches body.spot used text
  pub sizes : length used + body.left ≡ limit
  pub heard : old.waiting ++ gained ≡ used ++ new.waiting
  pub drew : Drew old.link new.link gained
  pub goes_on : GoesOn old.link new.link

-- the next piece of that body was added to the known text; or there is none, for this cause
abbrev pub TakesPiece : ℕ → Place → List ℕ → Result Piece BodyFault → List ℕ → Place → Rest → Type 0
TakesPiece limit start text (Ok piece) out new body = UnderWay limit start new body (text ++ take piece.put out)
TakesPiece limit start text (Err fault) out new body = LeavesRest limit start new
    × ((gained : List ℕ) × Drew start.link new.link gained
    × BodyCause limit fault start.link new.link (start.waiting ++ gained))

-- the items of the vector that a call returned
abbrev pub items_of : {A Z E : Type 0} → Result (Vec A Z) E → Result (List A) E
items_of (Ok v) = Ok v.items
items_of (Err e) = Err e

-- whether a fault is a refused call
abbrev pub is_body_refusal : BodyFault → Bool
is_body_refusal Ended = false
is_body_refusal Failed = true
is_body_refusal TooLong = false
