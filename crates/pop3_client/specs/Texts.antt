-- The text of a message, piece by piece.
use Rattle.std.specs.Prelude.{◌≡◌, ◌≢◌, ◌≤◌, ◌<◌, ◌↔◌, ◌+◌, ℕ, List, [], ◌∷◌, ◌++◌, length, take, Option, None, Some}
use Rattle.std.specs.Prelude.{Result, Ok, Err, IsTrue}
use Rattle.pop3_wire.specs.{
  Body.text_of,
  Place.Place,
  Reading.WholeReply,
  declared.{body_reader.Piece.Piece, unstuffer.Spot.TheVariants.Done},
  Bodies.{Rest, UnderWay},
}
use Rattle.pop3_client.specs.{
  declared.fault.ClientFault.ClientFault,
  Turns.{Turn, text_limit},
  Conversation.{Talked, Opened, Broke, NotAnswered},
}

-- the text that a reply's body carries
abbrev pub body_text : Option (List (List ℕ)) → List ℕ
body_text None = []
body_text (Some lines) = text_of lines

-- a text was asked for, and taken to its end
abbrev pub Fetched : Turn → Place → List ℕ → Place → Type 0
Fetched turn old text new = (reply : WholeReply) × Talked (turn ∷ []) (reply ∷ []) old new
    × (text ≡ body_text reply.body)

-- a text is being taken, or has ended: the first line of the reply was taken, and this part of its body,
-- which gives this part of the text
pub record Fetching (turn : Turn) (old new : Place) (body : Rest) (text : List ℕ) : Type 0 where
  pub line : List ℕ
  pub mid : Place
  pub opened : Opened turn line old mid
  pub under : UnderWay text_limit mid new body text

-- a text was asked for, and can be taken; or its turn broke
abbrev pub OpensText : Turn → Place → Result Rest ClientFault → Place → Type 0
OpensText turn old (Ok body) new = Fetching turn old new body []
OpensText turn old (Err fault) new = Broke turn old new fault

-- a piece was taken of what was left of a body: what it adds to the text is in the buffer, it says whether the body has
-- ended, and if it hasn't, less is left
pub record TookPiece (old : Rest) (piece : Piece) (out : List ℕ) (new : Rest) : Type 0 where
  pub fits : piece.put ≤ length out
  pub ended : IsTrue piece.ended ↔ (new.spot ≡ Done)
  pub octets : old.left ≡ new.left + piece.octets
  pub less : new.spot ≢ Done → new.left < old.left

-- the next piece of a text, which is whole after the last one; or its turn broke
abbrev pub FetchesPiece : Turn → Place → List ℕ → Result Piece ClientFault → List ℕ → Place → Rest → Type 0
FetchesPiece turn start text (Ok piece) out new body = Fetching turn start new body (text ++ take piece.put out)
    × (IsTrue piece.ended → Fetched turn start (text ++ take piece.put out) new)
FetchesPiece turn start text (Err fault) out new body = NotAnswered turn start new fault

-- the rest of a text was taken to its end, or its reply isn't whole: nothing was sent meanwhile
abbrev pub TakesRest : Turn → Place → Result (Unit {0}) ClientFault → Place → Type 0
TakesRest turn start (Ok done) new = (reply : WholeReply) × Talked (turn ∷ []) (reply ∷ []) start new
TakesRest turn start (Err fault) new = NotAnswered turn start new fault
