-- What is said after a fault.
use Rattle.std.specs.Prelude.{◌≡◌, ℕ, List, [], ◌∷◌, ◌++◌, Option, None, Some, Result, Ok, Err}
use Rattle.pop3_wire.specs.{
  Bodies.Rest,
  declared.{unstuffer.Spot.TheVariants.Done, note.Asked.TheVariants.Quit},
  Place.Place,
}
use Rattle.pop3_client.specs.{
  Texts.{Fetching, TakesRest},
  Turns.{Turn, asking, quit, rset, retr},
  Conversation.Talks,
  declared.fault.ClientFault.ClientFault,
}
use Rattle.session_parts.specs.declared.{
  fault.{Cut.Cut, Fault.{Fault, TheVariants.{Refused, StoreRefused, SeenRefused, BadSeen}}},
  tail.Tail.{Tail, TheVariants.{Nothing, Leave, Undo}},
}

abbrev pub turns_of_tail : Tail → List Turn
turns_of_tail Nothing = []
turns_of_tail Leave = quit ∷ []
turns_of_tail Undo = rset ∷ quit ∷ []

-- after a refused command other than QUIT, QUIT; after a refused store or a refused or bad record, RSET, and QUIT once
-- that is answered well; after any other fault, nothing
abbrev pub tail : Fault → Tail
tail (Refused Quit) = Nothing
tail (Refused to) = Leave
tail (StoreRefused why) = Undo
tail SeenRefused = Undo
tail (BadSeen line) = Undo
tail _ = Nothing

-- the rest of the reply under way, if one is, was read and dropped (a whole one has no rest); or its turn broke
abbrev pub Drops : Option Rest → Place → Result (Unit {0}) ClientFault → Place → Type 0
Drops None old (Ok done) new = new ≡ old
Drops None old (Err fault) new = ⊥
Drops (Some rest) old result new = (rest.spot ≡ Done → (result ≡ Ok tt) × (new ≡ old))
    × ((number : ℕ) (start : Place) (text : List ℕ) → Fetching (retr number) start old rest text
    → TakesRest (retr number) start result new)

-- what was sent and what came went on from before, and what was sent since is a front of what these turns send
pub record WentOn (turns : List Turn) (old new : Place) : Type 0 where
  pub said : List ℕ
  pub gained : List ℕ
  pub sent : new.link.sent ≡ old.link.sent ++ said
  pub got : new.link.got ≡ old.link.got ++ gained
  pub front : (later : List ℕ) × (asking turns ≡ said ++ later)

-- with no reply under way, or a whole one, the tail was talked, or it stopped; with nothing to say, nothing came. With
-- a reply, its turn and then the tail were talked, or stopped, from where that turn began, and what was sent and what
-- came went on from before
abbrev pub TalksTailBy : Fault → Option Rest → Place → Place → Type 0
TalksTailBy fault None old new = (result : Result (Unit {0}) ClientFault)
    × Talks (turns_of_tail (tail fault)) old result new
    × (tail fault ≡ Nothing → new ≡ old)
TalksTailBy fault (Some rest) old new = (rest.spot ≡ Done → (result : Result (Unit {0}) ClientFault)
    × Talks (turns_of_tail (tail fault)) old result new)
    × ((number : ℕ) (start : Place) (text : List ℕ) → Fetching (retr number) start old rest text
    → (result : Result (Unit {0}) ClientFault) × Talks (retr number ∷ turns_of_tail (tail fault)) start result new
    × WentOn (turns_of_tail (tail fault)) old new)

abbrev pub TalksTail : Cut → Place → Place → Type 0
TalksTail cut old new = TalksTailBy cut.fault cut.rest old new
