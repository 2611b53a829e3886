-- A conversation: turns and the replies to them, whole and in order, or the turn at which it stopped (RFC
-- 1939, section 3).
use Rattle.std.specs.{
  Prelude.{◌≡◌, ◌⊎◌, ◌+◌, ◌<◌, ◌≤◌, ℕ, Bool, true, false, List, [], ◌∷◌, ◌++◌, length, take, None, Some, Result, Ok},
  Prelude.{Err, IsOk},
  List.{flat_map, AllZip},
}
use Rattle.pop3_wire.specs.{
  Line.{IsLine, ended},
  Reply.IsFirstLine,
  Fields.number_and_size,
  Link.Link,
  Reading.{WholeReply, GivesCount, reply_bytes},
  declared.{reply.Status.TheVariants.{Positive, Negative}, command.Command.TheVariants.{Retr, Dele}},
  Place.{Place, GoesOn, Gains, HasLine},
}
use Rattle.pop3_client.specs.{
  declared.fault.ClientFault.ClientFault,
  declared.fault.ClientFault.TheVariants.{ConnectionEnded, ReadFailed, WriteFailed, ReplyTooLong, BadReply, Refused},
  declared.fault.ClientFault.TheVariants.{TooMany, NoMemory},
  Turns.{Turn, turn_bytes, asking, greeting, user, pass, stat, rset, quit, line_limit, IsShort, most, Fits, IsGood},
  Causes.{IsPartOfLine, IsOverlong, Cause},
}
use Rattle.mail_terms.specs.Listing.{message_limit}

-- these turns were sent, and each was answered by its reply, whole and good, in order; that no turn is sent
-- before the reply to the one before it is stated by `Stopped`
pub record Talked (turns : List Turn) (replies : List WholeReply) (old new : Place) : Type 0 where
  pub gained : List ℕ
  pub sent : new.link.sent ≡ old.link.sent ++ asking turns
  pub got : new.link.got ≡ old.link.got ++ gained
  pub heard : old.waiting ++ gained ≡ flat_map reply_bytes replies ++ new.waiting
  pub good : AllZip IsGood turns replies
  pub goes_on : GoesOn old.link new.link

-- the turn was sent, and its first line was taken, which is positive and fits the turn
pub record Opened (turn : Turn) (line : List ℕ) (old new : Place) : Type 0 where
  pub gained : List ℕ
  pub rest : List ℕ
  pub sent : new.link.sent ≡ old.link.sent ++ turn_bytes turn
  pub got : new.link.got ≡ old.link.got ++ gained
  pub heard : old.waiting ++ gained ≡ ended line ++ new.waiting
  pub is : IsLine line
  pub short : IsShort line
  pub positive : IsFirstLine line Positive rest
  pub fits : Fits turn rest
  pub goes_on : GoesOn old.link new.link

-- whether memory may run out before the turn: not for a constant line, nor for USER and PASS, whose lines are
-- made before the greeting
abbrev pub may_want : Turn → Bool
may_want None = true
may_want (Some (Retr number)) = true
may_want (Some (Dele number)) = true
may_want _ = false

-- a negative reply is used whole; nothing is stated of what was used before any other fault
abbrev pub TakesRefusal : ClientFault → List ℕ → Type 0
TakesRefusal (Refused to) used = (line : List ℕ) × IsLine line × (used ≡ ended line)
TakesRefusal _ used = Unit {0}

-- a part of the turn was sent, and the call was refused
pub record SentInPart (turn : Turn) (old new : Place) : Type 0 where
  pub front : List ℕ
  pub rest : List ℕ
  pub split : turn_bytes turn ≡ front ++ rest
  pub sent : new.link.sent ≡ old.link.sent ++ front
  pub got : new.link.got ≡ old.link.got
  pub waiting : new.waiting ≡ old.waiting
  pub risen : old.link.failures < new.link.failures

-- the turn was sent whole, and its reply isn't whole or isn't good; these octets of it were used, and the
-- rest waits
pub record NotAnswered (turn : Turn) (old new : Place) (fault : ClientFault) : Type 0 where
  pub gained : List ℕ
  pub used : List ℕ
  pub sent : new.link.sent ≡ old.link.sent ++ turn_bytes turn
  pub got : new.link.got ≡ old.link.got ++ gained
  pub heard : old.waiting ++ gained ≡ used ++ new.waiting
  pub within : length used ≤ most turn
  pub cause : Cause fault turn old.link new.link (old.waiting ++ gained)
  pub takes : TakesRefusal fault used

-- a turn broke: not all of it was sent; or it wasn't answered well; or memory ran out before it, and nothing
-- changed
abbrev pub Broke : Turn → Place → Place → ClientFault → Type 0
Broke turn old new fault =
    ((fault ≡ WriteFailed) × SentInPart turn old new)
    ⊎ NotAnswered turn old new fault
    ⊎ ((fault ≡ NoMemory) × (may_want turn ≡ true) × (new ≡ old))

-- some of the turns were completed, and the next one broke
pub record Stopped (turns : List Turn) (old new : Place) (fault : ClientFault) : Type 0 where
  pub done : List Turn
  pub replies : List WholeReply
  pub next : Turn
  pub later : List Turn
  pub mid : Place
  pub split : turns ≡ done ++ (next ∷ later)
  pub talked : Talked done replies old mid
  pub broke : Broke next mid new fault

-- these turns were completed, or the conversation stopped at one of them
abbrev pub Talks : List Turn → Place → Result (Unit {0}) ClientFault → Place → Type 0
Talks turns old (Ok done) new = (replies : List WholeReply) × Talked turns replies old new
Talks turns old (Err fault) new = Stopped turns old new fault

-- the first line of a turn's reply was taken, or the turn broke
abbrev pub AsksTurn : Turn → Place → Result (Unit {0}) ClientFault → Place → Type 0
AsksTurn turn old (Ok done) new = (line : List ℕ) × Opened turn line old new
AsksTurn turn old (Err fault) new = Broke turn old new fault

-- a turn was completed, or it broke
abbrev pub Completes : Turn → Place → Result (Unit {0}) ClientFault → Place → Type 0
Completes turn old (Ok done) new = (reply : WholeReply) × Talked (turn ∷ []) (reply ∷ []) old new
Completes turn old (Err fault) new = Broke turn old new fault

-- STAT was completed, and its reply gives this count; or it broke
abbrev pub CountsMessages : Place → Result ℕ ClientFault → Place → Type 0
CountsMessages old (Ok count) new = (reply : WholeReply) × Talked (stat ∷ []) (reply ∷ []) old new
    × GivesCount reply count
CountsMessages old (Err fault) new = Broke stat old new fault

-- logging in
abbrev pub login : List ℕ → List ℕ → List Turn
login name password = greeting ∷ user name ∷ pass password ∷ []

-- the turns that unmark all messages and end the session
abbrev pub undoing : List Turn
undoing = rset ∷ quit ∷ []

-- how many octets are taken at most for the replies to these turns
abbrev pub most_of : List Turn → ℕ
most_of [] = 0
most_of (turn ∷ turns) = most turn + most_of turns

-- a prefix of the octets of the next of these turns
abbrev pub IsFrontOfNext : List ℕ → List Turn → Type 0
IsFrontOfNext part [] = part ≡ []
IsFrontOfNext part (next ∷ later) = (more : List ℕ) × (turn_bytes next ≡ part ++ more)

-- what was sent is the octets of the first of these turns, each of which has its whole and good reply in what
-- came, and a front of the next one's octets; no more was taken than all of the turns may take
pub record Paced (turns : List Turn) (old new : Place) : Type 0 where
  pub done : List Turn
  pub rest : List Turn
  pub part : List ℕ
  pub replies : List WholeReply
  pub gained : List ℕ
  pub after : List ℕ
  pub split : turns ≡ done ++ rest
  pub begun : IsFrontOfNext part rest
  pub sent : new.link.sent ≡ old.link.sent ++ (asking done ++ part)
  pub front : (later : List ℕ) × (asking turns ≡ (asking done ++ part) ++ later)
  pub got : new.link.got ≡ old.link.got ++ gained
  pub good : AllZip IsGood done replies
  pub heard : old.waiting ++ gained ≡ flat_map reply_bytes replies ++ after
  pub within : length old.waiting + length gained ≤ most_of turns + length new.waiting

-- each conversation, whole or stopped, is paced
abbrev pub ConversationsArePaced : Type 0
ConversationsArePaced = (turns : List Turn) (old new : Place) (result : Result (Unit {0}) ClientFault)
    → Talks turns old result new → Paced turns old new

-- no turns make a conversation in which nothing happens, and turns after turns make one conversation
pub record TurnsJoin : Type 0 where
  pub none : (place : Place) → Talked [] [] place place
  pub on : (turns others : List Turn) (replies more : List WholeReply) (old mid new : Place)
      → Talked turns replies old mid → Talked others more mid new → Talked (turns ++ others) (replies ++ more) old new

-- ---- the parts of a turn

-- why no line waits, given the octets that wait
abbrev pub NoLineCause : ClientFault → Link → Link → List ℕ → Type 0
NoLineCause ConnectionEnded old new bytes = (new.ended ≡ true) × IsPartOfLine bytes
NoLineCause ReadFailed old new bytes = (old.failures < new.failures) × IsPartOfLine bytes
NoLineCause ReplyTooLong old new bytes = IsOverlong bytes
NoLineCause _ old new bytes = ⊥

-- a line waits, or why none does
abbrev pub Waits : Place → Result ℕ ClientFault → Place → Type 0
Waits old (Ok n) new = HasLine line_limit new.waiting n × GoesOn old.link new.link
Waits old (Err fault) new = NoLineCause fault old.link new.link new.waiting

-- no positive first line came: nothing was sent, and these octets were used
pub record NotHeard (turn : Turn) (old new : Place) (fault : ClientFault) : Type 0 where
  pub gained : List ℕ
  pub used : List ℕ
  pub sent : new.link.sent ≡ old.link.sent
  pub got : new.link.got ≡ old.link.got ++ gained
  pub heard : old.waiting ++ gained ≡ used ++ new.waiting
  pub within : length used ≤ line_limit
  pub cause : Cause fault turn old.link new.link (old.waiting ++ gained)
  pub takes : TakesRefusal fault used

-- a positive first line waits, or why none does
abbrev pub Heard : Turn → Place → Result ℕ ClientFault → Place → Type 0
Heard turn old (Ok n) new = (gained : List ℕ) × Gains old new gained × HasLine line_limit new.waiting n
    × GoesOn old.link new.link
    × ((rest : List ℕ) × IsFirstLine (take n new.waiting) Positive rest)
Heard turn old (Err fault) new = NotHeard turn old new fault

-- octets were sent whole, or a prefix of them and the call was refused
abbrev pub Sent : List ℕ → Link → Result (Unit {0}) ClientFault → Link → Type 0
Sent bytes old (Ok done) new = new ≡ record old { sent = old.sent ++ bytes }
Sent bytes old (Err fault) new = (fault ≡ WriteFailed)
    × ((front rest : List ℕ) × (bytes ≡ front ++ rest)
    × (new ≡ record old { sent = old.sent ++ front; failures = old.failures + 1 }))

-- a positive first line gives a count of at most 100,000 messages, or why it doesn't
abbrev pub GivesFew : List ℕ → Result ℕ ClientFault → Type 0
GivesFew line (Ok count) = (rest : List ℕ) × (size : ℕ) × IsFirstLine line Positive rest
    × (number_and_size rest ≡ Ok (count, size)) × (count ≤ message_limit)
GivesFew line (Err BadReply) = ((rest : List ℕ) → IsFirstLine line Negative rest → ⊥)
    × ((rest : List ℕ) → IsFirstLine line Positive rest → IsOk (number_and_size rest) → ⊥)
GivesFew line (Err TooMany) = (rest : List ℕ) × (count size : ℕ) × IsFirstLine line Positive rest
    × (number_and_size rest ≡ Ok (count, size)) × (message_limit < count)
GivesFew line (Err _) = ⊥

-- whether a fault is a refused call of the link
abbrev pub is_link_refusal : ClientFault → Bool
is_link_refusal ReadFailed = true
is_link_refusal WriteFailed = true
is_link_refusal _ = false
