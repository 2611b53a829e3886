-- Answers with a text, which are made and sent as the text is read.
use Rattle.std.specs.Prelude.{◌≡◌, ◌<◌, ◌-◌, ◌^◌, ℕ, Bool, true, false, List, ◌++◌, Option, Some, None, length, take}
use Rattle.std.specs.Prelude.{slice_get}
use Rattle.mail_terms.specs.FailureCount.{Tallies}
use Rattle.pop3_wire.specs.World.{Message}
use Rattle.pop3_server.specs.{
  declared.{rows.MessageRow.MessageRow, state.State.{State, TheVariants.Transaction}, text_part.TextBody.TextBody},
  Maildrop.{DropMail, refusing},
  ServerMachine.{Answers, Action, Give, Known, text_body},
  TextBody.still,
}

-- a call was refused or not, and nothing else changed
abbrev pub after_call : Bool → DropMail → DropMail
after_call true old = refusing old
after_call false old = old

-- calls that read, of which the last may be refused: no message and no place changed
pub record OnlyReads {D : Type 0} (sound : D → Type 0) (mail : D
    → DropMail) (refused : Bool) (old new : D) : Type 0 where
  pub failures : Tallies refused (mail old).failures (mail new).failures
  pub removals : (mail new).removals ≡ (mail old).removals
  pub known : Known sound mail old new (λ before after. after ≡ after_call refused before)

-- the text of the message at this place begins with these octets
abbrev pub BeginsTextAt : DropMail → ℕ → List ℕ → Type 0
BeginsTextAt mail i text = (message : Message) × (slice_get mail.slots i ≡ Some (Some message))
    × (text ≡ take (length text) message.text)

-- this much was made of an answer with a text, and the rest of the text is to be read
pub record BeginsAnswer {D : Type 0} (sound : D → Type 0) (mail : D → DropMail) (asked : Action) (old : D)
    (made : List ℕ) (text : TextBody) (next : State) (new : D) : Type 0 where
  pub rows : List MessageRow
  pub line : List ℕ
  pub top : Option ℕ
  pub gives : asked ≡ Give rows text.place line top
  pub state : next ≡ Transaction rows
  pub read : List ℕ
  pub start : text.start ≡ length read
  -- however the text goes on after what was read, its answer goes on from here
  pub goes_on : (more : List ℕ) → line ++ text_body top (read ++ more) ≡ made ++ still text more
  pub reads : OnlyReads sound mail false old new
  pub known : sound new → BeginsTextAt (mail old) text.place read

-- an answer was made, or its beginning if a text follows
abbrev pub AnswersOrBegins : {D : Type 0} → (D → Type 0) → (D → DropMail) → Action → D → List ℕ
    → Option TextBody → State
    → D → Type 0
AnswersOrBegins sound mail asked old made None next new = Answers sound mail asked old made next new
AnswersOrBegins sound mail asked old made (Some text) next new = BeginsAnswer sound mail asked old made text next new

-- whatever answer the earlier octets of a reply begin, all of them begin it too, or are the whole
abbrev pub ContinuesAnswer : {D : Type 0} → (D → Type 0) → (D → DropMail) → D → List ℕ → TextBody → D → List ℕ
    → Option TextBody → Type 0
ContinuesAnswer {D} sound mail before earlier text after octets rest = (asked : Action) (old : D) (sent : List ℕ)
    (next : State)
    → BeginsAnswer sound mail asked old (sent ++ earlier) text next before
    → AnswersOrBegins sound mail asked old (sent ++ octets) rest next after

-- the same text, of which more was read
pub record IsFurther (before after : TextBody) : Type 0 where
  pub place : after.place ≡ before.place
  pub more : before.start < after.start
  pub within : after.start < 2 ^ 64

-- a text follows only what has more octets than the limit, and some of it was read
abbrev pub Follows : ℕ → TextBody → Type 0
Follows limit text = (0 < text.start) × (limit < 2 ^ 64 - 1)
