-- A link whose answers are a server's.
use Rattle.std.specs.{Prelude.{◌≡◌, Bool, true, false, ℕ, List, [], ◌++◌}, List.{flat_map, AllByRecursion}}
use Rattle.pop3_wire.specs.{Line.{IsLine, ended}, Link.Link}
use Rattle.pop3_server.specs.{
  Maildrop.DropMail,
  ServerMachine.{Machine, greeting_line, is_open},
  AnswersLines.{AnswersLines, SameServer},
}

-- a server and a link to it: its answers so far, what is left to give of the greeting and these answers, what
-- was sent and isn't answered, and whether the link is down
pub record Loop (D : Type 0) : Type 0 where
  pub machine : Machine D
  pub link : Link
  pub answers : List ℕ
  pub left : List ℕ
  pub waiting : List ℕ
  pub down : Bool

-- what was got, followed by what is left to give, is the greeting and the answers
abbrev pub TellsAnswers : {D : Type 0} → Loop D → Type 0
TellsAnswers loop = loop.link.got ++ loop.left ≡ greeting_line ++ loop.answers

-- every whole line that was sent while the server was open is answered
abbrev pub AnswersWholeLines : {D : Type 0} → Loop D → Type 0
AnswersWholeLines loop = is_open loop.machine.state ≡ true → IsLine loop.waiting

-- between the two the server answered lines that were sent, in order; if the link went down, the last answers
-- may be lost
pub record Serves {D : Type 0} (sound : D → Type 0) (mail : D → DropMail) (old new : Loop D) : Type 0 where
  pub lines : List (List ℕ)
  pub more : List ℕ
  pub lost : List ℕ
  pub gained : List ℕ
  pub last : Machine D
  pub each : AllByRecursion IsLine lines
  pub run : AnswersLines sound mail old.machine lines (more ++ lost) last
  pub same : SameServer sound mail last new.machine
  pub answers : new.answers ≡ old.answers ++ more
  pub told : TellsAnswers old → TellsAnswers new
  pub sent : new.link.sent ≡ old.link.sent ++ gained
  pub heard : old.waiting ++ gained ≡ flat_map ended lines ++ new.waiting
  -- while the link is up nothing is lost, no whole line waits, and the server is the one that answered
  pub whole : new.down ≡ false → (lost ≡ []) × (new.machine ≡ last) × (AnswersWholeLines old → AnswersWholeLines new)
  -- after it went down, nothing more is answered
  pub over : old.down ≡ true → (lines ≡ []) × (more ≡ []) × (lost ≡ []) × (new.down ≡ true)
