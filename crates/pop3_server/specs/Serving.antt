-- What serving a link does: lines come in, and their answers are sent.
use Rattle.std.specs.{
  Prelude.{◌≡◌, ◌⊎◌, ◌≤◌, ◌<◌, ◌+◌, ◌-◌, ℕ, Bool, true, false, List, [], ◌∷◌, ◌++◌, length, Option, Some, Result, Ok},
  Prelude.Err,
  List.{flat_map, AllByRecursion},
}
use Rattle.pop3_wire.specs.{Line.{IsLine, ended}, Bodies.Drew, Link.Link, Place.HasLine}
use Rattle.pop3_server.specs.{
  declared.fault.ServerFault.{ServerFault, TheVariants.{ReadFailed, WriteFailed, MaildropFailed, NoMemory}},
  declared.{intake.NextLine.{NextLine, TheVariants.{Line, LongLine, End}}, text_part.TextBody.TextBody},
  Maildrop.DropMail,
  Got.Waiting,
  ServerMachine.{Machine, greeting_line, is_open},
  AnswersLines.{AnswersLines, AnswersLine, MakesAnswer, RefusesPart, SameServer},
}

-- how long a line may be, its CR LF included, and how many octets are read from one connection
abbrev pub max_line : ℕ
max_line = 512

abbrev pub max_octets : ℕ
max_octets = 16777216

-- ---- what comes in

-- the octets got wait after those that waited before, except for a line that was dropped in front
pub record Queues (before : Waiting) (dropped : List ℕ) (after : Waiting) (gained : List ℕ) : Type 0 where
  pub octets : before.octets ++ gained ≡ dropped ++ after.octets
  pub left : length gained + after.left ≡ before.left

-- a line waits, one that is too long was dropped, or no whole line will come
abbrev pub Hears : Link → Waiting → Result NextLine ServerFault → Link → Waiting → Type 0
Hears old before (Ok (Line n)) new after =
    (gained : List ℕ) × Drew old new gained × Queues before [] after gained × HasLine max_line after.octets n
Hears old before (Ok LongLine) new after =
    (gained line : List ℕ) × Drew old new gained × Queues before (ended line) after gained × IsLine line
    × (max_line - 2 < length line)
Hears old before (Ok End) new after =
    (gained rest : List ℕ) × Drew old new gained × Queues before rest after gained × IsLine (rest ++ after.octets)
    × ((new.ended ≡ true) ⊎ (after.left ≡ 0))
Hears old before (Err fault) new after =
    (fault ≡ ReadFailed) × ((gained dropped : List ℕ) × Drew old new gained × Queues before dropped after gained)

-- nothing more came because the link has ended, or because no more may be taken
abbrev pub TakesMore : Result Bool ServerFault → ℕ → Link → Type 0
TakesMore (Ok false) left link = (link.ended ≡ true) ⊎ (left ≡ 0)
TakesMore result left link = Unit {0}

-- if a line waits, it does so whatever is known of the link
abbrev pub Found : NextLine → Waiting → Type 0
Found (Line n) waiting = HasLine max_line waiting.octets n
Found other waiting = Unit {0}

-- ---- what is sent

-- the greeting was sent, and the answers to these lines
abbrev pub AllSent : {D : Type 0} → (D → Type 0) → (D → DropMail) → Machine D → List (List ℕ)
    → List ℕ → Machine D → Type 0
AllSent sound mail old lines sent last = (answers : List ℕ) × AnswersLines sound mail old lines answers last
    × (sent ≡ greeting_line ++ answers)

-- only a part of the greeting was sent
abbrev pub PartGreeted : {D : Type 0} → Machine D → List (List ℕ) → List ℕ → Machine D → Type 0
PartGreeted old lines sent last = (rest : List ℕ) × (greeting_line ≡ sent ++ rest) × (lines ≡ []) × (last ≡ old)

-- the greeting and all answers were sent, but the last only as far as it was made, without this end
pub record LastSent {D : Type 0} (sound : D → Type 0) (mail : D → DropMail) (old : Machine D) (lines : List (List ℕ))
    (sent unsent : List ℕ) (rest : Option TextBody) (last : Machine D) : Type 0 where
  pub before : List (List ℕ)
  pub line : List ℕ
  pub whole : List ℕ
  pub front : List ℕ
  pub mid : Machine D
  pub each : lines ≡ before ++ line ∷ []
  pub all : AllSent sound mail old before whole mid
  pub makes : MakesAnswer sound mail mid line (front ++ unsent) rest last
  pub out : sent ≡ whole ++ front

-- what was sent for these lines, and the server that is left, if this rest was got after them
abbrev pub WentOut : {D : Type 0} → (D → Type 0) → (D → DropMail) → Machine D → List (List ℕ) → List ℕ → List ℕ
    → Result (Unit {0}) ServerFault → Machine D → Type 0
-- all was answered while the server was open
WentOut sound mail old lines rest sent (Ok done) new =
    AllSent sound mail old lines sent new × ((is_open new.state ≡ false) ⊎ IsLine rest)
WentOut sound mail old lines rest sent (Err ReadFailed) new = AllSent sound mail old lines sent new
WentOut sound mail old lines rest sent (Err WriteFailed) new =
    PartGreeted old lines sent new
    ⊎ ((unsent : List ℕ) × (text : Option TextBody) × LastSent sound mail old lines sent unsent text new)
-- the maildrop refused a part of a text after other parts of it were sent
WentOut {D} sound mail old lines rest sent (Err MaildropFailed) new = (text : TextBody) × (last : Machine D)
    × LastSent sound mail old lines sent [] (Some text) last × RefusesPart sound mail last new
-- memory ran out for the greeting, or for one more answer
WentOut {D} sound mail old lines rest sent (Err NoMemory) new =
    ((sent ≡ []) × (lines ≡ []) × (new ≡ old))
    ⊎ ((last : Machine D) × AllSent sound mail old lines sent last × SameServer sound mail last new)

-- a line was answered, or a prefix of what was made of its answer was sent
abbrev pub SendsAnswer : {D : Type 0} → (D → Type 0) → (D → DropMail) → Machine D → List ℕ → Link
    → Result Bool ServerFault → Machine D → Link → Type 0
SendsAnswer sound mail old line before (Ok closing) new after =
    (answer : List ℕ) × AnswersLine sound mail old line answer new
    × (after ≡ record before { sent = before.sent ++ answer })
SendsAnswer sound mail old line before (Err ReadFailed) new after = ⊥
SendsAnswer sound mail old line before (Err WriteFailed) new after =
    (front unsent : List ℕ) × (rest : Option TextBody) × MakesAnswer sound mail old line (front ++ unsent) rest new
    × (after ≡ record before { sent = before.sent ++ front; failures = before.failures + 1 })
SendsAnswer {D} sound mail old line before (Err MaildropFailed) new after =
    (made : List ℕ) × (text : TextBody) × (last : Machine D) × MakesAnswer sound mail old line made (Some text) last
    × RefusesPart sound mail last new × (after ≡ record before { sent = before.sent ++ made })
SendsAnswer sound mail old line before (Err NoMemory) new after = SameServer sound mail old new × (after ≡ before)

-- the lines that were got were answered in order
pub record ServedLines {D : Type 0} (sound : D → Type 0) (mail : D → DropMail) (old : Machine D) (before : Link)
    (result : Result (Unit {0}) ServerFault) (new : Machine D) (after : Link) : Type 0 where
  pub gained : List ℕ
  pub got : after.got ≡ before.got ++ gained
  pub bound : length gained ≤ max_octets
  pub lines : List (List ℕ)
  pub rest : List ℕ
  pub each : AllByRecursion IsLine lines
  pub heard : gained ≡ flat_map ended lines ++ rest
  pub out : List ℕ
  pub sent : after.sent ≡ before.sent ++ out
  pub answered : WentOut sound mail old lines rest out result new
  -- Ok only if the server is closed, the link has ended, or the bound is reached
  pub ends : result ≡ Ok tt → (is_open new.state ≡ false) ⊎ ((after.ended ≡ true) ⊎ (length gained ≡ max_octets))

-- ReadFailed and WriteFailed are refused calls of the link; the others aren't
abbrev pub is_server_refusal : ServerFault → Bool
is_server_refusal ReadFailed = true
is_server_refusal WriteFailed = true
is_server_refusal MaildropFailed = false
is_server_refusal NoMemory = false
