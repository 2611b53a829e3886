-- A server's answers to lines, in order.
use Rattle.std.specs.Prelude.{IfSome, ◌≡◌, ℕ, true, List, [], ◌∷◌, ◌++◌, Option, None}
use Rattle.pop3_wire.specs.CommandLine.{command_of}
use Rattle.pop3_server.specs.{
  declared.text_part.TextBody.TextBody,
  Maildrop.DropMail,
  ServerMachine.{Machine, Unanswered, action_of, is_open},
  TextAnswer.{AnswersOrBegins, OnlyReads},
}

-- an open server answered one line, which is given here without its CR LF, or began to if a text follows
pub record MakesAnswer {D : Type 0} (sound : D → Type 0) (mail : D → DropMail) (old : Machine D)
    (line made : List ℕ) (rest : Option TextBody) (new : Machine D) : Type 0 where
  pub was_open : is_open old.state ≡ true
  pub user : new.user ≡ old.user
  pub pass : new.pass ≡ old.pass
  -- a server that gives a text stays as it is
  pub state : IfSome rest (λ text. new.state ≡ old.state)
  pub answers : AnswersOrBegins sound mail (action_of old.user old.pass old.state (command_of line)) old.drop made rest
      new.state new.drop

-- it answered the line, and nothing follows
abbrev pub AnswersLine : {D : Type 0} → (D → Type 0) → (D → DropMail) → Machine D → List ℕ → List ℕ → Machine D → Type 0
AnswersLine sound mail old line answer new = MakesAnswer sound mail old line answer None new

-- it answered these lines in order, and these are all its answers
abbrev pub AnswersLines : {D : Type 0} → (D → Type 0) → (D → DropMail) → Machine D → List (List ℕ) → List ℕ
    → Machine D → Type 0
AnswersLines {D} sound mail old [] answers new = (answers ≡ []) × (new ≡ old)
AnswersLines {D} sound mail old (line ∷ lines) answers new =
    (first rest : List ℕ) × (next : Machine D) × (answers ≡ first ++ rest)
    × AnswersLine sound mail old line first next × AnswersLines sound mail next lines rest new

-- the same server, except that its maildrop may have given new places, as after an answer for which memory ran out
pub record SameServer {D : Type 0} (sound : D → Type 0) (mail : D → DropMail) (old new : Machine D) : Type 0 where
  pub user : new.user ≡ old.user
  pub pass : new.pass ≡ old.pass
  pub state : new.state ≡ old.state
  pub unanswered : Unanswered sound mail old.drop new.drop

-- the same server, whose maildrop refused a part of a text
pub record RefusesPart {D : Type 0} (sound : D → Type 0) (mail : D → DropMail) (old new : Machine D) : Type 0 where
  pub same : new ≡ record old { drop = new.drop }
  pub reads : OnlyReads sound mail true old.drop new.drop
