-- A link whose answers are a server's: two calls together do what one call may do.
use Rattle.std.{
  specs.List.flat_map,
  proofs.Common.{refl, sym, ◌∙◌, append_assoc, inl, inr, ◌≡◌, true, false, [], ◌++◌, append-nil, true≢false},
  proofs.lemmas.{Grind.flat_map-append, Bool.cases_Bool},
}
use Rattle.pop3_wire.specs.Line.{ended}
use Rattle.pop3_server.specs.{
  Maildrop.DropMail,
  ServerMachine.Machine,
  AnswersLines.{AnswersLines, SameServer},
  RunLaws.{runs_on, lines_on},
  LoopLink.{Loop, Serves, AnswersWholeLines, TellsAnswers},
}

pub same_refl : {D : Type 0} (sound : D → Type 0) (mail : D → DropMail) (m : Machine D) → SameServer sound mail m m
same_refl sound mail m = record {
  user = refl;
  pass = refl;
  state = refl;
  unanswered = record { failures = refl; removals = refl; messages = λ s. (s, refl) };
}

pub same_trans : {D : Type 0} (sound : D → Type 0) (mail : D → DropMail) (a b c : Machine D)
    → SameServer sound mail a b → SameServer sound mail b c → SameServer sound mail a c
same_trans sound mail a b c p q = record {
  user = q.user ∙ p.user;
  pass = q.pass ∙ p.pass;
  state = q.state ∙ p.state;
  unanswered = record {
    failures = q.unanswered.failures ∙ p.unanswered.failures;
    removals = q.unanswered.removals ∙ p.unanswered.removals;
    messages = λ s. let second = q.unanswered.messages s in let first = p.unanswered.messages second.0 in
        (first.0, second.1 ∙ first.1);
  };
}

-- no line was answered
pub serves_none : {D : Type 0} (sound : D → Type 0) (mail : D → DropMail) (old new : Loop D)
    → SameServer sound mail old.machine new.machine
    → new.answers ≡ old.answers → new.link.sent ≡ old.link.sent → new.waiting ≡ old.waiting
    → (TellsAnswers old → TellsAnswers new)
    → (new.down ≡ false → new.machine ≡ old.machine) → (old.down ≡ true → new.down ≡ true) → Serves sound mail old new
serves_none sound mail old new same answers sent waiting told stays goes = record {
  lines = [];
  more = [];
  lost = [];
  gained = [];
  last = old.machine;
  each = tt;
  run = (refl, refl);
  same = same;
  answers = rw append-nil answers;
  told = told;
  sent = rw append-nil sent;
  heard = rw (append-nil, waiting);
  whole = λ up. (refl, stays up, λ is opened. rw waiting (is (rw (stays up) at opened)));
  over = λ down. (refl, refl, refl, goes down);
}

pub serves_same : {D : Type 0} (sound : D → Type 0) (mail : D → DropMail) (w : Loop D) → Serves sound mail w w
serves_same sound mail w = serves_none sound mail w w (same_refl sound mail w.machine) refl refl refl (λ h. h)
    (λ _. refl) (λ h. h)

-- if the link was down after the first part, nothing was answered in the second one
pub serves_on : {D : Type 0} (sound : D → Type 0) (mail : D → DropMail) (u v w : Loop D) → Serves sound mail u v
    → Serves sound mail v w → Serves sound mail u w
serves_on {D} sound mail u v w p q = record {
  lines = p.lines ++ q.lines;
  more = p.more ++ q.more;
  lost = p.lost ++ q.lost;
  gained = p.gained ++ q.gained;
  last = ran.0;
  each = lines_on p.lines q.lines p.each q.each;
  run = ran.1;
  same = ran.2;
  answers = rw (q.answers, p.answers, append_assoc u.answers);
  told = λ h. q.told (p.told h);
  sent = rw (q.sent, p.sent, append_assoc u.link.sent);
  heard = rw (
    ← append_assoc u.waiting,
    p.heard,
    append_assoc (flat_map ended p.lines),
    q.heard,
    flat_map-append,
    append_assoc (flat_map ended p.lines),
  );
  whole = ran.3;
  over = λ down. let first = p.over down in let later = q.over first.3 in
      (rw (first.0, later.0), rw (first.1, later.1), rw (first.2, later.2), later.3);
}
  where
    ran : (last : Machine D) × AnswersLines sound mail u.machine (p.lines ++ q.lines)
        ((p.more ++ q.more) ++ (p.lost ++ q.lost)) last
        × SameServer sound mail last w.machine
        × (w.down ≡ false → (p.lost ++ q.lost ≡ []) × (w.machine ≡ last) × (AnswersWholeLines u → AnswersWholeLines w))
    ran = elim (cases_Bool v.down) [
      | inl down ↦
          let over = q.over down in
          let run = rw over.0 at q.run in
          let same = same_trans sound mail p.last v.machine w.machine p.same (rw run.1 at q.same) in (
            p.last,
            rw (over.0, over.1, over.2) (simp append-nil p.run),
            same,
            λ up. absurd
                (true≢false (sym over.3 ∙ up)),
          )
      | inr up ↦
          let whole = p.whole up in
          let first = rw (whole.0, append-nil, ← whole.1) at p.run in
          let run = runs_on sound mail u.machine v.machine q.last p.lines q.lines p.more
          (q.more ++ q.lost) first q.run in (
            q.last,
            rw (whole.0, append_assoc p.more) run,
            q.same,
            λ e. let later = q.whole e in (rw (whole.0, later.0), later.1, λ is. later.2 (whole.2 is)),
          )
    ]
