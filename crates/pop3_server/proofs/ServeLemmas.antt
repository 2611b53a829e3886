-- How far a server that serves a link has come, and why it ends.
use Rattle.pop3_wire.{
  specs.{Link.Link, Bodies.Drew, declared.fault.WireFault.TheVariants.BadCommand, CommandLine.command_of, Line.{crlf, IsLine, ended}},
  specs.Place.{HasLine, HasNoLine},
  proofs.BodyLemmas.{IsLine-front, IsLine-back},
}
use Rattle.std.{
  proofs.Common.{Bool, true, ◌⊎◌, Ok, ◌≡◌, ◌<◌, ◌≤◌, ◌+◌, ℕ, zero, suc, List, [], ◌∷◌, ◌++◌, length, take, drop, refl, sym, ap, subst, ◌∙◌},
  proofs.Common.{arith, append_assoc, length-append, length-take-le, take-append-drop, take_all, append-nil, length-drop, inl, inr, false},
  proofs.Common.{Option, Some, Result, Err, codes},
  proofs.{lemmas.{List.{nil_from_length, take-append-le}, Grind.flat_map-append, Bool.{cond-true, lt-ltb}}, Math.Seq.take-add},
  specs.List.{flat_map, AllByRecursion},
}
use Rattle.pop3_server.specs.{
  Got.Waiting,
  declared.{fault.ServerFault.{ServerFault, TheVariants.{ReadFailed, WriteFailed, MaildropFailed, NoMemory}}, text_part.TextBody.TextBody},
  declared.intake.NextLine.TheVariants.{LongLine, End, Line},
  Maildrop.DropMail,
  Serving.{Hears, Queues, LastSent, SendsAnswer, ServedLines, WentOut},
  ServerMachine.{Machine, greeting_line, said, is_open},
  RunLaws.{lines_on, runs_on},
  AnswersLines.{AnswersLines, AnswersLine, MakesAnswer},
}

-- ---- octets that are dropped in pieces and make one line

-- two pieces that share an octet are a line if both are
no_split : (part back : List ℕ) (b : ℕ) → IsLine (part ++ b ∷ []) → IsLine (b ∷ back) → (front rest : List ℕ)
    → part ++ b ∷ back ≡ front ++ (crlf ++ rest) → ⊥
no_split [] back b first second front rest e = second front rest e
no_split (p ∷ []) back b first second [] rest e = first [] [] (cc)
no_split (p ∷ q ∷ ps) back b first second [] rest e = first [] (ps ++ b ∷ []) (cc)
no_split (p ∷ ps) back b first second (f ∷ front) rest e =
    no_split ps back b (IsLine-back (p ∷ []) (ps ++ b ∷ []) first) second front rest (cc)

pub spliced : (part octets : List ℕ) (n : ℕ) → IsLine (part ++ take 1 octets) → IsLine (take n octets) → IsLine (part ++ take n octets)
spliced part [] zero first second = first
spliced part [] (suc n) first second = first
spliced part (b ∷ octets) zero first second =
    IsLine-front (part ++ []) (b ∷ []) (subst IsLine (ap (λ (l : List ℕ). l ++ b ∷ []) (sym (append-nil part))) first)
spliced part (b ∷ octets) (suc n) first second = no_split part (take n octets) b first second

-- what was got, and waits behind what waited, except for this part in front
abbrev pub Waits : Waiting → Link → List ℕ → Waiting → Link → Type 0
Waits before from part now to = (gained : List ℕ) × Drew from to gained × Queues before part now gained

-- more came
pub waits_more : {before now after : Waiting} {from to next : Link} {part piece : List ℕ}
    → Waits before from part now to → Drew to next piece
    → after.octets ≡ now.octets ++ piece → length piece + after.left ≡ now.left → Waits before from part after next
waits_more {before} {now} {from = from} {part = part} {piece = piece} (gained, drew, takes) more octets left = (
  gained ++ piece,
  record { got = simp (more.got, drew.got, append_assoc); sent = more.sent ∙ drew.sent },
  record {
    octets = sym (append_assoc before.octets gained piece) ∙ ap (λ (l : List ℕ). l ++ piece) takes.octets ∙ simp (octets, append_assoc);
    left = omega (arith, length-append gained piece, takes.left, left);
  },
)

-- nothing more came, and what waits has no line's end
pub waits_end : {before now after : Waiting} {from to next : Link} {part piece : List ℕ} → Waits before from part now to
    → IsLine (part ++ now.octets) → Drew to next piece
    → after.octets ≡ now.octets ++ piece → length piece + after.left ≡ now.left → length piece ≡ 0 → (next.ended ≡ true)
    ⊎ (after.left ≡ 0) → Hears from before (Ok End) next after
waits_end {part = part} {piece = piece} waits line more octets left none why =
    let all = waits_more waits more octets left in
    (all.0, part, all.1, all.2, rw (octets, nil_from_length piece none, append-nil) line, why)

-- the octets so far of a line that is dropped piece by piece
pub record Dropping (before : Waiting) (from : Link) (now : Waiting) (to : Link) : Type 0 where
  pub part : List ℕ
  pub waits : Waits before from part now to
  pub line : IsLine (part ++ take 1 now.octets)
  pub some : 0 < length now.octets
  pub long : 510 < length part

pub drops_first : {before now : Waiting} {from to : Link} → Waits before from [] now to → HasNoLine 512 now.octets → 512 ≤ length now.octets
    → Dropping before from (record { octets = drop 511 now.octets; left = now.left }) to
drops_first {now = now} waits none long = record {
  part = take 511 now.octets;
  waits = (waits.0, waits.1, record { octets = waits.2.octets ∙ sym (take-append-drop 511 now.octets); left = waits.2.left });
  line = rw (take-add 511 1 now.octets) at none.none;
  some = omega (arith, length-drop 511 now.octets);
  long = omega (arith, length-take-le 511 now.octets (omega arith));
}

pub drops_more : {before now : Waiting} {from to : Link} → Dropping before from now to → HasNoLine 512 now.octets → 512 ≤ length now.octets
    → Dropping before from (record { octets = drop 511 now.octets; left = now.left }) to
drops_more {now = now} d none long = record {
  part = d.part ++ take 511 now.octets;
  waits = (d.waits.0, d.waits.1, record { octets = d.waits.2.octets ∙ rw (append_assoc, take-append-drop); left = d.waits.2.left });
  line = rw (append_assoc, ← take-add 511 1 now.octets) (spliced d.part now.octets 512 d.line none.none);
  some = omega (arith, length-drop 511 now.octets);
  long = omega (arith, length-append d.part (take 511 now.octets), d.long);
}

pub drops_on : {before now after : Waiting} {from to next : Link} {piece : List ℕ} → Dropping before from now to → Drew to next piece
    → after.octets ≡ now.octets ++ piece → length piece + after.left ≡ now.left → Dropping before from after next
drops_on {now = now} {piece = piece} d more octets left = record {
  part = d.part;
  waits = waits_more d.waits more octets left;
  line = rw (octets, take-append-le 1 now.octets piece d.some) d.line;
  some = omega (arith, ap length octets, length-append now.octets piece, d.some);
  long = d.long;
}

-- the line's end came
pub dropped_line : {before now : Waiting} {from to : Link} {n : ℕ} → Dropping before from now to → HasLine 512 now.octets n
    → Hears from before (Ok LongLine) to (record { octets = drop (n + 2) now.octets; left = now.left })
dropped_line {now = now} {n = n} d has = (
  d.waits.0,
  d.part ++ take n now.octets,
  d.waits.1,
  record { octets = d.waits.2.octets ∙ ap (λ (l : List ℕ). d.part ++ l) has.whole ∙ simp append_assoc; left = d.waits.2.left },
  spliced d.part now.octets n d.line has.line,
  omega (arith, length-append d.part (take n now.octets), d.long),
)

-- what waits, or the octets so far of a line that is too long
abbrev pub Reading : Bool → Waiting → Link → Waiting → Link → Type 0
Reading false before from now to = Waits before from [] now to
Reading true before from now to = Dropping before from now to

module _ (before now : Waiting) (from to : Link) where
  pub reads_long : (is_long : Bool) → Reading is_long before from now to → HasNoLine 512 now.octets → 512 ≤ length now.octets
      → Dropping before from (record { octets = drop 511 now.octets; left = now.left }) to
  reads_long false waits none long = drops_first waits none long
  reads_long true d none long = drops_more d none long

  module _ (after : Waiting) {next : Link} {piece : List ℕ} (more : Drew to next piece)
      (octets : after.octets ≡ now.octets ++ piece) (left : length piece + after.left ≡ now.left) where
    pub reads_more : (is_long : Bool) → Reading is_long before from now to → Reading is_long before from after next
    reads_more false waits = waits_more waits more octets left
    reads_more true d = drops_on d more octets left

    -- nothing more came
    pub reads_end : (is_long : Bool) → Reading is_long before from now to → HasNoLine 512 now.octets → length now.octets < 512
        → length piece ≡ 0 → (next.ended ≡ true) ⊎ (after.left ≡ 0) → Hears from before (Ok End) next after
    reads_end false waits none short =
        waits_end {part = []} waits (rw (take_all 512 now.octets (omega arith)) at none.none) more octets left
    reads_end true d none short =
        waits_end d.waits (rw (take_all 512 now.octets (omega arith)) at (spliced d.part now.octets 512 d.line none.none)) more octets left

    -- the link refused to read
    pub reads_cut : (is_long : Bool) → Reading is_long before from now to → (gained dropped : List ℕ)
        × Drew from next gained × Queues before dropped after gained
    reads_cut false waits = let all = waits_more waits more octets left in (all.0, [], all.1, all.2)
    reads_cut true d = let all = waits_more d.waits more octets left in (all.0, d.part, all.1, all.2)

-- ---- how far a server that serves a link has come, and why it ends

-- what was got after that: these lines, and what follows them; and how much may still be taken
pub record Came (before after : List ℕ) (lines : List (List ℕ)) (rest : List ℕ) (left : ℕ) : Type 0 where
  pub gained : List ℕ
  pub got : after ≡ before ++ gained
  pub each : AllByRecursion IsLine lines
  pub heard : gained ≡ flat_map ended lines ++ rest
  pub all : length gained + left ≡ 16777216

-- the greeting and the answers to all lines that came whole were sent
pub record Progress {D : Type 0} (sound : D → Type 0) (mail : D
    → DropMail) (old : Machine D) (before : Link) (server : Machine D) (link : Link) (waiting : Waiting) : Type 0 where
  pub lines : List (List ℕ)
  pub answers : List ℕ
  pub came : Came before.got link.got lines waiting.octets waiting.left
  pub sent : link.sent ≡ before.sent ++ (greeting_line ++ answers)
  pub run : AnswersLines sound mail old lines answers server

-- a line came behind what waited
pub record LineCame (waiting after : Waiting) (link taken : Link) (line : List ℕ) : Type 0 where
  pub gained : List ℕ
  pub took : Drew link taken gained
  pub takes : Queues waiting (ended line) after gained
  pub is : IsLine line

-- a line that waits, and what is left after it
pub line_came : {before mid after : Waiting} {link taken : Link} {seen : List ℕ} {n : ℕ}
    → Hears link before (Ok (Line n)) taken mid → seen ≡ mid.octets
    → after ≡ record { octets = drop (n + 2) mid.octets; left = mid.left } → LineCame before after link taken (take n seen)
line_came {mid = mid} {n = n} (gained, took, takes, has) same is = rw (is, same) (record {
  gained = gained;
  took = took;
  takes = record { octets = takes.octets ∙ has.whole ∙ sym (append_assoc (take n mid.octets) crlf _); left = takes.left };
  is = has.line;
})

came_none : (got : List ℕ) → Came got got [] [] 16777216
came_none got = record { gained = []; got = sym (append-nil got); each = tt; heard = refl; all = refl }

-- more came, of which this was dropped in front
came_on : {before : List ℕ} {link taken : Link} {lines : List (List ℕ)} {waiting after : Waiting}
    {dropped gained : List ℕ} → Came before link.got lines waiting.octets waiting.left
    → Drew link taken gained → Queues waiting dropped after gained → Came before taken.got lines (dropped ++ after.octets) after.left
came_on {gained = gained} came took takes = record {
  gained = came.gained ++ gained;
  got = simp (took.got, came.got, append_assoc);
  each = came.each;
  heard = simp (came.heard, takes.octets, append_assoc);
  all = omega (arith, length-append came.gained gained, came.all, takes.left);
}

-- a run of one line
pub run_one : {D : Type 0} (sound : D → Type 0) (mail : D → DropMail) (a b : Machine D) (line answer : List ℕ)
    → AnswersLine sound mail a line answer b → AnswersLines sound mail a (line ∷ []) answer b
run_one sound mail a b line answer turn = (answer, [], b, sym (append-nil answer), turn, (refl, refl))

module _ {D : Type 0} (sound : D → Type 0) (mail : D → DropMail) (old : Machine D) (before : Link) where
  -- the greeting was sent
  pub greeted : (server : Machine D) (link : Link) (waiting : Waiting) (hello : List ℕ) → server ≡ old → hello ≡ greeting_line
      → link ≡ record before { sent = before.sent ++ hello } → waiting ≡ record { octets = []; left = 16777216 }
      → Progress sound mail old before server link waiting
  greeted server link waiting hello same is sends starts =
      rw (same, sends, is, starts) (record {
        lines = [];
        answers = [];
        came = came_none before.got;
        sent =
            refl;
        run = (refl, refl);
      })

  served : {lines : List (List ℕ)} {rest : List ℕ} {left : ℕ} {result : Result (Unit {0}) ServerFault}
      {next : Machine D} {link : Link} (out : List ℕ) → Came before.got link.got lines rest left
      → link.sent ≡ before.sent ++ out → WentOut sound mail old lines rest out result next
      → (result ≡ Ok tt → (is_open next.state ≡ false) ⊎ ((link.ended ≡ true) ⊎ (left ≡ 0)))
      → ServedLines sound mail old before result next link
  served {lines} {rest} out came sent answered ends = record {
    gained = came.gained;
    got = came.got;
    bound = omega (arith, came.all);
    lines = lines;
    rest = rest;
    each = came.each;
    heard = came.heard;
    out = out;
    sent = sent;
    answered = answered;
    ends = λ ok. elim (ends ok) [
      | inl closed ↦ inl closed
      | inr (inl over) ↦ inr (inl over)
      | inr (inr none) ↦ inr (inr (omega (arith, came.all, none)))
    ];
  }

  -- memory ran out for the greeting, or it was sent in part
  pub served_unmade : (server : Machine D) → server ≡ old → ServedLines sound mail old before (Err NoMemory) server before
  served_unmade server same = served [] (came_none before.got) (sym (append-nil before.sent)) (inl (refl, refl, same)) (λ e. cc)

  pub served_ungreeted : (server : Machine D) (link : Link) (hello front rest : List ℕ) → server ≡ old
      → hello ≡ greeting_line → hello ≡ front ++ rest → link ≡ record before { sent = before.sent ++ front; failures = before.failures + 1 }
      → ServedLines sound mail old before (Err WriteFailed) server link
  served_ungreeted server link hello front rest same is part sends =
      rw sends (served front (came_none before.got) refl (inl (rest, sym is ∙ part, refl, same)) (λ e. cc))

module _ {D : Type 0} {sound : D → Type 0} {mail : D
    → DropMail} {old server : Machine D} {before link : Link} {waiting : Waiting}
    (p : Progress sound mail old before server link waiting) where
  -- the session is over
  pub served_closed : is_open server.state ≡ false → ServedLines sound mail old before (Ok tt) server link
  served_closed closed = served sound mail old before (greeting_line ++ p.answers) p.came p.sent
      ((p.answers, p.run, refl), inl closed) (λ _. inl closed)

  module _ {taken : Link} {after : Waiting} {line : List ℕ} (more : LineCame waiting after link taken line) where
    came : Came before.got taken.got (p.lines ++ line ∷ []) after.octets after.left
    came = let now = came_on p.came more.took more.takes in record {
      gained = now.gained;
      got = now.got;
      each = lines_on p.lines (line ∷ []) now.each (more.is, tt);
      heard = simp (now.heard, flat_map-append, append_assoc, append-nil);
      all = now.all;
    }

    -- the line was answered
    pub progress_line : (next : Machine D) (sent : Link) (answer : List ℕ)
        → AnswersLine sound mail server line answer next → sent ≡ record taken { sent = taken.sent ++ answer }
        → Progress sound mail old before next sent after
    progress_line next sent answer turn sends = rw sends (record {
      lines = p.lines ++ line ∷ [];
      answers = p.answers ++ answer;
      came = came;
      sent = simp (more.took.sent, p.sent, append_assoc);
      run = runs_on sound mail old server next p.lines (line ∷ []) p.answers answer p.run (run_one sound mail server next line answer turn);
    })

    -- this much of its answer was sent before a fault
    served_last : {next : Machine D} {fault : ServerFault} (front : List ℕ) (count : ℕ)
        → WentOut sound mail old (p.lines ++ line ∷ []) after.octets ((greeting_line ++ p.answers) ++ front) (Err fault) next
        → ServedLines sound mail old before (Err fault) next (record taken { sent = taken.sent ++ front; failures = count })
    served_last front count answered = served sound mail old before ((greeting_line ++ p.answers) ++ front) came
        (simp (more.took.sent, p.sent, append_assoc)) answered (λ e. cc)

    last_sent : {next : Machine D} (front unsent : List ℕ) (text : Option TextBody)
        → MakesAnswer sound mail server line (front ++ unsent) text next
        → LastSent sound mail old (p.lines ++ line ∷ []) ((greeting_line ++ p.answers) ++ front) unsent text next
    last_sent front unsent text makes = record {
      before = p.lines;
      line = line;
      whole = greeting_line ++ p.answers;
      front = front;
      mid = server;
      each = refl;
      all = (p.answers, p.run, refl);
      makes = makes;
      out = refl;
    }

    -- its answer met a fault
    pub served_stopped : (next : Machine D) (sent : Link) (fault : ServerFault)
        → SendsAnswer sound mail server line taken (Err fault) next sent → ServedLines sound mail old before (Err fault) next sent
    served_stopped next sent ReadFailed went = absurd went
    served_stopped next sent WriteFailed (front, unsent, text, makes, sends) =
        rw sends (served_last front (taken.failures + 1) (inr (unsent, text, last_sent front unsent text makes)))
    served_stopped next sent MaildropFailed (made, text, last, makes, refuses, sends) =
        rw sends (served_last made taken.failures (text, last, last_sent made [] (Some text) (rw append-nil makes), refuses))
    served_stopped next sent NoMemory (same, none) =
        rw none (served sound mail old before (greeting_line ++ p.answers) (came_on p.came more.took more.takes)
        (more.took.sent ∙ p.sent) (inr (server, (p.answers, p.run, refl), same)) (λ e. cc))

long_command : (line : List ℕ) → 510 < length line → command_of line ≡ Err BadCommand
unfolding command_of
long_command line long = cond-true _ _ _ (lt-ltb 510 (length line) long)

-- a line that is too long is no command, and changes nothing
pub long_turn : {D : Type 0} (sound : D → Type 0) (mail : D → DropMail) (server : Machine D) (line : List ℕ)
    → is_open server.state ≡ true → 510 < length line → AnswersLine sound mail server line (said (codes "-ERR bad command")) server
long_turn sound mail server line opened long = record {
  was_open = opened;
  user = refl;
  pass = refl;
  state = tt;
  answers = rw (long_command line long) (record { removals = refl; does = (refl, refl, refl) });
}
