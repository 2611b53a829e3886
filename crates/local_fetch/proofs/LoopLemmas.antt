-- A link to a server: what its calls do to what it keeps.
use Rattle.std.proofs.{
  Common.{true≢false, ◌≡◌, ◌≤◌, ◌<◌, ◌+◌, ◌-◌, ℕ, Bool, true, false, List, [], ◌∷◌, ◌++◌, length, take, drop, refl, sym, ap, ◌∙◌, arith},
  Common.{append_assoc, take-append-drop, length-append, length-drop},
  lemmas.{List.{take_rest, take_at, append-nil, drop-drop, length-take-le, take-append-le}, Bool.Decides.nat_tests},
  Math.Seq.{take-add, take-append_seam, drop-append-add},
}
use Rattle.local_fetch.specs.LoopLaws.{same_refl, serves_same}
use Rattle.pop3_wire.specs.{Line.{crlf, IsLine}, Link.with_failures, Place.HasLine}
use Rattle.mail_terms.specs.FailureCount.{greatest_count, counted_up}
use Rattle.pop3_server.specs.{
  Maildrop.DropMail,
  AnswersLines.AnswersLine,
  ServerMachine.{Machine, greeting_line},
  LoopLink.{Loop, Serves, AnswersWholeLines},
}

-- a link by its own fields: how many octets sent are answered, and how many of the greeting and the answers
-- were given
abbrev pub kept : {D : Type 0} → Machine D → List ℕ → ℕ → List ℕ → ℕ → Bool → Bool → ℕ → Loop D
kept machine sent used answers given over down failures = record {
  machine = machine;
  link = record { sent = sent; got = take given (greeting_line ++ answers); ended = over; failures = failures };
  answers = answers;
  left = drop given (greeting_line ++ answers);
  waiting = drop used sent;
  down = down;
}

-- a line was answered; if the answer couldn't be kept, the link is down
pub serves_one : {D : Type 0} {sound : D → Type 0} {mail : D
    → DropMail} {m n : Machine D} {sent answers kept_answers : List ℕ} {over down then_down : Bool} {failures : ℕ}
    (used octets given : ℕ) (more lost : List ℕ)
    → down ≡ false → kept_answers ≡ answers ++ more → HasLine (length (drop used sent)) (drop used sent) octets
    → AnswersLine sound mail m (take octets (drop used sent)) (more ++ lost) n → (then_down ≡ false → lost ≡ [])
    → Serves sound mail (kept m sent used answers given over down failures)
    (kept n sent (used + (octets + 2)) kept_answers given over then_down failures)
serves_one {sound = sound} {mail} {m} {n} {sent} {kept_answers = kept_answers} used octets given more lost up is has turn none =
    let line = take octets (drop used sent) in record {
      lines = line ∷ [];
      more = more;
      lost = lost;
      gained = [];
      last = n;
      each = (has.line, tt);
      run = (more ++ lost, [], n, sym (append-nil (more ++ lost)), turn, (refl, refl));
      same = same_refl sound mail n;
      answers = is;
      told = λ h. take-append-drop given (greeting_line ++ kept_answers);
      sent = sym (append-nil sent);
      heard = append-nil (drop used sent) ∙ has.whole ∙ rw (drop-drop, append-nil, append_assoc);
      whole = λ e. (none e, refl, λ answered. absurd (answered turn.was_open line (drop (octets + 2) (drop used sent)) has.whole));
      over = λ e. absurd (true≢false (sym e ∙ up));
    }

-- more octets were sent, the lines that they complete were answered, and the link may have gone down then
pub serves_sent : {D : Type 0} {sound : D → Type 0} {mail : D
    → DropMail} (old : Loop D) {mid : Loop D} (bytes : List ℕ) (down : Bool) (failures : ℕ)
    → Serves sound mail (record old { link = record old.link { sent = old.link.sent ++ bytes }; waiting = old.waiting ++ bytes }) mid
    → (down ≡ false → (mid.down ≡ false) × AnswersWholeLines mid) → (mid.down ≡ true → down ≡ true)
    → Serves sound mail old (record mid { down = down; link = with_failures failures mid.link })
serves_sent old bytes down failures p still goes = record {
  lines = p.lines;
  more = p.more;
  lost = p.lost;
  gained = bytes ++ p.gained;
  last = p.last;
  each = p.each;
  run = p.run;
  same = p.same;
  answers = p.answers;
  told = p.told;
  sent = p.sent ∙ append_assoc old.link.sent bytes p.gained;
  heard = sym (append_assoc old.waiting bytes p.gained) ∙ p.heard;
  whole = λ e. let up = still e in let whole = p.whole up.0 in (whole.0, whole.1, λ _. up.1);
  over = λ e. let over = p.over e in (over.0, over.1, over.2, goes over.3);
}

pub nothing_sent : {D : Type 0} (sound : D → Type 0) (mail : D → DropMail) (w : Loop D)
    → Serves sound mail (record w { link = record w.link { sent = w.link.sent ++ [] }; waiting = w.waiting ++ [] }) w
nothing_sent sound mail w = simp append-nil (serves_same sound mail w)

-- ---- what the code finds

-- the line that was found is the first that waits
pub waiting_line_found : (seen sent line rest : List ℕ) (used : ℕ) → seen ≡ sent → IsLine line
    → take (length seen - used) (drop used seen) ≡ line ++ (crlf ++ rest) → HasLine (length (drop used sent)) (drop used sent) (length line)
waiting_line_found seen sent line rest used same is cut = rw (rw (take_rest, same) at cut) (record {
  line = rw take-append_seam is;
  within = omega (arith, length-append line (crlf ++ rest));
  whole = rw (take-append_seam line, drop-append-add line (crlf ++ rest) 2);
})

-- what is left in the second part, if the first was given
pub left_second : (first second seen : List ℕ) (given : ℕ) → length first ≤ given → seen ≡ second
    → drop given (first ++ second) ≡ take (length seen - (given - length first)) (drop (given - length first) seen) ++ []
left_second first second seen given within same =
    let count : given ≡ length first + (given - length first) = omega arith in
    rw (append-nil, take_rest, same) (ap (λ (k : ℕ). drop k (first ++ second)) count ∙ drop-append-add first second (given - length first))

-- the first octets of what is left are given
abbrev pub Gives : List ℕ → List ℕ → ℕ → ℕ → Type 0
Gives all buf given n = (given + n ≤ length all) × (take (given + n) all ≡ take given all ++ take n buf)
    × (drop given all ≡ take n buf ++ drop (given + n) all)

pub gives : (all piece rest copied buf : List ℕ) (given n : ℕ) → given ≤ length all → drop given all ≡ piece ++ rest
    → n ≤ length piece → copied ≡ take n piece → Gives all (copied ++ drop n buf) given n
gives all piece rest copied buf given n within is few same =
    let front : take n (copied ++ drop n buf) ≡ take n (drop given all) =
    rw (
      same,
      is,
      take_at (take n piece) (drop n buf) n (length-take-le n piece few),
      take-append-le n piece rest few,
    ) in (
      omega (arith, ap length is, length-drop given all, length-append piece rest),
      rw front (take-add given n all),
      rw (front, ← drop-drop n given all) (sym (take-append-drop n (drop given all))),
    )

-- a refused call took the link down and was counted, after these octets were sent
pub call_refused : {D : Type 0} {sound : D → Type 0} {mail : D → DropMail} (old : Loop D) {mid new : Loop D} (bytes : List ℕ)
    → Serves sound mail (record old {
      link = record old.link { sent = old.link.sent ++ bytes };
      waiting =
          old.waiting ++ bytes;
    }) mid → new.link.failures ≡ counted_up mid.link.failures
    → new ≡ record mid { down = true; link = with_failures new.link.failures mid.link } → new.link.failures < greatest_count
    → (mid.link.failures < greatest_count) × Serves sound mail old new × (new.link ≡ record mid.link { failures = mid.link.failures + 1 })
call_refused old {mid} {new} bytes p count is below =
    let next : new.link.failures ≡ mid.link.failures + 1 = grind (arith, nat_tests, count, below) in (
      omega (arith, next, below),
      rw is (serves_sent old bytes true new.link.failures p (λ e. absurd (true≢false e)) (λ _. refl)),
      ap (λ (w : Loop _). w.link) is ∙ ap (λ (k : ℕ). with_failures k mid.link) next,
    )
