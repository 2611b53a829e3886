use Rattle.std.proofs.{
  Common.{◌≡◌, ◌<◌, ◌++◌, ℕ, List, [], ◌∷◌, length, Err, ap, ◌∙◌, append-nil, arith, ◌≤◌, ◌+◌, append_assoc},
  Math.Bool.or-true,
}
use Rattle.pop3_wire.specs.{
  Link.Link,
  declared.line_reader.LineFault.TheVariants.Ended,
  Place.{at, Gains, GoesOn, GotPiece, HasNoLine, ReadsLine},
}
use Rattle.pop3_wire.proofs.line_reader.LineReader.line.Goals as goal

-- the link has ended
read_ended : {limit : ℕ} {start link : Link} (last : Link) {first waiting : List ℕ} (now : List ℕ) {gained : List ℕ} (piece : List ℕ)
    → Gains (at start first) (at link waiting) gained → GoesOn start link → HasNoLine limit waiting → length waiting < limit
    → now ≡ waiting ++ piece → length piece ≡ 0 → GotPiece link piece last
    → (((g : List ℕ) × Gains (at start first) (at last now) g) × ReadsLine limit (at start first) (Err Ended) (at last now))
read_ended {limit} {start} {link} last {first} {waiting} now {gained} [] gains on none short is size got =
    let same : now ≡ waiting = is ∙ append-nil waiting in (
      (
        gained,
        record {
          got = ap (λ (l : Link). l.got) got ∙ append-nil link.got ∙ gains.got;
          waiting = same ∙ gains.waiting;
          sent = ap (λ (l : Link). l.sent) got ∙ gains.sent;
        },
      ),
      (rw same none, rw same short, ap (λ (l : Link). l.ended) got ∙ or-true link.ended, ap (λ (l : Link). l.failures) got ∙ on.failures),
    )
read_ended last now (byte ∷ piece) gains on none short is size got = absurd (omega (arith, size))

pub returns-in-Some-clause-read : goal.returns-in-Some-clause-read
returns-in-Some-clause-read g c = λ s.
    let inv = c.loop-length.invariant.1 in
    let known = inv.2 s in
    rw c.line_end.ensures.same (known.0, known.1, ((inv.0, known.2), (c.in-Some.ensures.found, known.3)))

pub returns-then-waiting-limit-clause-read : goal.returns-then-waiting-limit-clause-read
returns-then-waiting-limit-clause-read g c = λ s.
    let inv = c.loop-length.invariant.1 in
    let known = inv.2 s in
    let long : c.args.limit ≤ length c.loop-length.self = rw (← c.line_end.ensures.same, ← c.waiting.ensures.value)
    c.if-waiting-limit.true in
    rw c.line_end.ensures.same (known.0, known.1, ((inv.0, known.2), (c.in_default.ensures.none, long, known.3)))

pub returns-in-Err-clause-read : goal.returns-in-Err-clause-read
returns-in-Err-clause-read g c = λ s.
    let inv = c.loop-length.invariant.1 in
    let was = c.in-Err.ensures.err.1 s in
    let known = inv.2 was.0 in
    let short : length c.loop-length.self < c.args.limit = rw (← c.line_end.ensures.same, ← c.waiting.ensures.value)
    c.if-waiting-limit.false in
    rw (c.in-Err.ensures.err.0, c.line_end.ensures.same) (
      known.0,
      g.met.W.Wire.leads_on _ _ _ known.1 was.1,
      (
        (
          inv.0,
          record {
            got = ap (λ (l : Link). l.got) was.2 ∙ known.2.got;
            waiting = known.2.waiting;
            sent = ap (λ (l : Link). l.sent) was.2 ∙ known.2.sent;
          },
        ),
        (
          c.in_default.ensures.none,
          short,
          ap (λ (l : Link). l.ended) was.2 ∙ known.3.ended,
          ap (λ (l : Link). l.failures) was.2 ∙ ap (λ (k : ℕ). k + 1) known.3.failures,
        ),
      ),
    )

pub returns-then-n-eq0-clause-gained : goal.returns-then-n-eq0-clause-gained
returns-then-n-eq0-clause-gained g c =
    let inv = c.loop-length.invariant.1 in
    let filled = c.in-Ok.ensures.ok in (
      inv.0 ++ filled.0,
      filled.2 ∙ ap (λ (l : List ℕ). l ++ filled.0) (c.line_end.ensures.same ∙ inv.1) ∙ append_assoc c.args.self.now inv.0 filled.0,
    )

pub returns-then-n-eq0-clause-read : goal.returns-then-n-eq0-clause-read
returns-then-n-eq0-clause-read g c = λ s.
    let inv = c.loop-length.invariant.1 in
    let filled = c.in-Ok.ensures.ok in
    let got = filled.3 s in
    let known = inv.2 got.0 in
    let short : length c.loop-length.self < c.args.limit = rw (← c.line_end.ensures.same, ← c.waiting.ensures.value)
    c.if-waiting-limit.false in
    let now : c.fill_at_most.new.self ≡ c.loop-length.self ++ filled.0 = filled.2
    ∙ ap (λ (l : List ℕ). l ++ filled.0) c.line_end.ensures.same in (
      known.0,
      g.met.W.Wire.leads_on _ _ _ known.1 got.1,
      read_ended (g.W.Wire.history c.fill_at_most.new.wire) c.fill_at_most.new.self filled.0 known.2 known.3
          c.in_default.ensures.none short now (filled.1 ∙ omega (arith, c.if-n-eq0.true)) got.2,
    )
