-- Taking a body from a link, piece by piece.
use Rattle.std.proofs.Common.{◌≡◌, ◌≢◌, ◌<◌, ◌≤◌, ◌+◌, ◌-◌, ℕ, List, [], ◌++◌, length, take, drop, refl, sym, ap, ◌∙◌, arith, append-nil}
use Rattle.std.proofs.Common.{append_assoc, take-append-drop, length-append, length-take-le, take_at}
use Rattle.pop3_wire.{
  specs.{Body.HasNoBody, Link.Link, Place.{Place, at, GoesOn}, Bodies.{Drew, DrawsNothing, BodyCause, LeavesRest, Rest, rest_of, UnderWay}},
  specs.declared.body_reader.BodyFault.{BodyFault, TheVariants.{Ended, Failed, TooLong}},
  specs.declared.unstuffer.Spot.{Spot, TheVariants.{Start, Done}},
  specs.Unstuffing.Reaches,
  proofs.BodyLemmas.{reached_no_body, partly_none},
}

-- nothing was read yet
pub under_way_none : (limit : ℕ) (place : Place) → UnderWay limit place place (rest_of Start limit) []
under_way_none limit place = record {
  used = [];
  gained = [];
  reached = partly_none;
  sizes = omega arith;
  heard = append-nil place.waiting;
  drew = record { got = sym (append-nil place.link.got); sent = refl };
  goes_on = record { ended = refl; failures = refl };
}

pub drew_on : {a b c : Link} {g h : List ℕ} → Drew a b g → Drew b c h → Drew a c (g ++ h)
drew_on {a} {g} {h} first then = record { got = then.got ∙ rw first.got (append_assoc a.got g h); sent = then.sent ∙ first.sent }

module _ {limit : ℕ} {old : Place} {link : Link} {waits : List ℕ} {body : Rest} {text : List ℕ}
    (now : UnderWay limit old (at link waits) body text) where
  -- one more piece was drawn, and some of what waited was used
  pub under_way_on : (link' : Link) (more waits1 waits2 : List ℕ) (n : ℕ) (spot' : Spot) (put : List ℕ)
      → waits1 ≡ waits ++ more → Drew link link' more → GoesOn link link' → n ≤ body.left → n ≤ length waits1 → waits2 ≡ drop n waits1
      → ((bytes known : List ℕ) → Reaches body.spot bytes known → Reaches spot' (bytes ++ take n waits1) (known ++ put))
      → UnderWay limit old (at link' waits2) (rest_of spot' (body.left - n)) (text ++ put)
  under_way_on link' more waits1 waits2 n spot' put drawn drew onward small fits rest reaches = record {
    used = now.used ++ take n waits1;
    gained = now.gained ++ more;
    reached = reaches now.used text now.reached;
    sizes = omega (arith, length-append now.used (take n waits1), length-take-le n waits1 fits);
    heard = rw (
      rest,
      append_assoc now.used (take n waits1) (drop n waits1),
      take-append-drop,
      drawn,
      ← append_assoc old.waiting now.gained more,
      now.heard,
    ) (append_assoc now.used waits more);
    drew = drew_on now.drew drew;
    goes_on = record { ended = onward.ended ∙ now.goes_on.ended; failures = onward.failures ∙ now.goes_on.failures };
  }

  -- nothing came
  pub under_way_ends : body.spot ≢ Done → 0 < body.left → (fault : BodyFault) (link' : Link) (waits' : List ℕ)
      → waits ≡ [] → waits' ≡ [] → DrawsNothing fault link link'
      → LeavesRest limit old (at link' waits') × ((gained : List ℕ) × Drew old.link link' gained
      × BodyCause limit fault old.link link' (old.waiting ++ gained))
  under_way_ends other some fault link' waits' none none' nothing =
      let drew = cause fault nothing in (
        record {
          gained = now.gained;
          used = now.used;
          got = drew.0.got;
          within = omega arith;
          heard = now.heard ∙ ap (λ (l : List ℕ). now.used ++ l) (none ∙ sym none');
        },
        (now.gained, drew.0, drew.1),
      )
    where
      all : old.waiting ++ now.gained ≡ now.used
      all = now.heard ∙ ap (λ (l : List ℕ). now.used ++ l) none ∙ append-nil now.used

      no_body : HasNoBody (old.waiting ++ now.gained)
      no_body = rw all (reached_no_body body.spot now.used text now.reached other)

      short : length (old.waiting ++ now.gained) < limit
      short = omega (arith, ap length all, some)

      drawn : Drew link link' [] → Drew old.link link' now.gained
      drawn then = rw append-nil at (drew_on now.drew then)

      cause : (f : BodyFault) → DrawsNothing f link link' → Drew old.link link' now.gained
          × BodyCause limit f old.link link' (old.waiting ++ now.gained)
      cause Ended n = (drawn n.0, (no_body, short, n.1, n.2 ∙ now.goes_on.failures))
      cause Failed n = (drawn n.0, (no_body, short, n.1 ∙ now.goes_on.ended, n.2 ∙ ap (λ (k : ℕ). k + 1) now.goes_on.failures))
      cause TooLong n = absurd n

  -- no more octets may be taken
  pub under_way_too_long : body.spot ≢ Done → body.left ≡ 0
      → LeavesRest limit old (at link waits) × ((gained : List ℕ) × Drew old.link link gained
      × BodyCause limit TooLong old.link link (old.waiting ++ gained))
  under_way_too_long other none =
      let front : take limit (old.waiting ++ now.gained) ≡ now.used = ap (take limit) now.heard
      ∙ take_at now.used waits limit (omega arith) in (
        record { gained = now.gained; used = now.used; got = now.drew.got; within = omega arith; heard = now.heard },
        (
          now.gained,
          now.drew,
          (
            rw front (reached_no_body body.spot now.used text now.reached other),
            omega (arith, ap length now.heard, length-append now.used waits),
            now.goes_on,
          ),
        ),
      )
