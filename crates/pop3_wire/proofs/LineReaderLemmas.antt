-- The octets that wait: where the search for a line's end goes on, and what it finds.
use Rattle.std.proofs.{
  Common.{◌≡◌, inl, inr, ◌≤◌, ◌<◌, ◌+◌, ◌-◌, ℕ, List, ◌++◌, length, take, drop, min, max, refl, sym, ap, ◌∙◌, arith, append_assoc},
  Common.{take-append-drop, length-append, length-take-le, length-take},
  Math.{Logic.⊎_elim, Seq.take-append-add},
  lemmas.{Bool.cases_lt, Slice.take-put_mid, List.{take-take, take_all, take_min, drop-append-le, drop-take, drop-drop, take_at, drop_at}},
}
use Rattle.pop3_wire.{specs.{Line.{crlf, IsLine}, Place.{HasLine, HasNoLine}}, proofs.BodyLemmas.{IsLine-nil, IsLine-front, IsLine-back}}
use borrow.Rule.Slice.PartMut.{put_mid}

pub no_line_zero : (w : List ℕ) → HasNoLine 0 w
no_line_zero w = record { none = IsLine-nil }

no_line_less : (m n : ℕ) (w : List ℕ) → m ≤ n → HasNoLine n w → HasNoLine m w
no_line_less m n w small known =
    record {
      none = IsLine-front (take m w) (drop m (take n w)) (rw (← take-take m n w small, take-append-drop) known.none);
    }

pub no_line_skip : (n s : ℕ) (w : List ℕ) → HasNoLine s w → HasNoLine (s - n) (drop n w)
no_line_skip n s w known = ⊎_elim (λ (past : s < n). let zero : s - n ≡ 0 = omega arith
    in rw zero (no_line_zero (drop n w))) (λ (small : n ≤ s).
    let sum : n + (s - n) ≡ s = omega arith in
    record {
      none = rw (← drop-take n (s - n) w, sum) (IsLine-back (take n (take s w)) (drop n (take s w)) (rw take-append-drop known.none));
    }) (cases_lt s n)

-- if neither the first s octets nor those from the last of them on hold a line end, there is none
seam : (u : List ℕ) (s : ℕ) → HasNoLine s u → IsLine (drop (s - 1) u) → IsLine u
seam u s known later front rest e = elim (cases_lt s (length (front ++ crlf))) [
  | inr early ↦
      let sum : length (front ++ crlf) + (s - length (front ++ crlf)) ≡ s = omega arith in
      known.none front (take (s - length (front ++ crlf)) rest) (ap (take s) (e ∙ sym (append_assoc front crlf rest))
      ∙ rw sum at (take-append-add (front ++ crlf) rest (s - length (front ++ crlf)))
      ∙ append_assoc front crlf (take (s - length (front ++ crlf)) rest))
  | inl late ↦ later (drop (s - 1) front) rest (ap (drop (s - 1)) e
      ∙ drop-append-le (s - 1) front (crlf ++ rest) (omega (arith, length-append front crlf)))
]

-- if the first n octets hold no line end, a prefix of the octets holds none in its first s, with s at most n
front_known : (s m n : ℕ) (w : List ℕ) → s ≤ n → HasNoLine n w → HasNoLine s (take m w)
front_known s m n w small known =
    ⊎_elim (λ (less : s < m). record {
      none =
          rw (take-take s m w (omega arith)) (no_line_less s n w small known).none;
    }) (λ (more : m ≤ s). record {
      none = rw (take_all s (take m w) (omega (arith, length-take m w))) (no_line_less m n w (omega arith) known).none;
    }) (cases_lt s m)

-- the search found a line's end
pub line_end_found : (w : List ℕ) (limit searched until from : ℕ) (line after : List ℕ)
    → until ≡ min limit (length w) → from ≡ min searched until - 1 → HasNoLine searched w
    → IsLine line → take (until - from) (drop from w) ≡ line ++ (crlf ++ after) → HasLine limit w (from + length line)
line_end_found w limit searched until from line after is_until is_from known is_line window = record {
  line = seam (take (from + length line) w) (min searched until)
      (front_known (min searched until) (from + length line) searched w (omega arith) known)
      (rw (← is_from, drop-take from (length line) w, behind, take_at line (crlf ++ (after ++ more)) (length line) refl) is_line);
  within = omega (arith, ap length window, length-append line (crlf ++ after), length-take (until - from) (drop from w));
  whole = sym (take-append-drop (from + length line) w) ∙ ap (λ (l : List ℕ). take (from + length line) w ++ l)
      (tail_is ∙ ap (λ (l : List ℕ). crlf ++ l) (sym (sym (drop-drop 2 (from + length line) w) ∙ ap (drop 2) tail_is)));
}
  where
    more : List ℕ
    more = drop (until - from) (drop from w)

    behind : drop from w ≡ line ++ (crlf ++ (after ++ more))
    behind = sym (take-append-drop (until - from) (drop from w)) ∙ ap (λ (l : List ℕ). l ++ more) window
        ∙ append_assoc line (crlf ++ after) more

    tail_is : drop (from + length line) w ≡ crlf ++ (after ++ more)
    tail_is = sym (drop-drop (length line) from w) ∙ ap (drop (length line)) behind
        ∙ drop_at line (crlf ++ (after ++ more)) (length line) refl

-- if the search found none, the octets that it went over hold none
pub line_end_none : (w : List ℕ) (limit searched until from : ℕ)
    → until ≡ min limit (length w) → from ≡ min searched until - 1 → HasNoLine searched w → IsLine (take (until - from) (drop from w))
    → HasNoLine until w
line_end_none w limit searched until from is_until is_from known window =
    let sum : from + (until - from) ≡ until = omega arith in
    record {
      none = seam (take until w) (min searched until) (front_known (min searched until) until searched w (omega arith) known)
          (rw (← is_from) (rw (← drop-take from (until - from) w, sum) at window));
    }

pub no_line_max : (s until : ℕ) (w : List ℕ) → HasNoLine s w → HasNoLine until w → HasNoLine (max s until) w
no_line_max s until w known found = ⊎_elim (λ (small : until < s). let is : max s until ≡ s = omega arith in rw is known)
    (λ (past : s ≤ until). let is : max s until ≡ until = omega arith in rw is found) (cases_lt until s)

pub no_line_limit : (limit until : ℕ) (w : List ℕ) → until ≡ min limit (length w) → HasNoLine until w → HasNoLine limit w
no_line_limit limit until w is_until found = record { none = rw (is_until, take_min) at found.none }

-- what waits after the first n octets were used
pub window_skip : (bytes : List ℕ) (start end n : ℕ) → n ≤ length (take (end - start) (drop start bytes))
    → (n ≤ end - start) × (take (end - (start + n)) (drop (start + n) bytes) ≡ drop n (take (end - start) (drop start bytes)))
window_skip bytes start end n fits =
    let small : n ≤ end - start = omega (arith, length-take (end - start) (drop start bytes)) in
    let sum : n + (end - (start + n)) ≡ end - start = omega (arith, small) in
    (small, rw (← drop-drop n start bytes, ← drop-take n (end - (start + n)) (drop start bytes), sum))

-- what waits after a piece was added
pub window_fill : (a k n : ℕ) (bytes buf : List ℕ) → a ≤ length bytes → n ≤ length buf
    → take (a + n - 0) (put_mid a k bytes buf) ≡ take a bytes ++ take n buf
window_fill a k n bytes buf low high =
    ap (λ (m : ℕ). take m (put_mid a k bytes buf)) (omega arith)
    ∙ sym (take-take (a + n) (a + length buf) (put_mid a k bytes buf) (omega arith))
    ∙ ap (take (a + n)) (take-put_mid a k bytes buf (a + length buf) refl low)
    ∙ ap (λ (m : ℕ). take m (take a bytes ++ buf)) (omega (arith, length-take-le a bytes low)) ∙ take-append-add (take a bytes) buf n
