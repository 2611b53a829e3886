-- Lines and bodies: where a line ends, that a body ends at one place only, and what an octet does to a body that is read octet by octet.
use Rattle.std.{
  proofs.Common.{◌≡◌, ◌==◌, ◌⊎◌, inl, inr, ℕ, zero, suc, Bool, ◌+◌, ◌-◌, ◌<◌, ◌≤◌, slice_index, List, [], ◌∷◌, ◌++◌, length, take, drop},
  proofs.Common.{refl, sym, ap, subst, ◌∙◌, arith, append_assoc, take-append-drop, length-append, length-take-le, eqb-true, ◌≢◌, get_or},
  proofs.Common.{append-nil, ne_eqb, take-add, flat_map, map, true, false, Option, None, Some},
  proofs.Math.{Seq.{drop-append_seam, take-suc}, Logic.⊎_elim},
  proofs.lemmas.{Grind.flat_map-append, List.{Folds.flat_map-map, take_at, flat_map_more, append-nil, same_from_push, take_rest}},
  proofs.lemmas.Bool.Decides.{eqb_tells, nat_tests},
  specs.List.{flat_map, AllByRecursion, onto_first, AllZip},
}
use Rattle.memchr.{
  specs.Find.{OccursAt, Nowhere, NoneBefore, Passes, is_byte},
  proofs.lemmas.MatchLemmas.{OccursAt-split, OccursAt-from_part},
}
use Rattle.pop3_wire.specs.{
  Line.{crlf, IsLine, OneLine, ended},
  Body.{dot, IsContent, lf_line, body_of, text_of, Body, HasNoBody, unstuffed},
  Stuffed.{OneBody, stuffed, stuffed_lines, StuffedIsBody, StuffedIsRead},
  declared.{unstuffer.Spot.{Spot, TheVariants.{Middle, Cr, Done}}, command.Command.Command, reply.Status.TheVariants.{Positive, Negative}},
  Reply.IsFirstLine,
  Unstuffing.{Partly, NoCr, InLine, AtCr, Reaches},
  Reading.{WholeReply, body_bytes, reply_bytes, gives_body, IsBodyIf, IsReplyTo},
}
use Rattle.mail_terms.specs.Text.{lines_of_text, whole_text, HasNoLf}

-- a list is empty, or has a last element
pub last_split : (xs : List ℕ) → (xs ≡ []) ⊎ ((ys : List ℕ) × (y : ℕ) × (xs ≡ ys ++ y ∷ []))
last_split [] = inl refl
last_split (x ∷ xs) = inr (⊎_elim (λ none. ([], x, ap (λ l. x ∷ l) none))
    (λ some. (x ∷ some.0, some.1, ap (λ l. x ∷ l) some.2)) (last_split xs))

-- the pair occurs at the place at which the bytes are split
occurs_at_split : (front rest : List ℕ) → OccursAt (front ++ (crlf ++ rest)) crlf (length front)
occurs_at_split front rest =
    let fits : length front + 2 ≤ length (front ++ (crlf ++ rest)) = omega (arith, length-append front (crlf ++ rest)) in
    OccursAt-from_part (front ++ (crlf ++ rest)) crlf (length front) fits (ap (take 2) (drop-append_seam front (crlf ++ rest)))

pub IsLine-nowhere : (bytes : List ℕ) → Nowhere (OccursAt bytes crlf) 0 (length bytes + 1) → IsLine bytes
IsLine-nowhere bytes none front rest e =
    let occurs : OccursAt bytes crlf (length front) = rw e (occurs_at_split front rest) in
    none (length front) (omega arith) (omega (arith, occurs.fits)) occurs

pub IsLine-nil : IsLine []
IsLine-nil front rest e = absurd (omega (arith, ap length e, length-append front (crlf ++ rest)))

pub IsLine-front : (a b : List ℕ) → IsLine (a ++ b) → IsLine a
IsLine-front a b line front rest e = line front (rest ++ b) (rw e (append_assoc front (crlf ++ rest) b))

pub IsLine-back : (a b : List ℕ) → IsLine (a ++ b) → IsLine b
IsLine-back a b line front rest e = line (a ++ front) rest (rw e (sym (append_assoc a front (crlf ++ rest))))

-- the first place of the pair ends a line
pub line_found : (bytes : List ℕ) (k : ℕ) → NoneBefore (OccursAt bytes crlf) 0 (length bytes + 1) k → OccursAt bytes crlf k
    → IsLine (take k bytes) × (bytes ≡ take k bytes ++ (crlf ++ drop (k + 2) bytes))
line_found bytes k first occurs = (whole, split)
  where
    split : bytes ≡ take k bytes ++ (crlf ++ drop (k + 2) bytes)
    split = sym (take-append-drop k bytes) ∙ ap (λ l. take k bytes ++ l) (OccursAt-split bytes crlf k occurs)

    whole : IsLine (take k bytes)
    whole front rest e =
        let again : bytes ≡ front ++ (crlf ++ (rest ++ drop k bytes)) =
        sym (take-append-drop k bytes) ∙ ap (λ l. l ++ drop k bytes) e ∙ append_assoc front (crlf ++ rest) (drop k bytes) in
        let earlier : OccursAt bytes crlf (length front) = subst (λ (b : List ℕ). OccursAt b crlf (length front))
        (sym again) (occurs_at_split front (rest ++ drop k bytes)) in
        first.before (length front) (omega arith) (omega (
          arith,
          occurs.fits,
          length-take-le k bytes (omega (arith, occurs.fits)),
          ap length e,
          length-append front (crlf ++ rest),
        )) earlier

-- ---- by the place of the first LF

abbrev pub is_lf : ℕ → Bool
is_lf byte = is_byte 10 byte

-- where the pair occurs, LF comes next
lf_follows : (bytes : List ℕ) (k : ℕ) → OccursAt bytes crlf k → Passes is_lf bytes (k + 1)
lf_follows bytes k occurs = ap is_lf (occurs.reads 1 (omega arith))

-- without LF there is no pair
pub IsLine-without_lf : (bytes : List ℕ) → Nowhere (Passes is_lf bytes) 0 (length bytes) → IsLine bytes
IsLine-without_lf bytes none =
    IsLine-nowhere bytes (λ k low high occurs. none (k + 1) (omega arith) (omega (arith, occurs.fits)) (lf_follows bytes k occurs))

-- the first LF ends a line if CR stands before it
pub line_by_lf : (bytes : List ℕ) (k : ℕ) → NoneBefore (Passes is_lf bytes) 0 (length bytes) k → Passes is_lf bytes k → 0 < k
    → slice_index bytes (k - 1) ≡ 13 → IsLine (take (k - 1) bytes) × (bytes ≡ take (k - 1) bytes ++ (crlf ++ drop (k + 1) bytes))
line_by_lf bytes k first found some cr =
    let after : (k - 1) + 2 ≡ k + 1 = omega (arith, some) in
    rw after at (line_found bytes (k - 1) none occurs)
  where
    reads : (j : ℕ) → j < 2 → slice_index bytes ((k - 1) + j) ≡ slice_index crlf j
    reads zero within = ap (slice_index bytes) (omega arith) ∙ cr
    reads (suc zero) within = ap (slice_index bytes) (omega (arith, some)) ∙ eqb-true (slice_index bytes k) 10 found
    reads (suc (suc j)) within = absurd (omega (arith, within))

    occurs : OccursAt bytes crlf (k - 1)
    occurs = record { fits = omega (arith, first.high, some); reads = reads }

    none : NoneBefore (OccursAt bytes crlf) 0 (length bytes + 1) (k - 1)
    none = record {
      low = omega arith;
      high = omega (arith, first.high);
      before = λ j low high earlier. first.before (j + 1) (omega arith) (omega (arith, high, some)) (lf_follows bytes j earlier);
    }

-- a line that isn't empty doesn't begin with the pair
no_front : (c : ℕ) (b x y : List ℕ) → IsLine (c ∷ b) → 13 ∷ 10 ∷ x ≡ c ∷ (b ++ (crlf ++ y)) → ⊥
no_front c [] x y line e = let h : ◌≡◌ {A = ℕ} 10 13 = cc in absurd (omega (arith, h))
no_front c (d ∷ b) x y line e = line [] b (cc)

-- bytes begin with at most one ended line
pub first_line_same : (a b : List ℕ) {x y : List ℕ} → IsLine a → IsLine b → a ++ (crlf ++ x) ≡ b ++ (crlf ++ y) → (a ≡ b) × (x ≡ y)
first_line_same [] [] la lb e = (refl, cc)
first_line_same [] (c ∷ b) {x} {y} la lb e = absurd (no_front c b x y lb e)
first_line_same (c ∷ a) [] {x} {y} la lb e = absurd (no_front c a y x la (sym e))
first_line_same (c ∷ a) (d ∷ b) {x} {y} la lb e =
    let later : a ++ (crlf ++ x) ≡ b ++ (crlf ++ y) = cc in
    let rest = first_line_same a b (IsLine-back (c ∷ []) a la) (IsLine-back (d ∷ []) b lb) later in
    (cc, rest.1)

pub one_line : OneLine
one_line line other rest more is is' e = first_line_same line other is is' (simp append_assoc at e)

-- ---- a body ends at one place only, and reading line by line finds it

-- the bytes begin with these lines of a body, which stand for the text, and the rest follows
pub record ReadsLines (bytes rest text : List ℕ) : Type 0 where
  pub lines : List (List ℕ)
  pub content : AllByRecursion IsContent lines
  pub whole : bytes ≡ flat_map ended lines ++ rest
  pub read : text ≡ text_of lines

pub IsLine-dot : IsLine dot
IsLine-dot [] rest e = cc
IsLine-dot (b ∷ []) rest e = cc
IsLine-dot (b ∷ d ∷ front) rest e = cc

-- ended lines in front, with the parentheses moved
pub ended_first : (line : List ℕ) (more rest : List ℕ) → (ended line ++ more) ++ rest ≡ line ++ (crlf ++ (more ++ rest))
ended_first line more rest = simp append_assoc

-- the lines that were read are the first lines of every body that begins with them
pub first_lines : (lines : List (List ℕ)) (rest : List ℕ) (others : List (List ℕ)) (more : List ℕ)
    → AllByRecursion IsContent lines → AllByRecursion IsContent others
    → flat_map ended lines ++ rest ≡ flat_map ended others ++ (ended dot ++ more)
    → (later : List (List ℕ)) × AllByRecursion IsContent later × (others ≡ lines ++ later)
    × (rest ≡ flat_map ended later ++ (ended dot ++ more))
first_lines [] rest others more content content' e = (others, content', refl, e)
first_lines (line ∷ lines) rest [] more content content' e =
    absurd (content.0.1 (first_line_same line dot content.0.0 IsLine-dot (sym (ended_first line (flat_map ended lines) rest) ∙ e)).0)
first_lines (line ∷ lines) rest (other ∷ others) more content content' e =
    let same = first_line_same line other content.0.0 content'.0.0 (sym (ended_first line (flat_map ended lines) rest)
    ∙ e ∙ ended_first other (flat_map ended others) (ended dot ++ more)) in
    let (later, are, is, rest_is) = first_lines lines rest others more content.1 content'.1 same.1 in
    (later, are, cc, rest_is)

-- lines of a body, followed by a line that never ends, hold no body
pub no_body : (bytes rest text : List ℕ) → ReadsLines bytes rest text → IsLine rest → HasNoBody bytes
no_body bytes rest text reads line body other more is e =
    let first = first_lines reads.lines rest is.lines more reads.content is.content (sym reads.whole ∙ e
    ∙ rw is.whole (append_assoc (flat_map ended is.lines) (ended dot) more)) in
    never first.0 first.3
  where
    never : (later : List (List ℕ)) → rest ≡ flat_map ended later ++ (ended dot ++ more) → ⊥
    never [] e = line dot more e
    never (l ∷ later) e = line l (flat_map ended later ++ (ended dot ++ more)) (e
        ∙ ended_first l (flat_map ended later) (ended dot ++ more))

-- bytes begin with at most one body
pub same_lines : (lines others : List (List ℕ)) (x y : List ℕ) → AllByRecursion IsContent lines → AllByRecursion IsContent others
    → body_of lines ++ x ≡ body_of others ++ y → (lines ≡ others) × (x ≡ y)
same_lines lines others x y content content' e =
    let (later, are, is, rest) = first_lines lines (ended dot ++ x) others y content content'
    (sym (append_assoc (flat_map ended lines) (ended dot) x) ∙ e ∙ append_assoc (flat_map ended others) (ended dot) y) in
    none later are is rest
  where
    none : (later : List (List ℕ)) → AllByRecursion IsContent later → others ≡ lines ++ later
        → ended dot ++ x ≡ flat_map ended later ++ (ended dot ++ y) → (lines ≡ others) × (x ≡ y)
    none [] are is rest = (sym (is ∙ append-nil lines), cc)
    none (l ∷ later) are is rest =
        absurd (are.0.1 (sym (first_line_same dot l IsLine-dot are.0.0 (rest ∙ ended_first l (flat_map ended later) (ended dot ++ y))).0))

pub one_body : OneBody
one_body a b s t x y left right e =
    let same = same_lines left.lines right.lines x y left.content right.content (rw (← left.whole, ← right.whole) e) in
    (left.whole ∙ ap body_of same.0 ∙ sym right.whole, left.read ∙ ap text_of same.0 ∙ sym right.read, same.1)

-- one more line was read
pub reads_more : (bytes rest line after text : List ℕ) → ReadsLines bytes rest text → IsLine line
    → rest ≡ line ++ (crlf ++ after) → (line ≢ dot) → ReadsLines bytes after (text ++ lf_line line)
reads_more bytes rest line after text reads is cut other = record {
  lines = reads.lines ++ line ∷ [];
  content = all_push reads.lines reads.content;
  whole = reads.whole ∙ rw (cut, sym (flat_map_more ended [] reads.lines line)) (simp append_assoc);
  read = rw reads.read (flat_map_more lf_line [] reads.lines line);
}
  where
    all_push : (lines : List (List ℕ)) → AllByRecursion IsContent lines → AllByRecursion IsContent (lines ++ line ∷ [])
    all_push [] content = ((is, other), tt)
    all_push (first ∷ lines) content = (content.0, all_push lines content.1)

-- the end mark was read
pub reads_end : (bytes rest line after text : List ℕ) → ReadsLines bytes rest text → rest ≡ line ++ (crlf ++ after) → line ≡ dot
    → (length bytes - length after ≤ length bytes) × Body (take (length bytes - length after) bytes) text
reads_end bytes rest line after text reads cut is =
    let whole : bytes ≡ body_of reads.lines ++ after = reads.whole
    ∙ rw (cut, is) (sym (append_assoc (flat_map ended reads.lines) (ended dot) after)) in
    let sizes : length (body_of reads.lines) ≡ length bytes - length after =
    omega (arith, ap length whole, length-append (body_of reads.lines) after) in (
      omega arith,
      record {
        lines = reads.lines;
        content = reads.content;
        whole =
            ap (take (length bytes - length after)) whole ∙ take_at (body_of reads.lines) after _ sizes;
        read = reads.read;
      },
    )

-- ---- what an octet does to a body that is read octet by octet

-- one more octet keeps a line a line, unless it is an LF after a CR
IsLine-push : (part : List ℕ) (byte : ℕ) → IsLine part → (byte ≢ 10) ⊎ NoCr part → IsLine (part ++ byte ∷ [])
IsLine-push part byte line apart front rest e = elim (last_split rest) [
  | inl none ↦
      let same = same_from_push part (front ++ 13 ∷ []) byte 10 (e ∙ rw none (sym (append_assoc front (13 ∷ []) (10 ∷ [])))) in
      elim apart [ inl other ↦ other same.1 | inr none ↦ none front same.0 ]
  | inr (more, last, is) ↦ line front more (same_from_push part (front ++ (crlf ++ more)) byte last (e
      ∙ rw is (sym (append_assoc front (crlf ++ more) (last ∷ []))))).0
]

push-some : (part : List ℕ) (byte : ℕ) → (part ++ byte ∷ []) ≢ []
push-some part byte e = absurd (omega (arith, ap length e, length-append part (byte ∷ [])))

unstuffed-push : (part : List ℕ) (byte : ℕ) → (part ≢ []) ⊎ (byte ≢ 46) → unstuffed (part ++ byte ∷ []) ≡ unstuffed part ++ byte ∷ []
unstuffed-push [] byte some = ⊎_elim (λ n. absurd (n refl)) (λ other. grind (arith, ne_eqb byte 46 other)) some
unstuffed-push (b ∷ part) byte some = grind arith

-- one more octet of the line that is read
one_octet_more : {bytes text part shown : List ℕ} (byte : ℕ) (given shown' : List ℕ)
    → Partly bytes text part shown → IsLine (part ++ byte ∷ []) → shown' ≡ shown ++ given
    → Partly (bytes ++ byte ∷ []) (text ++ given) (part ++ byte ∷ []) shown'
one_octet_more {part} {shown} byte given shown' partly line more = record {
  lines = partly.lines;
  content = partly.content;
  line = line;
  whole = ap (λ (l : List ℕ). l ++ byte ∷ []) partly.whole ∙ append_assoc (flat_map ended partly.lines) part (byte ∷ []);
  read = ap (λ (l : List ℕ). l ++ given) partly.read ∙ append_assoc (text_of partly.lines) shown given
      ∙ ap (λ (l : List ℕ). text_of partly.lines ++ l) (sym more);
}

pub NoCr-dot : NoCr dot
NoCr-dot front e = absurd (omega (arith, (same_from_push [] front 46 13 e).1))

-- a CR that isn't shown yet
pub at_cr : {bytes text part shown : List ℕ} (given : List ℕ) → Partly bytes text part shown → part ≢ dot → unstuffed part ≡ shown ++ given
    → AtCr (bytes ++ 13 ∷ []) (text ++ given)
at_cr {part} given h other more =
    record {
      part = part;
      other = other;
      partly =
          one_octet_more 13 given (unstuffed part) h (IsLine-push part 13 h.line (inl (λ e. absurd (omega (arith, e))))) more;
    }

-- an octet of a line that is no CR
pub in_line : {bytes text part shown : List ℕ} (given : List ℕ) (byte : ℕ) → Partly bytes text part shown → byte ≢ 13
    → (byte ≢ 10) ⊎ NoCr part
    → (part ++ byte ∷ []) ≢ dot → unstuffed (part ++ byte ∷ []) ≡ shown ++ given → InLine (bytes ++ byte ∷ []) (text ++ given)
in_line {part} given byte h no_cr apart other more = record {
  part = part ++ byte ∷ [];
  some = push-some part byte;
  other = other;
  no_cr = λ front e. no_cr (same_from_push part front byte 13 e).1;
  partly = one_octet_more byte given (unstuffed (part ++ byte ∷ [])) h (IsLine-push part byte h.line apart) more;
}

pub start_other : {bytes text : List ℕ} (byte : ℕ) → byte ≢ 46 → byte ≢ 13 → Partly bytes text [] []
    → InLine (bytes ++ byte ∷ []) (text ++ byte ∷ [])
start_other byte no_dot no_cr h = in_line (byte ∷ []) byte h no_cr (inr (λ front e. push-some front 13 (sym e)))
    (λ e. no_dot (same_from_push [] [] byte 46 e).1) (unstuffed-push [] byte (inr no_dot))

pub dot_cr : {bytes text : List ℕ} → Partly bytes text dot [] → Partly (bytes ++ 13 ∷ []) (text ++ []) (46 ∷ 13 ∷ []) []
dot_cr h = one_octet_more 13 [] [] h (IsLine-push dot 13 IsLine-dot (inl (λ e. absurd (omega (arith, e))))) refl

pub middle_cr : {bytes text : List ℕ} → InLine bytes text → AtCr (bytes ++ 13 ∷ []) (text ++ [])
middle_cr h = at_cr [] h.partly h.other (sym (append-nil (unstuffed h.part)))

pub middle_other : {bytes text : List ℕ} (byte : ℕ) → byte ≢ 13 → InLine bytes text → InLine (bytes ++ byte ∷ []) (text ++ byte ∷ [])
middle_other byte no_cr h =
    in_line (byte ∷ []) byte h.partly no_cr (inr h.no_cr) (λ e. h.some (same_from_push h.part [] byte 46 e).0)
    (unstuffed-push h.part byte (inl h.some))

pub cr_lf : {bytes text : List ℕ} → AtCr bytes text → Partly (bytes ++ 10 ∷ []) (text ++ 10 ∷ []) [] []
cr_lf {bytes} h =
    let so_far : ReadsLines (bytes ++ 10 ∷ []) (h.part ++ (crlf ++ [])) (text_of h.partly.lines) =
    record {
      lines = h.partly.lines;
      content = h.partly.content;
      whole =
          ap (λ (b : List ℕ). b ++ 10 ∷ []) h.partly.whole ∙ simp append_assoc;
      read = refl;
    } in
    let more = reads_more (bytes ++ 10 ∷ []) (h.part ++ (crlf ++ [])) h.part [] (text_of h.partly.lines) so_far
    (IsLine-front h.part (13 ∷ []) h.partly.line) refl h.other in
    record {
      lines = more.lines;
      content = more.content;
      line = IsLine-nil;
      whole = more.whole;
      read = ap (λ (t : List ℕ). t ++ 10 ∷ []) h.partly.read
          ∙ append_assoc (text_of h.partly.lines) (unstuffed h.part) (10 ∷ []) ∙ more.read ∙ sym (append-nil (text_of more.lines));
    }

cr_shown : (part : List ℕ) → unstuffed (part ++ 13 ∷ []) ≡ unstuffed part ++ 13 ∷ []
cr_shown part = unstuffed-push part 13 (inr (λ e. absurd (omega (arith, e))))

pub cr_cr : {bytes text : List ℕ} → AtCr bytes text → AtCr (bytes ++ 13 ∷ []) (text ++ 13 ∷ [])
cr_cr h = at_cr (13 ∷ []) h.partly (λ e. absurd (omega (arith, (same_from_push h.part [] 13 46 e).1))) (cr_shown h.part)

pub cr_other : {bytes text : List ℕ} (byte : ℕ) → byte ≢ 10 → byte ≢ 13 → AtCr bytes text
    → InLine (bytes ++ byte ∷ []) (text ++ 13 ∷ byte ∷ [])
cr_other byte no_lf no_cr h =
    in_line (13 ∷ byte ∷ []) byte h.partly no_cr (inl no_lf) (λ e. push-some h.part 13 (same_from_push (h.part ++ 13 ∷ []) [] byte 46 e).0)
    (unstuffed-push (h.part ++ 13 ∷ []) byte (inl (push-some h.part 13))
    ∙ rw (cr_shown h.part) (append_assoc (unstuffed h.part) (13 ∷ []) (byte ∷ [])))

-- a piece that begins with the end of a line
pub middle_two : {bytes text : List ℕ} (piece : List ℕ) → 2 ≤ length piece → get_or piece 0 0 ≡ 13
    → get_or piece 1 0 ≡ 10 → InLine bytes text → Partly (bytes ++ take 2 piece) (text ++ 10 ∷ []) [] []
middle_two {bytes} {text} (a ∷ b ∷ rest) long first second h =
    rw (first, second) (rw (append_assoc bytes (13 ∷ []) (10 ∷ []), append-nil text) at (cr_lf (middle_cr h)))
middle_two piece long first second h = absurd (omega arith)

pub partly_none : Partly [] [] [] []
partly_none = record { lines = []; content = tt; line = IsLine-nil; whole = refl; read = refl }

partly_no_body : {bytes text part shown : List ℕ} → Partly bytes text part shown → HasNoBody bytes
partly_no_body {bytes} {part} h =
    no_body bytes part (text_of h.lines) (record { lines = h.lines; content = h.content; whole = h.whole; read = refl }) h.line

-- before the end no prefix of the octets read is a body
pub reached_no_body : (spot : Spot) (bytes text : List ℕ) → Reaches spot bytes text → spot ≢ Done → HasNoBody bytes
reached_no_body Middle bytes text h other = partly_no_body h.partly
reached_no_body Cr bytes text h other = partly_no_body h.partly
reached_no_body Done bytes text h other = absurd (other refl)
reached_no_body spot bytes text h other = partly_no_body h

pub reached_body : (spot : Spot) (bytes text whole : List ℕ) → Reaches spot bytes text → Body bytes whole → spot ≡ Done
reached_body Done bytes text whole h is = refl
reached_body spot bytes text whole h is = absurd (reached_no_body spot bytes text h (λ e. cc) bytes whole [] is (sym (append-nil bytes)))

-- octets of a line without CR are shown as they are
pub middle_run : (piece : List ℕ) (n : ℕ) → n ≤ length piece → ((k : ℕ) → k < n → get_or piece k 0 ≢ 13)
    → (bytes text : List ℕ) → InLine bytes text → InLine (bytes ++ take n piece) (text ++ take n piece)
middle_run piece zero fits none bytes text h = rw (append-nil bytes, append-nil text) h
middle_run piece (suc n) fits none bytes text h =
    rw (
      take-suc piece n 0 (omega arith),
      ← append_assoc bytes (take n piece) (get_or piece n 0 ∷ []),
      ← append_assoc text (take n piece) (get_or piece n 0 ∷ []),
    ) (middle_other (get_or piece n 0) (none n (omega arith))
    (middle_run piece n (omega arith) (λ k small. none k (omega arith)) bytes text h))

-- more octets of a piece were read
pub turn_on : (spot next : Spot) (bytes text piece : List ℕ) (used more : ℕ) (out out' : List ℕ)
    → Reaches spot (bytes ++ take used piece) (text ++ out) → ((b t : List ℕ) → Reaches spot b (t ++ out)
    → Reaches next (b ++ take more (take (length piece - used) (drop used piece))) (t ++ out'))
    → Reaches next (bytes ++ take (used + more) piece) (text ++ out')
turn_on spot next bytes text piece used more out out' so_far reaches =
    rw (take-add used more piece, ← append_assoc bytes (take used piece) (take more (drop used piece)))
    (rw take_rest at (reaches (bytes ++ take used piece) text so_far))

-- ---- the text shown so far begins the text of every body that begins with the octets read

-- no CR LF is split between the two
abbrev Apart : List ℕ → List ℕ → Type 0
Apart part rest = (front after : List ℕ) → part ≡ front ++ 13 ∷ [] → rest ≡ 10 ∷ after → ⊥

-- a part that holds no CR LF begins the next line
line_begins : (part rest line more : List ℕ) → IsLine part → Apart part rest → part ++ rest ≡ line ++ (crlf ++ more)
    → (behind : List ℕ) × (line ≡ part ++ behind)
line_begins [] rest line more is apart e = (line, refl)
line_begins (b ∷ []) rest [] more is apart e = absurd (apart [] more (cc) (cc))
line_begins (b ∷ c ∷ part) rest [] more is apart e = absurd (is [] part (cc))
line_begins (b ∷ part) rest (c ∷ line) more is apart e =
    let behind = line_begins part rest line more (IsLine-back (b ∷ []) part is)
    (λ front after f. apart (b ∷ front) after (ap (λ (l : List ℕ). b ∷ l) f)) (cc) in
    (behind.0, cc)

-- what is shown of a part begins the text of the lines that begin with this part
part_begins : (part rest : List ℕ) (later : List (List ℕ)) → part ≢ dot → IsLine part → Apart part rest → part ++ rest ≡ body_of later
    → (more : List ℕ) × (text_of later ≡ unstuffed part ++ more)
part_begins [] rest later other is apart e = (text_of later, refl)
part_begins (b ∷ part) rest [] other is apart e = absurd (other (alone part (line_begins (b ∷ part) rest dot [] is apart e)))
  where
    alone : (p : List ℕ) → (behind : List ℕ) × (dot ≡ (b ∷ p) ++ behind) → b ∷ p ≡ dot
    alone [] (behind, e') = cc
    alone (c ∷ p) (behind, e') = cc
part_begins (b ∷ part) rest (line ∷ lines) other is apart e =
    let (behind, is_line) = line_begins (b ∷ part) rest line (body_of lines) is apart (e
    ∙ ended_first line (flat_map ended lines) (ended dot)) in
    let undotted : unstuffed ((b ∷ part) ++ behind) ≡ unstuffed (b ∷ part) ++ behind = grind arith in
    (behind ++ (10 ∷ text_of lines), ap (λ (l : List ℕ). lf_line l ++ text_of lines) is_line ∙ rw undotted (simp append_assoc))

-- the text of the lines, and what is shown of the part, begin the whole text
text_begins : {bytes text part shown : List ℕ} (rest whole : List ℕ) → Partly bytes text part shown → Body (bytes ++ rest) whole
    → ((later : List (List ℕ)) → part ++ rest ≡ body_of later → (more : List ℕ) × (text_of later ≡ shown ++ more))
    → (more : List ℕ) × (whole ≡ text ++ more)
text_begins {part} {shown} rest whole h is begins =
    let (later, _, lines, rest_is) = first_lines h.lines (part ++ rest) is.lines [] h.content is.content
    (sym (append_assoc (flat_map ended h.lines) part rest) ∙ rw (← h.whole) is.whole) in
    let (more, shows) = begins later rest_is in (
      more,
      is.read ∙ ap text_of lines ∙ flat_map-append lf_line h.lines later ∙ ap (λ (l : List ℕ). text_of h.lines ++ l) shows
          ∙ sym (append_assoc (text_of h.lines) shown more) ∙ ap (λ (l : List ℕ). l ++ more) (sym h.read),
    )

pub reached_begins : (spot : Spot) (bytes text rest whole : List ℕ) → Reaches spot bytes text
    → Body (bytes ++ rest) whole → (more : List ℕ) × (whole ≡ text ++ more)
reached_begins Middle bytes text rest whole h is =
    text_begins rest whole h.partly is (λ later e. part_begins h.part rest later h.other h.partly.line
    (λ front after p q. h.no_cr front p) e)
reached_begins Cr bytes text rest whole h is =
    text_begins rest whole h.partly is
    (λ later e. part_begins h.part (13 ∷ rest) later h.other (IsLine-front h.part (13 ∷ []) h.partly.line)
    (λ front after p q. let no : ◌≡◌ {A = ℕ} 13 10 = cc in absurd (omega (arith, no))) (sym (append_assoc h.part (13 ∷ []) rest) ∙ e))
reached_begins Done bytes text rest whole h is =
    let one = one_body bytes (bytes ++ rest) text whole rest [] h is (sym (append-nil (bytes ++ rest))) in
    ([], sym one.1 ∙ sym (append-nil text))
reached_begins spot bytes text rest whole h is = text_begins rest whole h is (λ later e. (text_of later, refl))

-- ---- a line of a text holds no LF

text_lines : (text : List ℕ) → AllByRecursion HasNoLf (lines_of_text text)
text_lines [] = tt
text_lines (byte ∷ rest) = ⊎_elim (λ (p : ((byte == 10) ≡ true) × (byte ≡ 10)). rw p.0 (tt, text_lines rest))
    (λ (p : ((byte == 10) ≡ false) × (byte ≢ 10)). rw p.0 (all_onto_first (lines_of_text rest) p.1 (text_lines rest))) (eqb_tells byte 10)
  where
    all_onto_first : (lines : List (List ℕ)) → byte ≢ 10 → AllByRecursion HasNoLf lines → AllByRecursion HasNoLf (onto_first byte lines)
    all_onto_first [] other all = ((other, tt), tt)
    all_onto_first (line ∷ lines) other all = ((other, all.0), all.1)

pub no_pair : (line : List ℕ) → HasNoLf line → IsLine line
no_pair (byte ∷ next ∷ line) all [] rest e = all.1.0 (cc)
no_pair (byte ∷ line) all (b ∷ front) rest e = no_pair line all.1 front rest (cc)
no_pair line all [] rest e = cc
no_pair line all (b ∷ front) rest e = cc

-- a stuffed line is a line of a body
stuffed_content : (line : List ℕ) → HasNoLf line → IsContent (stuffed line)
stuffed_content [] all = (no_pair [] tt, λ e. cc)
stuffed_content (byte ∷ rest) all = elim (eqb_tells byte 46) [
  | inl p ↦ rw p.0 (no_pair (46 ∷ byte ∷ rest) ((λ e. absurd (omega arith)), all), λ e. cc)
  | inr p ↦ rw p.0 (no_pair (byte ∷ rest) all, λ e. p.1 (cc))
]

stuffed_read : (line : List ℕ) → unstuffed (stuffed line) ≡ line
stuffed_read [] = refl
stuffed_read (byte ∷ rest) = grind arith

-- ---- what a writer sends is a body

all_content : (lines : List (List ℕ)) → AllByRecursion HasNoLf lines → AllByRecursion IsContent (map stuffed lines)
all_content [] all = tt
all_content (line ∷ lines) all = (stuffed_content line all.0, all_content lines all.1)

stuffed_read_back : (lines : List (List ℕ)) → text_of (map stuffed lines) ≡ flat_map (λ line. line ++ 10 ∷ []) lines
stuffed_read_back [] = refl
stuffed_read_back (line ∷ lines) = rw (stuffed_read line, stuffed_read_back lines) refl

lines_join : (text : List ℕ) → flat_map (λ line. line ++ 10 ∷ []) (lines_of_text text) ≡ whole_text text
lines_join [] = refl
lines_join (byte ∷ []) = grind (arith, nat_tests)
lines_join (byte ∷ next ∷ rest) = elim (eqb_tells byte 10) [
  | inl p ↦ rw (p.0, lines_join (next ∷ rest)) (ap (λ b. b ∷ whole_text (next ∷ rest)) (sym p.1))
  | inr p ↦ rw p.0 (onto_first_joined (lines_of_text (next ∷ rest)) some_line ∙ ap (λ l. byte ∷ l) (lines_join (next ∷ rest)))
]
  where
    some_onto_first : (lines : List (List ℕ)) → onto_first next lines ≢ []
    some_onto_first [] e = cc
    some_onto_first (line ∷ lines) e = cc

    some_line : lines_of_text (next ∷ rest) ≢ []
    some_line = elim (eqb_tells next 10) [ inl p ↦ rw p.0 (λ e. cc) | inr p ↦ rw p.0 (some_onto_first (lines_of_text rest)) ]

    onto_first_joined : (lines : List (List ℕ)) → lines ≢ []
        → flat_map (λ line. line ++ 10 ∷ []) (onto_first byte lines) ≡ byte ∷ flat_map (λ line. line ++ 10 ∷ []) lines
    onto_first_joined [] some = absurd (some refl)
    onto_first_joined (line ∷ lines) some = refl

pub stuffed_is_body : StuffedIsBody
stuffed_is_body text = record {
  lines = map stuffed (lines_of_text text);
  content = all_content (lines_of_text text) (text_lines text);
  whole = ap (λ (b : List ℕ). b ++ ended dot) (sym (flat_map-map ended stuffed (lines_of_text text)));
  read = sym (stuffed_read_back (lines_of_text text) ∙ lines_join text);
}

pub stuffed_is_read : StuffedIsRead
stuffed_is_read text more body read rest is e =
    one_body body (stuffed_lines (lines_of_text text)) read (whole_text text) rest more is (stuffed_is_body text) (sym e)

-- ---- octets split into replies in one way only

-- no line has both a positive and a negative status
pub two_statuses : {line other rest more : List ℕ} → line ≡ other → IsFirstLine line Positive rest → IsFirstLine other Negative more → ⊥
two_statuses same good bad = let heads : ◌≡◌ {A = ℕ} 43 45 = cc (same, good.1, bad.1) in absurd (omega (arith, heads))

-- bytes begin with at most one body, if there is one, and with none if there isn't
one_body_if : (with_body : Bool) (body other : Option (List (List ℕ))) (x y : List ℕ) → IsBodyIf with_body body → IsBodyIf with_body other
    → body_bytes body ++ x ≡ body_bytes other ++ y → (body ≡ other) × (x ≡ y)
one_body_if true (Some lines) (Some others) x y is is' e = let same = same_lines lines others x y is is' e in (ap Some same.0, same.1)
one_body_if false None None x y is is' e = (refl, e)
one_body_if with_body body other x y is is' e = absurd (grind (arith, is, is'))

one_reply : (asked : Option Command) (reply other : WholeReply) (x y : List ℕ) → IsReplyTo asked reply → IsReplyTo asked other
    → reply_bytes reply ++ x ≡ reply_bytes other ++ y → (reply ≡ other) × (x ≡ y)
one_reply asked reply other x y is is' e =
    let firsts = first_line_same reply.first other.first is.line is'.line (simp append_assoc at e) in
    let bodies : (reply.body ≡ other.body) × (x ≡ y) = ⊎_elim
    (λ bad. ⊎_elim (λ bad'. one_body_if false reply.body other.body x y bad.1 bad'.1 firsts.1)
    (λ good'. absurd (two_statuses (sym firsts.0) good'.0.1 bad.0.1)) is'.status)
    (λ good. ⊎_elim (λ bad'. absurd (two_statuses firsts.0 good.0.1 bad'.0.1))
    (λ good'. one_body_if (gives_body asked) reply.body other.body x y good.1 good'.1 firsts.1) is'.status) is.status in
    ((λ i. record { first = firsts.0 i; body = bodies.0 i }), bodies.1)

pub one_list_of_replies : (asked : List (Option Command)) (replies others : List WholeReply) (rest more : List ℕ)
    → AllZip IsReplyTo asked replies → AllZip IsReplyTo asked others
    → flat_map reply_bytes replies ++ rest ≡ flat_map reply_bytes others ++ more → (replies ≡ others) × (rest ≡ more)
one_list_of_replies [] [] [] rest more is is' e = (refl, e)
one_list_of_replies (turn ∷ asked) (reply ∷ replies) (other ∷ others) rest more is is' e =
    let heads = one_reply turn reply other (flat_map reply_bytes replies ++ rest) (flat_map reply_bytes others ++ more) is.0 is'.0
    (sym (append_assoc (reply_bytes reply) (flat_map reply_bytes replies) rest) ∙ e
    ∙ append_assoc (reply_bytes other) (flat_map reply_bytes others) more) in
    let tails = one_list_of_replies asked replies others rest more is.1 is'.1 heads.1 in
    (cc, tails.1)
one_list_of_replies asked replies others rest more is is' e = absurd (grind (arith, is, is'))
