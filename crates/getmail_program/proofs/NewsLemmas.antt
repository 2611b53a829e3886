-- What a text is known by, and what is written part by part.
use Rattle.std.{
  proofs.{
    Common.{◌≡◌, ◌∙◌, ◌∷◌, ◌++◌, ◌<◌, ◌==◌, ℕ, List, [], Option, true, false, ap, append-nil, append_assoc, arith},
    Common.{length, refl, subst, sym},
    Common.{Bool, decimal, drop, if◌then◌else◌, inl, inr},
    lemmas.{Bool.Decides.nat_tests, List.Concat.flat_map-cons, Str.{IsUtf8-from_is_utf8, is_utf8-from_IsUtf8}},
  },
  specs.{List.before_first, Str.{IsUtf8, is_utf8}},
}
use Rattle.mail_terms.specs.Text.{is_line_feed}
use Rattle.getmail_setup.specs.{declared.{journal.Part.Part, listed.Large.Large, output.Output.Output}, Output.Puts}
use Rattle.getmail_setup.proofs.OutputLemmas.{puts_both}
use Rattle.httpdate.specs.{Date.{date_text, unix_secs}, declared.date.HttpDate.HttpDate}
use Rattle.getmail_program.specs.News.{IsDate, all_text, first_of, large_lines, named_line, utf8_in}

-- octets that are text, and others
pub text_of_utf8 : (octets : List ℕ) → IsUtf8 octets → utf8_in octets ≡ octets
text_of_utf8 octets is = rw (is_utf8-from_IsUtf8 octets is) refl

pub text_of_other : (octets : List ℕ) → (IsUtf8 octets → ⊥) → utf8_in octets ≡ []
text_of_other octets broken =
    elim (is_utf8 octets) as (λ b. is_utf8 octets ≡ b → (if b then octets else []) ≡ []) [
      | true ↦ λ e. absurd (broken (IsUtf8-from_is_utf8 octets e))
      | false ↦ λ e. refl
    ] refl

-- octets that are none have no line
pub line_of_none : (text : List ℕ) → (length text == 0) ≡ true → before_first is_line_feed text ≡ text
line_of_none [] none = refl
line_of_none (octet ∷ text) none = absurd (grind (arith, nat_tests, none))

-- one more part was written
pub next_part : {E : Type 0} (contents : E → Option (List ℕ)) (old mid new : Output E) (all done : List ℕ) (part : Part)
    (behind : List Part) → Puts contents old done mid → Puts contents mid part.text.items new
    → done ++ all_text (part ∷ behind) ≡ all
    → (more : List ℕ) × Puts contents old more new × (more ++ all_text behind ≡ all)
next_part contents old mid new all done part behind put next is = (
  done ++ part.text.items,
  puts_both contents old mid new done part.text.items put next,
  append_assoc done part.text.items (all_text behind)
      ∙ ap (λ (text : List ℕ). done ++ text) (sym (flat_map-cons (λ (p : Part). p.text.items) part behind)) ∙ is,
)

-- one more message was named or wasn't
pub next_named : (account : List ℕ) (limit : ℕ) (all text new : List ℕ) (message : Large) (large behind : List Large)
    (marks others : List Bool) (is_named : Bool) → text ++ large_lines account limit large marks ≡ all
    → large ≡ message ∷ behind → is_named ≡ first_of marks → others ≡ drop 1 marks
    → new ≡ text ++ named_line account limit is_named message → new ++ large_lines account limit behind others ≡ all
next_named account limit all text new message large behind marks others is_named is whole named left grown =
    ap (λ (t : List ℕ). t ++ large_lines account limit behind others) grown
    ∙ append_assoc text (named_line account limit is_named message) (large_lines account limit behind others)
    ∙ ap (λ (b : Bool). text ++ (named_line account limit b message ++ large_lines account limit behind others)) named
    ∙ ap (λ (m : List Bool). text ++ (named_line account limit (first_of marks) message ++ large_lines account limit behind m)) left
    ∙ ap (λ (l : List Large). text ++ large_lines account limit l marks) (sym whole) ∙ is

-- a second that has a date, and one that has none
pub is_date : (second : ℕ) (text : List ℕ) (date : HttpDate) → unix_secs date ≡ second → text ≡ date_text date → IsDate second text
is_date second text date at is = inl (date, at, is)

pub is_number : (second : ℕ) (text : List ℕ) → (second < 253_402_300_800 → ⊥) → text ≡ decimal second → IsDate second text
is_number second text late is = inr (omega (arith, late), is)

-- no part is left, and something else was written behind them
pub all_parts : {E : Type 0} (contents : E → Option (List ℕ)) (old mid new : Output E) (all done tail : List ℕ)
    (left : List Part) → Puts contents old done mid → done ++ all_text left ≡ all → length left ≡ 0
    → Puts contents mid tail new → Puts contents old (all ++ tail) new
all_parts contents old mid new all done tail [] put is none last =
    subst (λ (text : List ℕ). Puts contents old (text ++ tail) new) (sym (append-nil done) ∙ is)
    (puts_both contents old mid new done tail put last)
all_parts contents old mid new all done tail (part ∷ left) put is none last = absurd (omega (arith, none))
