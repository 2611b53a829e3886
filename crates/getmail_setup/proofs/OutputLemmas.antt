-- What one write after another has written.
use Rattle.std.{
  proofs.Common.{◌≡◌, ◌≢◌, ◌∙◌, ℕ, List, [], Option, None, Some, ◌++◌, ap, sym, subst, refl, append_assoc, rules},
  proofs.KnownBytes.{Appends-nil, Appends-trans},
  specs.Io.KnownBytes.Appends,
}
use Rattle.getmail_setup.specs.{declared.output.{Output.Output, OutputRefusal.OutputRefusal}, Output.{Puts, WritesFront}}

-- a front of both, where after a refusal nothing is written
front_both : (refusal : Option OutputRefusal) (a b c : Option (List ℕ)) (first second : List ℕ)
    → (refusal ≡ None → Appends a b first) → (refusal ≢ None → c ≡ b) → WritesFront a b first → WritesFront b c second
    → WritesFront a c (first ++ second)
front_both None a b c first second whole stays put more = record {
  front = first ++ more.front;
  rest = more.rest;
  is = ap (λ (l : List ℕ). first ++ l) more.is ∙ sym (append_assoc first more.front more.rest);
  appends = Appends-trans a b c first more.front (whole refl) more.appends;
}
front_both (Some why) a b c first second whole stays put more = record {
  front = put.front;
  rest = put.rest ++ second;
  is = ap (λ (l : List ℕ). l ++ second) put.is ∙ append_assoc put.front put.rest second;
  appends = subst (λ x. Appends a x put.front) (sym (stays (search rules))) put.appends;
}

pub puts_both : {W : Type 0} (contents : W → Option (List ℕ)) (old mid new : Output W) (first second : List ℕ)
    → Puts contents old first mid → Puts contents mid second new → Puts contents old (first ++ second) new
puts_both contents old mid new first second put more = record {
  whole = λ clean.
      let rest = more.whole clean in let begun = put.whole rest.0 in
      (begun.0, Appends-trans (contents old.writer) (contents mid.writer) (contents new.writer) first second begun.1 rest.1);
  front = front_both mid.refusal _ _ _ first second (λ clean. (put.whole clean).1) more.stays put.front more.front;
  stays = λ refused. more.stays (λ clean. refused (put.whole clean).0) ∙ put.stays refused;
}

pub front_none : (held : Option (List ℕ)) (octets : List ℕ) → WritesFront held held octets
front_none held octets = record { front = []; rest = octets; is = refl; appends = Appends-nil held }

pub puts_none : {W : Type 0} (contents : W → Option (List ℕ)) (old : Output W) → Puts contents old [] old
puts_none contents old = record {
  whole = λ clean. (clean, Appends-nil (contents old.writer));
  front = front_none _ [];
  stays = λ _. refl;
}

pub puts_three : {W : Type 0} (contents : W → Option (List ℕ)) (a b c d : Output W) (first second third : List ℕ)
    → Puts contents a first b → Puts contents b second c → Puts contents c third d → Puts contents a (first ++ (second ++ third)) d
puts_three contents a b c d first second third put next last =
    puts_both contents a b d first _ put (puts_both contents b c d second third next last)

pub puts_five : {W : Type 0} (contents : W → Option (List ℕ)) (a b c d e f : Output W) (first second third fourth fifth : List ℕ)
    → Puts contents a first b → Puts contents b second c → Puts contents c third d → Puts contents d fourth e → Puts contents e fifth f
    → Puts contents a (first ++ (second ++ (third ++ (fourth ++ fifth)))) f
puts_five contents a b c d e f first second third fourth fifth one two three four five =
    puts_both contents a b f first _ one
    (puts_both contents b c f second _ two (puts_three contents c d e f third fourth fifth three four five))
