-- What one write after another has written.
use Rattle.std.proofs.Common.{◌≡◌, ◌≢◌, ◌∙◌, ℕ, Bool, List, [], None, Option, Some, ◌++◌, append-nil, append_assoc, codes, inl, inr, rules}
use Rattle.rc_file.specs.declared.settings.Settings.{Settings}
use Rattle.session_parts.specs.{Text.fault_text, declared.{fault.Fault.Fault, report.Outcome.Outcome}}
use Rattle.getmail_setup.specs.{
  declared.{errors.Errors.Errors, output.{Output.Output, OutputRefusal.{OutputRefusal, TheVariants.NoMemory}}},
  Output.{Puts, number_text},
}
pub use Rattle.getmail_setup.proofs.OutputLemmas.{puts_both}
use Rattle.getmail_program.specs.Telling.{SaysReasons, TellsCut, told_fault_line}

never_none : (why : OutputRefusal) → Some why ≢ None
never_none why = search rules

-- memory ran out for what follows
pub puts_lacking : {W : Type 0} (contents : W → Option (List ℕ)) (old mid new : Output W) (octets : List ℕ) → Puts contents old octets mid
    → new ≡ record { writer = mid.writer; refusal = Some NoMemory } → (new.refusal ≢ None) × Puts contents old (octets ++ []) new
puts_lacking contents old mid new octets put is = rw is (
  never_none NoMemory,
  record {
    whole = λ clean. absurd (never_none NoMemory clean);
    front = record {
      front = put.front.front;
      rest = put.front.rest;
      is = append-nil octets ∙ put.front.is;
      appends = put.front.appends;
    };
    stays = put.stays;
  },
)

-- a refusal stays
still_refused : {W : Type 0} (contents : W → Option (List ℕ)) (old new : Output W) (octets : List ℕ) → Puts contents old octets new
    → old.refusal ≢ None → new.refusal ≢ None
still_refused contents old new octets put refused = λ clean. refused (put.whole clean).0

-- reasons that weren't said stay so
reasons_on : {W : Type 0} (contents : W → Option (List ℕ)) (old new : Output W) (octets : List ℕ) (settings : Settings) (says_why : Bool)
    (outcome : Outcome) (destination seen reasons : List ℕ) → Puts contents old octets new
    → SaysReasons settings says_why outcome destination seen old.refusal reasons
    → SaysReasons settings says_why outcome destination seen new.refusal reasons
reasons_on contents old new octets settings says_why outcome destination seen reasons put (inl found) = inl found
reasons_on contents old new octets settings says_why outcome destination seen reasons put (inr (refused, none)) =
    inr (still_refused contents old new octets put refused, none)

-- the reasons of a cut, once more was written
pub said_on : {E : Type 0} (contents : E → Option (List ℕ)) (settings : Settings) (destination seen : List ℕ) (outcome : Outcome)
    (old first : Errors E) (last : Output E) (more : List ℕ) (cut : TellsCut contents settings destination seen outcome old first)
    → Puts contents first.err more last → SaysReasons settings old.says_why outcome destination seen last.refusal cut.reasons
said_on contents settings destination seen outcome old first last more cut put =
    reasons_on contents first.err last more settings old.says_why outcome destination seen cut.reasons put cut.are_reasons

-- the line of a fault in pieces
pub in_pieces : {W : Type 0} (contents : W → Option (List ℕ)) (fault : Fault) (words : List ℕ) (number : Option ℕ) (a b c d e : Output W)
    → fault_text fault ≡ words ++ number_text number → Puts contents a (codes "getmail: ") b → Puts contents b words c
    → Puts contents c (number_text number) d → Puts contents d (codes "\n") e → Puts contents a (told_fault_line fault) e
in_pieces contents fault words number a b c d e is first second third fourth =
    rw (is, append_assoc words (number_text number) (codes "\n"))
    (puts_both contents a b e _ _ first (puts_both contents b c e _ _ second (puts_both contents c d e _ _ third fourth)))
