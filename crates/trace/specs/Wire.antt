-- What a trace shows of a conversation.
use Rattle.std.specs.{
  Prelude.{◌≡◌, ◌==◌, ◌+◌, ◌-◌, ◌^◌, ◌++◌, ℕ, Bool, true, false, List, Option, None, Some, IsSome, MatchOption, codes},
  Prelude.{count_by, min, option_map, take},
  Fmt.decimal,
}
use Rattle.pop3_wire.specs.declared.note.{
  Asked.{Asked, TheVariants.{Uidl, List as ListAsked}},
  Note.{Note, TheVariants.{Command, Reply, Refused, Count, Body}},
}
use Rattle.trace.specs.{
  Command.{most_shown, shown_command},
  Shown.{ComesAfter, IsShown},
  declared.{masking.Shown.Shown, talk.Talk.Talk},
  declared.talk.Spoken.{Spoken, TheVariants.{Command as SpokenCommand, Answer, Row, End}},
  declared.wire.{Trace.Trace, TracedWire.TracedWire},
}
use Rattle.system_calls.specs.Line.{HasTraceLine}

-- a line was written, if there is a writer
abbrev pub AddsTraceLine : {E : Type 0} → (E → Option (List ℕ)) → Option E → Option E → List ℕ → List ℕ → Type 0
AddsTraceLine contents None None mark octets = Unit {0}
AddsTraceLine contents (Some old) (Some new) mark octets = HasTraceLine contents old new mark octets
AddsTraceLine contents old new mark octets = ⊥

-- the password that a trace hides
abbrev pub hidden_in : {E : Type 0} → Trace E → Option (List ℕ)
hidden_in trace = option_map (λ password. password.items) trace.mask.password

-- nothing was heard yet of a conversation that is shown here and kept there
pub record BeginsTrace {E : Type 0} (err : Option E) (talk : Option Talk) (password : Option (List ℕ))
    (trace : Trace E) : Type 0 where
  pub shown : trace.err ≡ err
  pub kept : option_map (λ talk. talk.now) trace.talk ≡ talk
  pub hides : hidden_in trace ≡ password
  pub moment : trace.mask.moment ≡ record { to_login = false; has_sent = false }
  pub asked : trace.asked ≡ None
  pub lines : trace.lines ≡ 0
  pub octets : trace.octets ≡ 0

-- a link is traced exactly if there is a writer or a place for what is said, and this password is hidden
abbrev pub IsTraced : {W E : Type 0} → Option E → Option Talk → Option (List ℕ) → TracedWire W E → Type 0
IsTraced err talk password link = MatchOption link.trace ((err ≡ None) × (talk ≡ None))
    (λ trace. (err ≡ None → talk ≡ None → ⊥) × BeginsTrace err talk password trace)

-- more of a body came: its lines and its octets are counted, if there is a writer
abbrev pub Counts : {E : Type 0} → Trace E → List ℕ → ℕ → Trace E → Type 0
Counts old text octets new = (new.lines ≡ min (old.lines + count_by (λ octet. octet == 10) text) (2 ^ 64 - 1))
    × (new.octets ≡ min (old.octets + octets) (2 ^ 64 - 1))

abbrev pub HasCounted : {E : Type 0} → Trace E → List ℕ → ℕ → Trace E → Type 0
HasCounted old text octets new =
    (new ≡ record old { lines = new.lines; octets = new.octets }) × (IsSome old.err → Counts old text octets new)

-- what is shown of a body
abbrev pub count_text : ℕ → ℕ → List ℕ
count_text lines octets = codes "(" ++ (decimal lines ++ (codes " lines, " ++ (decimal octets ++ codes " octets)")))

-- the rows of a listing are kept, if there is a place for them
abbrev pub keeps_rows : {T : Type 0} → Option T → Option Asked → Bool
keeps_rows (Some talk) (Some Uidl) = true
keeps_rows (Some talk) (Some ListAsked) = true
keeps_rows talk asked = false

-- the password is hidden in an answer
abbrev pub IsHidden : {E : Type 0} → Trace E → List ℕ → Shown → Type 0
IsHidden trace answer shown = IsShown (hidden_in trace) trace.mask.moment answer shown.octets.items

-- this is kept of a part of a body
abbrev pub IsRowOf : {E : Type 0} → Trace E → List ℕ → Option Spoken → Type 0
IsRowOf trace text (Some (Row row)) = (keeps_rows trace.talk trace.asked ≡ true) × IsHidden trace text row
IsRowOf trace text None = keeps_rows trace.talk trace.asked ≡ false
IsRowOf trace text heard = ⊥

-- a part of a conversation was heard, of which this is shown or kept: of a command what hides secrets, of an answer its
-- first line with the password hidden, of a body its rows or its end; its lines and octets are counted
abbrev pub HearsPart : {E : Type 0} → Trace E → Note → Trace E → Option Spoken → Type 0
HearsPart old (Command asked command) new (Some (SpokenCommand shown)) =
    (new ≡ record old { asked = asked; mask = new.mask }) × ComesAfter old.mask.moment command.now new.mask.moment
    × (shown.now ≡ take most_shown (shown_command command.now))
HearsPart old (Reply answer) new (Some (Answer shown)) =
    (new ≡ record old { lines = 0; octets = 0 }) × IsHidden old answer.now shown
HearsPart old Refused new None = new ≡ record old { talk = None }
HearsPart old (Count count) new None = new ≡ old
HearsPart old (Body text octets true) new (Some End) = HasCounted old text.now octets new
HearsPart old (Body text octets false) new row = HasCounted old text.now octets new × IsRowOf old text.now row
HearsPart old part new heard = ⊥

-- what was heard was shown, but no row
abbrev pub ShowsHeard : {E : Type 0} → (E → Option (List ℕ)) → Trace E → Spoken → Option E → Type 0
ShowsHeard contents old (SpokenCommand command) new = AddsTraceLine contents old.err new (codes "C: ") command.now
ShowsHeard contents old (Answer answer) new =
    AddsTraceLine contents old.err new (codes "S: ") (take most_shown answer.octets.items)
ShowsHeard contents old (Row row) new = new ≡ old.err
ShowsHeard contents old End new =
    AddsTraceLine contents old.err new (codes "S: ") (count_text old.lines (old.octets - 3))

-- a part of a conversation was shown, if anything is shown of it
abbrev pub ShowsPart : {E : Type 0} → (E → Option (List ℕ)) → Trace E → Note → Trace E → Type 0
ShowsPart contents old part new = (heard : Option Spoken) × (then : Trace _) × HearsPart old part then heard
    × MatchOption heard (new ≡ then)
    (λ spoken. (new ≡ record then { err = new.err }) × ShowsHeard contents then spoken new.err)
