-- Only QUIT closes a server.
use Rattle.std.{
  proofs.Common.{◌≡◌, ℕ, Bool, true, false, List, [], ◌∷◌, ◌++◌, Option, Some, None, Result, Ok, Err, refl, sym, ap, ◌∙◌, inl, inr, not},
  proofs.Common.{append_assoc, cond, bytes_eq, ◌&&◌},
  proofs.lemmas.{Bool.false≢true, Grind.flat_map-append},
  specs.List.{flat_map, AllByRecursion},
}
use Rattle.pop3_wire.specs.{
  declared.command.Command.{Command, TheVariants.{User, Pass, Stat, UidlAll, UidlOne, ListAll, ListOne, Retr, Dele, Rset, Noop, Top, Quit}},
  declared.fault.WireFault.WireFault,
  CommandLine.command_of,
  Line.{IsLine, ended},
}
use Rattle.pop3_server.specs.{
  declared.{fault.ServerFault.{ServerFault, TheVariants.{ReadFailed, WriteFailed, MaildropFailed, NoMemory}}, rows.MessageRow.MessageRow},
  declared.{state.State.{State, TheVariants.{Authorization, Transaction, Closed}}, text_part.TextBody.TextBody},
  Maildrop.DropMail,
  Serving.WentOut,
  Quitting.OnlyQuitCloses,
  ServerMachine.{Action, Say, Open, Give, Leave, DoesAction, Machine, action_of, dele_action, give, in_authorization, in_transaction},
  ServerMachine.{is_open, row_numbered},
  AnswersLines.{AnswersLines, MakesAnswer},
}

-- the action may lead to the end
abbrev closes : Action → Bool
closes (Say bytes state) = not (is_open state)
closes Open = false
closes (Give rows i line top) = false
closes (Leave rows) = true

-- no text and no mark does
gives_open : (rows : List MessageRow) (k : ℕ) (row : Option MessageRow) (line : MessageRow → List ℕ) (top : Option ℕ)
    → closes (give rows k row line top) ≡ false
gives_open rows k None line top = refl
gives_open rows k (Some row) line top = refl

marks_open : (rows : List MessageRow) (k : ℕ) (row : Option MessageRow) → closes (dele_action rows k row) ≡ false
marks_open rows k None = refl
marks_open rows k (Some row) = refl

lets_in : (right : Bool) (bytes : List ℕ) → closes (cond right Open (Say bytes (Authorization None))) ≡ false
lets_in false bytes = refl
lets_in true bytes = refl

in_auth : (user pass : List ℕ) (kept : Option (List ℕ)) (c : Command) → closes (in_authorization user pass kept c) ≡ true → c ≡ Quit
in_auth user pass kept (User name) h = absurd (false≢true h)
in_auth user pass None (Pass word) h = absurd (false≢true h)
in_auth user pass (Some name) (Pass word) h = absurd (false≢true (sym (lets_in (bytes_eq name user && bytes_eq word pass) _) ∙ h))
in_auth user pass kept Quit h = refl
in_auth user pass kept other h = absurd (false≢true h)

in_trans : (rows : List MessageRow) (c : Command) → closes (in_transaction rows c) ≡ true → c ≡ Quit
in_trans rows (Retr k) h = absurd (false≢true (sym (gives_open rows k (row_numbered rows k) _ _) ∙ h))
in_trans rows (Top k n) h = absurd (false≢true (sym (gives_open rows k (row_numbered rows k) _ _) ∙ h))
in_trans rows (Dele k) h = absurd (false≢true (sym (marks_open rows k (row_numbered rows k)) ∙ h))
in_trans rows Quit h = refl
in_trans rows Stat h = absurd (false≢true h)
in_trans rows ListAll h = absurd (false≢true h)
in_trans rows UidlAll h = absurd (false≢true h)
in_trans rows (ListOne k) h = absurd (false≢true h)
in_trans rows (UidlOne k) h = absurd (false≢true h)
in_trans rows Rset h = absurd (false≢true h)
in_trans rows Noop h = absurd (false≢true h)
in_trans rows (User name) h = absurd (false≢true h)
in_trans rows (Pass word) h = absurd (false≢true h)

by_quit : (user pass : List ℕ) (state : State) (command : Result Command WireFault) → is_open state ≡ true
    → closes (action_of user pass state command) ≡ true → command ≡ Ok Quit
by_quit user pass state (Err fault) opened h = absurd (false≢true (rw opened at h))
by_quit user pass (Authorization kept) (Ok c) opened h = ap Ok (in_auth user pass kept c h)
by_quit user pass (Transaction rows) (Ok c) opened h = ap Ok (in_trans rows c h)
by_quit user pass Closed (Ok c) opened h = absurd (false≢true opened)

by_bool : {P : Type 0} (b : Bool) {c : Bool} → c ≡ b → (c ≡ false → P) → (c ≡ true → P) → P
by_bool false is shut still = shut is
by_bool true is shut still = still is

module _ {D : Type 0} (sound : D → Type 0) (mail : D → DropMail) where
  -- what leads to the end
  led : (action : Action) (old : D) (answer : List ℕ) (next : State) (new : D)
      → DoesAction sound mail action old answer next new → is_open next ≡ false → closes action ≡ true
  led (Say bytes state) old answer next new does closed = ap not (rw does.1 at closed)
  led Open old answer next new (inl (is, state, known)) closed = absurd (false≢true (sym (rw state at closed)))
  led Open old answer next new (inr (rows, limits, is, state, known)) closed = absurd (false≢true (sym (rw state at closed)))
  led (Give rows i line top) old answer next new does closed = absurd (false≢true (sym (rw does.0 at closed)))
  led (Leave rows) old answer next new does closed = refl

  -- one line did
  line_is_quit : (old new : Machine D) (line made : List ℕ) (rest : Option TextBody)
      → MakesAnswer sound mail old line made rest new → is_open new.state ≡ false → command_of line ≡ Ok Quit
  line_is_quit old new line made None makes closed =
      by_quit old.user old.pass old.state (command_of line) makes.was_open
      (led _ old.drop made new.state new.drop makes.answers.does closed)
  line_is_quit old new line made (Some text) makes closed = absurd (false≢true (sym closed ∙ ap is_open (makes.state) ∙ makes.was_open))

  -- QUIT is among these lines
  abbrev pub HasQuit : List (List ℕ) → Type 0
  HasQuit lines = (before : List (List ℕ)) × (line : List ℕ) × (after : List (List ℕ))
      × (lines ≡ before ++ line ∷ after) × (command_of line ≡ Ok Quit)

  later : (line : List ℕ) (lines : List (List ℕ)) → HasQuit lines → HasQuit (line ∷ lines)
  later line lines (before, quit, after, split, is) = (line ∷ before, quit, after, ap (λ (l : List (List ℕ)). line ∷ l) split, is)

  -- one of the lines that were answered did
  lines_have_quit : (old new : Machine D) (lines : List (List ℕ)) (answers : List ℕ)
      → AnswersLines sound mail old lines answers new → is_open old.state ≡ true → is_open new.state ≡ false → HasQuit lines
  lines_have_quit old new [] answers (none, same) opened closed = absurd (false≢true (sym closed ∙ rw same opened))
  lines_have_quit old new (line ∷ lines) answers (first, rest, next, is, turn, run) opened closed = by_bool (is_open next.state) refl
      (λ shut. ([], line, lines, refl, line_is_quit old next line first None turn shut))
      (λ still. later line lines (lines_have_quit next new lines rest run still closed))

  went_out : (old new : Machine D) (lines : List (List ℕ)) (rest sent : List ℕ) (result : Result (Unit {0}) ServerFault)
      → WentOut sound mail old lines rest sent result new → is_open old.state ≡ true → is_open new.state ≡ false → HasQuit lines
  went_out old new lines rest sent (Ok done) ((answers, run, _), _) opened closed = lines_have_quit old new lines answers run opened closed
  went_out old new lines rest sent (Err ReadFailed) went opened closed = lines_have_quit old new lines went.0 went.1 opened closed
  went_out old new lines rest sent (Err WriteFailed) (inl part) opened closed = absurd (false≢true (sym closed ∙ rw part.3 opened))
  went_out old new lines rest sent (Err WriteFailed) (inr (unsent, text, last)) opened closed =
      (last.before, last.line, [], last.each, line_is_quit last.mid new last.line (last.front ++ unsent) text last.makes closed)
  went_out old new lines rest sent (Err MaildropFailed) (text, last, all, refuses) opened closed =
      let same : is_open new.state ≡ is_open last.state = ap (λ (m : Machine D). is_open m.state) refuses.same in
      (all.before, all.line, [], all.each, line_is_quit all.mid last all.line (all.front ++ []) (Some text) all.makes (sym same ∙ closed))
  went_out old new lines rest sent (Err NoMemory) (inl none) opened closed = absurd (false≢true (sym closed ∙ rw none.2 opened))
  went_out old new lines rest sent (Err NoMemory) (inr (last, all, same)) opened closed =
      lines_have_quit old last lines all.0 all.1 opened (sym (ap is_open same.state) ∙ closed)

lines_front : (lines more : List (List ℕ)) → AllByRecursion IsLine (lines ++ more) → AllByRecursion IsLine lines
lines_front [] more all = tt
lines_front (line ∷ lines) more all = (all.0, lines_front lines more all.1)

pub only_quit : {D : Type 0} (sound : D → Type 0) (mail : D → DropMail) → OnlyQuitCloses sound mail
only_quit sound mail old new before after result served opened closed =
    let (front, line, behind, split, is) = went_out sound mail old new served.lines served.rest served.out result
    served.answered opened closed in
    let whole : served.lines ≡ (front ++ line ∷ []) ++ behind = split ∙ sym (append_assoc front (line ∷ []) behind) in record {
      before = front;
      line = line;
      rest = flat_map ended behind ++ served.rest;
      each = lines_front (front ++ line ∷ []) behind (rw whole at served.each);
      is = is;
      got = served.got ∙ ap (λ (g : List ℕ). before.got ++ g) (served.heard
          ∙ ap (λ (l : List (List ℕ)). flat_map ended l ++ served.rest) whole
          ∙ ap (λ (b : List ℕ). b ++ served.rest) (flat_map-append ended (front ++ line ∷ []) behind)
          ∙ append_assoc (flat_map ended (front ++ line ∷ [])) (flat_map ended behind) served.rest);
    }
