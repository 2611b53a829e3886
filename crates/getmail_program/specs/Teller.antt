-- What is written of a report while its session runs: its first line, and lines of messages, but no line of a deletion.
use Rattle.std.{
  specs.Prelude.{◌≡◌, ◌≢◌, ◌⊎◌, ℕ, false, List, [], ◌∷◌, ◌++◌, Option, None, flat_map, if◌then◌else◌},
  proofs.{Common.{refl, sym, ap, ◌∙◌, append_assoc, append-nil, subst}, lemmas.Grind.flat_map-append},
}
use Rattle.rc_file.specs.declared.settings.Settings.{Settings}
use Rattle.session_parts.specs.{
  Reasons.explained_line,
  Text.heading,
  Report.is_deletion,
  declared.report.ReportLine.ReportLine,
}
use Rattle.fetch_rules.specs.declared.plans.Step.{Step}
use Rattle.getmail_program.specs.declared.teller.Teller.{Teller}
use Rattle.getmail_setup.{
  specs.{declared.output.Output.Output, Output.Puts},
  proofs.OutputLemmas.{puts_both, puts_none},
}

-- a line of a report, of a session with this many messages and this plan
pub record EarlyLine : Type 0 where
  pub total : ℕ
  pub plan : List Step
  pub line : ReportLine

-- what is written of it: nothing if it tells a deletion
abbrev pub early_text : ℕ → EarlyLine → List ℕ
early_text verbose told = if is_deletion told.line then [] else explained_line verbose told.total told.plan told.line

-- it has the same output, keeps what it wrote in the same place, and tells as much
pub record HasSameLinks {O : Type 0} (old new : Teller O) : Type 0 where
  pub out : new.out.ghost_name ≡ old.out.ghost_name
  pub notes : new.notes.ghost_name ≡ old.notes.ghost_name
  pub verbose : new.verbose ≡ old.verbose

-- the last of these plans, or else this one
abbrev pub last_plan : List Step → List (List Step) → List Step
last_plan kept [] = kept
last_plan kept (plan ∷ plans) = last_plan plan plans

-- it keeps the last of the plans that it was told of, or else the one that it had
abbrev pub HasLast : {O : Type 0} → List (List Step) → Teller O → Teller O → Type 0
HasLast plans old new = new.notes.now.plan.items ≡ last_plan old.notes.now.plan.items plans

-- these octets were written to the output, and are kept
pub record Wrote {O : Type 0} (contents : O → Option (List ℕ)) (more : List ℕ) (old new : Teller O) : Type 0 where
  pub kept : new.notes.now.written.items ≡ old.notes.now.written.items ++ more
  pub puts : Puts contents old.out.now more new.out.now

-- a text was written, or nothing
abbrev pub WroteText : {O : Type 0} → (O → Option (List ℕ)) → List ℕ → Teller O → Teller O → Type 0
WroteText contents text old new = Wrote contents [] old new ⊎ Wrote contents text old new

-- if nothing more was to be written, nothing was, and nothing is
abbrev pub StaysClosed : {O : Type 0} → (O → Option (List ℕ)) → Teller O → Teller O → Type 0
StaysClosed contents old new = old.is_open ≡ false → (new.is_open ≡ false) × Wrote contents [] old new

-- lines were written, none of which tells a deletion
pub record WroteMore {O : Type 0} (contents : O → Option (List ℕ)) (old new : Teller O) : Type 0 where
  pub lines : List EarlyLine
  pub wrote : Wrote contents (flat_map (early_text old.verbose) lines) old new
  pub closed : StaysClosed contents old new

-- it was told of these plans and of lines
pub record HearsPlans {O : Type 0} (contents : O → Option (List ℕ)) (old : Teller O) (plans : List (List Step))
    (new : Teller O) : Type 0 where
  pub links : HasSameLinks old new
  pub wrote : WroteMore contents old new
  pub plan : HasLast plans old new

-- the first line of a report was written to the output and is kept, or nothing
pub record StartsTelling {O : Type 0} (contents : O → Option (List ℕ)) (settings : Settings) (out : Output O)
    (teller : Teller O) : Type 0 where
  pub first : List ℕ
  pub is_first : (first ≡ []) ⊎ (first ≡ heading settings)
  pub kept : teller.notes.now.written.items ≡ first
  pub puts : Puts contents out first teller.out.now

-- something of a report was refused: only its first line and lines of messages were written, or a front of them
pub record TellsEarly {O : Type 0} (contents : O → Option (List ℕ)) (settings : Settings) (out out' : Output O)
    : Type 0 where
  pub first : List ℕ
  pub is_first : (first ≡ []) ⊎ (first ≡ heading settings)
  pub lines : List EarlyLine
  pub refused : out'.refusal ≢ None
  pub puts : Puts contents out (first ++ flat_map (early_text settings.verbose) lines) out'

last_on : (kept : List Step) (ps qs : List (List Step))
    → last_plan kept (ps ++ qs) ≡ last_plan (last_plan kept ps) qs
last_on kept [] qs = refl
last_on kept (p ∷ ps) qs = last_on p ps qs

has_last : {O : Type 0} (a b c : Teller O) (ps qs : List (List Step)) → HasLast ps a b → HasLast qs b c
    → HasLast (ps ++ qs) a c
has_last a b c ps qs p q = q ∙ ap (λ kept. last_plan kept qs) p ∙ sym (last_on a.notes.now.plan.items ps qs)

wrote_none : {O : Type 0} (contents : O → Option (List ℕ)) (a : Teller O) → Wrote contents [] a a
wrote_none contents a =
    record { kept = sym (append-nil a.notes.now.written.items); puts = puts_none contents a.out.now }

wrote_then : {O : Type 0} (contents : O → Option (List ℕ)) (first second : List ℕ) (a b c : Teller O)
    → Wrote contents first a b
    → Wrote contents second b c → Wrote contents (first ++ second) a c
wrote_then contents first second a b c p q = record {
  kept = q.kept ∙ ap (λ (bytes : List ℕ). bytes ++ second) p.kept ∙ append_assoc a.notes.now.written.items first second;
  puts = puts_both contents a.out.now b.out.now c.out.now first second p.puts q.puts;
}

wrote_nothing : {O : Type 0} (contents : O → Option (List ℕ)) (a : Teller O) → WroteMore contents a a
wrote_nothing contents a = record {
  lines = [];
  wrote = wrote_none contents a;
  closed = λ closed. (closed, wrote_none contents a);
}

wrote_both : {O : Type 0} (contents : O → Option (List ℕ)) (a b c : Teller O) → b.verbose ≡ a.verbose
    → WroteMore contents a b
    → WroteMore contents b c → WroteMore contents a c
wrote_both contents a b c same p q = record {
  lines = p.lines ++ q.lines;
  wrote = subst (λ (text : List ℕ). Wrote contents text a c)
      (sym (flat_map-append (early_text a.verbose) p.lines q.lines))
      (wrote_then contents _ _ a b c p.wrote
      (subst (λ (verbose : ℕ). Wrote contents (flat_map (early_text verbose) q.lines) b c) same q.wrote));
  closed = λ closed.
      let first = p.closed closed in
      let second = q.closed first.0 in
      (second.0, wrote_then contents [] [] a b c first.1 second.1);
}

pub heard_nothing : {O : Type 0} (contents : O → Option (List ℕ)) (a : Teller O) → HearsPlans contents a [] a
heard_nothing contents a = record {
  links = record { out = refl; notes = refl; verbose = refl };
  wrote = wrote_nothing contents a;
  plan = refl;
}

pub heard_both : {O : Type 0} (contents : O → Option (List ℕ)) (a b c : Teller O) (ps qs : List (List Step))
    → HearsPlans contents a ps b → HearsPlans contents b qs c → HearsPlans contents a (ps ++ qs) c
heard_both contents a b c ps qs p q = record {
  links = record {
    out = q.links.out ∙ p.links.out;
    notes = q.links.notes ∙ p.links.notes;
    verbose = q.links.verbose ∙ p.links.verbose;
  };
  wrote = wrote_both contents a b c p.links.verbose p.wrote q.wrote;
  plan = has_last a b c ps qs p.plan q.plan;
}
