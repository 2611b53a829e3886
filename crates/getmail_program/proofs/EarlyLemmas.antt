-- What is written of a report before its session's end.
use Rattle.std.proofs.Common.{◌≡◌, ◌≢◌, ◌⊎◌, ◌∙◌, ℕ, List, [], ◌∷◌, ◌++◌, Option, false, refl, sym, ap, subst, append-nil, inl, inr}
use Rattle.std.proofs.Common.{flat_map}
use Rattle.fetch_rules.specs.declared.plans.Step.{Step}
use Rattle.session_parts.specs.{
  Hearing.HearsOne,
  Report.is_deletion,
  declared.report.ReportLine.{ReportLine, TheVariants.{Delivered, Held, Skipped, Deleted}},
}
use Rattle.getmail_setup.{specs.{declared.output.Output.Output, Output.{Puts, PutsRest}}, proofs.OutputLemmas.puts_both}
use Rattle.rc_file.specs.declared.settings.Settings.{Settings}
use Rattle.getmail_program.specs.{
  declared.teller.Teller.Teller,
  Teller.{StartsTelling, EarlyLine, HasSameLinks, HearsPlans, StaysClosed, TellsEarly, Wrote, WroteMore, WroteText, early_text},
}

-- a first line, and then lines
pub early : {O : Type 0} (contents : O → Option (List ℕ)) (settings : Settings) (out : Output O) (a b : Teller O)
    → StartsTelling contents settings out a → WroteMore contents a b → Puts contents out b.notes.now.written.items b.out.now
early contents settings out a b begun more =
    rw (more.wrote.kept, begun.kept) (puts_both contents out a.out.now b.out.now begun.first _ begun.puts more.wrote.puts)

-- the whole text after it, or no more
pub early_or_whole : {O : Type 0} (contents : O → Option (List ℕ)) (settings : Settings) (out : Output O) (a b : Teller O)
    (written text : List ℕ) (out' : Output O) → StartsTelling contents settings out a → a.verbose ≡ settings.verbose
    → WroteMore contents a b → written ≡ b.notes.now.written.items → PutsRest contents out written text out'
    → Puts contents out text out' ⊎ TellsEarly contents settings out out'
early_or_whole contents settings out a b written text out' begun same more is (inl whole) = inl whole
early_or_whole contents settings out a b written text out' begun same more is (inr rest) =
    let told = is ∙ more.wrote.kept ∙ ap (λ (first : List ℕ). first ++ flat_map (early_text a.verbose) more.lines) begun.kept
    ∙ ap (λ (verbose : ℕ). begun.first ++ flat_map (early_text verbose) more.lines) same in
    inr (record {
      first = begun.first;
      is_first = begun.is_first;
      lines = more.lines;
      refused = rest.0;
      puts = subst (λ (octets : List ℕ). Puts contents out octets out') told rest.1;
    })

-- what a teller has told that was told of one plan at most
pub heard_of : {O : Type 0} (contents : O → Option (List ℕ)) (Is : List Step → Type 0) (a b : Teller O)
    → HearsOne (HearsPlans contents) Is a b
    → HasSameLinks a b × WroteMore contents a b
    × ((b.notes.now.plan.items ≡ a.notes.now.plan.items) ⊎ Is b.notes.now.plan.items)
heard_of contents Is a b (inl none) = (none.links, none.wrote, inl none.plan)
heard_of contents Is a b (inr (plan, is, one)) = (one.links, one.wrote, inr (rw one.plan is))

-- a line, or nothing
pub one_early_line : {O : Type 0} (contents : O → Option (List ℕ)) (a b : Teller O) (told : EarlyLine)
    → WroteText contents (early_text a.verbose told) a b → StaysClosed contents a b → WroteMore contents a b
one_early_line contents a b told wrote closed = elim wrote [
  | inl nothing ↦ record { lines = []; wrote = nothing; closed = closed }
  | inr whole ↦ record {
    lines = told ∷ [];
    wrote = subst (λ (text : List ℕ). Wrote contents text a b) (sym (append-nil (early_text a.verbose told))) whole;
    closed = closed;
  }
]

pub no_deletion : (line : ReportLine) → ((number : ℕ) → line ≢ Deleted number) → is_deletion line ≡ false
no_deletion (Delivered number length) other = refl
no_deletion (Held number length) other = refl
no_deletion (Skipped number size) other = refl
no_deletion (Deleted number) other = absurd (other number refl)
