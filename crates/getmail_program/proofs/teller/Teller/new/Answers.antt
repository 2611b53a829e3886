use Rattle.std.proofs.Common.{List, ℕ, [], ◌++◌, ◌∙◌, ap, refl, inl, inr}
use Rattle.session_parts.specs.Text.{heading}
use Rattle.getmail_program.proofs.teller.Teller.new.Goals as goal

pub returns-clause-begins : goal.returns-clause-begins
returns-clause-begins g c =
    let first = heading c.args.settings.now in
    elim (c.put.ensures.wrote first c.heading.ensures) [
      | inl none ↦ record {
        first = [];
        is_first = inl refl;
        kept = none.kept ∙ ap (λ (kept : List ℕ). kept ++ []) c.requires;
        puts = none.puts;
      }
      | inr whole ↦ record {
        first = first;
        is_first = inr refl;
        kept = whole.kept ∙ ap (λ (kept : List ℕ). kept ++ first) c.requires;
        puts = whole.puts;
      }
    ]
