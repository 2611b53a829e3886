use Rattle.std.proofs.Common.{◌∙◌, ◌++◌, List, ℕ, ap, codes}
use Rattle.getmail_setup.specs.Listed.{without_end}
use Rattle.getmail_setup.proofs.setup.others_text.Goals as goal

pub returns : goal.returns
returns c = (
  c.in_ok-line.line.items,
  rw c.as_bytes.ensures.value at c.in_ok-line.ensures,
  c.in_ok-extend_from_slice.ensures.items
      ∙ ap (λ (t : List ℕ). t ++ codes ": chmod 600 ends that")
      (c.in_ok-text.ensures.items ∙ (c.without_end.ensures ∙ ap without_end c.deref.ensures.value)),
)
