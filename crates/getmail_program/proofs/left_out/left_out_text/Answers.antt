use Rattle.getmail_program.proofs.left_out.left_out_text.Goals as goal

pub returns : goal.returns
returns c = rw (
  c.in_ok-repeated.ensures,
  c.in_ok-three.ensures,
  c.in_ok-two.ensures,
  c.in_ok-past.ensures,
  c.in_ok-large.ensures,
  c.in_ok-obstructed.ensures,
) at c.with_comma-3.ensures
