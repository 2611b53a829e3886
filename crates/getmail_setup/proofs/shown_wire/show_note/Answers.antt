use Rattle.std.proofs.Common.{rules, ◌∙◌}
use Rattle.getmail_setup.proofs.OutputLemmas.{front_none}
use Rattle.getmail_setup.proofs.shown_wire.show_note.Goals as goal

pub returns-in-Ok : goal.returns-in-Ok
returns-in-Ok g c = record {
  noted = c.note.new.self;
  notes = c.note.ensures;
  due_is = search rules;
  next = c.is_due.ensures.next;
  writes = rw (c.as_str.ensures.value ∙ c.in-Ok.ensures) at c.write_line.ensures;
}

pub returns-in_default : goal.returns-in_default
returns-in_default g c = record {
  noted = c.note.new.self;
  notes = c.note.ensures;
  due_is = search rules;
  next = c.is_due.ensures.next;
  writes = front_none _ _;
}
