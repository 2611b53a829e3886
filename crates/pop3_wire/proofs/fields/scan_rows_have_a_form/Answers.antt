use Rattle.pop3_wire.proofs.RowsLemmas.{scan_form, scan_form_read}
use Rattle.pop3_wire.proofs.fields.scan_rows_have_a_form.Goals as goal

pub returns : goal.returns
returns c line n size = (scan_form line n size, scan_form_read line n size)
