use Rattle.pop3_wire.proofs.RowsLemmas.{uid_form, uid_form_read}
use Rattle.pop3_wire.proofs.fields.uid_rows_have_a_form.Goals as goal

pub returns : goal.returns
returns c line n uid = (uid_form line n uid, uid_form_read line n uid)
