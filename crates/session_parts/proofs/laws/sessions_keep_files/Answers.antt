use Rattle.session_parts.proofs.TakenLemmas.{sessions_keep_files}
use Rattle.session_parts.proofs.laws.sessions_keep_files.Goals as goal

pub returns : goal.returns
returns c = sessions_keep_files
