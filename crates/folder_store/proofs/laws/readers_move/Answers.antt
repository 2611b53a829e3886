use Rattle.folder_store.proofs.MailMoves as readers
use Rattle.folder_store.proofs.laws.readers_move.Goals as goal

pub returns : goal.returns
returns c = record { rest = readers.rest; one = readers.one; on = readers.on }
