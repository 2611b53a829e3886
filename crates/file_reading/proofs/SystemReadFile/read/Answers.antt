use Rattle.std.proofs.lemmas.Result.{IfOk-weaker}
use Rattle.file_reading.proofs.SystemReadFile.read.Goals as goal

pub returns-clause-given : goal.returns-clause-given
returns-clause-given g c = IfOk-weaker c.read_front.result _ _ (λ bytes given. (c.new-file.result.inner, given)) c.read_front.ensures
