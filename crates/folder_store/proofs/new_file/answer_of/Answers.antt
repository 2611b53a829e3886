use Rattle.std.proofs.Common.{rules, sym, ◌∙◌}
use Rattle.folder_store.proofs.Refusing.{answers_absent, answers_other}
use Rattle.folder_store.proofs.new_file.answer_of.Goals as goal

pub returns-in-Err-clause-same : goal.returns-in-Err-clause-same
returns-in-Err-clause-same g c = answers_absent c.args.answer c.in-Err.fault (search rules) c.in-Err.ensures.denied

pub returns-in-Err-2-clause-same : goal.returns-in-Err-2-clause-same
returns-in-Err-2-clause-same g c = answers_other c.args.answer c.in-Err.fault (search rules) c.in-Err.ensures.denied
