use Rattle.folder_store.proofs.file.new_files_keep_bytes.Goals as goal

pub returns-clause-left : goal.returns-clause-left
returns-clause-left g c = λ old f loses. loses.durable f.name.now
