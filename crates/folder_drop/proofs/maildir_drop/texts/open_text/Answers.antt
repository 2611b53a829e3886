use Rattle.folder_drop.proofs.maildir_drop.texts.open_text.Goals as goal

pub returns-clause-own : goal.returns-clause-own
returns-clause-own g c = λ s d known.
    let own = c.in_ok-file.ensures.own s d known in
    (own.0, own.1, c.in_ok-skip_to.ensures s own.0.content own.2)
