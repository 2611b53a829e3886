use Rattle.std.proofs.Common.{IfSome, refl, subst}
use Rattle.folder_drop.proofs.TextLemmas.{none_goes}
use Rattle.folder_drop.proofs.maildir_drop.texts.text_at.Goals as goal

pub returns-in-Some-clause-same : goal.returns-in-Some-clause-same
returns-in-Some-clause-same g c = rw c.in-Some.ensures.same (λ _. refl)

pub returns-in_err-text-in-None-clause-same : goal.returns-in_err-text-in-None-clause-same
returns-in_err-text-in-None-clause-same g c = none_goes c.args.kept _ _ (rw c.in-None.is at c.going_on.ensures.none)

pub returns-in_ok-text-in-None-clause-same : goal.returns-in_ok-text-in-None-clause-same
returns-in_ok-text-in-None-clause-same g c = none_goes c.args.kept _ _ (rw c.in-None.is at c.going_on.ensures.none)

pub returns-in-Some-clause-own : goal.returns-in-Some-clause-own
returns-in-Some-clause-own g c = λ s d known before. (rw c.in-Some.ensures.same at before) c.in-Some.ensures.there.0

pub returns-in_ok-text-in-None-clause-own : goal.returns-in_ok-text-in-None-clause-own
returns-in_ok-text-in-None-clause-own g c = λ s d known _. c.in_ok-text-in-None.ensures.own s d known
