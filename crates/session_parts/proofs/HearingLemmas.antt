-- What a listener was told of a plan, before and after other calls.
use Rattle.std.proofs.Common.{List, [], ◌∷◌, ◌++◌, inl, inr}
use Rattle.session_parts.specs.Hearing.{HearsOne}
use Rattle.fetch_rules.specs.declared.plans.Step.{Step}

pub heard_as : {L : Type 0} (hears : L → List (List Step) → L → Type 0) (Is IsToo : List Step → Type 0)
    (a b : L) → ((plan : List Step) → Is plan → IsToo plan) → HearsOne hears Is a b → HearsOne hears IsToo a b
heard_as hears Is IsToo a b so (inl none) = inl none
heard_as hears Is IsToo a b so (inr (plan, is, told)) = inr (plan, so plan is, told)

pub heard_then : {L : Type 0} (hears : L → List (List Step) → L → Type 0)
    → ((a b c : L) (ps qs : List (List Step)) → hears a ps b → hears b qs c → hears a (ps ++ qs) c)
    → (Is : List Step → Type 0) (a b c : L) → HearsOne hears Is a b → hears b [] c → HearsOne hears Is a c
heard_then hears on Is a b c (inl none) rest = inl (on a b c [] [] none rest)
heard_then hears on Is a b c (inr (plan, is, told)) rest = inr (plan, is, on a b c (plan ∷ []) [] told rest)
