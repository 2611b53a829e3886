-- What looking at a file that is to be settled tells.
use Rattle.std.{
  proofs.Common.{◌≡◌, ◌∙◌, ℕ, Bool, List, Option, Some, Result, Ok, Err, sym, ap, subst, take},
  proofs.lemmas.Option.same_Some,
  specs.Result.IsErrAnd,
}
use Rattle.mail_store.specs.{
  declared.fault.StoreFault.{StoreFault, TheVariants.{Missing, Refused, NotMbox, NoMemory}},
  Mboxrd.MayGoOn,
  MboxCalls.{RefusesLook, TellsFront},
  Settling.{TellsSettled, settled_file},
}

-- an entry may not follow the file, which stays as it is when it is settled
pub settled_refuses : (start len : ℕ) (listed : Option ℕ) (old now : Option (List ℕ)) (was : List ℕ) (fault : StoreFault) → now ≡ old
    → old ≡ Some was → settled_file start len listed was ≡ was → RefusesLook now fault → TellsSettled start len listed old (Err fault)
settled_refuses _ _ _ _ _ was Missing same is kept told = sym same ∙ told
settled_refuses _ _ _ _ _ was Refused same is kept told = tt
settled_refuses _ _ _ _ _ was NoMemory same is kept told = tt
settled_refuses _ _ _ _ _ was NotMbox same is kept told =
    (was, is, λ goes. told.2 (subst MayGoOn (kept ∙ same_Some was told.0 (sym is ∙ sym same ∙ told.1)) goes))

-- it may not follow the first bytes, to which the file is cut
pub front_refuses : (start len : ℕ) (listed : Option ℕ) (old now : Option (List ℕ)) (was : List ℕ) (fault : StoreFault) → now ≡ old
    → old ≡ Some was → settled_file start len listed was ≡ take start was → TellsFront {T = Unit {0}} start now (Err fault)
    → TellsSettled start len listed old (Err fault)
front_refuses _ _ _ _ _ was Missing same is kept told = sym same ∙ told
front_refuses _ _ _ _ _ was Refused same is kept told = tt
front_refuses _ _ _ _ _ was NoMemory same is kept told = tt
front_refuses start _ _ _ _ was NotMbox same is kept told =
    (was, is, λ goes. told.2 (subst MayGoOn (kept ∙ ap (take start) (same_Some was told.0 (sym is ∙ sym same ∙ told.1))) goes))

-- the answer is this fault
pub told_err : (P : Result Bool StoreFault → Type 0) (result : Result Bool StoreFault) (fault : StoreFault)
    → IsErrAnd result (λ e. e ≡ fault) → P (Err fault) → P result
told_err P (Ok x) fault is told = absurd is
told_err P (Err e) fault is told = subst (λ (x : StoreFault). P (Err x)) (sym is) told
