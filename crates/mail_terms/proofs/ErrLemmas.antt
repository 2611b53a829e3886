-- What `?` passes up.
use Rattle.std.proofs.Common.{◌≡◌, Result, Ok, Err, IsErrAnd, ap}

pub err_is : {T E : Type 0} {r : Result T E} {e : E} → IsErrAnd r (λ y. y ≡ e) → r ≡ Err e
err_is {r = Ok value} never = absurd never
err_is {r = Err y} is = ap Err is

pub is_err : {T E : Type 0} {e : E} (r : Result T E) → IsErrAnd r (λ y. y ≡ e) → r ≡ Err e
is_err r = err_is
