-- Warnings that are given one after the other.
use Rattle.std.proofs.Common.{◌≡◌, ◌++◌, [], ℕ, Bool, List, refl}
use Rattle.popd_program.specs.Warnings.{given_if}

pub all_told : (w0 w1 w2 w3 w4 w5 : List (List ℕ)) (h1 h2 h3 h4 h5 k1 k2 k3 k4 k5 : Bool) (t1 t2 t3 t4 t5 u4 u5 : List ℕ)
    → w0 ≡ [] → w1 ≡ w0 ++ given_if h1 t1 → w2 ≡ w1 ++ given_if h2 t2 → w3 ≡ w2 ++ given_if h3 t3 → w4 ≡ w3 ++ given_if h4 t4
    → w5 ≡ w4 ++ given_if h5 t5 → h1 ≡ k1 → h2 ≡ k2 → h3 ≡ k3 → h4 ≡ k4 → h5 ≡ k5 → t4 ≡ u4 → t5 ≡ u5
    → w5 ≡ given_if k1 t1 ++ given_if k2 t2 ++ given_if k3 t3 ++ given_if k4 u4 ++ given_if k5 u5
all_told w0 w1 w2 w3 w4 w5 h1 h2 h3 h4 h5 k1 k2 k3 k4 k5 t1 t2 t3 t4 t5 u4 u5 e0 e1 e2 e3 e4 e5 p1 p2 p3 p4 p5 q4 q5 =
    rw (e5, e4, e3, e2, e1, e0, p1, p2, p3, p4, p5, q4, q5) refl
