-- Lemmas on decimal digits.
use Rattle.std.proofs.Common.{◌≡◌, ℕ, ◌<◌, ◌≤◌, ◌^◌, Bool, true, List, [], ◌∷◌, ◌++◌, refl, arith}
use Rattle.std.specs.List.{list_all}
use Rattle.std.proofs.lemmas.List.Folds.{list_all-append}
use Rattle.std.proofs.Math.Nat.{pow-le-pow_right}

-- a number of few digits
pub value_small : (v i : ℕ) → v < 10 ^ i → i < 19 → v < 1000000000000000000
value_small v i below few =
    let most : 10 ^ i ≤ 10 ^ 18 = pow-le-pow_right {n = 10} (omega arith) {i = i} {j = 18} (omega arith) in
    omega arith

pub all_more : (p : ℕ → Bool) (xs : List ℕ) (d : ℕ) → list_all p xs ≡ true → p d ≡ true → list_all p (xs ++ d ∷ []) ≡ true
all_more p xs d all one = rw (list_all-append, all, one) refl
