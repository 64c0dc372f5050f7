-- The moments that an update read, by what its build took.
use Rattle.std.proofs.Common.{◌≡◌, ◌-◌, ℕ, Bool, true, false, List, [], ◌∷◌, length, Option, Some, None, MatchOption, unwrap_or, refl, sym}
use Rattle.std.proofs.Common.{subst, arith}
use Rattle.std.specs.Prelude.{if◌then◌else◌}
use Rattle.lb_balancer_core.specs.Timings.{Reads, update_timing}

less-none : (n : ℕ) → n ≡ n - 0
less-none n = omega arith

module _ {K : Type 0} (reads : K → ℕ → K → Type 0) where
  -- an update reads the clock at its start and its end, and where it built also around the build
  pub readings : (build : Option ℕ) (start end : ℕ) (k l m n : K) → reads k start l
      → MatchOption build (m ≡ l) (λ d. (before : ℕ) × ((after : ℕ) × Reads reads l (before ∷ after ∷ []) m × (d ≡ after - before)))
      → reads m end n
      → (times : List ℕ) × (Reads reads k times n
      × ((Some (record { discovery_duration = end - start - unwrap_or build 0; build_duration = unwrap_or build 0 }) ≡ update_timing
      times)
      × ((same : Bool) → MatchOption build (same ≡ true) (λ d. same ≡ false) → length times ≡ (if same then 2 else 4))))
  readings None start end k l m n first kept last = (
    start ∷ end ∷ [],
    (
      (l, first, (n, subst (λ x. reads x end n) kept last, refl)),
      (rw (sym (less-none (end - start))) refl, λ same is. rw is refl),
    ),
  )
  readings (Some d) start end k l m n first (before, (after, around, is)) last = (
    start ∷ before ∷ after ∷ end ∷ [],
    (
      (l, first, (around.0, around.1, (around.2.0, around.2.1, (n, subst (λ x. reads x end n) (sym around.2.2) last, refl)))),
      (rw is refl, λ same is. rw is refl),
    ),
  )
