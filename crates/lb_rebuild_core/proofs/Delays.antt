-- The delays after failed builds, up to the longest.
use Rattle.std.proofs.Common.{◌≡◌, ◌<◌, ◌≤◌, ◌-◌, ◌*◌, ◌^◌, ◌∙◌, ℕ, min, sym, ap, refl, arith, lit<}
use Rattle.std.proofs.Math.Nat.{pow-le-pow_right}
use Rattle.lb_rebuild_core.specs.SlotsHistory.{retry_delay}

-- one line of the table
pub line : (a b k m : ℕ) → b * 1000000 ≡ retry_delay a → k ≡ a → m ≡ b → m * 1000000 ≡ retry_delay k
line a b k m e p q = ap (λ x. x * 1000000) q ∙ e ∙ sym (ap retry_delay p)

capped : (x : ℕ) → 128 ≤ x → min (10 * x) 1000 ≡ 1000
capped x h = omega arith

-- from the eighth failure on it is a second
pub longest : (k m : ℕ) → 7 < k → m ≡ 1000 → m * 1000000 ≡ retry_delay k
longest k m h q =
    let power : 2 ^ 7 ≤ 2 ^ (k - 1) = pow-le-pow_right {n = 2} (lit< tt) {i = 7} {j = k - 1} (omega arith) in
    ap (λ x. x * 1000000) (q ∙ sym (capped (2 ^ (k - 1)) power))

pub capped_delay : (k : ℕ) → 7 < k → retry_delay k ≡ 1000000000
capped_delay k h = sym (longest k 1000 h refl)
