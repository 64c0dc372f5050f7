-- The health of a cell: verdicts of checks in a row flip it where their number reaches a threshold.
-- This is upstream's `Health`, whose counter starts again at a verdict equal to the state.
use Rattle.std.specs.Prelude.{◌≡◌, ℕ, ◌+◌, Bool, true, false, not, max, nat_le, List, [], ◌∷◌, if◌then◌else◌}
use Rattle.std.specs.List.{prefix_len}

-- what contracts see of a health: the state, and how many verdicts in a row were against it
pub record HealthValue : Type 0 where
  pub healthy : Bool
  pub against : ℕ

-- a verdict of a check, with the threshold that held for it; lists of them begin with the newest
pub record Verdict : Type 0 where
  pub ok : Bool
  pub threshold : ℕ

-- whether two verdicts say the same
abbrev pub agree : Bool → Bool → Bool
agree true b = b
agree false b = not b

-- how many of the newest verdicts in a row say this
abbrev pub run_of : Bool → List Verdict → ℕ
run_of ok verdicts = prefix_len (λ v. agree ok v.ok) verdicts

-- a verdict counts where its place in its run of equal verdicts has reached its threshold; 0 acts as 1
abbrev pub counts : Verdict → List Verdict → Bool
counts v earlier = nat_le (max v.threshold 1) (run_of v.ok earlier + 1)

-- the health is the last verdict that counts; with none, the one that it began with
abbrev pub health_after : Bool → List Verdict → Bool
health_after start [] = start
health_after start (v ∷ earlier) = if counts v earlier then v.ok else health_after start earlier

-- a health that began so and has had these verdicts
pub record IsHealthAfter (start : Bool) (verdicts : List Verdict) (h : HealthValue) : Type 0 where
  pub healthy : h.healthy ≡ health_after start verdicts
  pub against : h.against ≡ run_of (not h.healthy) verdicts
