-- Lemmas on what a row tells where one cell changes.
use Rattle.std.proofs.Common.{◌≡◌, ◌≢◌, ℕ, cond, List, Option, None, Some, refl, sym, ap, ◌∙◌}
use Rattle.std.specs.BTreeMap.{is_at}
use Rattle.std.specs.Option.{option_map, IsSome}
use Rattle.std.specs.Ordering.{nat_cmp}
use Rattle.lb_health_core.specs.declared.table.Cell.{Cell}
use Rattle.lb_health_core.specs.Internal.Row.{stored_health}
use Rattle.lb_health_core.specs.Starts.{value_at}
use Rattle.lb_health_core.proofs.TableLemmas.{at_itself, at_other}
use borrow.Author.Tests.{ne_eqb}

-- where another cell has one number, and the same under the others
pub others_stay : {K : Type 0} (before after : List (ℕ × Cell K)) (c : ℕ) (made : Cell K)
    → ((d : ℕ) → value_at nat_cmp after d ≡ cond (is_at (nat_cmp c) d) (Some made) (value_at nat_cmp before d))
    → (d : ℕ) → d ≢ c → stored_health after d ≡ stored_health before d
others_stay {K = K} before after c made changed d other =
    ap (option_map (λ (x : Cell K). x.health.healthy))
    (changed d ∙ ap (λ b. cond b (Some made) (value_at nat_cmp before d)) (at_other d c (ne_eqb c d (λ e. other (sym e)))))

pub one_changed : {K : Type 0} (before after : List (ℕ × Cell K)) (c : ℕ) (made : Cell K)
    → ((d : ℕ) → value_at nat_cmp after d ≡ cond (is_at (nat_cmp c) d) (Some made) (value_at nat_cmp before d))
    → stored_health after c ≡ Some made.health.healthy
one_changed {K = K} before after c made changed =
    ap (option_map (λ (x : Cell K). x.health.healthy))
    (changed c ∙ ap (λ b. cond b (Some made) (value_at nat_cmp before c)) (at_itself c))

-- the cell that is stored under a number
pub stored_one : {K : Type 0} (entries : List (ℕ × Cell K)) (c : ℕ) → IsSome (value_at nat_cmp entries c)
    → (x : Cell K) × (value_at nat_cmp entries c ≡ Some x)
stored_one {K = K} entries c some = of (value_at nat_cmp entries c) refl some where
  of : (o : Option (Cell K)) → value_at nat_cmp entries c ≡ o → IsSome o → (x : Cell K) × (value_at nat_cmp entries c ≡ Some x)
  of None is some = cc
  of (Some x) is some = (x, is)
