-- A number at its place is none at another one.
use Rattle.std.proofs.Common.{◌≡◌, ◌+◌, ◌*◌, ℕ, Option, Some, None, IfSome, arith, subst}
use Rattle.lb_rebuild_core.specs.SlotsHistory.{History, served as served_by, coalesced as coalesced_by, failed as failed_by}
use Rattle.lb_rebuild_core.specs.GroupStates.{GroupValue}
use Rattle.lb_threads_group.specs.Numbers.{IsNumber, SawNewest, SawOfSlot}

-- of what is there, one fact follows from another one
pub each : {A : Type 0} {P Q : A → Type 0} (r : Option A) → ((a : A) → P a → Q a) → IfSome r P → IfSome r Q
each None f is = is
each (Some a) f is = f a is

module _ {C : Type 0} (site : GroupValue C) (n : ℕ) where
  -- a number of one slot, at the place of another one that is the same
  moved : (number : History → ℕ) (slot other : ℕ) → slot ≡ other → SawOfSlot number site slot (Some n)
      → SawOfSlot number site other (Some n)
  moved number slot other same saw = subst (λ s. SawOfSlot number site s (Some n)) same saw

  pub newest_at : (place : ℕ) → place ≡ 0 → SawNewest site n → IsNumber site place n
  newest_at place is saw = record {
    newest = λ at. saw;
    served = λ slot at. absurd (omega (arith, is, at));
    coalesced = λ slot at. absurd (omega (arith, is, at));
    failed = λ slot at. absurd (omega (arith, is, at));
  }

  pub served_at : (place slot : ℕ) → place ≡ 3 * slot + 1 → SawOfSlot served_by site slot (Some n) → IsNumber site place n
  served_at place slot is saw = record {
    newest = λ at. absurd (omega (arith, is, at));
    served = λ other at. moved served_by slot other (omega (arith, is, at)) saw;
    coalesced = λ other at. absurd (omega (arith, is, at));
    failed = λ other at. absurd (omega (arith, is, at));
  }

  pub coalesced_at : (place slot : ℕ) → place ≡ 3 * slot + 2 → SawOfSlot coalesced_by site slot (Some n) → IsNumber site place n
  coalesced_at place slot is saw = record {
    newest = λ at. absurd (omega (arith, is, at));
    served = λ other at. absurd (omega (arith, is, at));
    coalesced = λ other at. moved coalesced_by slot other (omega (arith, is, at)) saw;
    failed = λ other at. absurd (omega (arith, is, at));
  }

  pub failed_at : (place slot : ℕ) → place ≡ 3 * slot + 3 → SawOfSlot failed_by site slot (Some n) → IsNumber site place n
  failed_at place slot is saw = record {
    newest = λ at. absurd (omega (arith, is, at));
    served = λ other at. absurd (omega (arith, is, at));
    coalesced = λ other at. absurd (omega (arith, is, at));
    failed = λ other at. moved failed_by slot other (omega (arith, is, at)) saw;
  }
