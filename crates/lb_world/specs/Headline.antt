-- The headline, and all that every run keeps.
use Rattle.std.specs.Prelude.{ℕ}
use Rattle.lb_world.specs.Meanings.{Meaning}
use Rattle.lb_world.specs.History.{History}
use Rattle.lb_world.specs.Ever.{EachStep, Always, JudgedByOwn}
use Rattle.lb_world.specs.Promises.{NewestServed, NeverFalls, FreeGatesGrant, OneExtra, Counted, Ledger, ReadersExact, MembersKept, Bounded}
use Rattle.lb_world.specs.Promises.{Raises, DestroysExactly, ViewFollows, LivesExactly}
use Rattle.lb_world.specs.Refused.{RefusedStays}
use Rattle.lb_world.specs.Selected.{FirstAccepted}

module _ {C : Type 0} (M : Meaning C) where
  -- For every list of steps, a selection answers the first accepted backend among the distinct of its slot's served generation's first
  -- `max_iterations` candidates, judged by that generation's live cells, or `None`; an uncancelled slot neither building nor waiting
  -- serves the newest; served generations never fall; free gates grant due requests; and beyond last published selectors each gate
  -- has at most one building, unpublished or undestroyed.
  pub record Headline (h : History C) : Type 0 where
    pub first_accepted : EachStep (FirstAccepted M) h
    pub newest_served : Always NewestServed h
    pub never_falls : EachStep NeverFalls h
    pub free_gates_grant : EachStep FreeGatesGrant h
    pub one_extra : Always OneExtra h

  -- What every run keeps, of each step and after each: the headline; what is counted of gates, requests and readers; that no answer
  -- mixes two generations; and that a refused step changes nothing.
  pub record KeepsPromises (h : History C) : Type 0 where
    pub headline : Headline h
    pub counted : Always Counted h
    pub ledger : Always Ledger h
    pub readers_exact : Always ReadersExact h
    pub destroys_exactly : EachStep DestroysExactly h
    pub bounded : Always Bounded h
    pub raises : EachStep Raises h
    pub members_kept : Always MembersKept h
    pub view_follows : Always (λ k. (g : ℕ) → ViewFollows g k) h
    pub lives_exactly : Always LivesExactly h
    pub judged : Always JudgedByOwn h
    pub refused_stays : EachStep (RefusedStays M) h
