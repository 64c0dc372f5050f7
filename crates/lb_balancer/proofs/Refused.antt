-- Why view and registry refuse a membership of what a balancer serves.
use Rattle.std.proofs.Common.{◌≡◌, ◌⊎◌, inl, inr, List, Result, Ok, Err, IfErr, OnErr}
use Rattle.lb_select_base.specs.Backends.{Member}
use Rattle.lb_select_base.specs.declared.refusal.Refusal.{Refusal}
use Rattle.lb_select_base.specs.declared.refusal.Refusal.TheVariants.{GenerationsExhausted, NoSuch, NumbersExhausted, OutOfMemory}
use Rattle.lb_health_core.specs.Registry.{RegistryValue}
use Rattle.lb_health_view.specs.Causes.{IsRegistryRefusal}
use Rattle.lb_health_view.specs.Views.{IsViewRefusal}
use Rattle.lb_threads_core.specs.Registry.{IsRegistryOf}
use Rattle.lb_balancer_core.specs.ServedViews.{IsLeastCause, ServedViewValue}
use Rattle.lb_balancer_core.proofs.LeastCauses.{err-of}
use Rattle.lb_balancer.specs.History.{BalancerValue, IsServedBy}
use Rattle.lb_balancer.specs.SharedUpdates.{IsRoomRefusal}

kind-of : (A : Type 0) (e : Refusal) → (let r : Result A Refusal = Err e in IsViewRefusal r)
    → (e ≡ GenerationsExhausted) ⊎ IsRegistryRefusal e
kind-of A e (inl is) = inl (err-of A e GenerationsExhausted is)
kind-of A e (inr (inl is)) = inr (inl (err-of A e OutOfMemory is))
kind-of A e (inr (inr (inl is))) = inr (inr (inl (err-of A e NumbersExhausted is)))
kind-of A e (inr (inr (inr is))) = inr (inr (inr (err-of A e NoSuch is)))

-- what is refused at these states of what is served and of the registry
pub none-renewed : {D C R A : Type 0} (gives : R → Member → Member → Type 0) (b : BalancerValue D C R) (members : List Member)
    {s : ServedViewValue C} {x : RegistryValue R} (r : Result A Refusal) → IsServedBy b s → IsRegistryOf gives b.registry x
    → OnErr r (IsViewRefusal r) → IfErr r (IsLeastCause gives s.view x members) → IfErr r (IsRoomRefusal gives b members)
none-renewed gives b members (Ok a) was registry refused least = tt
none-renewed {A = A} gives b members {s = s} {x = x} (Err e) was registry refused least = record {
  kind = kind-of A e refused;
  served = s;
  was_served = was;
  cells = x;
  was_registry = registry;
  least = least;
}
