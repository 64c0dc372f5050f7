-- A selection by readiness: each backend that is asked about is judged in the newest generation.
use Rattle.std.proofs.Common.{◌≡◌, ◌∙◌, ℕ, Bool, List, sym, subst, Option, Result}
use Rattle.std.specs.Borrow.{Bor}
use Rattle.std.specs.Fn.{Shared, FnReturns, FnReturnsAt}
use Rattle.lb_select_base.specs.Backends.{Member, same_member}
use Rattle.lb_select_base.specs.Draws.{Draw}
use Rattle.lb_select_base.specs.Selections.{Selects}
use Rattle.lb_select_base.specs.declared.refusal.Refusal.{Refusal}
use Rattle.lb_select_base.proofs.SelectionsSeen.{selects-more}
use Rattle.lb_health_view.specs.Snapshots.{ViewValue}
use Rattle.lb_health_view.specs.Views.{IsViewAfter}
use Rattle.lb_rebuild_core.specs.GroupCalls.{AcceptsBy}
use Rattle.lb_health_core.specs.Registry.{RegistryValue, IsRegistryAfter}
use Rattle.lb_health_core.specs.RegistryEvents as registry
use Rattle.lb_balancer_core.specs.Balancer.{History, IsJudged, Judges, view_events}

module _ {R : Type 0} {gives : R → Member → Member → Type 0} {v : ViewValue} {r : RegistryValue R} {F : Type 0}
    {g : Shared F (Bor Member × (Bool × Unit {0})) Bool} {f : F} where
  -- what is right of a backend whatever view and registry have been through is right after these histories
  pub accepts-newest : (key_of : Member → Member) (events : List registry.Event) (e : History) → IsViewAfter (view_events e) v
      → IsRegistryAfter gives key_of events r → (p b : Member) (a : Bool) → p ≡ b
      → AcceptsBy g f (IsJudged gives v r) p a → AcceptsBy g f (Judges key_of events e) b a
  accepts-newest key_of events e view rule p b a is by =
      record {
        shown = by.shown;
        shows = by.shows ∙ is;
        told = by.told;
        is_right = subst (λ q. IsJudged gives v r q by.told) is by.is_right key_of (view_events e) events view rule;
        says = by.says;
      }

-- what was asked is stated by what follows from it; its type is found from what it was asked
pub asked-more : {S F : Type 0} {g : Shared F (Bor Member × Unit {0}) Bool} {f : F} (gives : S → Draw → S → Type 0)
    (walks : List Draw → List Member → Bool → Type 0) (Q : Member → Bool → Type 0) (limit : ℕ) (s t : S)
    (r : Result (Option Member) Refusal)
    → Selects same_member (λ b a. FnReturnsAt g f b a) limit gives walks s r t
    → ((b : Member) (a : Bool) → FnReturnsAt g f b a → Q b a) → Selects same_member Q limit gives walks s r t
asked-more {g = g} {f = f} gives walks Q limit s t r is more =
    selects-more same_member (λ b a. FnReturnsAt g f b a) Q more limit gives walks s t r is

-- where the test answers what its contract says, what it accepts is what is right
pub told-more : {S F : Type 0} {g : Shared F (Bor Member × (Bool × Unit {0})) Bool} {f : F} (gives : S → Draw → S → Type 0)
    (walks : List Draw → List Member → Bool → Type 0) (right : Member → Bool → Type 0) (limit : ℕ) (s t : S)
    (r : Result (Option Member) Refusal)
    → Selects same_member (λ b a. AcceptsBy g f right b a) limit gives walks s r t
    → ((p : Bor Member) (told a : Bool) → FnReturns g f (p, (told, tt)) a → a ≡ told) → Selects same_member right limit gives walks s r t
told-more {g = g} {f = f} gives walks right limit s t r is same =
    selects-more same_member (λ b a. AcceptsBy g f right b a) right
    (λ b a by. subst (λ x. right b x) (sym (same by.shown by.told a by.says)) by.is_right) limit gives walks s t r is
