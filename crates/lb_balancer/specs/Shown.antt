-- What a balancer serves at one moment: its newest generation, the members of that, and those of them that aren't ready.
use Rattle.std.specs.Prelude.{◌≡◌, ◌⊎◌, ◌&&◌, ℕ, Bool, not, true, false, List, [], ◌∷◌, Option, Result, Ok, Err}
use Rattle.std.specs.List.{list_any}
use Rattle.lb_select_base.specs.Backends.{Member, same_member}
use Rattle.lb_select_base.specs.Draws.{Draw}
use Rattle.lb_select_base.specs.Selections.{IsAnswer}
use Rattle.lb_select_base.specs.declared.refusal.Refusal.{Refusal}
use Rattle.lb_select_base.specs.declared.refusal.Refusal.TheVariants.{OutOfMemory}
use Rattle.lb_health_view.specs.Snapshots.{ViewValue}
use Rattle.lb_health_view.specs.ViewEvents.{ViewEvent, generation_after, membership_after}
use Rattle.lb_health_view.specs.Views.{IsViewAfter}

-- the generation, its members, what its selector is built with, and those of the members that aren't ready
pub record ShownValue (C : Type 0) : Type 0 where
  pub generation : ℕ
  pub members : List Member
  pub config : C
  pub unready : List Member

-- whether no member of the backend's identity was found not ready; and whether there is such a member too
abbrev pub is_up : List Member → Member → Bool
is_up unready b = not (list_any (same_member b) unready)

abbrev pub is_ready : {C : Type 0} → ShownValue C → Member → Bool
is_ready s b = list_any (same_member b) s.members && is_up s.unready b

-- these members, in order, were judged not ready, and the others ready
abbrev pub AreUnready : (Member → Bool → Type 0) → List Member → List Member → Type 0
AreUnready right [] unready = unready ≡ []
AreUnready right (m ∷ ms) unready =
    (rest : List Member) × AreUnready right ms rest
    × ((right m false × (unready ≡ m ∷ rest)) ⊎ (right m true × (unready ≡ rest)))

-- generation and members are those of the view's newest generation
pub record ShowsView {C : Type 0} (v : ViewValue) (s : ShownValue C) : Type 0 where
  pub generation : (views : List ViewEvent) → IsViewAfter views v → s.generation ≡ generation_after views
  pub members : (views : List ViewEvent) → IsViewAfter views v → s.members ≡ membership_after views

-- A selection whose words other threads draw too: by some draws, the first accepted of the distinct candidates that came for them, or
-- none. It is refused for memory alone.
abbrev pub SelectsOf : {B : Type 0} → (B → B → Bool) → (B → Bool → Type 0) → ℕ → (List Draw → List B → Bool → Type 0)
    → Result (Option B) Refusal → Type 0
SelectsOf {B} same accepts limit walks (Ok r) =
    (draws : List Draw) × (cs : List B) × (ended : Bool) × walks draws cs ended × IsAnswer same accepts limit cs ended r
SelectsOf {B} same accepts limit walks (Err e) = e ≡ OutOfMemory
