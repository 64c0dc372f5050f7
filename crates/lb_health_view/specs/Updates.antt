-- What an update of a view does, and what it may be refused for.
use Rattle.std.specs.Prelude.{◌≡◌, ◌≢◌, ◌⊎◌, ◌≤◌, ◌^◌, ◌+◌, ℕ, Bool, true, false, List, ◌∷◌, Result, Err, OnOk, OnErr, IsOk, IsErrOf}
use Rattle.lb_select_base.specs.Backends.{Member}
use Rattle.lb_select_base.specs.Memberships.{same_members}
use Rattle.lb_select_base.specs.declared.refusal.Refusal.{Refusal}
use Rattle.lb_select_base.specs.declared.refusal.Refusal.TheVariants.{Discovery, GenerationsExhausted, NoSuch, NumbersExhausted}
use Rattle.lb_health_core.specs.Registry.{RegistryValue, IsRegistryAfter, HoldsOf, KeepsHistory}
use Rattle.lb_health_core.specs.RegistryEvents.{Applied, Updated, cells_given, has_view, views_after}
use Rattle.lb_health_view.specs.RegistrySide.{after_settings, registry_updated, view_updated, with_membership}
use Rattle.lb_health_view.specs.Snapshots.{ViewValue}
use Rattle.lb_health_view.specs.ViewEvents.{ViewEvent, membership_after}
use Rattle.lb_health_view.specs.Views.{HoldsOfBoth, IsViewAfter, IsViewRefusal}

-- a fault of the discovery, or a refusal of the view's update
abbrev pub IsBackendsRefusal : {A : Type 0} → Result A Refusal → Type 0
IsBackendsRefusal r = (r ≡ Err Discovery) ⊎ IsViewRefusal r

-- what holds where these members are another membership than the view's newest one
abbrev pub IfAnother : List Member → ViewValue → Type 0 → Type 0
IfAnother members v Holds =
    (views : List ViewEvent) → IsViewAfter views v → same_members members (membership_after views) ≡ false → Holds

module _ {R : Type 0} (gives : R → Member → Member → Type 0) where
  -- the registry has no such view
  abbrev pub LacksView : ViewValue → RegistryValue R → Type 0
  LacksView v x = HoldsOf gives x (λ key_of events. has_view v.id (views_after events) ≡ false)

  -- no number is left for a cell of these members
  abbrev pub LacksNumbers : List Member → ViewValue → RegistryValue R → Type 0
  LacksNumbers members v x =
      HoldsOf gives x (λ key_of events. 2 ^ 64 ≤ cells_given key_of (Updated v.id members ∷ Applied ∷ events))

  -- For what beside memory the registry of a view refuses it members: `Refuses` says of a refusal that it is the answer, and `IfOther`
  -- what holds where they are another membership that nothing before the registry refuses.
  pub record RegistryRefuses (Refuses : Refusal → Type 0) (IfOther : Type 0 → Type 0) (members : List Member) (v : ViewValue)
      (x : RegistryValue R) : Type 0 where
    -- they are refused for the want of a view only where the registry has no such view
    pub unknown : Refuses NoSuch → LacksView v x
    -- and for the want of numbers only where too few are left for their cells
    pub numbers : Refuses NumbersExhausted → LacksNumbers members v x
    -- another membership is refused for the want of a view where the registry has no such view
    pub missing : HoldsOf gives x (λ key_of events. IfOther (has_view v.id (views_after events) ≡ false → Refuses NoSuch))
    -- and for the want of numbers where it has the view and too few are left
    pub lacking : HoldsOf gives x (λ key_of events. IfOther (has_view v.id (views_after events) ≡ true
        → 2 ^ 64 ≤ cells_given key_of (Updated v.id members ∷ Applied ∷ events) → Refuses NumbersExhausted))

  -- Members were to be the newest membership of a view, and the call answered r: for what view (v) and registry (x) refuse it, and what
  -- they are then (w, y). `IfOther` says what holds where they are another membership.
  pub record ViewRefuses {A : Type 0} (IfOther : Type 0 → Type 0) (members : List Member) (v : ViewValue) (x : RegistryValue R)
      (r : Result A Refusal) (w : ViewValue) (y : RegistryValue R) : Type 0 where
    -- where it is refused, the view is as before
    pub view_err : OnErr r ((views : List ViewEvent) → IsViewAfter views v → IsViewAfter views w)
    -- where it is refused, the registry is as before
    pub registry_err : OnErr r (KeepsHistory gives x y)
    -- another membership is refused where the newest generation is the last one
    pub exhausted : IfOther (v.generation + 1 ≡ 2 ^ 64 → r ≡ Err GenerationsExhausted)
    -- and for that only there
    pub last : IsErrOf r GenerationsExhausted → v.generation + 1 ≡ 2 ^ 64
    -- where a generation is left, it is for the registry to refuse it
    pub registry : RegistryRefuses (IsErrOf r) (λ Holds. IfOther (v.generation + 1 ≢ 2 ^ 64 → Holds)) members v x
    -- it is refused for these causes, or for memory
    pub refused : OnErr r (IsViewRefusal r)
    -- the view keeps its number
    pub id : w.id ≡ v.id
    -- it is the same registry
    pub one_registry : y.id ≡ x.id

  -- What was discovered came to a view, members and settings, and the call answered r: what view (v) and registry (x) were before, and are
  -- after (w, y).
  pub record IsViewUpdated {A : Type 0} (members : List Member) (settings : List (Member × Bool)) (v : ViewValue) (x : RegistryValue R)
      (r : Result A Refusal) (w : ViewValue) (y : RegistryValue R) : Type 0 where
    -- another membership is shown with the cells that the registry gives, and then the settings reach the newest one
    pub view : OnOk r (HoldsOfBoth gives v x (λ key_of views events.
        IsViewAfter (view_updated key_of v.id members settings events views) w))
    -- and the registry lets its snapshot live
    pub registry : OnOk r (HoldsOfBoth gives v x (λ key_of views events. IsRegistryAfter gives key_of
        (registry_updated key_of v.id members views events) y))
    -- the same of the view alone, whatever the registry has been through
    pub some : OnOk r ((cells : List (Member × ℕ)) × ((views : List ViewEvent) → IsViewAfter views v
        → IsViewAfter (after_settings settings (with_membership members cells views)) w))
    -- the same membership isn't refused
    pub same : (views : List ViewEvent) → IsViewAfter views v → same_members members (membership_after views) ≡ true → IsOk r
    -- and another one for these causes
    pub refusals : ViewRefuses (IfAnother members v) members v x r w y
