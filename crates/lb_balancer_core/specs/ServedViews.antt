-- A view with the selector of its newest membership: what flags and updates leave of it, and why it is refused another membership.
use Rattle.std.specs.Prelude.{◌≡◌, ℕ, Bool, false, not, List, ◌∷◌, None, unwrap_or, Result, IfOk, IfErr, OnOk, OnErr}
use Rattle.lb_select_base.specs.Backends.{Member}
use Rattle.lb_select_base.specs.Memberships.{same_members}
use Rattle.lb_select_base.specs.declared.refusal.Refusal.{Refusal}
use Rattle.lb_select_base.specs.declared.refusal.Refusal.TheVariants.{OutOfMemory}
use Rattle.lb_health_core.specs.Registry.{RegistryValue}
use Rattle.lb_health_view.specs.Causes.{view_cause}
use Rattle.lb_health_view.specs.RegistrySide.{after_settings, with_membership}
use Rattle.lb_health_view.specs.Snapshots.{ViewValue}
use Rattle.lb_health_view.specs.Updates.{IsViewUpdated}
use Rattle.lb_health_view.specs.ViewEvents.{ViewEvent, Set, membership_after}
use Rattle.lb_health_view.specs.Views.{HoldsOfBoth, IsViewAfter}

-- a view, and its newest membership, of which the served selector is built with this configuration
pub record ServedViewValue (C : Type 0) : Type 0 where
  pub view : ViewValue
  pub members : List Member
  pub config : C

-- a backend that the newest membership lists was enabled or disabled
abbrev pub SetsFlag : {C : Type 0} → Member → Bool → ServedViewValue C → ServedViewValue C → Type 0
SetsFlag b enabled s t = (views : List ViewEvent) → IsViewAfter views s.view → IsViewAfter (Set b enabled ∷ views) t.view

-- a view took members and settings
abbrev pub Takes : {C : Type 0} → List Member → List (Member × Bool) → ServedViewValue C → ServedViewValue C → Type 0
Takes members settings s t =
    (cells : List (Member × ℕ)) × ((views : List ViewEvent) → IsViewAfter views s.view
    → IsViewAfter (after_settings settings (with_membership members cells views)) t.view)

-- view and selector are as this history left them: the selector is that of the newest membership
pub record StandsBy {C : Type 0} (views : List ViewEvent) (s : ServedViewValue C) : Type 0 where
  pub view : IsViewAfter views s.view
  pub selector : s.members ≡ membership_after views

-- Members and settings were taken in: other members became the newest membership, whose selector is served, and then the settings reached
-- it.
pub record TakesIn {C : Type 0} (members : List Member) (settings : List (Member × Bool)) (s t : ServedViewValue C) : Type 0 where
  pub views : List ViewEvent
  pub cells : List (Member × ℕ)
  pub before : StandsBy views s
  pub after : StandsBy (after_settings settings (with_membership members cells views)) t

-- the least cause for which view and registry refuse another membership, whatever they have been through, or where none applies memory
abbrev pub IsLeastCause : {R : Type 0} → (R → Member → Member → Type 0) → ViewValue → RegistryValue R → List Member → Refusal → Type 0
IsLeastCause gives v x members r =
    HoldsOfBoth gives v x (λ key_of views events. r ≡ unwrap_or (view_cause key_of v.id members events views) OutOfMemory)

-- Members and settings came with the selector that is built of the members. Another membership is the newest one from then on, and its
-- selector is served, which the answer says; the same one changes nothing but flags. Where they are refused, view, members and registry
-- are as before, and the answer is the least cause.
pub record IsRenewed {C R : Type 0} (gives : R → Member → Member → Type 0) (given : List Member) (settings : List (Member × Bool))
    (s : ServedViewValue C) (x : RegistryValue R) (r : Result Bool Refusal) (t : ServedViewValue C) (y : RegistryValue R) : Type 0 where
  pub updated : IsViewUpdated gives given settings s.view x r t.view y
  pub taken : OnOk r (TakesIn given settings s t)
  pub renewed : IfOk r (λ renewed. renewed ≡ not (same_members given s.members))
  pub members : OnOk r (same_members given s.members ≡ false → t.members ≡ given)
  pub free : OnOk r (same_members given s.members ≡ false
      → HoldsOfBoth gives s.view x (λ key_of views events. view_cause key_of s.view.id given events views ≡ None))
  pub members_err : OnErr r (t.members ≡ s.members)
  pub least : IfErr r (IsLeastCause gives s.view x given)
  pub config : t.config ≡ s.config
