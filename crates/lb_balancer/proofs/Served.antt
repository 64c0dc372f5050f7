-- What updates, flags and refusals leave of what a balancer serves, and what is shown of it.
use Rattle.std.proofs.Common.{◌≡◌, ◌∙◌, ◌≤◌, ◌+◌, Bool, true, false, ℕ, List, [], ◌∷◌, Result, Ok, Err, OnOk, OnErr, refl}
use Rattle.std.proofs.Common.{sym, ap, subst, arith}
use Rattle.std.specs.Prelude.{if◌then◌else◌}
use Rattle.std.specs.List.{list_any}
use Rattle.lb_select_base.specs.Backends.{Member, same_member}
use Rattle.lb_select_base.specs.Memberships.{same_members}
use Rattle.lb_health_core.specs.Keys.{by_identity}
use Rattle.lb_health_core.specs.Registry.{RegistryValue}
use Rattle.lb_health_core.specs.RegistryEvents.{shown_cells}
use Rattle.lb_health_view.specs.Discoveries.{Discovers, Found}
use Rattle.lb_health_view.specs.declared.discovery.DiscoverySource.{DiscoverySource}
use Rattle.lb_health_view.specs.declared.discovery.DiscoverySource.TheVariants as source
use Rattle.lb_health_view.specs.RegistrySide.{after_settings, view_updated, with_membership}
use Rattle.lb_health_view.specs.ViewEvents.{ViewEvent, Set, Shown, generation_after, membership_after}
use Rattle.lb_health_view.specs.Views.{IsViewAfter}
use Rattle.lb_balancer_core.specs.Balancer.{IsJudged, ServedValue, Stands, updated as after-update}
use Rattle.lb_balancer_core.specs.ServedViews.{ServedViewValue, Takes}
use Rattle.lb_balancer_core.specs.Texts.{one_more}
use Rattle.lb_balancer_core.proofs.Balancing.{view-is}
use Rattle.lb_balancer_core.proofs.Memberships.{kept-members, new-members}
use Rattle.lb_threads_core.specs.Registry.{IsRegistryOf}
use Rattle.lb_balancer.specs.History.{AreDiscovered, BalancerValue, IsServedBy, IsShownBy, MayGive}
use Rattle.lb_balancer.specs.Shown.{AreUnready, ShownValue, ShowsView}

by-flag : (b : Bool) (m : Member) (on : Bool) (views : List ViewEvent)
    → generation_after (if b then Set m on ∷ views else views) ≡ generation_after views
by-flag true m on views = refl
by-flag false m on views = refl

settings-generation : (settings : List (Member × Bool)) (views : List ViewEvent)
    → generation_after (after_settings settings views) ≡ generation_after views
settings-generation [] views = refl
settings-generation (e ∷ rest) views =
    settings-generation rest (if list_any (same_member e.0) (membership_after views) then Set e.0 e.1 ∷ views else views)
    ∙ by-flag (list_any (same_member e.0) (membership_after views)) e.0 e.1 views

module _ (settings : List (Member × Bool)) (members : List Member) (cells : List (Member × ℕ)) (views : List ViewEvent) where
  kept-generation : same_members members (membership_after views) ≡ true
      → generation_after (after_settings settings (with_membership members cells views)) ≡ generation_after views
  kept-generation same =
      let kept : with_membership members cells views ≡ views = rw same refl in
      settings-generation settings (with_membership members cells views) ∙ ap generation_after kept

  new-generation : same_members members (membership_after views) ≡ false
      → generation_after (after_settings settings (with_membership members cells views)) ≡ generation_after views + 1
  new-generation other =
      let shown : with_membership members cells views ≡ Shown members cells ∷ views = rw other refl in
      settings-generation settings (with_membership members cells views) ∙ ap generation_after shown

-- no update makes the newest generation less
grows : (settings : List (Member × Bool)) (members : List Member) (cells : List (Member × ℕ)) (views : List ViewEvent) (b : Bool)
    → same_members members (membership_after views) ≡ b
    → generation_after views ≤ generation_after (after_settings settings (with_membership members cells views))
grows settings members cells views true same =
    let kept = kept-generation settings members cells views same in
    omega (arith, kept)
grows settings members cells views false other =
    let more = new-generation settings members cells views other in
    omega (arith, more)

-- generation and members that are those of another pair
moved : {D : Type 0} (d : DiscoverySource D) {n m : ℕ} {ms ns : List Member} → n ≡ m → ms ≡ ns → AreDiscovered d n ms → AreDiscovered d m ns
moved d {m = m} {ms = ms} number same is =
    subst (λ xs. AreDiscovered d m xs) same (subst (λ k. AreDiscovered d k ms) number is)

-- what a discovery may give
pub may-give : {D : Type 0} (finds : D → Found → Type 0) (d : DiscoverySource D) (members : List Member) (settings : List (Member × Bool))
    → Discovers finds d members settings → MayGive d members settings
may-give finds (source.Static backends) members settings found = found
may-give finds (source.Boxed discovery) members settings found = tt

-- nothing was discovered yet
pub none-yet : {D : Type 0} (d : DiscoverySource D) → AreDiscovered d 0 []
none-yet d = record { none = (λ none. refl); some = (λ some. absurd (omega (arith, some))) }

-- an update took what was discovered, or settings alone
taken : {D : Type 0} (d : DiscoverySource D) (members : List Member) (settings : List (Member × Bool)) (cells : List (Member × ℕ))
    (views : List ViewEvent) (b : Bool) → same_members members (membership_after views) ≡ b → MayGive d members settings
    → AreDiscovered d (generation_after views) (membership_after views)
    → (let after = after_settings settings (with_membership members cells views) in
    AreDiscovered d (generation_after after) (membership_after after))
taken d members settings cells views true same found before =
    moved d (sym (kept-generation settings members cells views same)) (sym (kept-members settings members cells views same)) before
taken d members settings cells views false other found before =
    let generation = new-generation settings members cells views other in
    moved d refl (sym (new-members settings members cells views other))
    (record { none = (λ none. absurd (omega (arith, generation, none))); some = (λ some. ∣ (settings, found) ∣₁) })

-- what holds by the key of a lock holds by the balancer whose key that is
pub known : {D C R : Type 0} {b c : BalancerValue D C R} {s : ServedViewValue C} → b ≡ c → IsServedBy b s → IsServedBy c s
known {s = s} same was = subst (λ x. IsServedBy x s) same was

-- a state of the registry that a balancer was made of is one of the registry that the balancer names
pub of-registry : {D C R : Type 0} (gives : R → Member → Member → Type 0) {start cells : RegistryValue R} {b c : BalancerValue D C R}
    → start ≡ b.registry → b ≡ c → IsRegistryOf gives start cells → IsRegistryOf gives c.registry cells
of-registry gives {cells = cells} {c = c} start same is =
    subst (λ r. IsRegistryOf gives r cells) (start ∙ ap (λ v. v.registry) same) is

module _ {D C R : Type 0} (b : BalancerValue D C R) {s t : ServedViewValue C} where
  pub updated : IsServedBy b s → t.config ≡ s.config → t.view.id ≡ s.view.id → (members : List Member)
      (settings : List (Member × Bool)) → MayGive b.discovery members settings → Takes members settings s t → IsServedBy b t
  updated was config id members settings discovered takes = record {
    config = config ∙ was.config;
    id = id ∙ was.id;
    views = after_settings settings (with_membership members takes.0 was.views);
    view = takes.1 was.views was.view;
    first =
        let before = was.first in
        let more = grows settings members takes.0 was.views (same_members members (membership_after was.views)) refl in
        omega (arith, before, more);
    discovered =
        taken b.discovery members settings takes.0 was.views (same_members members (membership_after was.views)) refl discovered
        was.discovered;
  }

  pub flagged : IsServedBy b s → t.config ≡ s.config → t.view.id ≡ s.view.id → (backend : Member) (enabled : Bool)
      → ((views : List ViewEvent) → IsViewAfter views s.view → IsViewAfter (Set backend enabled ∷ views) t.view) → IsServedBy b t
  flagged was config id backend enabled flags = record {
    config = config ∙ was.config;
    id = id ∙ was.id;
    views = Set backend enabled ∷ was.views;
    view = flags was.views was.view;
    first = was.first;
    discovered = was.discovered;
  }

  -- what was renewed, or refused
  pub renewed : {A E : Type 0} (r : Result A E) → IsServedBy b s → t.config ≡ s.config → t.view.id ≡ s.view.id
      → (members : List Member) (settings : List (Member × Bool)) → MayGive b.discovery members settings
      → OnOk r (Takes members settings s t) → OnErr r ((views : List ViewEvent) → IsViewAfter views s.view → IsViewAfter views t.view)
      → IsServedBy b t
  renewed (Ok a) was config id members settings discovered ok err = updated was config id members settings discovered ok
  renewed (Err a) was config id members settings discovered ok err =
      record {
        config = config ∙ was.config;
        id = id ∙ was.id;
        views = was.views;
        view = err was.views was.view;
        first = was.first;
        discovered = was.discovered;
      }

-- a copy of what is served is shown, with those that aren't ready by the registry
pub shown-of : {D C R : Type 0} (gives : R → Member → Member → Type 0) (b : BalancerValue D C R) {s : ServedViewValue C} {x : ShownValue C}
    {cells : RegistryValue R} → IsServedBy b s → x.config ≡ s.config → ShowsView s.view x → IsRegistryOf gives b.registry cells
    → AreUnready (IsJudged gives s.view cells) x.members x.unready → IsShownBy gives b x
shown-of gives b {s = s} {cells = cells} was config shows registry judged = record {
  config = config ∙ was.config;
  first = subst (λ n. b.first ≤ n) (sym (shows.generation was.views was.view)) was.first;
  discovered =
      moved b.discovery (sym (shows.generation was.views was.view)) (sym (shows.members was.views was.view)) was.discovered;
  served = s;
  was_served = was;
  shows = shows;
  cells = cells;
  was_registry = registry;
  judged = judged;
}

numbered : (b : Bool) (members : List Member) (cells : List (Member × ℕ))
    → generation_after (if b then [] else Shown members cells ∷ []) ≡ (if b then 0 else 1)
numbered true members cells = refl
numbered false members cells = refl

-- the generation of the first view of a registry
pub first-generation : (members : List Member)
    → generation_after (view_updated by_identity 1 members [] (one_more []) []) ≡ (if same_members members [] then 0 else 1)
first-generation members = numbered (same_members members []) members (shown_cells by_identity 1 members (one_more []))

-- the first view of a registry, with members that were discovered
pub first-discovered : {D : Type 0} (d : DiscoverySource D) (members : List Member) (b : Bool) → same_members members [] ≡ b
    → MayGive d members [] → (let views = view_updated by_identity 1 members [] (one_more []) [] in
    AreDiscovered d (generation_after views) (membership_after views))
first-discovered d members true same found = rw same (none-yet d)
first-discovered d members false other found =
    rw other (record { none = (λ none. absurd (omega (arith, none))); some = (λ some. ∣ ([], found) ∣₁) })

-- what a plain balancer serves of texts that were taken in a registry without views
pub first-view : {C G : Type 0} (members : List Member) (v : ServedValue C G)
    → Stands (after-update by_identity 1 members [] (one_more []) []) v
    → IsViewAfter (view_updated by_identity 1 members [] (one_more []) []) v.view
first-view members v s =
    subst (λ vs. IsViewAfter vs v.view) (view-is [] members (shown_cells by_identity 1 members (one_more [])) []) s.view
