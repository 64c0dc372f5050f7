-- An update of view and selector: what it does to the history, and why it is refused.
use Rattle.std.proofs.Common.{◌≡◌, ◌⊎◌, inl, inr, ◌∙◌, ℕ, Bool, true, false, List, [], ◌∷◌, Option, Some, None, refl, sym, ap, subst}
use Rattle.std.proofs.Common.{unwrap_or}
use Rattle.std.specs.Prelude.{if◌then◌else◌}
use Rattle.std.specs.List.{list_any}
use Rattle.std.specs.Option.{option_or}
use Rattle.lb_select_base.specs.Backends.{Member, same_member}
use Rattle.lb_select_base.specs.Memberships.{same_members}
use Rattle.lb_select_base.specs.Refusals.{memory_apart}
use Rattle.lb_select_base.specs.declared.refusal.Refusal.{Refusal}
use Rattle.lb_select_base.specs.declared.refusal.Refusal.TheVariants.{OutOfMemory}
use Rattle.lb_select_base.specs.declared.words.CoreWords.{CoreWords}
use Rattle.lb_health_core.specs.RegistryEvents as registry
use Rattle.lb_health_view.specs.RegistrySide as joined
use Rattle.lb_health_view.specs.Snapshots.{ViewValue}
use Rattle.lb_health_view.specs.ViewEvents as view
use Rattle.lb_health_view.specs.Views.{IsViewAfter}
use Rattle.lb_balancer_core.specs.Balancer.{Updated, Set, History, view_events, members_now, tickets_after, after_settings, with_membership}
use Rattle.lb_health_view.specs.Causes.{view_cause}
use Rattle.lb_balancer_core.specs.Balancer.{Stands, update_cause}

-- a setting changes the view alone
set-view : (b : Bool) (m : Member) (on : Bool) (e : History)
    → view_events (if b then Set m on ∷ e else e) ≡ (if b then view.Set m on ∷ view_events e else view_events e)
set-view true m on e = refl
set-view false m on e = refl

set-members : (b : Bool) (m : Member) (on : Bool) (e : History) → members_now (if b then Set m on ∷ e else e) ≡ members_now e
set-members true m on e = refl
set-members false m on e = refl

set-tickets : (b : Bool) (m : Member) (on : Bool) (e : History) → tickets_after (if b then Set m on ∷ e else e) ≡ tickets_after e
set-tickets true m on e = refl
set-tickets false m on e = refl

settings-view : (settings : List (Member × Bool)) (e : History) → view_events (after_settings settings e) ≡ joined.after_settings settings
    (view_events e)
settings-view [] e = refl
settings-view (s ∷ rest) e =
    settings-view rest (if list_any (same_member s.0) (members_now e) then Set s.0 s.1 ∷ e else e)
    ∙ ap (joined.after_settings rest) (set-view (list_any (same_member s.0) (members_now e)) s.0 s.1 e)

settings-members : (settings : List (Member × Bool)) (e : History) → members_now (after_settings settings e) ≡ members_now e
settings-members [] e = refl
settings-members (s ∷ rest) e =
    settings-members rest (if list_any (same_member s.0) (members_now e) then Set s.0 s.1 ∷ e else e)
    ∙ set-members (list_any (same_member s.0) (members_now e)) s.0 s.1 e

settings-tickets : (settings : List (Member × Bool)) (e : History) → tickets_after (after_settings settings e) ≡ tickets_after e
settings-tickets [] e = refl
settings-tickets (s ∷ rest) e =
    settings-tickets rest (if list_any (same_member s.0) (members_now e) then Set s.0 s.1 ∷ e else e)
    ∙ set-tickets (list_any (same_member s.0) (members_now e)) s.0 s.1 e

shown-view : (b : Bool) (members : List Member) (cells : List (Member × ℕ)) (e : History)
    → view_events (if b then e else Updated members cells ∷ e) ≡ (if b then view_events e else view.Shown members cells ∷ view_events e)
shown-view true members cells e = refl
shown-view false members cells e = refl

-- what an update is to the view
pub view-is : (settings : List (Member × Bool)) (members : List Member) (cells : List (Member × ℕ)) (e : History)
    → view_events (after_settings settings (with_membership members cells e)) ≡ joined.after_settings settings
    (joined.with_membership members cells (view_events e))
view-is settings members cells e =
    settings-view settings (with_membership members cells e)
    ∙ ap (joined.after_settings settings) (shown-view (same_members members (members_now e)) members cells e)

seen : (settings : List (Member × Bool)) (members : List Member) (cells : List (Member × ℕ)) (e : History) (w : ViewValue)
    → IsViewAfter (joined.after_settings settings (joined.with_membership members cells (view_events e))) w
    → IsViewAfter (view_events (after_settings settings (with_membership members cells e))) w
seen settings members cells e w after = subst (λ vs. IsViewAfter vs w) (sym (view-is settings members cells e)) after

module _ {C G : Type 0} (e : History) (members : List Member) (settings : List (Member × Bool)) (cells : List (Member × ℕ)) (w : ViewValue)
    (after : IsViewAfter (joined.after_settings settings (joined.with_membership members cells (view_events e))) w) where
  -- the same membership leaves selector and words as they are
  pub stands-same : (config : C) (built : List Member) (words : CoreWords G) → same_members members (members_now e) ≡ true
      → built ≡ members_now e → words.tickets ≡ tickets_after e
      → Stands (after_settings settings (with_membership members cells e)) (record {
        view = w;
        config = config;
        members = built;
        words = words;
      })
  stands-same config built words same of counted =
      let kept : with_membership members cells e ≡ e = rw same refl in
      record {
        view = seen settings members cells e w after;
        members = of ∙ sym (settings-members settings (with_membership members cells e) ∙ ap members_now kept);
        tickets = counted ∙ sym (settings-tickets settings (with_membership members cells e) ∙ ap tickets_after kept);
      }

  -- another membership comes with a selector that is built of it, whose counter is at 0
  pub stands-other : (config : C) (built : List Member) (words : CoreWords G) → same_members members (members_now e) ≡ false
      → built ≡ members → words.tickets ≡ 0
      → Stands (after_settings settings (with_membership members cells e)) (record {
        view = w;
        config = config;
        members = built;
        words = words;
      })
  stands-other config built words same of zero =
      let shown : with_membership members cells e ≡ Updated members cells ∷ e = rw same refl in
      record {
        view = seen settings members cells e w after;
        members = of ∙ sym (settings-members settings (with_membership members cells e) ∙ ap members_now shown);
        tickets = zero ∙ sym (settings-tickets settings (with_membership members cells e) ∙ ap tickets_after shown);
      }

told : (x : Option Refusal) (r : Refusal) → r ≡ unwrap_or x OutOfMemory → (x ≡ Some r) ⊎ ((x ≡ None) × (r ≡ OutOfMemory))
told None r h = inr (refl, h)
told (Some y) r h = inl (ap Some (sym h))

-- a build that is refused tells the cause of the update
pub refused-build : (build : Option Refusal) (key_of : Member → Member) (id : ℕ) (members : List Member) (events : List registry.Event)
    (e : History) (r : Refusal)
    → same_members members (members_now e) ≡ false
    → r ≡ unwrap_or (option_or (memory_apart build) (view_cause key_of id members events (view_events e))) OutOfMemory
    → (update_cause build key_of id members events e ≡ Some r) ⊎ ((update_cause build key_of id members events e ≡ None)
    × (r ≡ OutOfMemory))
refused-build build key_of id members events e r same h = rw same (told _ r h)

-- what view and registry have no cause for has none where its selector was built
pub no-cause : (build : Option Refusal) (key_of : Member → Member) (id : ℕ) (members : List Member) (events : List registry.Event)
    (e : History)
    → same_members members (members_now e) ≡ false → memory_apart build ≡ None
    → view_cause key_of id members events (view_events e) ≡ None → update_cause build key_of id members events e ≡ None
no-cause build key_of id members events e same made free = rw (same, made) free

-- and what they refuse it for is the cause of the update
pub refused-renewal : (build : Option Refusal) (key_of : Member → Member) (id : ℕ) (members : List Member) (events : List registry.Event)
    (e : History) (r : Refusal)
    → same_members members (members_now e) ≡ false → memory_apart build ≡ None
    → r ≡ unwrap_or (view_cause key_of id members events (view_events e)) OutOfMemory
    → (update_cause build key_of id members events e ≡ Some r) ⊎ ((update_cause build key_of id members events e ≡ None)
    × (r ≡ OutOfMemory))
refused-renewal build key_of id members events e r same made h = rw (same, made) (told _ r h)
