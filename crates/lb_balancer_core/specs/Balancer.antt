-- A view with the selector of its newest membership: what happens to it, newest first, and what it is then.
use Rattle.std.specs.Prelude.{◌≡◌, ◌↔◌, IsTrue, ℕ, Bool, List, [], ◌∷◌, Option, None, if◌then◌else◌}
use Rattle.std.specs.List.{list_any}
use Rattle.std.specs.Option.{option_or}
use Rattle.lb_select_base.specs.Backends.{Member, same_member}
use Rattle.lb_select_base.specs.Memberships.{same_members}
use Rattle.lb_select_base.specs.Refusals.{memory_apart}
use Rattle.lb_select_base.specs.declared.refusal.Refusal.{Refusal}
use Rattle.lb_select_base.specs.declared.words.CoreWords.{CoreWords}
use Rattle.lb_health_core.specs.Registry.{RegistryValue}
use Rattle.lb_health_core.specs.RegistryEvents as registry
use Rattle.lb_health_view.specs.Causes.{view_cause}
use Rattle.lb_health_view.specs.RegistrySide.{IsReady}
use Rattle.lb_health_view.specs.Snapshots.{ViewValue}
use Rattle.lb_health_view.specs.ViewEvents as view
use Rattle.lb_health_view.specs.Views.{IsViewAfter, HoldsOfBoth}

pub data Event : Type 0 where
  -- another membership with the cells of its backends, whose selector is served from then on
  Updated : List Member → List (Member × ℕ) → Event
  -- a backend is enabled or disabled
  Set : Member → Bool → Event
  -- a selection left the counter of tickets at this number
  Drew : ℕ → Event

abbrev pub History : Type 0
History = List Event

-- what happens to the view
abbrev pub view_events : History → List view.ViewEvent
view_events [] = []
view_events (Updated ms cells ∷ e) = view.Shown ms cells ∷ view_events e
view_events (Set b on ∷ e) = view.Set b on ∷ view_events e
view_events (Drew n ∷ e) = view_events e

-- the membership of the newest generation, of which the served selector is built
abbrev pub members_now : History → List Member
members_now e = view.membership_after (view_events e)

-- the next ticket of the served selector, whose counter began at 0
abbrev pub tickets_after : History → ℕ
tickets_after [] = 0
tickets_after (Updated ms cells ∷ e) = 0
tickets_after (Set b on ∷ e) = tickets_after e
tickets_after (Drew n ∷ e) = n

-- settings of a discovery reach the members of the newest membership alone
abbrev pub after_settings : List (Member × Bool) → History → History
after_settings [] e = e
after_settings (s ∷ rest) e = after_settings rest (if list_any (same_member s.0) (members_now e) then Set s.0 s.1 ∷ e else e)

-- a membership of other identities is shown with these cells
abbrev pub with_membership : List Member → List (Member × ℕ) → History → History
with_membership members cells e = (if same_members members (members_now e) then e else Updated members cells ∷ e)

-- the cells are those that the registry gives; then the settings reach the newest membership
abbrev pub updated : (Member → Member) → ℕ → List Member → List (Member × Bool) → List registry.Event → History → History
updated key_of id members settings events e =
    after_settings settings (with_membership members (registry.shown_cells key_of id members events) e)

-- a view, what its selectors are built with, the set that the served one was built of, and its source of words
pub record ServedValue (C G : Type 0) : Type 0 where
  pub view : ViewValue
  pub config : C
  pub members : List Member
  pub words : CoreWords G

-- view, served selector and counter of tickets are as this history left them
pub record Stands {C G : Type 0} (e : History) (v : ServedValue C G) : Type 0 where
  pub view : IsViewAfter (view_events e) v.view
  pub members : v.members ≡ members_now e
  pub tickets : v.words.tickets ≡ tickets_after e

-- some history explains it
abbrev pub IsFounded : {C G : Type 0} → ServedValue C G → Type 0
IsFounded v = (e : History) × Stands e v

-- what holds after each history that explains it
abbrev pub After : {C G : Type 0} → ServedValue C G → (History → Type 0) → Type 0
After v P = (e : History) → Stands e v → P e

-- Why a membership is refused, memory apart: another one for what its selector is refused for, and else by view and registry.
abbrev pub update_cause :
    Option Refusal → (Member → Member) → ℕ → List Member → List registry.Event → History → Option Refusal
update_cause build key_of id members events e =
    if same_members members (members_now e) then None
    else option_or (memory_apart build) (view_cause key_of id members events (view_events e))

-- whether a backend is ready in the newest generation, by the live cells of its snapshot and the flags as they are
abbrev pub Judges : (Member → Member) → List registry.Event → History → Member → Bool → Type 0
Judges key_of events e b ready =
    IsTrue ready ↔ IsReady key_of (view_events e) events (view.generation_after (view_events e)) b

-- the same, whatever view and registry have been through
abbrev pub IsJudged : {R : Type 0} → (R → Member → Member → Type 0) → ViewValue → RegistryValue R → Member → Bool → Type 0
IsJudged gives v r b ready =
    HoldsOfBoth gives v r (λ key_of views events. IsTrue ready ↔ IsReady key_of views events (view.generation_after views) b)
