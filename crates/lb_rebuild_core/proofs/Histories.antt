-- What the history of a joined group is for the group and for its view: they are at the same generation and membership.
use Rattle.std.proofs.Common.{◌≡◌, ◌+◌, ◌∙◌, ℕ, zero, suc, Bool, true, false, not, nat_lt, List, [], ◌∷◌, ◌++◌, replicate, refl, sym, ap}
use Rattle.std.proofs.lemmas.Bool.{eq-eqb}
use Rattle.std.specs.List.{list_any}
use Rattle.std.specs.Prelude.{if◌then◌else◌}
use Rattle.lb_select_base.specs.Backends.{Member, same_member}
use Rattle.lb_select_base.specs.Memberships.{same_members}
use Rattle.lb_rebuild_core.specs.SlotsHistory as slots
use Rattle.lb_rebuild_core.specs.SlotsCalls.{is_change}
use Rattle.lb_health_view.specs.RegistrySide as health
use Rattle.lb_health_view.specs.ViewEvents as view
use Rattle.lb_health_view.specs.ViewEvents.{ViewEvent, generation_after, membership_after}
use Rattle.lb_rebuild_core.specs.GroupCalls.{with_membership}
use Rattle.lb_rebuild_core.specs.GroupHistory.{History, Shown, Set, Cancelled, At, slot_events, in_group, hold_events, view_events}
use Rattle.lb_rebuild_core.specs.GroupHistory.{members_now, after_settings}
use Rattle.lb_rebuild_core.specs.GroupLaws.{IsShown}

pub group-joined : (es : slots.History) (e : History) → slot_events (in_group es ++ e) ≡ es ++ slot_events e
group-joined [] e = refl
group-joined (slots.Scheduled ms now ∷ h) e = ap (λ l. slots.Scheduled ms now ∷ l) (group-joined h e)
group-joined (slots.Cancelled ∷ h) e = ap (λ l. slots.Cancelled ∷ l) (group-joined h e)
group-joined (slots.At i x ∷ h) e = ap (λ l. slots.At i x ∷ l) (group-joined h e)

-- what holds and their ends leave, the events at a slot leave
held-keeps : {A : Type 0} (f : List ViewEvent → A) → ((g : ℕ) (v : List ViewEvent) → f (view.Held g ∷ v) ≡ f v)
    → (there : Bool) (g : ℕ) (v : List ViewEvent)
    → f ((if there then view.Held g ∷ [] else []) ++ v) ≡ f v
held-keeps f keeps true g v = keeps g v
held-keeps f keeps false g v = refl

released-keeps : {A : Type 0} (f : List ViewEvent → A) → ((g : ℕ) (v : List ViewEvent) → f (view.Released g ∷ v) ≡ f v)
    → (there : Bool) (g : ℕ) (v : List ViewEvent)
    → f ((if there then view.Released g ∷ [] else []) ++ v) ≡ f v
released-keeps f keeps true g v = keeps g v
released-keeps f keeps false g v = refl

events-keep : {A : Type 0} (f : List ViewEvent → A) → ((g : ℕ) (v : List ViewEvent) → f (view.Held g ∷ v) ≡ f v)
    → ((g : ℕ) (v : List ViewEvent) → f (view.Released g ∷ v) ≡ f v)
    → (there : Bool) (x : slots.SlotEvent) (p : slots.History) (v : List ViewEvent) → f (hold_events there x p ++ v) ≡ f v
events-keep f held released there (slots.Granted now) p v = held-keeps f held there (slots.newest p) v
events-keep f held released there (slots.Failed now ms) p v = released-keeps f released there (slots.granted p) v
events-keep f held released there slots.Destroyed p v = released-keeps f released there (slots.generation_of (slots.extra p)) v
events-keep f held released there (slots.Published ended ms) p v = refl
events-keep f held released there (slots.Abandoned ms) p v = refl
events-keep f held released there slots.WorkerLost p v = refl
events-keep f held released there slots.TakenOut p v = refl
events-keep f held released there slots.Entered p v = refl
events-keep f held released there (slots.Left n) p v = refl
events-keep f held released there (slots.Drew t) p v = refl
events-keep f held released there (slots.DrewRetired t) p v = refl

first-generation : (k : ℕ) → generation_after (replicate k (view.Held 0)) ≡ 0
first-generation zero = refl
first-generation (suc k) = first-generation k

first-members : (k : ℕ) → membership_after (replicate k (view.Held 0)) ≡ []
first-members zero = refl
first-members (suc k) = first-members k

pub generation-is : (k : ℕ) (e : History) → generation_after (view_events k e) ≡ slots.newest (slot_events e)
generation-is k [] = first-generation k
generation-is k (Shown ms cells now ∷ e) = ap (λ n. n + 1) (generation-is k e)
generation-is k (Set b on ∷ e) = generation-is k e
generation-is k (Cancelled ∷ e) = generation-is k e
generation-is k (At i x ∷ e) =
    events-keep generation_after (λ g v. refl) (λ g v. refl) (nat_lt i k) x (slots.past_of i (slot_events e)) (view_events k e)
    ∙ generation-is k e

pub members-are : (k : ℕ) (e : History) → membership_after (view_events k e) ≡ members_now e
members-are k [] = first-members k
members-are k (Shown ms cells now ∷ e) =
    sym (rw (eq-eqb (slots.newest (slot_events e) + 1) (slots.newest (slot_events e) + 1) refl) refl)
members-are k (Set b on ∷ e) = members-are k e
members-are k (Cancelled ∷ e) = members-are k e
members-are k (At i x ∷ e) =
    events-keep membership_after (λ g v. refl) (λ g v. refl) (nat_lt i k) x (slots.past_of i (slot_events e)) (view_events k e)
    ∙ members-are k e

pub is-shown : (k : ℕ) (e : History) → IsShown k e
is-shown k e = record { generation = generation-is k e; members = members-are k e }

-- settings are the view's alone
set-group : (b : Bool) (m : Member) (on : Bool) (e : History) → slot_events (if b then Set m on ∷ e else e) ≡ slot_events e
set-group true m on e = refl
set-group false m on e = refl

set-view : (k : ℕ) (b : Bool) (m : Member) (on : Bool) (e : History)
    → view_events k (if b then Set m on ∷ e else e) ≡ (if b then view.Set m on ∷ view_events k e else view_events k e)
set-view k true m on e = refl
set-view k false m on e = refl

pub settings-group : (settings : List (Member × Bool)) (e : History) → slot_events (after_settings settings e) ≡ slot_events e
settings-group [] e = refl
settings-group (s ∷ rest) e =
    settings-group rest (if list_any (same_member s.0) (members_now e) then Set s.0 s.1 ∷ e else e)
    ∙ set-group (list_any (same_member s.0) (members_now e)) s.0 s.1 e

pub settings-view : (k : ℕ) (settings : List (Member × Bool)) (e : History)
    → view_events k (after_settings settings e) ≡ health.after_settings settings (view_events k e)
settings-view k [] e = refl
settings-view k (s ∷ rest) e =
    settings-view k rest (if list_any (same_member s.0) (members_now e) then Set s.0 s.1 ∷ e else e)
    ∙ ap (health.after_settings rest) (set-view k (list_any (same_member s.0) (members_now e)) s.0 s.1 e)
    ∙ ap (λ ms. health.after_settings rest (if list_any (same_member s.0) ms then view.Set s.0 s.1 ∷ view_events k e else view_events k e))
    (sym (members-are k e))

module _ (members : List Member) (cells : List (Member × ℕ)) (now : ℕ) (e : History) where
  shown-group : (b : Bool)
      → slot_events (if b then Shown members cells now ∷ e else e) ≡
      (if b then slots.Scheduled members now ∷ slot_events e else slot_events e)
  shown-group true = refl
  shown-group false = refl

  shown-view : (k : ℕ) (b : Bool)
      → view_events k (if not b then Shown members cells now ∷ e else e) ≡
      (if b then view_events k e else view.Shown members cells ∷ view_events k e)
  shown-view k true = refl
  shown-view k false = refl

  -- a membership reaches the group and its view
  pub membership-group : (settings : List (Member × Bool)) → slot_events (after_settings settings (with_membership members cells now e))
      ≡ (if is_change members (slot_events e) then slots.Scheduled members now ∷ slot_events e else slot_events e)
  membership-group settings = settings-group settings (with_membership members cells now e)
      ∙ shown-group (is_change members (slot_events e))

  pub membership-view : (k : ℕ) (settings : List (Member × Bool))
      → view_events k (after_settings settings (with_membership members cells now e)) ≡ health.after_settings settings
      (health.with_membership members cells (view_events k e))
  membership-view k settings =
      settings-view k settings (with_membership members cells now e)
      ∙ ap (health.after_settings settings) (shown-view k (same_members members (members_now e))
      ∙ ap (λ ms. if same_members members ms then view_events k e else view.Shown members cells ∷ view_events k e) (sym (members-are k e)))
