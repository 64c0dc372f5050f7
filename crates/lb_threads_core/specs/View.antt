-- What is known of a view that threads share: its number and its discovery stay; between two calls of a thread others may have changed the
-- rest. So a call is one of the plain view at some state of this view, and at some state of its registry.
use Rattle.std.specs.Prelude.{◌≡◌, ◌≢◌, ◌⊎◌, ◌↔◌, ◌+◌, ◌<◌, ◌≤◌, ◌^◌, ℕ, Bool}
use Rattle.std.specs.Prelude.{true, false, not, List, ◌∷◌, Option, None, MatchOption, Result}
use Rattle.std.specs.Prelude.{IfOk, OnOk, IsErrOf, IsTrue}
use Rattle.atomic_table.specs.Seated.{TableId}
use Rattle.lb_select_base.specs.Backends.{Member}
use Rattle.lb_select_base.specs.Memberships.{same_members}
use Rattle.lb_select_base.specs.Refusals.{memory_apart}
use Rattle.lb_select_base.specs.declared.refusal.Refusal.{Refusal}
use Rattle.lb_select_base.specs.declared.refusal.Refusal.TheVariants.{GenerationsExhausted, NoSuch, NumbersExhausted, OutOfMemory}
use Rattle.lb_health_core.specs.Registry.{RegistryValue, IsRegistryAfter, HoldsOf, Grows, KeepsHistory}
use Rattle.lb_health_core.specs.RegistryEvents.{Applied, Registered, Updated, cells_given, has_view}
use Rattle.lb_health_core.specs.RegistryEvents.{registered_after, views_after}
use Rattle.lb_health_view.specs.Discoveries.{Discovers, Found, MayLackMemory}
use Rattle.lb_health_view.specs.RegistrySide.{IsReady, registry_updated, view_updated}
use Rattle.lb_health_view.specs.Snapshots.{ViewValue}
use Rattle.lb_health_view.specs.Updates.{IsViewUpdated, LacksNumbers, LacksView}
use Rattle.lb_health_view.specs.ViewEvents.{ViewEvent, generation_after, membership_after}
use Rattle.lb_health_view.specs.Views.{IsFounded, IsViewAfter, HoldsOfBoth}
use Rattle.lb_health_view.specs.declared.discovery.DiscoverySource.{DiscoverySource}
use Rattle.lb_threads_core.specs.Registry.{IsRegistryOf, RegistryHandle, SeenIn, UnderRegistry}

-- the discovery, the number of the view, its registry, which lock the view is behind, and whether who is made of it runs the checks
pub record ViewHandle (D R : Type 0) : Type 0 where
  pub discovery : DiscoverySource D
  pub id : ℕ
  pub registry : RegistryHandle R
  pub lock : TableId
  pub owns_checks : Bool

-- a state that the view of this number may have: some history explains it
abbrev pub IsState : ℕ → ViewValue → Type 0
IsState id v = IsFounded v × (v.id ≡ id)

-- what holds after each history that explains a view
abbrev pub After : ViewValue → (List ViewEvent → Type 0) → Type 0
After v Holds = (views : List ViewEvent) → IsViewAfter views v → Holds views

-- what was read at some state of the view
abbrev pub Seen : ℕ → (ViewValue → Type 0) → Type 0
Seen id Reads = (v : ViewValue) × (IsState id v × Reads v)

-- a call that was made at some state of the view, and left one of its states
abbrev pub Under : ℕ → (ViewValue → ViewValue → Type 0) → Type 0
Under id Call = (v : ViewValue) × ((w : ViewValue) × (IsState id v × (IsState id w × Call v w)))

-- The caller's function ran where the membership was another one, and answered this of it; for the same it didn't run.
abbrev pub Calls : {T : Type 0} → List Member → (List Member → T → Type 0) → ViewValue → Option T → Type 0
Calls members Answers v answer =
    MatchOption answer (After v (λ views. same_members members (membership_after views) ≡ true))
    (λ t. After v (λ views. same_members members (membership_after views) ≡ false) × Answers members t)

-- why another membership is refused: the generations are exhausted
abbrev pub HasLast : ViewValue → Type 0
HasLast v = After v (λ views. generation_after views + 1 ≡ 2 ^ 64)

module _ {R : Type 0} (gives : R → Member → Member → Type 0) where
  -- A view was registered under the next number, and the marks that wait were applied. Where no number was left, that is the refusal,
  -- and no other time.
  pub record IsRegisteredAs {A : Type 0} (id_of : A → ℕ) (r : Result A Refusal) (x y : RegistryValue R) : Type 0 where
    pub ok : OnOk r (Grows gives x (λ events. Applied ∷ Registered ∷ events) y)
    pub number : IfOk r (λ a. HoldsOf gives x (λ key_of events. id_of a ≡ registered_after events + 1))
    pub exhausted : HoldsOf gives x (λ key_of events. IsErrOf r NumbersExhausted ↔ (2 ^ 64 ≤ registered_after events + 1))

  -- no number is left for a view
  abbrev pub IsFull : RegistryValue R → Type 0
  IsFull x = HoldsOf gives x (λ key_of events. 2 ^ 64 ≤ registered_after events + 1)

  -- a number is left for a view
  abbrev pub HasNumber : RegistryValue R → Type 0
  HasNumber x = HoldsOf gives x (λ key_of events. registered_after events + 1 < 2 ^ 64)

  -- a view was registered under this number, which was left and is the next one, and the marks that wait were applied
  pub record HasRegistered (id : ℕ) (x y : RegistryValue R) : Type 0 where
    pub grows : Grows gives x (λ events. Applied ∷ Registered ∷ events) y
    pub next : HoldsOf gives x (λ key_of events. id ≡ registered_after events + 1)
    pub left : HasNumber x

  -- Something with a view of its own in this registry was to be made, unless there is this cause against it. What was made has the number
  -- under which its view was registered. Where there is no cause beside memory, it is refused for the want of numbers only where none was
  -- left, and for memory only where one was.
  pub record IsMadeWithView {A : Type 0} (start : RegistryValue R) (cause : Option Refusal) (r : Result A Refusal) (id_of : A → ℕ) : Type 0
    where
      pub registered : IfOk r (λ a. UnderRegistry gives start (HasRegistered (id_of a)))
      pub exhausted : memory_apart cause ≡ None → IsErrOf r NumbersExhausted → SeenIn gives start IsFull
      pub left : memory_apart cause ≡ None → IsErrOf r OutOfMemory → SeenIn gives start HasNumber

  -- whether a backend is ready in the newest membership, by some state of the view and some state of its registry
  abbrev pub JudgedUnder : {D : Type 0} → ViewHandle D R → Member → Bool → Type 0
  JudgedUnder site b ready =
      Seen site.id (λ v. (x : RegistryValue R) × (IsRegistryOf gives site.registry.start x
      × HoldsOfBoth gives v x (λ key_of views events. IsTrue ready ↔ IsReady key_of views events (generation_after views) b)))

  -- a view and its registry after a membership and settings
  pub record Takes (members : List Member) (settings : List (Member × Bool)) (v : ViewValue) (x : RegistryValue R) (w : ViewValue)
      (y : RegistryValue R) : Type 0 where
    pub view : HoldsOfBoth gives v x (λ key_of views events. IsViewAfter (view_updated key_of v.id members settings events views) w)
    pub registry : HoldsOfBoth gives v x (λ key_of views events. IsRegistryAfter gives key_of
        (registry_updated key_of v.id members views events) y)

  -- a view and its registry after a refused call: as before
  pub record Keeps (v : ViewValue) (x : RegistryValue R) (w : ViewValue) (y : RegistryValue R) : Type 0 where
    pub view : After v (λ views. IsViewAfter views w)
    pub registry : KeepsHistory gives x y

  -- Nothing but memory stands against it: the membership is another one, a generation is left for it, the registry has the view, and
  -- numbers are left for its cells.
  abbrev pub LacksMemory : List Member → ViewValue → RegistryValue R → Type 0
  LacksMemory members v x =
      HoldsOfBoth gives v x (λ key_of views events. (same_members members (membership_after views) ≡ false)
      × (generation_after views + 1 ≢ 2 ^ 64) × (has_view v.id (views_after events) ≡ true)
      × (cells_given key_of (Updated v.id members ∷ Applied ∷ events) < 2 ^ 64))

  -- A view and its registry took in what was discovered, and it was answered whether that is another membership; or it was refused.
  pub record IsTakenIn (members : List Member) (settings : List (Member × Bool)) (v : ViewValue) (x : RegistryValue R)
      (r : Result Bool Refusal) (w : ViewValue) (y : RegistryValue R) : Type 0 where
    pub updated : IsViewUpdated gives members settings v x r w y
    pub changed : IfOk r (λ changed. After v (λ views. changed ≡ not (same_members members (membership_after views))))

  module _ {D : Type 0} (finds : D → Found → Type 0) (site : ViewHandle D R) where
    -- a call with what was discovered, made at some state of the view and of its registry
    abbrev pub UnderBoth :
        (List Member → List (Member × Bool) → ViewValue → RegistryValue R → ViewValue → RegistryValue R → Type 0) → Type 0
    UnderBoth Call =
        (members : List Member) × ((settings : List (Member × Bool)) × (Discovers finds site.discovery members settings
        × UnderRegistry gives site.registry.start (λ x y. Under site.id (λ v w. Call members settings v x w y))))

    -- an update, and what the caller's function answered of the new membership
    abbrev pub UpdatedUnder : {T : Type 0} → (List Member → T → Type 0) → Option T → Type 0
    UpdatedUnder Answers answer =
        UnderBoth (λ members settings v x w y. Takes members settings v x w y × Calls members Answers v answer)

    -- an update that was refused, for this cause
    abbrev pub RefusedUnder : (List Member → ViewValue → RegistryValue R → Type 0) → Type 0
    RefusedUnder Why = UnderBoth (λ members settings v x w y. Keeps v x w y × Why members v x)

    -- The causes of an update's refusals: memory only where no other applies, or where the discovery may be refused it.
    pub record RefusedFor (e : Refusal) : Type 0 where
      pub last : e ≡ GenerationsExhausted → RefusedUnder (λ members v x. HasLast v)
      pub unknown : e ≡ NoSuch → RefusedUnder (λ members v x. LacksView gives v x)
      pub numbers : e ≡ NumbersExhausted → RefusedUnder (LacksNumbers gives)
      pub memory : e ≡ OutOfMemory → MayLackMemory finds site.discovery ⊎ RefusedUnder LacksMemory
