-- What is known of a group that threads share: which one it is, its gate and its configurations stay; between two calls of a thread
-- others may have changed the rest. So a call is one of the plain group at some state of this group, the one that its lock gave.
use Rattle.std.specs.Prelude.{◌≡◌, ◌↔◌, ℕ, Bool, List, [], ◌∷◌, Some, Result, Ok, Err, IsTrue, slice_get}
use Rattle.lb_select_base.specs.Backends.{Member}
use Rattle.lb_select_base.specs.declared.refusal.Refusal.{Refusal}
use Rattle.lb_rebuild_core.specs.Gate.{GateValue}
use Rattle.lb_health_core.specs.Registry.{RegistryValue, HoldsOf}
use Rattle.lb_health_view.specs.RegistrySide.{IsReady}
use Rattle.lb_rebuild_core.specs.SlotsHistory.{newest}
use Rattle.lb_rebuild_core.specs.Values.{Task, BuiltValue, RetiredValue, PermitValue, ReaderValue, configs_of}
use Rattle.lb_rebuild_core.specs.declared.answers.Ask.{Ask}
use Rattle.lb_rebuild_core.specs.declared.answers.Publication.{Publication}
use Rattle.lb_rebuild_core.specs.declared.answers.Publication.TheVariants as told
use Rattle.lb_rebuild_core.specs.declared.membership.Scheduled.{Scheduled}
use Rattle.lb_rebuild_core.specs.GroupCalls.{IsScheduled, IsAsked, IsFailed, IsPublished, IsEntered, IsLeft, IsTaken, IsReported}
use Rattle.lb_rebuild_core.specs.GroupCalls.{IsReadyFor}
use Rattle.lb_rebuild_core.specs.GroupHistory.{Set, slot_events}
use Rattle.lb_rebuild_core.specs.GroupStates.{GroupValue, After, Becomes, IsFounded, SameSite, views_of}
use Rattle.lb_balancer_core.specs.Through.{UpdatedThrough}
use Rattle.lb_threads_core.specs.Registry.{IsRegistryOf, UnderRegistry}
use Rattle.lb_threads_group.specs.Shared.{SharedValue}

module _ {C : Type 0} where
  -- a job of this group and gate, with its slot's configuration
  abbrev pub OwnsJob : GroupValue C → Task C → Type 0
  OwnsJob v t =
      (t.group ≡ v.group.id) × (t.permit ≡ v.group.gate) × (slice_get (configs_of v.group) t.slot ≡ Some t.config)

  -- the permit of a selector of that slot
  abbrev pub OwnsPermit : GroupValue C → ℕ → PermitValue → Type 0
  OwnsPermit v slot p = (p.group ≡ v.group.id) × (p.slot ≡ slot) × (p.gate ≡ v.group.gate)

  -- a state that this group may have: a history explains it, and it has the group's identity, gate and configurations
  abbrev pub IsState : GroupValue C → GroupValue C → Type 0
  IsState site v = SameSite site v × IsFounded v

  -- what was read at some state of this group
  abbrev pub Seen : GroupValue C → (GroupValue C → Type 0) → Type 0
  Seen site Told = (v : GroupValue C) × (IsState site v × Told v)

  -- a call that was made at some state of this group
  abbrev pub Under : GroupValue C → (GroupValue C → GroupValue C → Type 0) → Type 0
  Under site Call = (v : GroupValue C) × ((w : GroupValue C) × (IsState site v × Call v w))

  -- the same with the group's gate
  abbrev pub UnderGate : GroupValue C → (GroupValue C → GateValue → GroupValue C → GateValue → Type 0) → Type 0
  UnderGate site Call =
      (g : GateValue) × ((k : GateValue) × ((g.id ≡ site.group.gate) × Under site (λ v w. Call v g w k)))

  -- a backend was enabled or disabled in the living snapshots that list it
  abbrev pub FlaggedUnder : GroupValue C → Member → Bool → Type 0
  FlaggedUnder site b enabled = Under site (λ v w. Becomes v (Set b enabled ∷ []) w × SameSite v w)

  abbrev pub EnteredUnder : GroupValue C → ℕ → Result (ReaderValue C) Refusal → Type 0
  EnteredUnder site slot r = Under site (λ v w. IsEntered v slot r w)

  abbrev pub TakenUnder : GroupValue C → ℕ → Result RetiredValue Refusal → Type 0
  TakenUnder site slot r = Under site (λ v w. IsTaken v slot r w)

  -- the reader is given back where its slot counts it, and nothing changes where not
  abbrev pub LeftUnder : GroupValue C → ReaderValue C → Type 0
  LeftUnder site r =
      (a : Result (Unit {0}) (ReaderValue C))
      × Under site (λ v w. IsLeft v r a w)

  -- what was built of a job that is awaited no longer counts as abandoned
  abbrev pub told_of : BuiltValue C → Result Publication (BuiltValue C) → Publication
  told_of b (Ok t) = t
  told_of b (Err c) = told.Abandoned b.task.generation

  abbrev pub PublishedUnder : GroupValue C → BuiltValue C → Publication → Type 0
  PublishedUnder site b t =
      (a : Result Publication (BuiltValue C))
      × ((t ≡ told_of b a) × Under site (λ v w. IsPublished v b a w))

module _ {S C W : Type 0} where
  abbrev pub AskedUnder : GroupValue C → ℕ → ℕ → Result (Ask S C W) Refusal → Type 0
  AskedUnder site slot now r = UnderGate site (λ v g w k. IsAsked v g slot now r w k)

module _ {C R : Type 0} (gives : R → Member → Member → Type 0) where
  -- what was read at some state of this group and some state of its registry
  abbrev pub SeenBeside : SharedValue C R → (GroupValue C → RegistryValue R → Type 0) → Type 0
  SeenBeside site Told =
      (v : GroupValue C) × ((x : RegistryValue R) × (IsState site.core v × (IsRegistryOf gives site.registry x × Told v x)))

  -- a job whose flight is over, or nothing where none is awaited
  abbrev pub FailedUnder : SharedValue C R → Task C → ℕ → Type 0
  FailedUnder site j now =
      (a : Result (Unit {0}) (Task C))
      × UnderRegistry gives site.registry (λ x y. UnderGate site.core (λ v g w k. IsFailed gives v x g j now a w y k))

  abbrev pub ReportedUnder : SharedValue C R → ℕ → PermitValue → Type 0
  ReportedUnder site slot p =
      (a : Result (Unit {0}) PermitValue)
      × UnderRegistry gives site.registry (λ x y. UnderGate site.core (λ v g w k. IsReported gives v x g slot p a w y k))

  abbrev pub ReadyUnder : SharedValue C R → ReaderValue C → Member → Bool → Type 0
  ReadyUnder site r b a = SeenBeside site (λ v x. IsReadyFor gives v x r b a)

  -- whether a backend is ready in the newest membership, at some state of the group
  abbrev pub NewestReadyUnder : SharedValue C R → Member → Bool → Type 0
  NewestReadyUnder site b a =
      SeenBeside site (λ v x. HoldsOf gives x (λ key_of events. After v (λ made e. IsTrue a
      ↔ IsReady key_of (views_of made e) events (newest (slot_events e)) b)))

  abbrev pub ScheduledUnder : SharedValue C R → List Member → List (Member × Bool) → ℕ → Result Scheduled Refusal → Type 0
  ScheduledUnder site members settings now r =
      UnderRegistry gives site.registry (λ x y. Under site.core (λ v w. IsScheduled gives v x members settings now r w y))

  -- an update whose membership was scheduled at some state of the group
  abbrev pub UpdatedUnder :
      {K D : Type 0} → (K → ℕ → K → Type 0) → (D → Result (List Member × List (Member × Bool)) Refusal → Type 0)
      → D → K → SharedValue C R → Result ℕ Refusal → K → Type 0
  UpdatedUnder reads finds d k site r l =
      UpdatedThrough reads finds (λ v members settings now a w. ScheduledUnder v members settings now a × (w ≡ v)) d k site r l site
