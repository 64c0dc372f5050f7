-- What a look through the notes of dropped owners does to a registry, for the private functions that do it.
use Rattle.std.specs.Prelude.{◌≡◌, ◌⊎◌, ◌^◌, ◌+◌, ◌==◌, ℕ, Bool, true, List, ◌++◌, None, length, map}
use Rattle.std.specs.List.{AllByRecursion, find}
use Rattle.lb_select_base.specs.Backends.{Member}
use Rattle.lb_health_core.specs.Registry.{RegistryValue, Grows}
use Rattle.lb_health_core.specs.RegistryEvents.{Event, Applied, Configured, Held, Marked, Observed, Registered, Released, Updated}
use Rattle.lb_threads_core.specs.declared.owner.ViewNote.{ViewNote}

-- the note is of one of these views
abbrev pub IsNoteOf : (ℕ → Bool) → ViewNote → Type 0
IsNoteOf is_of note = is_of note.id ≡ true

-- this marks one of these views, or ends the life of one of its snapshots
abbrev pub IsLeaving : (ℕ → Bool) → Event → Type 0
IsLeaving is_of Registered = ⊥
IsLeaving is_of Applied = ⊥
IsLeaving is_of (Updated id members) = ⊥
IsLeaving is_of (Marked id) = is_of id ≡ true
IsLeaving is_of (Observed c v) = ⊥
IsLeaving is_of (Held id generation) = ⊥
IsLeaving is_of (Released id generation) = is_of id ≡ true
IsLeaving is_of (Configured healthy) = ⊥

module _ {R : Type 0} (gives : R → Member → Member → Type 0) where
  -- Lives of this view's snapshots ended, and nothing else happened. No snapshot of it lives then, unless 2^64 - 1 ended.
  pub record EndsSnapshots (id : ℕ) (x y : RegistryValue R) : Type 0 where
    pub generations : List ℕ
    pub one : y.id ≡ x.id
    pub becomes : Grows gives x (λ events. map (λ g. Released id g) generations ++ events) y
    pub all : (find (λ h. h.view == id) y.table.held ≡ None) ⊎ (length generations + 1 ≡ 2 ^ 64)

  -- some of these views were marked, and lives of their snapshots ended; nothing else happened
  pub record HaveLeft (is_of : ℕ → Bool) (x y : RegistryValue R) : Type 0 where
    pub events : List Event
    pub one : y.id ≡ x.id
    pub leaving : AllByRecursion (IsLeaving is_of) events
    pub becomes : Grows gives x (λ earlier. events ++ earlier) y
