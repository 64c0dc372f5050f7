-- What each call of a registry makes of it and answers, from the state before to that after.
use Rattle.std.specs.Prelude.{◌≡◌, ◌≢◌, ◌≤◌, ◌^◌, ◌↔◌, ◌+◌, ℕ, Bool, true, false, List, ◌∷◌}
use Rattle.std.specs.Prelude.{Result, OnOk, OnErr, IfOk, IsOk, IsErrOf, IsTrue}
use Rattle.lb_select_base.specs.Backends.{Member}
use Rattle.lb_select_base.specs.declared.refusal.Refusal.{Refusal}
use Rattle.lb_select_base.specs.declared.refusal.Refusal.TheVariants.{NoSuch, NumbersExhausted}
use Rattle.lb_health_core.specs.Registry.{RegistryValue, HoldsOf, Grows, KeepsHistory}
use Rattle.lb_health_core.specs.RegistryEvents.{Event, Applied, Observed, Registered}
use Rattle.lb_health_core.specs.RegistryEvents.{after_update, cell_health, cells_given}
use Rattle.lb_health_core.specs.RegistryEvents.{registered_after, has_view, IsCellKept, views_after}
use Rattle.lb_health_core.specs.Verdicts.{Verdict}

module _ {R : Type 0} (gives : R → Member → Member → Type 0) where
  -- a cell is kept and healthy
  abbrev pub IsCellReady : RegistryValue R → ℕ → Bool → Type 0
  IsCellReady x cell ready =
      HoldsOf gives x (λ key_of events. IsTrue ready ↔ (IsCellKept key_of cell events × (cell_health key_of cell events ≡ true)))

  -- The marks that wait were applied, and this was answered then; a refused call left the registry as it was.
  pub record IsApplied {A : Type 0} (Answers : (Member → Member) → List Event → A → Type 0) (x : RegistryValue R) (r : Result A Refusal)
      (y : RegistryValue R) : Type 0 where
    pub ok : OnOk r (Grows gives x (λ events. Applied ∷ events) y)
    pub answers : IfOk r (λ a. HoldsOf gives x (λ key_of events. Answers key_of (Applied ∷ events) a))
    pub err : OnErr r (KeepsHistory gives x y)
    pub exhausted : HoldsOf gives x (λ key_of events. IsErrOf r NumbersExhausted ↔ (2 ^ 64 ≤ cells_given key_of (Applied ∷ events)))

  -- A verdict reached its cell, and it was answered whether that flipped its health; it was refused where the cell isn't kept.
  pub record IsObserved (x : RegistryValue R) (cell : ℕ) (v : Verdict) (r : Result Bool Refusal) (y : RegistryValue R) : Type 0 where
    pub ok : OnOk r (Grows gives x (λ events. Observed cell v ∷ events) y)
    pub flipped : IfOk r (λ flipped. HoldsOf gives x (λ key_of events.
        IsTrue flipped ↔ (cell_health key_of cell (Observed cell v ∷ events) ≢ cell_health key_of cell events)))
    pub kept : HoldsOf gives x (λ key_of events. IsOk r ↔ IsCellKept key_of cell events)
    pub err : OnErr r (y ≡ x)

  -- A view got another membership; a refused call left the registry as it was.
  pub record IsUpdated (x : RegistryValue R) (id : ℕ) (members : List Member) (r : Result (Unit {0}) Refusal) (y : RegistryValue R)
      : Type 0 where
    pub ok : OnOk r (Grows gives x (after_update id members) y)
    pub err : OnErr r (KeepsHistory gives x y)
    pub unknown : HoldsOf gives x (λ key_of events. IsErrOf r NoSuch ↔ (has_view id (views_after events) ≡ false))
    pub exhausted : HoldsOf gives x (λ key_of events. has_view id (views_after events) ≡ true
        → (IsErrOf r NumbersExhausted ↔ (2 ^ 64 ≤ cells_given key_of (after_update id members events))))

  -- A view was registered under the next number, and the marks that wait were applied; a refused call left the registry as it was.
  pub record IsRegistered (x : RegistryValue R) (r : Result ℕ Refusal) (y : RegistryValue R) : Type 0 where
    pub ok : OnOk r (Grows gives x (λ events. Applied ∷ Registered ∷ events) y)
    pub number : IfOk r (λ id. HoldsOf gives x (λ key_of events. id ≡ registered_after events + 1))
    pub err : OnErr r (KeepsHistory gives x y)
    pub exhausted : HoldsOf gives x (λ key_of events. IsErrOf r NumbersExhausted ↔ (2 ^ 64 ≤ registered_after events + 1))
