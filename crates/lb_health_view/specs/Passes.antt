-- A pass of checks over the targets of a registry.
use Rattle.std.specs.Prelude.{◌≡◌, ◌⊎◌, ◌↔◌, ◌≤◌, ◌^◌, ℕ, Bool, List, [], ◌∷◌, Result, is_ok, IsErrOf, OnErr, OnOk}
use Rattle.std.specs.List.{AllByRecursion as Each}
use Rattle.lb_health_core.specs.declared.error.CheckError.{CheckError}
use Rattle.lb_select_base.specs.Backends.{Member}
use Rattle.lb_select_base.specs.declared.refusal.Refusal.{Refusal}
use Rattle.lb_select_base.specs.declared.refusal.Refusal.TheVariants.{NumbersExhausted}
use Rattle.lb_health_core.specs.declared.targets.Target.{Target}
use Rattle.lb_health_core.specs.Registry.{RegistryValue, IsRegistryAfter, IsGrowthRefusal, targets_after, HoldsOf, KeepsHistory}
use Rattle.lb_health_core.specs.RegistryEvents.{Event, Applied, Observed, IsCellKept, cells_given}
use Rattle.lb_health_core.specs.Verdicts.{Verdict}

-- a verdict reaches a cell that is kept, and of another it does nothing
abbrev pub Reaches : (Member → Member) → ℕ → Verdict → List Event → List Event → Type 0
Reaches key_of cell verdict events after =
    (IsCellKept key_of cell events × (after ≡ Observed cell verdict ∷ events)) ⊎ ((IsCellKept key_of cell events → ⊥) × (after ≡ events))

-- what a check may answer about a backend
abbrev pub Answers : Type 1
Answers = Member → Result Unit CheckError → Type 0

-- the verdict of an answer, with the check's threshold for it
abbrev pub verdict_of : (Bool → ℕ) → Result Unit CheckError → Verdict
verdict_of threshold answer = record { ok = is_ok answer; threshold = threshold (is_ok answer) }

-- the cell of each of these targets is reached in order by the verdict of one answer, which the check may give about the target
abbrev pub Passes : Answers → (Bool → ℕ) → List Target → List Event → List Event → Type 0
Passes answers threshold [] events after = after ≡ events
Passes answers threshold (target ∷ targets) events after =
    (answer : Result Unit CheckError) × answers target.backend answer
    × Passes answers threshold targets (Observed target.cell (verdict_of threshold answer) ∷ events) after

-- the cell of each of these targets is kept
abbrev pub AreKept : (Member → Member) → List Target → List Event → Type 0
AreKept key_of targets events = Each (λ t. IsCellKept key_of t.cell events) targets

-- A pass over a registry, from its state before to that after, by what the check may answer and by its thresholds: the marks that wait
-- were applied, and then the cell of each target was reached; or the pass was refused, exactly where no number is left for a cell or where
-- memory is refused, and the registry has the history of before.
pub record IsPassed {R : Type 0} (gives : R → Member → Member → Type 0) (answers : Answers) (threshold : Bool → ℕ)
    (before : RegistryValue R) (result : Result Unit Refusal) (after : RegistryValue R) : Type 0 where
  pub ok : OnOk result (HoldsOf gives before (λ key_of events. (later : List Event)
      × Passes answers threshold (targets_after key_of (Applied ∷ events)) (Applied ∷ events) later
      × IsRegistryAfter gives key_of later after))
  pub err : OnErr result (KeepsHistory gives before after)
  pub exhausted : HoldsOf gives before (λ key_of events. IsErrOf result NumbersExhausted ↔ (2 ^ 64 ≤ cells_given key_of (Applied ∷ events)))
  pub refused : OnErr result (IsGrowthRefusal result)
  pub same_registry : after.id ≡ before.id
