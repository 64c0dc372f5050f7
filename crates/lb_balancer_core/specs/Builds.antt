-- What contracts see of a job whose build was refused, and why it may be.
use Rattle.std.specs.Prelude.{◌≡◌, ◌⊎◌, List, Option, Some, None}
use Rattle.lb_select_base.specs.Backends.{Member}
use Rattle.lb_select_base.specs.declared.refusal.Refusal.{Refusal}
use Rattle.lb_select_base.specs.declared.refusal.Refusal.TheVariants.{OutOfMemory}
use Rattle.lb_rebuild_core.specs.Values.{Task}

pub record RefusedValue (C : Type 0) : Type 0 where
  pub task : Task C
  pub refusal : Refusal

-- the cause that the job's members and configuration give, or where there is none that memory was refused
abbrev pub IsCauseOf : {C : Type 0} → (List Member → C → Option Refusal) → Task C → Refusal → Type 0
IsCauseOf refuses t e =
    (refuses t.members t.config ≡ Some e) ⊎ ((refuses t.members t.config ≡ None) × (e ≡ OutOfMemory))

-- the refused build of a job
abbrev pub refused_build : {C : Type 0} → Task C → Refusal → RefusedValue C
refused_build t e = record { task = t; refusal = e }
