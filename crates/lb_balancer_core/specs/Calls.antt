-- What calls of a port answer, apart from the values of a group.
use Rattle.std.specs.Prelude.{ℕ, Result, Ok, Err}
use Rattle.lb_select_base.specs.Backends.{Member}
use Rattle.lb_select_base.specs.Draws as draws
use Rattle.lb_select_base.specs.Draws.{Draw}
use Rattle.lb_select_base.specs.declared.refusal.Refusal.{Refusal}
use Rattle.lb_rebuild_core.specs.Values.{Task, RetiredValue, PermitValue}
use Rattle.lb_rebuild_core.specs.declared.answers.Ask.{Ask}
use Rattle.lb_rebuild_core.specs.declared.answers.Ask.TheVariants as asked

-- what holds of the job that was answered
abbrev pub IfJob : {S C W : Type 0} → Result (Ask S C W) Refusal → (Task C → Type 0) → Type 0
IfJob (Ok asked.Cancelled) P = Unit {0}
IfJob (Ok asked.Building) P = Unit {0}
IfJob (Ok asked.Nothing) P = Unit {0}
IfJob (Ok (asked.NotDue m)) P = Unit {0}
IfJob (Ok asked.Busy) P = Unit {0}
IfJob (Ok (asked.Job j)) P = P j
IfJob (Err e) P = Unit {0}

-- the permit of a selector that was taken out, once it is destroyed
abbrev pub owed_of : RetiredValue → PermitValue
owed_of r = record { group = r.group; slot = r.slot; gate = r.permit }

-- the draws by names that no method has
abbrev pub ticket_drawn : ℕ → Draw
ticket_drawn w = draws.ticket w

abbrev pub random_drawn : ℕ → Draw
random_drawn w = draws.random w

abbrev pub load_drawn : Member → ℕ → Draw
load_drawn m l = draws.load m l
