use Rattle.std.proofs.Common.{◌≡◌, List, drop}
use Rattle.lb_select_base.specs.Backends.{Member}
use Rattle.lb_health_core.specs.Registry.{IsRegistryAfter}
use Rattle.lb_health_core.specs.RegistryEvents.{Event}
use Rattle.lb_health_view.specs.Passes.{Passes, AreKept}
use Rattle.lb_health_view.proofs.passes.check_all.Given as goal

abbrev pub invariant-loop-target : goal.invariant-loop-target
invariant-loop-target g l = (l.registry.id ≡ l.fn.registry.id)
    × ((key_of : Member → Member) (events : List Event) → IsRegistryAfter g.R.KeyRule.gives key_of events l.fn.registry
    → AreKept key_of l.targets events
    → (now : List Event) × IsRegistryAfter g.R.KeyRule.gives key_of now l.registry
    × AreKept key_of (drop l.target-index l.targets) now
    × ((after : List Event)
    → Passes (g.C.HealthCheck.answers l.check) (g.C.HealthCheck.threshold l.check) (drop l.target-index l.targets) now after
    → Passes (g.C.HealthCheck.answers l.check) (g.C.HealthCheck.threshold l.check) l.targets events after))
