use Rattle.std.proofs.Common.{◌≡◌, ◌≤◌, ◌+◌, List, drop}
use Rattle.lb_select_base.specs.Backends.{Member}
use Rattle.lb_health_core.specs.Registry.{IsRegistryAfter}
use Rattle.lb_health_core.specs.RegistryEvents.{Event, views_after}
use Rattle.lb_health_core.specs.Targets.{live}
use Rattle.lb_world.specs.Internal.Cells.{new_keys}
use Rattle.lb_world.specs.Rules.{key_gives}
use Rattle.lb_world.proofs.entry.membership.cells.starting_count.Given as goal

abbrev pub invariant-loop-place : goal.invariant-loop-place
invariant-loop-place l =
    (l.count ≤ l.place)
    × ((key_of : Member → Member) (events : List Event) → IsRegistryAfter key_gives key_of events l.registry
    → l.count + new_keys key_of (live (views_after events))
    (drop l.place l.listings) ≡ new_keys key_of (live (views_after events)) l.listings)
