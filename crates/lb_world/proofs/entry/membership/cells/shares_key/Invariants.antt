use Rattle.std.proofs.Common.{◌≡◌, List, drop}
use Rattle.lb_select_base.specs.Backends.{Member}
use Rattle.lb_health_core.specs.Registry.{IsRegistryAfter}
use Rattle.lb_health_core.specs.RegistryEvents.{Event}
use Rattle.lb_world.specs.Internal.Cells.{lists_key}
use Rattle.lb_world.specs.Rules.{key_gives}
use Rattle.lb_world.proofs.entry.membership.cells.shares_key.Given as goal

abbrev pub invariant-loop-listing : goal.invariant-loop-listing
invariant-loop-listing l =
    (key_of : Member → Member) (events : List Event) → IsRegistryAfter key_gives key_of events l.registry
    → lists_key key_of (key_of l.backend) (drop l.listing-index l.listings) ≡ lists_key key_of (key_of l.backend) l.listings
