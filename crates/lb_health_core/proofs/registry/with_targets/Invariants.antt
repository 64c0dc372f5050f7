use Rattle.std.proofs.Common.{◌≡◌, ◌≤◌, ◌+◌, ◌++◌, List, length, vec_len, vec_capacity}
use Rattle.std.specs.List.{filter_map}
use Rattle.lb_select_base.specs.Backends.{Member, member_cmp}
use Rattle.lb_health_core.specs.Registry.{target_at}
use Rattle.lb_health_core.specs.RegistryEvents.{Event, cell_events}
use Rattle.lb_health_core.specs.Table.{table_value, IsTableAfter, IsPruned}
use Rattle.lb_health_core.proofs.registry.with_targets.Given as goal

abbrev pub invariant-loop-place : goal.invariant-loop-place
invariant-loop-place l =
    record {
      room : vec_len l.targets + length l.place-iterator ≤ vec_capacity l.targets;
      targets :
          (key_of : Member → Member) (events : List Event) → IsTableAfter member_cmp (cell_events key_of events) (table_value l.table)
          → IsPruned member_cmp (cell_events key_of events) (table_value l.table)
          → l.targets.items ++ filter_map (target_at key_of events) l.place-iterator
          ≡ l.fn.targets.items ++ filter_map (target_at key_of events) l.fn.order.entries;
    }
