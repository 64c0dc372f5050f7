use Rattle.std.proofs.Common.{map, take}
use Rattle.std.specs.List.{AllZip}
use Rattle.toml.specs.View.{view}
use Rattle.lb_proxy.specs.Config.{EntryIs, IsPool, HaveOwnNames}
use Rattle.lb_proxy.proofs.config.read_pools.Given as goal

abbrev pub invariant-loop-number : goal.invariant-loop-number
invariant-loop-number l = AllZip (EntryIs IsPool) (map view (take l.number l.tables)) l.pools.items × HaveOwnNames l.pools.items
