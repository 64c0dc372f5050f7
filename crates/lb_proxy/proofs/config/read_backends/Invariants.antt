use Rattle.std.proofs.Common.{map, take}
use Rattle.std.specs.List.{AllZip}
use Rattle.toml.specs.View.{view}
use Rattle.lb_proxy.specs.Config.{IsBackend}
use Rattle.lb_proxy.proofs.config.read_backends.Given as goal

abbrev pub invariant-loop-number : goal.invariant-loop-number
invariant-loop-number l = AllZip IsBackend (map view (take l.number l.values)) l.backends.items
