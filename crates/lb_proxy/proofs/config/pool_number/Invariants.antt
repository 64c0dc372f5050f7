use Rattle.std.proofs.Common.{◌≢◌, take, string_bytes}
use Rattle.std.specs.List.{AllByRecursion}
use Rattle.lb_proxy.proofs.config.pool_number.Given as goal

abbrev pub invariant-loop-number : goal.invariant-loop-number
invariant-loop-number l = AllByRecursion (λ pool. string_bytes pool.name ≢ l.fn.name) (take l.number l.fn.pools)
