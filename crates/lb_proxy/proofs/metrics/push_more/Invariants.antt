use Rattle.std.proofs.Common.{◌≡◌, ◌++◌, take}
use Rattle.lb_proxy.specs.Metrics.{more_labels}
use Rattle.lb_proxy.proofs.metrics.push_more.Given as goal

abbrev pub invariant-loop-label : goal.invariant-loop-label
invariant-loop-label l = l.text.items ≡ l.fn.text.items ++ more_labels (take l.label-index l.labels)
