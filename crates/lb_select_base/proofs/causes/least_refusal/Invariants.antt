use Rattle.std.proofs.Common.{◌≡◌, [], map, drop}
use Rattle.lb_select_base.specs.Refusals.{least, earlier}
use Rattle.lb_select_base.proofs.causes.least_refusal.Given as goal

abbrev pub invariant-loop-config : goal.invariant-loop-config
invariant-loop-config g l =
    earlier l.found (least (map (g.S.BackendSelection.refusal []) (drop l.config-index l.configs))) ≡ least
    (map (g.S.BackendSelection.refusal []) l.configs)
