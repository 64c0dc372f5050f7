use Rattle.std.proofs.Common.{◌≡◌, [], map, drop, unwrap_or}
use Rattle.lb_select_base.specs.Refusals.{least, earlier}
use Rattle.lb_balancer_core.proofs.slot_configs.least_cause.Given as goal

abbrev pub invariant-loop-config : goal.invariant-loop-config
invariant-loop-config g l =
    earlier l.found
    (least (map (λ o. g.S.BackendSelection.refusal [] (unwrap_or o g.S.BackendSelection.default_config)) (drop l.config-index l.configs)))
    ≡ least (map (λ o. g.S.BackendSelection.refusal [] (unwrap_or o g.S.BackendSelection.default_config)) l.configs)
