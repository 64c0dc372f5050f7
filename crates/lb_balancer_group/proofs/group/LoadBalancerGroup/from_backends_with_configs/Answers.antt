-- The group's view is the one that was opened; for the want of numbers it is refused where the registry was seen to be full, and for
-- memory where it was seen not to be.
use Rattle.std.proofs.Common.{[], map, refl, rules}
use Rattle.lb_threads_core.proofs.Registrations.{lost-with, passed-with, refused-as, refused-with, seen-at}
use Rattle.lb_balancer_core.specs.SlotConfigs.{slot_configs}
use Rattle.lb_balancer_group.proofs.Registrations.{no-lack, none-of}
use Rattle.lb_balancer_group.proofs.group.LoadBalancerGroup.from_backends_with_configs.Goals as goal

pub returns-in-Some-clause-view : goal.returns-in-Some-clause-view
returns-in-Some-clause-view g c =
    let some = rw c.as_slice.ensures.value at c.in-Some.ensures.some in
    let full = rw c.as_slice.ensures.value at c.in-Some.ensures.exhausted in
    let causes = map (g.S.BackendSelection.refusal []) (slot_configs g.S.BackendSelection.default_config c.args.configs.items) in
    refused-with _ c.in-Some.refusal refl
    (λ apart numbers. seen-at (search rules) (full (none-of some apart numbers)))
    (λ apart memory. absurd (no-lack causes some apart memory))

pub returns-in_err-configs-clause-view : goal.returns-in_err-configs-clause-view
returns-in_err-configs-clause-view g c =
    lost-with c.from_residual.result c.in_err-configs.field-0.0 (search rules) (search rules) (λ apart.
    seen-at (search rules) c.in_default.ensures.left)

pub returns-in_err-gate-clause-view : goal.returns-in_err-gate-clause-view
returns-in_err-gate-clause-view g c =
    lost-with c.from_residual-in_err-gate.result c.in_err-gate.field-0.0 (search rules) (search rules) (λ apart.
    seen-at (search rules) c.in_default.ensures.left)

pub returns-in_err-shared-clause-view : goal.returns-in_err-shared-clause-view
returns-in_err-shared-clause-view g c =
    refused-as (search rules) (λ apart. refl) _ _ c.opened.ensures.view c.from_residual-in_err-shared.result c.in_err-shared.field-0.0
    c.in_err-shared.was (search rules)

pub returns-clause-view : goal.returns-clause-view
returns-clause-view g c = passed-with (search rules) (λ apart. refl) _ _ c.opened.ensures.view _ _ c.in_ok-shared.was refl
