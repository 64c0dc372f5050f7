-- For the want of numbers the gate is refused where none was left for the new view, and for memory where one was.
use Rattle.std.proofs.Common.{◌≡◌, ◌∙◌, Err, ap, refl, rules, sym}
use Rattle.lb_select_base.specs.declared.refusal.Refusal.TheVariants.{NumbersExhausted, OutOfMemory}
use Rattle.lb_threads_core.proofs.Registrations.{seen-at}
use Rattle.lb_balancer_group.specs.declared.gate_refusal.GateRefusal.TheVariants.{NotMade}
use Rattle.lb_balancer_group.proofs.Registrations.{same-refusal}
use Rattle.lb_balancer_group.proofs.group.LoadBalancerGroup.with_rebuild_gate.Goals as goal

pub returns-in_err-shared-clause-exhausted : goal.returns-in_err-shared-clause-exhausted
returns-in_err-shared-clause-exhausted g c = λ refused none.
    let e = c.in_err-shared.field-0.0 in
    let is : c.from_residual.result ≡ Err (NotMade e) = search rules in
    let numbers = same-refusal _ e NumbersExhausted (sym is ∙ refused) in
    seen-at (search rules) (c.opened.ensures.view.exhausted refl (c.in_err-shared.was ∙ ap Err numbers))

pub returns-in_err-shared-clause-left : goal.returns-in_err-shared-clause-left
returns-in_err-shared-clause-left g c = λ refused none.
    let e = c.in_err-shared.field-0.0 in
    let is : c.from_residual.result ≡ Err (NotMade e) = search rules in
    let memory = same-refusal _ e OutOfMemory (sym is ∙ refused) in
    seen-at (search rules) (c.opened.ensures.view.left refl (c.in_err-shared.was ∙ ap Err memory))
