use Rattle.lb_proxy.specs.Config.{IsBackend}
use Rattle.toml.specs.View.{view}
use Rattle.lb_proxy.proofs.ConfigLemmas.{zip_more}
use Rattle.std.proofs.Common.{rules, ◌≡◌, Err, inr, ap, subst, ◌∙◌}
use Rattle.lb_proxy.specs.Config.{part_of, said, backend_place}
use Rattle.lb_proxy.specs.Faults.{IsWrongBackend}
use Rattle.lb_proxy.proofs.FaultLemmas.{wrong_backends}
use Rattle.lb_proxy.proofs.config.read_backends.Goals as goal

pub loop-number-preserved : goal.loop-number-preserved
loop-number-preserved c =
    let is : IsBackend (view c.index-values-number.result) c.in_ok-backend.backend = c.in_ok-backend.ensures.spelled in
    rw c.in-Ok.ensures.items (zip_more view IsBackend c.in_ok-values.values.now c.loop-number.backends.items c.loop-number.number
    c.index-values-number.result c.in_ok-backend.backend c.index-values-number.is c.loop-number-test.true c.loop-number.invariant is)

pub returns-in_err-backend-clause-fault : goal.returns-in_err-backend-clause-fault
returns-in_err-backend-clause-fault c =
    let is : c.from_residual-in_err-backend.result ≡ Err c.in_err-backend.field-0.0 = search rules in
    let part = part_of c.args.section.now in
    let at : c.backend-place.result ≡ backend_place part.0 c.loop-number.number =
    c.backend-place.ensures ∙ ap (λ p. backend_place p c.loop-number.number) c.place.ensures in
    rw is (wrong_backends part c.in_ok-values.values.now c.loop-number.number c.index-values-number.result
    (said c.in_err-backend.field-0.0) c.loop-number.backends.items c.in_ok-values.ensures c.index-values-number.is
    c.loop-number-test.true c.loop-number.invariant
    (subst (λ p. IsWrongBackend part p (view c.index-values-number.result) (said c.in_err-backend.field-0.0)) at
    c.in_err-backend.ensures.fault))

pub returns-in-Err-clause-fault : goal.returns-in-Err-clause-fault
returns-in-Err-clause-fault c =
    wrong_backends (part_of c.args.section.now) c.in_ok-values.values.now c.loop-number.number c.index-values-number.result
    (said c.fault.result) c.loop-number.backends.items c.in_ok-values.ensures c.index-values-number.is c.loop-number-test.true
    c.loop-number.invariant
    (inr (inr (
      c.in_ok-backend.ensures.spelled.0,
      c.in_ok-backend.ensures.spelled.1,
      c.in_ok-backend.ensures.spelled.2,
      c.fault.ensures,
    )))
