use Rattle.std.proofs.Common.{rules, ◌≡◌, Err, inl, inr}
use Rattle.lb_proxy.proofs.config.read_fields.Goals as goal

pub returns-in_err-kind-clause-fault : goal.returns-in_err-kind-clause-fault
returns-in_err-kind-clause-fault c =
    let is : c.from_residual-in_err-kind.result ≡ Err c.in_err-kind.field-0.0 = search rules in
    rw is (inr (inl (c.in_ok-only.ensures.known, c.in_err-kind.ensures.fault)))
