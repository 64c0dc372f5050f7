use Rattle.std.proofs.Common.{rules, ◌≡◌, Err, inl, inr, subst}
use Rattle.lb_proxy.specs.Config.{part_of, said, IsConfig, AreListens}
use Rattle.lb_proxy.specs.Faults.{IsWrong, AreWrongListens, IsRightToCheck, IsRightToStatus, IsRightToLimits, IsRightToPools}
use Rattle.lb_proxy.specs.declared.config.Config.{Config}
use Rattle.lb_proxy.proofs.config.read_config.Goals as goal

pub returns-in_err-check-clause-fault : goal.returns-in_err-check-clause-fault
returns-in_err-check-clause-fault c =
    let is : c.from_residual-in_err-check.result ≡ Err c.in_err-check.field-0.0 = search rules in
    rw is (subst (λ top. IsWrong top (said c.in_err-check.field-0.0)) c.new-top.ensures (
    inr (inl (c.in_ok-only.ensures.known, c.in_err-check.ensures.fault))
    ))

pub returns-in_err-status-clause-fault : goal.returns-in_err-status-clause-fault
returns-in_err-status-clause-fault c =
    let is : c.from_residual-in_err-status.result ≡ Err c.in_err-status.field-0.0 = search rules in
    let right : IsRightToCheck (part_of c.new-top.result) =
    (c.in_ok-only.ensures.known, c.in_ok-check.check, c.in_ok-check.ensures.spelled) in
    rw is (subst (λ top. IsWrong top (said c.in_err-status.field-0.0)) c.new-top.ensures (
    inr (inr (inl (right, c.in_err-status.ensures.fault)))
    ))

pub returns-in_err-limits-clause-fault : goal.returns-in_err-limits-clause-fault
returns-in_err-limits-clause-fault c =
    let is : c.from_residual-in_err-limits.result ≡ Err c.in_err-limits.field-0.0 = search rules in
    let right : IsRightToStatus (part_of c.new-top.result) = (
      (c.in_ok-only.ensures.known, c.in_ok-check.check, c.in_ok-check.ensures.spelled),
      c.in_ok-status.status,
      c.in_ok-status.ensures.spelled,
    ) in
    rw is (subst (λ top. IsWrong top (said c.in_err-limits.field-0.0)) c.new-top.ensures (
    inr (inr (inr (inl (right, c.in_err-limits.ensures.fault))))
    ))

pub returns-in_err-pools-clause-fault : goal.returns-in_err-pools-clause-fault
returns-in_err-pools-clause-fault c =
    let is : c.from_residual-in_err-pools.result ≡ Err c.in_err-pools.field-0.0 = search rules in
    let right : IsRightToLimits (part_of c.new-top.result) = (
      (
        (c.in_ok-only.ensures.known, c.in_ok-check.check, c.in_ok-check.ensures.spelled),
        c.in_ok-status.status,
        c.in_ok-status.ensures.spelled,
      ),
      c.in_ok-limits.limits,
      c.in_ok-limits.ensures.spelled,
    ) in
    rw is (subst (λ top. IsWrong top (said c.in_err-pools.field-0.0)) c.new-top.ensures (
    inr (inr (inr (inr (inl (right, c.in_err-pools.ensures.fault)))))
    ))

pub returns-in_err-listens-clause-fault : goal.returns-in_err-listens-clause-fault
returns-in_err-listens-clause-fault c =
    let is : c.from_residual-in_err-listens.result ≡ Err c.in_err-listens.field-0.0 = search rules in
    let pools = c.in_ok-pools.pools.items in
    let limits : IsRightToLimits (part_of c.new-top.result) = (
      (
        (c.in_ok-only.ensures.known, c.in_ok-check.check, c.in_ok-check.ensures.spelled),
        c.in_ok-status.status,
        c.in_ok-status.ensures.spelled,
      ),
      c.in_ok-limits.limits,
      c.in_ok-limits.ensures.spelled,
    ) in
    let right : IsRightToPools (part_of c.new-top.result) pools =
    (limits, c.in_ok-pools.ensures.pools, c.in_ok-pools.ensures.names, c.in_ok-pools.ensures.some) in
    rw is (subst (λ top. IsWrong top (said c.in_err-listens.field-0.0)) c.new-top.ensures (inr (inr (inr (inr (inr (
      pools,
      right,
      subst (λ ps. AreWrongListens ps (part_of c.new-top.result) (said c.in_err-listens.field-0.0)) c.as_slice.ensures.value
          c.in_err-listens.ensures.fault,
    )))))))

pub returns-clause-spelled : goal.returns-clause-spelled
returns-clause-spelled c =
    let config : Config = record {
      check = c.in_ok-check.check;
      status = c.in_ok-status.status;
      limits = c.in_ok-limits.limits;
      pools = c.in_ok-pools.pools;
      listens = c.in_ok-listens.listens;
    } in
    subst (λ top. IsConfig top config) c.new-top.ensures (record {
      known = c.in_ok-only.ensures.known;
      checked = c.in_ok-check.ensures.spelled;
      page = c.in_ok-status.ensures.spelled;
      limited = c.in_ok-limits.ensures.spelled;
      spelled = c.in_ok-pools.ensures.pools;
      own_names = c.in_ok-pools.ensures.names;
      some_pool = c.in_ok-pools.ensures.some;
      listening =
          subst (λ ps. AreListens ps (part_of c.new-top.result) config.listens.items) c.as_slice.ensures.value
          c.in_ok-listens.ensures.listens;
      some_listen = c.in_ok-listens.ensures.some;
    })
