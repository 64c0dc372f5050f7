use Rattle.std.proofs.Common.{rules, ◌≡◌, Err, IsOk, codes, inl, inr, ap, subst, ◌∙◌}
use Rattle.lb_proxy.specs.Config.{part_of, said, check_place, required_of}
use Rattle.lb_proxy.specs.Faults.{IsWrongInside, IsWrongCheck}
use Rattle.lb_proxy.proofs.config.read_pool.Goals as goal

pub returns-in_err-source-clause-fault : goal.returns-in_err-source-clause-fault
returns-in_err-source-clause-fault c =
    let is : c.from_residual-in_err-source.result ≡ Err c.in_err-source.field-0.0 = search rules in
    let named : IsOk (required_of (part_of c.args.section.now) (codes "name")) = rw (← c.in_ok-name.ensures) search rules in
    rw is (inr (inr (inl (c.in_ok-only.ensures.known, named, c.in_err-source.ensures.fault))))

pub returns-in_err-check-clause-fault : goal.returns-in_err-check-clause-fault
returns-in_err-check-clause-fault c =
    let is : c.from_residual-in_err-check.result ≡ Err c.in_err-check.field-0.0 = search rules in
    let at : c.check.result ≡ check_place (part_of c.args.section.now).0 = c.check.ensures ∙ ap check_place c.place.ensures in
    let named : IsOk (required_of (part_of c.args.section.now) (codes "name")) = rw (← c.in_ok-name.ensures) search rules in
    rw is (inr (inr (inr (inl (
      c.in_ok-source.source,
      c.in_ok-only.ensures.known,
      named,
      c.in_ok-source.ensures.spelled,
      subst (λ p. IsWrongInside IsWrongCheck (part_of c.args.section.now) (codes "check") p (said c.in_err-check.field-0.0)) at
          c.in_err-check.ensures.fault,
    )))))
