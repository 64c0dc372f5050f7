use Rattle.std.proofs.Common.{subst}
use Rattle.lb_health_core.specs.Verdicts.{Verdict}
use Rattle.lb_health_core.specs.RegistryCalls.{IsObserved}
use Rattle.lb_threads_core.specs.Registry.{UnderRegistry}
use Rattle.lb_threads_core.proofs.registry.HealthRegistry.check_one.Goals as goal

pub returns : goal.returns
returns g c =
    let Holds : Verdict → Type 0 = λ v. UnderRegistry g.R.KeyRule.gives c.args.self.now.start
    (λ x y. IsObserved g.R.KeyRule.gives x c.args.target.now.cell v c.observe-flipped.result y) in
    let seen = subst Holds c.ask_check-answer.ensures.verdict c.observe-flipped.ensures.observed in
    (c.ask_check-answer.result.result, c.ask_check-answer.ensures.answer, (c.observe-flipped.result, seen))
