use Rattle.lb_balancer_core.proofs.Plains.{enters_own}
use Rattle.lb_balancer_core.proofs.plain_calls.PlainPortSelectPort.enter.Goals as goal

pub returns-clause-own : goal.returns-clause-own
returns-clause-own g c =
    enters_own _ _ c.args.slot c.enter.result c.past.ensures c.enter.ensures.answers c.enter.ensures.stands c.enter.ensures.own
