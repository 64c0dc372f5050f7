use Rattle.lb_balancer_core.proofs.Plains.{asks_own}
use Rattle.lb_balancer_core.proofs.plain_calls.PlainPortWorkPort.ask.Goals as goal

pub returns-clause-own : goal.returns-clause-own
returns-clause-own g c =
    asks_own _ _ c.args.slot c.args.now _ c.ask.result c.past.ensures c.ask.ensures.answers c.ask.ensures.stands c.ask.ensures.own
