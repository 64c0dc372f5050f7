-- What is shown is kept, with the words that were there.
use Rattle.lb_balancer.proofs.Kepts.{balancer-of}
use Rattle.lb_balancer.proofs.balancing.Balancing.show_again.Goals as goal

pub kept_at-requires-clause-ready : goal.kept_at-requires-clause-ready
kept_at-requires-clause-ready g c = balancer-of c.args.self.now _ c.in_ok-latest.latest.ready c.in_ok-latest.ensures.kept.1

pub returns-clause-kept : goal.returns-clause-kept
returns-clause-kept g c = c.in_ok-again-2.ensures c.args.self.now c.in_ok-kept.ensures.kept
