-- The words are of the generation that was shown; and a backend that it doesn't list wasn't ready then.
use Rattle.std.proofs.Common.{rules}
use Rattle.std.specs.Arc.{arc_value}
use Rattle.lb_balancer.proofs.Flags.{unlisted-then}
use Rattle.lb_balancer.proofs.balancing.Balancing.ready_in.Goals as goal

pub returns-in-Some : goal.returns-in-Some
returns-in-Some g c = ((arc_value c.args.kept.now.shown).generation, c.in-Some.ensures c.args.self.now c.requires)

pub returns : goal.returns
returns g c =
    unlisted-then g.R.KeyRule.gives c.args.self.now (arc_value c.args.kept.now.shown) c.args.backend.now c.requires.0 (search rules)
