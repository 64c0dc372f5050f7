-- What was seen before is kept where what is shown is older.
use Rattle.std.proofs.Common.{ap, subst}
use Rattle.std.specs.Arc.{arc_value}
use Rattle.lb_balancer.specs.History.{BalancerValue, IsShownBy}
use Rattle.lb_balancer.specs.Selections.{ReaderValue}
use Rattle.lb_balancer.proofs.reader.BalancerReader.look.Goals as goal
use Rattle.lb_balancer.proofs.reader.BalancerReader.look.Goals.{in-Some-1, in-None-1}

pub returns-then-generation-clause-shown : goal.returns-then-generation-clause-shown
returns-then-generation-clause-shown g c =
    let gives = g.R.KeyRule.gives in
    let Known = BalancerValue g.row.D.Denot g.row.S-Config.Denot g.row.R.Denot in
    let Reader = ReaderValue g.row.D.Denot g.row.S-Config.Denot g.row.R.Denot in
    let new = subst (λ (b : Known). IsShownBy gives b (arc_value c.in_ok-kept.kept.shown)) (ap (λ (r : Reader). r.balancing) c.self.view_is)
    c.in_ok-kept.ensures.kept.0 in
    elim c.match-self-kept.branch [ in-Some-1 w ↦ rw w.self-is new | in-None-1 w ↦ rw w.self-is new ]
