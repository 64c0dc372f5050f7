use Rattle.lb_health_core.proofs.row.Row.grow.Goals as goal

pub returns : goal.returns
returns c = λ f. c.unknown.ensures f c.args.self.now.first
