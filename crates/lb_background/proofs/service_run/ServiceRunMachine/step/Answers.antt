use Rattle.lb_background.proofs.Drives.{service_stepped_asks}
use Rattle.lb_background.proofs.ServiceLemmas.{service_stepped}
use Rattle.lb_background.proofs.service_run.ServiceRunMachine.step.Goals as goal

pub returns-clause-history : goal.returns-clause-history
returns-clause-history c = λ h after.
    service_stepped c.args.self.now c.args.now c.args.reading c.args.event h c.take.result c.take.new.self c.take.ensures.state
    c.take.ensures.action after

pub returns-clause-asked : goal.returns-clause-asked
returns-clause-asked c = λ h after b more.
    service_stepped_asks c.args.self.now c.args.now c.args.reading c.args.event h c.take.result c.take.new.self c.take.ensures.state
    c.take.ensures.action after more
