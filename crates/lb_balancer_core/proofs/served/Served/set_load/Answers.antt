-- The words of what is served are those whose load was set.
use Rattle.std.proofs.Common.{◌∙◌, refl, subst, unwrap_or}
use Rattle.lb_balancer_core.specs.Balancer.{ServedValue}
use Rattle.lb_balancer_core.specs.ServedUpdates.{IsLoadSet}
use Rattle.lb_balancer_core.proofs.served.Served.set_load.Goals as goal

pub returns : goal.returns
returns g c =
    let is = c.set_load.ensures in
    let now : ServedValue g.row.S-Config.Denot g.row.G.Denot = record {
      view = c.self.inside.served.view;
      config = unwrap_or c.self.inside.config g.S.BackendSelection.default_config;
      members = c.self.inside.served.members;
      words = c.set_load.new.self;
    } in
    subst (λ (v : ServedValue g.row.S-Config.Denot g.row.G.Denot). IsLoadSet v c.args.backend.now c.args.load c.set_load.result now)
    c.self.view_is
    (record {
      loads = is.loads;
      stands = λ e s. record { view = s.view; members = s.members; tickets = is.tickets ∙ s.tickets };
      kept = rw (← is.tickets, ← is.generator) refl;
    })
