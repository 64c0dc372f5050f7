-- A flag is the view's alone.
use Rattle.std.proofs.Common.{◌∷◌, ◌∙◌}
use Rattle.lb_balancer_core.specs.Balancer.{Set, view_events}
use Rattle.lb_balancer_core.proofs.served.Served.set_enable.Goals as goal

pub invariant_of-self : goal.invariant_of-self
invariant_of-self g c =
    let p = c.self.invariant in
    let s = p.1.1 in (
      c.set_enable.ensures.config ∙ p.0,
      (
        Set c.args.backend.now c.args.enabled ∷ p.1.0,
        record {
          view = c.set_enable.ensures.view (view_events p.1.0) s.view;
          members = c.set_enable.ensures.members ∙ s.members;
          tickets = s.tickets;
        },
      ),
    )
