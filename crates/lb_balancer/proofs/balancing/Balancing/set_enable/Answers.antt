-- What is served got a flag more.
use Rattle.std.proofs.Common.{◌∙◌, sym}
use Rattle.lb_balancer.proofs.Served.{flagged, known}
use Rattle.lb_balancer.proofs.balancing.Balancing.set_enable.Goals as goal

pub note_flags-requires : goal.note_flags-requires
note_flags-requires g c =
    flagged c.args.self.now (known (c.self.invariant.0 ∙ c.self.view_is) c.take-held.ensures.fact) c.set_enable.ensures.config
    c.set_enable.ensures.id c.args.backend.now c.args.enabled c.set_enable.ensures.view

pub put-requires-clause-fact : goal.put-requires-clause-fact
put-requires-clause-fact g c =
    let is = c.self.invariant.0 ∙ c.self.view_is in
    known (sym is) (flagged c.args.self.now (known is c.take-held.ensures.fact) c.set_enable.ensures.config
    c.set_enable.ensures.id c.args.backend.now c.args.enabled c.set_enable.ensures.view)

pub returns : goal.returns
returns g c =
    let was = known (c.self.invariant.0 ∙ c.self.view_is) c.take-held.ensures.fact in
    let now =
    flagged c.args.self.now was c.set_enable.ensures.config c.set_enable.ensures.id c.args.backend.now c.args.enabled
    c.set_enable.ensures.view
    in
    (c.take-held.result.value.served, (c.set_enable.new.self, (was, (now, c.set_enable.ensures.view))))
