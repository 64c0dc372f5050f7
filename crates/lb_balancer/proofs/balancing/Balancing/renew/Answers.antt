-- The registry has another membership of the view, or is as before, and what is served took it, or is as before.
use Rattle.std.proofs.Common.{◌∙◌, sym}
use Rattle.lb_health_view.specs.RegistrySide.{settings_of}
use Rattle.lb_threads_core.proofs.Histories.{later}
use Rattle.lb_balancer_core.proofs.Memberships.{on-ok-more}
use Rattle.lb_balancer.proofs.Refused.{none-renewed}
use Rattle.lb_balancer.proofs.Renewals.{renewed_later}
use Rattle.lb_balancer.proofs.Served.{known, of-registry, renewed}
use Rattle.lb_balancer.proofs.balancing.Balancing.renew.Goals as goal
use Rattle.lb_balancer.proofs.balancing.Balancing.renew.Goals.{in-Ok, in-Err}

pub put_registry-requires-clause-registry : goal.put_registry-requires-clause-registry
put_registry-requires-clause-registry g c =
    let is = c.renew-unserved.ensures.view in
    later c.take_registry-cells.ensures.registry (renewed_later c.renew-unserved.result.1 c.take-held.result.value.served.view
    c.args.members.keys c.founded.ensures is.updated.registry is.updated.refusals.registry_err)

pub exchange-unshown-requires-clause-served : goal.exchange-unshown-requires-clause-served
exchange-unshown-requires-clause-served g c =
    let is = c.renew-unserved.ensures.view in
    renewed c.args.self.now c.renew-unserved.result.1 (known (c.self.invariant.0 ∙ c.self.view_is) c.take-held.ensures.fact) is.config
    is.updated.refusals.id c.args.members.keys (settings_of c.args.settings.entries) c.requires.discovered
    is.updated.some is.updated.refusals.view_err

pub put-requires-clause-fact : goal.put-requires-clause-fact
put-requires-clause-fact g c =
    let is = c.renew-unserved.ensures.view in
    let key = c.self.invariant.0 ∙ c.self.view_is in
    let now =
    known (sym key) (renewed c.args.self.now c.renew-unserved.result.1 (known key c.take-held.ensures.fact) is.config
    is.updated.refusals.id c.args.members.keys (settings_of c.args.settings.entries) c.requires.discovered
    is.updated.some is.updated.refusals.view_err)
    in
    elim c.match-answer.branch [ in-Ok w ↦ rw w.held-is now | in-Err w ↦ rw w.held-is now ]

pub returns-clause-taken : goal.returns-clause-taken
returns-clause-taken g c =
    let is = c.renew-unserved.ensures.view in
    let was = known (c.self.invariant.0 ∙ c.self.view_is) c.take-held.ensures.fact in
    let now =
    renewed c.args.self.now c.renew-unserved.result.1 was is.config is.updated.refusals.id c.args.members.keys
    (settings_of c.args.settings.entries) c.requires.discovered is.updated.some is.updated.refusals.view_err
    in
    on-ok-more c.renew-unserved.result.1 _ _ is.taken
    (λ taken. (c.take-held.result.value.served, (c.renew-unserved.new.self.served, (was, (now, taken)))))

pub returns-clause-refused : goal.returns-clause-refused
returns-clause-refused g c =
    let is = c.renew-unserved.ensures.view in
    none-renewed g.R.KeyRule.gives c.args.self.now c.args.members.keys c.renew-unserved.result.1
    (known (c.self.invariant.0 ∙ c.self.view_is) c.take-held.ensures.fact)
    (of-registry g.R.KeyRule.gives c.registry-registries.ensures c.self.view_is c.take_registry-cells.ensures.registry)
    is.updated.refusals.refused is.least
