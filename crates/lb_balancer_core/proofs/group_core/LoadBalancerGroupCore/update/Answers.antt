use Rattle.std.proofs.Common.{◌≡◌, IfErr, ap, sym, subst, rules, inr, Err}
use Rattle.lb_health_view.specs.RegistrySide.{settings_of}
use Rattle.lb_rebuild_core.proofs.Joins.{error-is}
use Rattle.lb_balancer_core.specs.GroupUpdates.{IsGroupRefusal}
use Rattle.lb_balancer_core.proofs.group_core.LoadBalancerGroupCore.update.Goals as goal

pub returns-in_err-scheduled-clause-refused : goal.returns-in_err-scheduled-clause-refused
returns-in_err-scheduled-clause-refused g c =
    let is : c.from_residual-in_err-scheduled.result ≡ Err c.in_err-scheduled.field-0.0 = search rules in
    let finds = g.D.ServiceDiscovery.finds in
    let site = c.args.self.now in
    subst (λ r. IfErr r (IsGroupRefusal finds g.R.KeyRule.gives site.discovery site.group c.args.registry.now)) (sym is)
    (inr (inr (record {
      members = c.in_ok-members.members.keys;
      settings = settings_of c.in_ok-members.settings.entries;
      discovered = c.in_ok-members.ensures.ok;
      cause = c.in_err-scheduled.ensures.answers;
      refusals = record {
        unknown = λ why. c.in_err-scheduled.ensures.refusals.unknown (ap Err why);
        numbers = λ why. c.in_err-scheduled.ensures.refusals.numbers (ap Err why);
        missing = λ key_of events h made e s none change has. error-is _ _
            (c.in_err-scheduled.ensures.refusals.missing key_of events h made e s none change has);
        lacking = λ key_of events h made e s none change has few. error-is _ _
            (c.in_err-scheduled.ensures.refusals.lacking key_of events h made e s none change has few);
      };
    })))

pub returns-clause-updated : goal.returns-clause-updated
returns-clause-updated g c = rw c.without_build.ensures (search rules)
