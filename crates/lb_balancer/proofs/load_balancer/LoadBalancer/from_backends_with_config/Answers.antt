-- The balancer's view is that of what it shares.
use Rattle.std.proofs.Common.{refl, rules}
use Rattle.lb_threads_core.proofs.Registrations.{passed-with, refused-as}
use Rattle.lb_balancer.specs.History.{BalancerValue}
use Rattle.lb_balancer.proofs.load_balancer.LoadBalancer.from_backends_with_config.Goals as goal

pub returns-in_err-shared-clause-made : goal.returns-in_err-shared-clause-made
returns-in_err-shared-clause-made g c =
    let Balancer = BalancerValue g.row.D.Denot g.row.S-Config.Denot g.row.R.Denot in
    record {
      made = search rules;
      view = refused-as (search rules) (λ apart. apart) (λ (b : Balancer). b.view_id) _ c.new.ensures.view c.from_residual.result
          c.in_err-shared.field-0.0 c.in_err-shared.was (search rules);
      refused = search rules;
    }

pub returns-clause-made : goal.returns-clause-made
returns-clause-made g c =
    let Balancer = BalancerValue g.row.D.Denot g.row.S-Config.Denot g.row.R.Denot in
    record {
      made = search rules;
      view = passed-with (search rules) (λ apart. apart) (λ (b : Balancer). b.view_id) _ c.new.ensures.view c.in_ok-shared.shared _
          c.in_ok-shared.was refl;
      refused = search rules;
    }

pub returns-clause-settings : goal.returns-clause-settings
returns-clause-settings g c = record { owns = search rules; health_check = refl; update = refl; parallel = refl }
