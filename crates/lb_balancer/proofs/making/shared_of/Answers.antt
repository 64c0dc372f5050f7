-- What one thread served is what threads are served at first.
use Rattle.std.proofs.Common.{◌≡◌, ◌∙◌, ap, arith, rules, subst, sym}
use Rattle.lb_health_view.specs.Views.{IsViewAfter}
use Rattle.lb_balancer_core.specs.ServedViews.{ServedViewValue}
use Rattle.lb_health_core.specs.declared.keys.Rule.{Rule}
use Rattle.lb_balancer.specs.History.{BalancerValue}
use Rattle.lb_balancer.proofs.making.shared_of.Goals as goal

pub begun-requires : goal.begun-requires
begun-requires g c =
    let Seen = ServedViewValue g.row.S-Config.Denot in
    let same = c.in_ok-serving.ensures.same ∙ c.into_parts-served.ensures.served in
    let views = c.requires.view.0 in
    let view : IsViewAfter views c.in_ok-serving.serving.served.view =
    subst (λ v. IsViewAfter views v) (sym (ap (λ (s : Seen). s.view) same)) c.requires.view.1 in
    record {
      config = ap (λ (s : Seen). s.config) same ∙ c.requires.config;
      id = sym c.view_id.ensures;
      views = views;
      view = view;
      first = let is = c.generation.ensures _ view in omega (arith, is);
      discovered = c.requires.view.2;
    }

pub returns-clause-made : goal.returns-clause-made
returns-clause-made g c =
    let Seen = ServedViewValue g.row.S-Config.Denot in
    let Balancer = BalancerValue g.row.D.Denot g.row.S-Config.Denot (Rule g.row.N.Denot) in
    let made = c.in_ok-shared.ensures.made in
    let same = c.in_ok-serving.ensures.same ∙ c.into_parts-served.ensures.served in (
      ap (λ (b : Balancer). b.discovery) made,
      ap (λ (b : Balancer). b.config) made,
      ap (λ (b : Balancer). b.view_id) made ∙ (c.view_id.ensures ∙ ap (λ (s : Seen). s.view.id) same),
      search rules,
    )

pub returns-clause-first : goal.returns-clause-first
returns-clause-first g c views view =
    let Seen = ServedViewValue g.row.S-Config.Denot in
    let Balancer = BalancerValue g.row.D.Denot g.row.S-Config.Denot (Rule g.row.N.Denot) in
    let same = c.in_ok-serving.ensures.same ∙ c.into_parts-served.ensures.served in
    ap (λ (b : Balancer). b.first) c.in_ok-shared.ensures.made
    ∙ c.generation.ensures views (subst (λ v. IsViewAfter views v) (sym (ap (λ (s : Seen). s.view) same)) view)
