-- What is served first is a view to which nothing has happened, under the number that it was registered under.
use Rattle.std.proofs.Common.{◌≡◌, ◌∙◌, [], Err, ap, arith, refl, rules, sym}
use Rattle.lb_threads_core.proofs.Registrations.{had-none, had-one, has-registered, left-for, lost-with, made-with, refused-with, seen-at}
use Rattle.lb_balancer.specs.History.{BalancerValue}
use Rattle.lb_balancer.proofs.Served.{none-yet}
use Rattle.lb_balancer.proofs.balancing.Balancing.new.Goals as goal

pub begun-requires : goal.begun-requires
begun-requires g c =
    rw c.new.ensures (record {
      config = c.in_ok-built.ensures.made.1;
      id = sym c.id-view_id.ensures;
      views = [];
      view = c.in_ok-view.ensures.made;
      first = omega arith;
      discovered = none-yet _;
    })

pub returns-in_err-built : goal.returns-in_err-built
returns-in_err-built g c =
    let e = c.in_err-built.field-0.0 in
    let is : c.from_residual.result ≡ Err e = search rules in
    record {
      made = search rules;
      view = refused-with c.from_residual.result e is
          (λ apart numbers. seen-at (search rules) (c.first_built.ensures.exhausted apart (c.in_err-built.was ∙ ap Err numbers)))
          (λ apart memory. seen-at (search rules) (c.first_built.ensures.left apart (c.in_err-built.was ∙ ap Err memory)));
      refused = search rules;
    }

pub returns-in_err-view : goal.returns-in_err-view
returns-in_err-view g c =
    let e = c.in_err-view.field-0.0 in
    let is : c.from_residual-in_err-view.result ≡ Err e = search rules in
    record {
      made = search rules;
      view = refused-with c.from_residual-in_err-view.result e is
          (λ apart numbers. had-none (search rules) c.registered_view.ensures.registered e c.in_err-view.was numbers)
          (λ apart memory. had-one (search rules) c.registered_view.ensures.registered e c.in_err-view.was memory);
      refused = search rules;
    }

pub returns-in_err-made : goal.returns-in_err-made
returns-in_err-made g c =
    let e = c.in_err-made.field-0.0 in
    let is : c.from_residual-in_err-made.result ≡ Err e = search rules in
    record {
      made = search rules;
      view = lost-with c.from_residual-in_err-made.result e is (search rules) (λ apart.
          left-for
          (has-registered (search rules) c.registered_view.ensures.registered c.in_ok-view.view c.in_ok-view.was c.in_ok-view.view.id
          refl));
      refused = search rules;
    }

pub returns : goal.returns
returns g c =
    let Balancer = BalancerValue g.row.D.Denot g.row.S-Config.Denot g.row.R.Denot in
    let same = ap (λ (b : Balancer). b.view_id) c.in_ok-made.ensures.made ∙ c.id-view_id.ensures in
    record {
      made = search rules;
      view = made-with c.in_ok-made.made
          (has-registered (search rules) c.registered_view.ensures.registered c.in_ok-view.view c.in_ok-view.was c.in_ok-made.made.view_id
          same);
      refused = search rules;
    }
