-- What is accepted is what is ready.
use Rattle.std.proofs.Common.{◌≡◌}
use Rattle.lb_balancer.specs.Shown.{is_up}
use Rattle.lb_balancer.proofs.Judged.{of-told}
use Rattle.lb_balancer.proofs.shown.Shown.select.Goals as goal

pub returns : goal.returns
returns g c =
    let walks = g.S.BackendSelection.walks c.args.self.now.members c.args.self.now.config c.args.key.now in
    record {
      answers = of-told (λ b ready. ready ≡ is_up c.args.self.now.unready b) c.args.max_iterations walks c.select_with.result
          c.select_with.ensures.answers (λ p told a is. is.met);
    }
