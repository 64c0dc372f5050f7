-- The walk is over the members that are shown.
use Rattle.std.proofs.Common.{List, subst}
use Rattle.std.specs.Arc.{arc_value}
use Rattle.std.specs.Fn.{FnReturnsAt}
use Rattle.lb_select_base.specs.Backends.{Member, same_member}
use Rattle.lb_select_base.specs.Copies.{AsCopied}
use Rattle.lb_select_base.specs.Selections.{walks_of}
use Rattle.lb_balancer.specs.Shown.{SelectsOf, ShownValue}
use Rattle.lb_balancer.proofs.Judged.{forgot_copies}
use Rattle.lb_balancer.proofs.shown.Shown.find_drawing.Goals as goal

pub returns : goal.returns
returns g c =
    let walks = g.S.BackendSelection.walks in
    let selector = c.self.inside.selector in
    let asked = forgot_copies (λ b a. FnReturnsAt g.F.Fn c.args.accept.now b a) c.args.max_iterations _ _ _ _ c.find.result
    c.find.ensures in
    record {
      answers = subst (λ (v : ShownValue g.row.S-Config.Denot). AsCopied (SelectsOf same_member
          (λ b a. FnReturnsAt g.F.Fn c.args.accept.now b a) c.args.max_iterations (walks v.members v.config c.args.key.now)) c.find.result)
          c.self.view_is
          (subst (λ (ms : List Member). AsCopied (SelectsOf same_member (λ b a. FnReturnsAt g.F.Fn c.args.accept.now b a)
          c.args.max_iterations (walks ms (g.S.BackendSelection.built_with (arc_value selector)) c.args.key.now)) c.find.result)
          c.self.invariant
          (subst (λ (s : g.row.S.Denot). AsCopied (SelectsOf same_member (λ b a. FnReturnsAt g.F.Fn c.args.accept.now b a)
          c.args.max_iterations (walks_of g.S.BackendSelection s c.args.key.now)) c.find.result) c.deref-selector.ensures asked));
    }
