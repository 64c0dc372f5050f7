use Rattle.std.proofs.Common.{◌≡◌, false, sym, subst, rules}
use Rattle.lb_health_view.specs.Views.{IsViewAfter}
use Rattle.lb_health_view.proofs.FlagLemmas.{all-enabled}
use Rattle.lb_health_view.proofs.view.ViewCore.is_enabled.Goals as goal

pub returns-then-not-self : goal.returns-then-not-self
returns-then-not-self c = λ views h listed.
    let before = subst (λ v. IsViewAfter views v) (sym c.self.view_is) h in
    let none : c.self.inside.disabled ≡ false = search rules in
    all-enabled _ _ (before.needed c.args.backend.now listed) (c.self.invariant.0 none c.args.backend.now)
    (before.stored c.args.backend.now)
