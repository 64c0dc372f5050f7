use Rattle.std.proofs.Common.{ap, sym, ◌∙◌, subst}
use Rattle.lb_health_view.specs.Views.{IsViewAfter}
use Rattle.lb_health_view.proofs.ViewLemmas.{members_are}
use Rattle.lb_health_view.proofs.view.ViewCore.get_backend.Goals as goal

pub returns-clause-members : goal.returns-clause-members
returns-clause-members c = λ views h.
    let before = subst (λ v. IsViewAfter views v) (sym c.self.view_is) h in
    ap (λ s. s.keys) c.in_ok-members.ensures ∙ members_are views _ before
