use Rattle.std.proofs.Common.{ap, sym, ◌∙◌, subst}
use Rattle.lb_select_base.specs.Memberships.{same_members}
use Rattle.lb_health_view.specs.Views.{IsViewAfter}
use Rattle.lb_health_view.proofs.ViewLemmas.{members_are}
use Rattle.lb_health_view.proofs.view.ViewCore.is_membership.Goals as goal

pub returns : goal.returns
returns c = λ views h.
    let before = subst (λ v. IsViewAfter views v) (sym c.self.view_is) h in
    c.is_same.ensures ∙ ap (λ s. same_members c.args.members.now.keys s.keys) c.deref.ensures
    ∙ ap (λ ms. same_members c.args.members.now.keys ms) (members_are views _ before)
