use Rattle.std.proofs.Common.{ap, sym, ◌∙◌, subst}
use Rattle.std.specs.List.{list_any}
use Rattle.lb_select_base.specs.Backends.{same_member}
use Rattle.lb_health_view.specs.Views.{IsViewAfter}
use Rattle.lb_health_view.proofs.ViewLemmas.{members_are}
use Rattle.lb_health_view.proofs.view.ViewCore.is_member.Goals as goal

pub returns : goal.returns
returns c = λ views h.
    let before = subst (λ v. IsViewAfter views v) (sym c.self.view_is) h in
    c.contains.ensures ∙ ap (λ s. list_any (same_member c.args.backend.now) s.keys) c.deref.ensures
    ∙ ap (λ ms. list_any (same_member c.args.backend.now) ms) (members_are views _ before)
