use Rattle.std.proofs.Common.{ap, sym, ◌∙◌, refl, subst, map, ◌∷◌}
use Rattle.std.specs.Option.{is_some, option_copied_mut}
use Rattle.lb_health_view.specs.Snapshots.{snapshot_of, lists_in}
use Rattle.lb_health_view.specs.Views.{IsViewAfter}
use Rattle.lb_health_view.proofs.FlagLemmas.{flags-set, set-listed, set-unlisted, lists_is}
use Rattle.lb_health_view.proofs.view.ViewCore.set_enable.Goals as goal

pub returns-in-Some-clause-after : goal.returns-in-Some-clause-after
returns-in-Some-clause-after c = λ views h.
    let before = subst (λ v. IsViewAfter views v) (sym c.self.view_is) h in
    let lists = c.lists.ensures ∙ ap (λ ss. lists_in c.args.backend.now (snapshot_of c.self.inside.current ∷ map snapshot_of ss))
    c.as_slice.ensures.value in
    set-listed views _ _ c.args.backend.now c.args.enabled before
    (sym (lists_is views _ c.args.backend.now before) ∙ sym lists ∙ c.if-lists.true) refl refl
    (λ q. ((c.get_mut.follows.holds c.args.enabled).3 (ap is_some (sym c.get_mut.ensures.value ∙ ap option_copied_mut c.in-Some.is))).0 q)

pub returns-else-lists-clause-after : goal.returns-else-lists-clause-after
returns-else-lists-clause-after c = λ views h.
    let before = subst (λ v. IsViewAfter views v) (sym c.self.view_is) h in
    let lists = c.lists.ensures ∙ ap (λ ss. lists_in c.args.backend.now (snapshot_of c.self.inside.current ∷ map snapshot_of ss))
    c.as_slice.ensures.value in
    set-unlisted views _ c.args.backend.now c.args.enabled h
    (sym (lists_is views _ c.args.backend.now before) ∙ sym lists ∙ c.if-lists.false)

pub invariant_of-self : goal.invariant_of-self
invariant_of-self c = (
  flags-set c.self.inside.disabled c.args.enabled c.self.inside.flags.entries _ c.args.backend.now c.self.invariant.0
      (λ q. ((c.get_mut.follows.holds c.args.enabled).3 (ap is_some (sym c.get_mut.ensures.value ∙ ap option_copied_mut c.in-Some.is))).0
      q),
  c.self.invariant.1,
)
