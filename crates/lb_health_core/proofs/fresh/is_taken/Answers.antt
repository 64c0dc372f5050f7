use Rattle.std.proofs.Common.{◌≡◌, ◌≤◌, ◌+◌, ◌∙◌, ◌&&◌, ◌||◌, not, Bool, true, false, List, ◌∷◌, length, map, drop, sym, ap, arith}
use Rattle.std.proofs.lemmas.List.{at_drop_more, take_all}
use Rattle.std.specs.List.{list_any}
use Rattle.lb_select_base.specs.Backends.{same_member}
use Rattle.lb_health_core.specs.declared.targets.View.{View}
use Rattle.lb_health_core.specs.Fresh.{has_key}
use Rattle.lb_health_core.specs.Targets.{view_value, live}
use Rattle.lb_health_core.proofs.FreshLemmas.{taken_cons, and_none}
use Rattle.lb_health_core.proofs.fresh.is_taken.Goals as goal
use Rattle.lb_health_core.proofs.fresh.is_taken.Goals.{else-not-view-via-then-not-view+else-shares_key, else-not-view-via-else-not-view}

pub returns-then-shares_key : goal.returns-then-shares_key
returns-then-shares_key g c =
    λ key_of rule.
    let v = c.view-item.result in
    let i = c.loop-view.view-index in
    let views = c.args.views.now in
    let k = key_of c.args.backend.now in
    let keys = v.members.keys in
    let any : Bool = list_any (λ m. same_member k (key_of m)) keys in
    let has : List View → Bool = λ vs. has_key key_of (live (map view_value vs)) k in
    let rest = drop (i + 1) views in
    let enough : length keys ≤ c.len.result = omega (arith, c.len.ensures.len) in
    let mine : any ≡ true
    = sym (c.shares_key.ensures key_of rule ∙ ap (list_any (λ m. same_member k (key_of m))) (take_all c.len.result keys enough))
    ∙ c.if-shares_key.true in
    sym (sym (c.loop-view.invariant key_of rule) ∙ at_drop_more has views i v c.loop-view-test.true
    ∙ ap (λ (w : View). has (w ∷ rest)) (sym c.view-item.is)
    ∙ taken_cons key_of k (view_value v) (map view_value rest) ∙ ap (λ b. (not b && any) || has rest) c.if-not-view.true
    ∙ ap (λ b. b || has rest) mine)

pub loop-view-preserved : goal.loop-view-preserved
loop-view-preserved g c =
    λ key_of rule.
    let v = c.view-item.result in
    let i = c.loop-view.view-index in
    let views = c.args.views.now in
    let k = key_of c.args.backend.now in
    let keys = v.members.keys in
    let any : Bool = list_any (λ m. same_member k (key_of m)) keys in
    let has : List View → Bool = λ vs. has_key key_of (live (map view_value vs)) k in
    let rest = drop (i + 1) views in
    let none : (not v.marked && any) ≡ false
    = elim c.else-not-view.branch [
      | else-not-view-via-then-not-view+else-shares_key w ↦
          let enough : length keys ≤ w.len.result = omega (arith, w.len.ensures.len) in
          and_none (not v.marked) any
          (sym (w.shares_key.ensures key_of rule ∙ ap (list_any (λ m. same_member k (key_of m))) (take_all w.len.result keys enough))
          ∙ w.if-shares_key.false)
      | else-not-view-via-else-not-view w ↦ ap (λ b. not b && any) w.if-not-view.false
    ] in
    sym (ap (λ b. b || has rest) none) ∙ sym (taken_cons key_of k (view_value v) (map view_value rest))
    ∙ sym (ap (λ (w : View). has (w ∷ rest)) (sym c.view-item.is)) ∙ sym (at_drop_more has views i v c.loop-view-test.true)
    ∙ c.loop-view.invariant key_of rule
