-- One cause more of those that are left.
use Rattle.std.proofs.Common.{◌∙◌, ◌≡◌, List, [], ◌∷◌, arith, unwrap_or, map, refl, sym, ap}
use Rattle.lb_select_base.specs.Refusals.{least}
use Rattle.lb_select_base.proofs.LeastCauses.{at_end, one_more}
use Rattle.lb_balancer_core.proofs.slot_configs.least_cause.Goals as goal

both : {A B C : Type 0} (f : B → C) (g : A → B) (xs : List A) → map f (map g xs) ≡ map (λ x. f (g x)) xs
both f g [] = refl
both f g (x ∷ xs) = ap (λ rest. f (g x) ∷ rest) (both f g xs)

pub returns : goal.returns
returns g c =
    let refusal = g.S.BackendSelection.refusal [] in
    let default = g.S.BackendSelection.default_config in
    at_end (λ o. refusal (unwrap_or o default)) c.args.configs.now c.loop-config.config-index _ _ (omega arith) c.loop-config.invariant
    ∙ ap least (sym (both refusal (λ o. unwrap_or o default) c.args.configs.now))

pub loop-config-preserved : goal.loop-config-preserved
loop-config-preserved g c =
    let empty = c.new-empty.ensures.empty in
    let refusal = g.S.BackendSelection.refusal [] in
    let default = g.S.BackendSelection.default_config in
    rw c.earlier-found.ensures
    (one_more (λ o. refusal (unwrap_or o default)) c.args.configs.now
    c.loop-config.config-index c.config-item.result _ _ _ (omega arith) c.config-item.is
    (rw (empty, c.as_ref.ensures.value) at c.refusal_over.ensures)
    c.loop-config.invariant)
