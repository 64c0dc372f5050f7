-- The registry's own targets, at the registry that the step names.
use Rattle.lb_world.proofs.Words.{ap, arith, Err, inl, refl, at-place}
use Rattle.lb_world.proofs.Tables.{no-registry, world-refused, growth-told, targets-next, targets-refused}
use Rattle.lb_world.proofs.world.Tables.targets.Goals as goal

pub returns-then-registry-len : goal.returns-then-registry-len
returns-then-registry-len g c =
    λ h s. world-refused s (inl (rw (no-registry s c.args.registry (omega arith)) refl))

pub returns-in-Ok : goal.returns-in-Ok
returns-in-Ok g c =
    let at = at-place c.args.self.now.registries.items c.args.registry _ (omega arith) c.index_mut-at.ensures.value in
    λ h s. targets-next s _ _ _ _ at c.targets.ensures.one c.in-Ok.ensures.listed.ok c.in-Ok.ensures.listed.answers

pub returns-in-Err : goal.returns-in-Err
returns-in-Err g c =
    let at = at-place c.args.self.now.registries.items c.args.registry _ (omega arith) c.index_mut-at.ensures.value in
    λ h s.
    targets-refused s _ _ _ _ at c.targets.ensures.one c.in-Err.ensures.listed.err (growth-told _ c.in-Err.ensures.refused)
    (λ k es now is. (c.in-Err.ensures.listed.exhausted k es now).0 (ap Err is))
