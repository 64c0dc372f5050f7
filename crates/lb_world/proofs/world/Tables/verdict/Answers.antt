-- The registry's own verdict, at the registry that the step names.
use Rattle.lb_world.proofs.Words.{arith, false≢true, refl, Refusal, Step, at-place}
use Rattle.lb_world.proofs.Tables.{no-registry, world-refused, refused-so, verdict-next, verdict-refused}
use Rattle.lb_world.proofs.world.Tables.verdict.Goals as goal

pub returns-then-registry-len : goal.returns-then-registry-len
returns-then-registry-len g c =
    λ h s.
    world-refused s {st = Step.verdict c.args.registry c.args.cell c.args.ok c.args.threshold} {r = Refusal.NoSuch}
    (rw (no-registry s c.args.registry (omega arith)) refl)

pub returns-in-Ok : goal.returns-in-Ok
returns-in-Ok g c =
    let at = at-place c.args.self.now.registries.items c.args.registry _ (omega arith) c.index_mut-at.ensures.value in
    λ h s.
    verdict-next s _ _ _ _ _ _ _ at c.observe.ensures.one c.in-Ok.ensures.observed.ok c.in-Ok.ensures.observed.flipped
    (λ k es now. (c.in-Ok.ensures.observed.kept k es now).0 refl)

pub returns-in-Err : goal.returns-in-Err
returns-in-Err g c =
    let at = at-place c.args.self.now.registries.items c.args.registry _ (omega arith) c.index_mut-at.ensures.value in
    rw (refused-so c.in-Err.ensures.refused)
    (λ h s. verdict-refused s _ _ _ _ _ _ at c.in-Err.ensures.observed.err
    (λ k es now kept. false≢true ((c.in-Err.ensures.observed.kept k es now).1 kept)))
