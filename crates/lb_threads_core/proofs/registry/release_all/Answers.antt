-- Each snapshot that is released is an event more.
use Rattle.std.proofs.Common.{◌∙◌, ◌∷◌, ◌++◌, map, arith}
use Rattle.lb_health_core.specs.RegistryEvents.{Released}
use Rattle.lb_threads_core.proofs.registry.release_all.Goals as goal

pub loop-preserved : goal.loop-preserved
loop-preserved g c =
    let was = c.loop.invariant in (
      c.in-Some.generation ∷ was.0,
      omega (arith, was.1),
      c.release.ensures.one ∙ was.2,
      λ key_of events after.
          c.release.ensures.after key_of (map (λ n. Released c.args.id n) was.0 ++ events) (was.3 key_of events after),
    )
