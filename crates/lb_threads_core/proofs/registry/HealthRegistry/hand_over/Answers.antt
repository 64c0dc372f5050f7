-- A verdict that reaches its cell is one event more.
use Rattle.lb_health_core.specs.RegistryEvents.{Observed}
use Rattle.lb_threads_core.proofs.Histories.{added_or_same, later}
use Rattle.lb_threads_core.proofs.registry.HealthRegistry.hand_over.Goals as goal

pub put-requires-clause-registry : goal.put-requires-clause-registry
put-requires-clause-registry g c =
    let is = c.observe-answer.ensures.observed in
    later c.take-held.ensures.registry (added_or_same c.observe-answer.result
    (Observed c.args.cell (record { ok = c.args.verdict; threshold = c.args.threshold })) is.ok is.err)

pub note_flip-requires : goal.note_flip-requires
note_flip-requires g c =
    let is = c.observe-answer.ensures.observed in
    later c.take-held.ensures.registry (added_or_same c.observe-answer.result
    (Observed c.args.cell (record { ok = c.args.verdict; threshold = c.args.threshold })) is.ok is.err)

pub returns-clause-observed : goal.returns-clause-observed
returns-clause-observed g c =
    let is = c.observe-answer.ensures.observed in (
      c.take-held.result.value,
      (
        c.observe-answer.new.self,
        (
          c.take-held.ensures.registry,
          (
            added_or_same c.observe-answer.result (Observed c.args.cell (record { ok = c.args.verdict; threshold = c.args.threshold }))
                is.ok is.err,
            is,
          ),
        ),
      ),
    )
