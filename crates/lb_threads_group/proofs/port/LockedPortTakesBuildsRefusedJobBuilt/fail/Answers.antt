-- Where the job is taken back, the registry releases its snapshot; the group that its lock gave has a history.
use Rattle.std.specs.Prelude.{Ok, Err, Result, refl}
use Rattle.std.proofs.Common.{sym, rules}
use Rattle.lb_rebuild_core.specs.Values.{Task}
use Rattle.lb_threads_core.proofs.Histories.{at_site, later}
use Rattle.lb_threads_group.proofs.Releases.{released_later}
use Rattle.lb_threads_group.proofs.port.LockedPortTakesBuildsRefusedJobBuilt.fail.Goals as goal

pub put_registry-requires-clause-registry : goal.put_registry-requires-clause-registry
put_registry-requires-clause-registry g c =
    later c.take_registry-cells.ensures.registry (released_later c.fail-told.result c.take-held.result.value.core
    (λ made e. c.into_job-job.result.generation) c.founded.ensures c.fail-told.ensures.failed.registry)

pub returns-in-Ok : goal.returns-in-Ok
returns-in-Ok g c =
    let is = c.in-Ok.ensures.failed in
    let told : Result (Unit {0}) (Task g.row.S-Config.Denot) = Ok tt in
    let v = c.take-held.result.value.core in
    rw (sym c.into_job-job.ensures) (
      (
        told,
        (
          c.take_registry-cells.result.value,
          (
            c.fail-told.new.registry,
            (
              at_site (search rules) c.take_registry-cells.ensures.registry,
              (
                released_later told v (λ made e. c.into_job-job.result.generation) c.founded.ensures is.registry,
                (
                  c.take_gate-gate.result.value,
                  (
                    c.fail-told.new.gate,
                    (
                      search rules,
                      (
                        v,
                        (
                          c.fail-told.new.self.core,
                          ((search rules, c.founded.ensures), is),
                        ),
                      ),
                    ),
                  ),
                ),
              ),
            ),
          ),
        ),
      ),
      refl,
    )

pub returns-in-Err : goal.returns-in-Err
returns-in-Err g c =
    let is = c.in-Err.ensures.failed in
    let told : Result (Unit {0}) (Task g.row.S-Config.Denot) = Err c.in-Err.job in
    let v = c.take-held.result.value.core in
    rw (sym c.into_job-job.ensures) (
      (
        told,
        (
          c.take_registry-cells.result.value,
          (
            c.fail-told.new.registry,
            (
              at_site (search rules) c.take_registry-cells.ensures.registry,
              (
                released_later told v (λ made e. c.into_job-job.result.generation) c.founded.ensures is.registry,
                (
                  c.take_gate-gate.result.value,
                  (
                    c.fail-told.new.gate,
                    (
                      search rules,
                      (
                        v,
                        (
                          c.fail-told.new.self.core,
                          ((search rules, c.founded.ensures), is),
                        ),
                      ),
                    ),
                  ),
                ),
              ),
            ),
          ),
        ),
      ),
      refl,
    )
