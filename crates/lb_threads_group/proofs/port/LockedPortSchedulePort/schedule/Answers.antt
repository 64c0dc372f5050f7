-- A membership that is scheduled is shown to the registry; the group that its lock gave has a history.
use Rattle.std.specs.Prelude.{refl}
use Rattle.std.proofs.Common.{rules}
use Rattle.lb_threads_core.proofs.Histories.{at_site, later}
use Rattle.lb_threads_group.proofs.Releases.{scheduled_later}
use Rattle.lb_threads_group.proofs.port.LockedPortSchedulePort.schedule.Goals as goal

pub put_registry-requires-clause-registry : goal.put_registry-requires-clause-registry
put_registry-requires-clause-registry g c =
    let is = c.schedule-told.ensures.scheduled in
    later c.take_registry-cells.ensures.registry (scheduled_later c.schedule-told.result c.take-held.result.value.core
    c.args.discovered.keys c.founded.ensures is.registry is.registry_err)

pub returns : goal.returns
returns g c =
    let is = c.schedule-told.ensures.scheduled in
    let v = c.take-held.result.value.core in (
      (
        c.take_registry-cells.result.value,
        (
          c.schedule-told.new.registry,
          (
            at_site (search rules) c.take_registry-cells.ensures.registry,
            (
              scheduled_later c.schedule-told.result v c.args.discovered.keys c.founded.ensures is.registry is.registry_err,
              (
                v,
                (
                  c.schedule-told.new.self.core,
                  (
                    (search rules, c.founded.ensures),
                    is,
                  ),
                ),
              ),
            ),
          ),
        ),
      ),
      refl,
    )
