-- Where the report is taken, the registry releases the selector's snapshot; the group that its lock gave has a history.
use Rattle.std.specs.Prelude.{Ok, Err, Result, refl}
use Rattle.std.proofs.Common.{rules}
use Rattle.lb_rebuild_core.specs.Values.{PermitValue}
use Rattle.lb_rebuild_core.specs.GroupCalls.{generation_at}
use Rattle.lb_threads_core.proofs.Histories.{at_site, later}
use Rattle.lb_threads_group.proofs.Releases.{released_later}
use Rattle.lb_threads_group.proofs.port.LockedPortWorkPort.destroyed.Goals as goal

pub put_registry-requires-clause-registry : goal.put_registry-requires-clause-registry
put_registry-requires-clause-registry g c =
    later c.take_registry-cells.ensures.registry (released_later c.destroyed-told.result c.take-held.result.value.core
    (λ made e. generation_at c.args.slot e) c.founded.ensures c.destroyed-told.ensures.reported.registry)

pub returns-in-Ok : goal.returns-in-Ok
returns-in-Ok g c =
    let is = c.in-Ok.ensures.reported in
    let told : Result (Unit {0}) PermitValue = Ok tt in
    let v = c.take-held.result.value.core in (
      (
        told,
        (
          c.take_registry-cells.result.value,
          (
            c.destroyed-told.new.registry,
            (
              at_site (search rules) c.take_registry-cells.ensures.registry,
              (
                released_later told v (λ made e. generation_at c.args.slot e) c.founded.ensures is.registry,
                (
                  c.take_gate-gate.result.value,
                  (
                    c.destroyed-told.new.gate,
                    (
                      search rules,
                      (
                        v,
                        (
                          c.destroyed-told.new.self.core,
                          ((search rules, c.founded.ensures), is),
                        ),
                      ),
                    ),
                  ),
                ),
              ),
            ),
          ),
        ),
      ),
      refl,
    )

pub returns-in-Err : goal.returns-in-Err
returns-in-Err g c =
    let is = c.in-Err.ensures.reported in
    let told : Result (Unit {0}) PermitValue = Err c.in-Err.permit in
    let v = c.take-held.result.value.core in (
      (
        told,
        (
          c.take_registry-cells.result.value,
          (
            c.destroyed-told.new.registry,
            (
              at_site (search rules) c.take_registry-cells.ensures.registry,
              (
                released_later told v (λ made e. generation_at c.args.slot e) c.founded.ensures is.registry,
                (
                  c.take_gate-gate.result.value,
                  (
                    c.destroyed-told.new.gate,
                    (
                      search rules,
                      (
                        v,
                        (
                          c.destroyed-told.new.self.core,
                          ((search rules, c.founded.ensures), is),
                        ),
                      ),
                    ),
                  ),
                ),
              ),
            ),
          ),
        ),
      ),
      refl,
    )
