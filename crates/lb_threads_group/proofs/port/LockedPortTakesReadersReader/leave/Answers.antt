use Rattle.std.specs.Prelude.{refl}
use Rattle.std.proofs.Common.{rules}
use Rattle.lb_threads_group.proofs.port.LockedPortTakesReadersReader.leave.Goals as goal

pub returns-in-Ok : goal.returns-in-Ok
returns-in-Ok g c = (
  (
    c.leave-told.result,
    (
      c.take-held.result.value.core,
      (
        c.leave-told.new.self.core,
        ((search rules, c.founded.ensures), c.leave-told.ensures.left),
      ),
    ),
  ),
  refl,
)

pub returns-in-Err : goal.returns-in-Err
returns-in-Err g c = (
  (
    c.leave-told.result,
    (
      c.take-held.result.value.core,
      (
        c.leave-told.new.self.core,
        ((search rules, c.founded.ensures), c.leave-told.ensures.left),
      ),
    ),
  ),
  refl,
)
