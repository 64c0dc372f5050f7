-- The function borrows the members of the view.
use Rattle.std.proofs.Common.{refl}
use Rattle.lb_threads_core.proofs.backends.Backends.show.Goals as goal

pub returns-in-Err : goal.returns-in-Err
returns-in-Err g c = (c.members.result.now, c.members.ensures, (c.members.result, c.changed-answer.ensures, refl))
