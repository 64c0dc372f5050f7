-- The entry's reader leaves.
use Rattle.std.proofs.Common.{subst}
use Rattle.lb_threads_group.specs.Group.{LeftUnder}
use Rattle.lb_threads_group.proofs.group.SharedGroup.leave_entry.Goals as goal

pub returns : goal.returns
returns g c = subst (λ r. LeftUnder c.args.self.now.core r) c.into_reader.ensures c.leave.ensures
