-- The lane's key is the group.
use Rattle.std.proofs.Common.{IfSome, subst}
use Rattle.lb_threads_group.specs.Kept.{IsEntry}
use Rattle.lb_threads_group.proofs.group.SharedGroup.entry_in.Goals as goal

pub returns : goal.returns
returns g c =
    subst (λ v. IfSome c.value.result (λ e. IsEntry v e.now.slot e.now.reader e.now.found)) c.requires c.value.ensures
