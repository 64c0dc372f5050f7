-- The number at that place is of this slot.
use Rattle.std.proofs.Common.{◌∙◌, Some, ap, subst}
use Rattle.lb_rebuild_core.specs.SlotsHistory.{served}
use Rattle.lb_threads_group.specs.Numbers.{SawOfSlot}
use Rattle.lb_threads_group.proofs.NumberLemmas.{each}
use Rattle.lb_threads_group.proofs.group.SharedGroup.noted_served.Goals as goal

pub returns : goal.returns
returns g c =
    let core = ap (λ k. k.value.core) c.self.invariant.7 ∙ ap (λ v. v.core) c.self.view_is in
    each c.get.result
    (λ n is. subst (λ site. SawOfSlot served site c.args.slot (Some n)) core (is.served c.args.slot c.in_ok-place.ensures)) c.get.ensures
