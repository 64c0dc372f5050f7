use Rattle.std.proofs.Common.{◌≡◌, [], map, true, None}
use Rattle.lb_select_base.specs.Refusals.{least}
use Rattle.lb_rebuild_core.specs.Internal.Fresh.{fresh_slot}
use Rattle.lb_rebuild_core.specs.SlotSeen.{slot_value}
use Rattle.lb_rebuild_core.proofs.slots.fresh_slots.Given as goal

abbrev pub invariant-loop-config : goal.invariant-loop-config
invariant-loop-config g l =
    (l.cause ≡ least (map (g.S.BackendSelection.refusal []) l.yielded))
    × (l.cause ≡ None → l.is_whole ≡ true → map slot_value l.slots.items ≡ map fresh_slot l.yielded)
