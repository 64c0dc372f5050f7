-- A slot at its start, and what a new membership finds it doing.
use Rattle.std.specs.Prelude.{ℕ, ◌||◌, [], None, if◌then◌else◌}
use Rattle.lb_rebuild_core.specs.SlotsHistory.{nothing, is_flight}
use Rattle.lb_rebuild_core.specs.Values.{SlotValue}
use Rattle.lb_rebuild_core.specs.SlotCalls.{slot_waits}
use Rattle.lb_rebuild_core.specs.declared.membership.SlotTurn.{SlotTurn}
use Rattle.lb_rebuild_core.specs.declared.membership.SlotTurn.TheVariants.{Running, Start}

-- it serves a selector of no backends, of generation 0
abbrev pub fresh_slot : {C : Type 0} → C → SlotValue C
fresh_slot c =
    record {
      serving = record { generation = 0; members = []; config = c; tickets = 0 };
      readers = 0;
      config = c;
      waiting = None;
      extra = nothing;
      left_in = 0;
      left_tickets = 0;
      permit = None;
      asked = 0;
      scheduled = 0;
      failures = 0;
      failed_at = 0;
      counts = record { published = 0; coalesced = 0; superseded = 0; failed = 0 };
      timing = None;
    }

-- whether it was busy with an earlier membership: it had a flight, or it waited
abbrev pub turn_of : {C : Type 0} → ℕ → SlotValue C → SlotTurn
turn_of newest x = if is_flight x.extra || slot_waits newest x then Running else Start
