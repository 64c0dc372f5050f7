-- How a slot of the program is seen by contracts.
use Rattle.std.specs.Prelude.{ℕ, Option, Some, None}
use Rattle.std.specs.Arc.{arc_value}
use Rattle.lb_rebuild_core.specs.Gate.{GateId}
use Rattle.lb_rebuild_core.specs.SlotsHistory.{Extra, nothing, flight, lost, retired, taken_out}
use Rattle.lb_rebuild_core.specs.Values.{SlotValue}
use Rattle.lb_rebuild_core.specs.declared.slot.Slot.{Slot}
use Rattle.lb_rebuild_core.specs.declared.slot.SlotStage.{SlotStage}
use Rattle.lb_rebuild_core.specs.declared.slot.SlotStage.TheVariants as stage

abbrev pub extra_of : {S C W : Type 0} → SlotStage S C W → Extra
extra_of stage.Free = nothing
extra_of (stage.Flight n p) = flight n
extra_of (stage.Lost n p) = lost n
extra_of (stage.Retired s p) = retired s.generation
extra_of (stage.TakenOut n p) = taken_out n

-- the gate of the permit that is out for what stands there
abbrev pub permit_of : {S C W : Type 0} → SlotStage S C W → Option GateId
permit_of stage.Free = None
permit_of (stage.Flight n p) = Some p
permit_of (stage.Lost n p) = Some p
permit_of (stage.Retired s p) = Some p
permit_of (stage.TakenOut n p) = Some p

-- the counter of tickets of the retired selector that stands there
abbrev pub left_tickets_of : {S C W : Type 0} → SlotStage S C W → ℕ
left_tickets_of stage.Free = 0
left_tickets_of (stage.Flight n p) = 0
left_tickets_of (stage.Lost n p) = 0
left_tickets_of (stage.Retired s p) = s.tickets
left_tickets_of (stage.TakenOut n p) = 0

abbrev pub slot_value : {S C W : Type 0} → Slot S C W → SlotValue C
slot_value x =
    record {
      serving = x.serving;
      readers = x.readers;
      config = arc_value x.config;
      waiting = x.waiting;
      extra = extra_of x.stage;
      left_in = x.left_in;
      left_tickets = left_tickets_of x.stage;
      permit = permit_of x.stage;
      asked = x.asked;
      scheduled = x.scheduled;
      failures = x.failures;
      failed_at = x.failed_at;
      counts = x.counts;
      timing = x.timing;
    }
