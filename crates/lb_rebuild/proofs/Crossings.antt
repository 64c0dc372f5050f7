-- A group with the pass that writes its board may be sent to a thread.
-- What a `Snapshot` shows crosses freely, which rattle's own search doesn't know: so the types that hold one, and those above, are here.
use denote.RattleType.{RattleType}
use denote.Struct.Declared.{shape}
use denote.Param.Send.{IsSend, IsSync, sendable, view_send, struct_send, recorded_send}
use Rattle.std.proofs.Crossing.{crosses}
use Rattle.std.proofs.MapsCrossing as maps
use Rattle.std.proofs.MapsCrossingOver as sets
use Rattle.lb_select_base.specs.declared.walk.BackendSelection.{Ghosts as Selection}
use Rattle.lb_select_base.proofs.backend.Backend.TheSendSync as backend
use Rattle.lb_health_view.proofs.view.ViewCore.TheSendSync as view
use Rattle.lb_rebuild_core.proofs.gate.Permit.TheSendSync as permit
use Rattle.lb_rebuild_core.proofs.identity.Identity.TheSendSync as identity
use Rattle.lb_rebuild_core.proofs.answers.Counts.TheSendSync as counts
use Rattle.lb_rebuild_core.proofs.answers.Timing.TheSendSync as timing
use Rattle.lb_rebuild_core.proofs.retired.ServedSelector.TheSendSync as serving
use Rattle.lb_rebuild_core.proofs.job.Order.TheSendSync as order
use Rattle.lb_rebuild_core.specs.contracts.slot.SlotStage as stage
use Rattle.lb_rebuild_core.specs.contracts.slot.Slot as slot
use Rattle.lb_rebuild_core.specs.contracts.slots.Slots as slots
use Rattle.lb_rebuild_core.specs.contracts.slots.Slots.TheInside as group_inside
use Rattle.lb_rebuild_core.specs.contracts.group.GroupCore as group
use Rattle.lb_rebuild_core.specs.contracts.group.GroupCore.TheInside as joined_inside
use Rattle.lb_rebuild.proofs.board.Board.TheSendSync as board
use Rattle.lb_rebuild.proofs.board.WritingPass.TheSendSync as writer
use Rattle.lb_rebuild.specs.contracts.watched.Watched as watched
use Rattle.lb_rebuild.specs.contracts.watched.Watched.TheInside as watched_inside

module _ (T C W : RattleType) (g : Selection T.Denot C.Denot W.Denot) (s : IsSend T) (sc : IsSend C)
    (y : IsSync T) (yc : IsSync C) where
  stage_send : IsSend (stage.the_field T C W g).row
  stage_send = search (sendable, serving.the_send, permit.the_send) depth 20

  slot_fields : IsSend (slot.the_field T C W g).row
  slot_fields = struct_send (shape (slot.the_type T C W g)) (
    search (sendable, crosses) depth 10,
    (
      search (sendable, serving.the_send) depth 10,
      (
        search sendable depth 10,
        (
          search (sendable, order.the_send) depth 20,
          (
            stage_send,
            (
              search sendable depth 10,
              (
                search sendable depth 10,
                (
                  search sendable depth 10,
                  (
                    search sendable depth 10,
                    (
                      search sendable depth 10,
                      (
                        search (sendable, counts.the_field_send) depth 10,
                        (search (sendable, timing.the_send) depth 20, tt),
                      ),
                    ),
                  ),
                ),
              ),
            ),
          ),
        ),
      ),
    ),
  )

  slot_send : IsSend (slot.the_row T C W g)
  slot_send = recorded_send (slot.the_field T C W g).row _ _ (slot.the_type T C W g).to_one slot_fields

  group_fields : IsSend (group_inside.the_row T C W g)
  group_fields = recorded_send (group_inside.the_field T C W g).row _ _ (group_inside.the_type T C W g).to_one
      (struct_send (shape (group_inside.the_type T C W g)) (
        search (sendable, identity.the_send) depth 10,
        (
          search (sendable, crosses) depth 10,
          (
            search sendable depth 10,
            (
              search (sendable, crosses, sets.crosses, maps.crosses, backend.the_send, backend.the_sync) depth 30,
              (
                search sendable depth 10,
                (search sendable depth 10, (search (sendable, crosses, slot_send) depth 10, tt)),
              ),
            ),
          ),
        ),
      ))

  group_send : IsSend (slots.the_row T C W g)
  group_send = view_send _ _ _ _ _ group_fields

  joined_fields : IsSend (joined_inside.the_row T C W g)
  joined_fields = recorded_send (joined_inside.the_field T C W g).row _ _ (joined_inside.the_type T C W g).to_one
      (struct_send (shape (joined_inside.the_type T C W g)) (
        search (sendable, group_send) depth 10,
        (search (sendable, view.the_send) depth 20, (search (sendable, crosses) depth 10, tt)),
      ))

  joined_send : IsSend (group.the_row T C W g)
  joined_send = view_send _ _ _ _ _ joined_fields

  watched_fields : IsSend (watched_inside.the_row T C W g)
  watched_fields = recorded_send (watched_inside.the_field T C W g).row _ _ (watched_inside.the_type T C W g).to_one
      (struct_send (shape (watched_inside.the_type T C W g)) (
        search (sendable, joined_send) depth 10,
        (search (sendable, writer.the_send) depth 10, (search (sendable, crosses, board.the_send, board.the_sync) depth 20, tt)),
      ))

  pub watched_send : IsSend (watched.the_row T C W g)
  watched_send = view_send _ _ _ _ _ watched_fields
