-- what the closure captures, in the order of its use: the group's handle, the runtime, the allocator and the tally
use mathlib.Core.List.{[], ◌∷◌}
use denote.Exit.{no}
use denote.Param.{param, copied}
use denote.Param.Send.{sendable}
use Rattle.std.proofs.Crossing.{crosses, Arc-send, send}
use Rattle.std.specs.contracts.alloc.Global as heap
use Rattle.std.specs.contracts.impls.GlobalAllocator.TheImpl.{ghosts}
use Rattle.std.specs.contracts.sync.Arc as Arc
use Rattle.lb_balancer_group.specs.contracts.group.LoadBalancerGroup as handle
use Rattle.lb_balancer_group.proofs.Handles.{handle_send, handle_sync}
use Rattle.lb_balancer_group.proofs.Crossings.{sent}
use Rattle.lb_soak.specs.contracts.soak_threads.Tally as tally
use Rattle.lb_soak.proofs.soak_threads.Tally.TheSendSync as crossing
use Rattle.lb_soak.proofs.soak_threads.start_user.Goals as goal

pub spawn-started-requires-send-F : goal.spawn-started-requires-send-F
spawn-started-requires-send-F g c κs within =
    let T = param 0 g.row.S in let D = param 1 g.row.D in let R = param 2 g.row.R in let H = param 3 g.row.C in
    let C = param 5 g.row.S-Config in let W = param 6 g.row.S-Walk in
    let b = c.type_bounds in
    let group = handle.the_row T D R H C W g.S.BackendSelection g.R.KeyRule in
    let s = handle_send T D R H C W g.S.BackendSelection g.R.KeyRule b.send-S b.send-S-Config b.sync-S
    b.sync-S-Config b.send-D b.sync-D b.send-R b.sync-R b.send-C b.sync-C in
    let y = handle_sync T D R H C W g.S.BackendSelection g.R.KeyRule b.send-S b.send-S-Config b.sync-S
    b.sync-S-Config b.send-D b.sync-D b.send-R b.sync-R b.send-C b.sync-C in
    sent 1 _ no _
    (Arc.the_row group heap.the_row ghosts ∷ copied 4 g.row.W ∷ heap.the_row ∷ Arc.the_row tally.the_row heap.the_row ghosts ∷ [])
    (Arc-send group s y, (b.send-W, (send, (search (sendable, crosses, crossing.the_send, crossing.the_sync) depth 20, tt))))
