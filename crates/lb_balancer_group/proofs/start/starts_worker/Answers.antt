use mathlib.Core.List.{[], ◌∷◌}
use denote.Builtin.{usize}
use denote.Exit.{no}
use denote.Param.{param, copied}
use denote.Param.Send.{sendable}
use Rattle.std.proofs.Crossing.{Arc-send, send}
use Rattle.std.specs.contracts.alloc.Global as heap
use Rattle.std.specs.contracts.impls.GlobalAllocator.TheImpl.{ghosts}
use Rattle.std.specs.contracts.sync.Arc as Arc
use Rattle.lb_threads_group.specs.contracts.group.SharedGroup as shared
use Rattle.lb_threads_group.proofs.Crossings.{shared_send, shared_sync}
use Rattle.lb_balancer_group.proofs.Crossings.{sent}
use Rattle.lb_balancer_group.proofs.start.starts_worker.Goals as goal

-- what the closure captures, in the order of its use: the clock, the group, the runtime, the allocator and the slot
pub spawn-started-requires-send-F : goal.spawn-started-requires-send-F
spawn-started-requires-send-F g c κs within =
    let T = param 0 g.row.S in let R = param 1 g.row.R in let H = param 2 g.row.C in
    let C = param 5 g.row.S-Config in let W = param 6 g.row.S-Walk in
    let b = c.type_bounds in
    let group = shared.the_row T R H C W g.S.BackendSelection g.R.KeyRule in
    let s = shared_send T R H C W g.S.BackendSelection g.R.KeyRule b.send-S b.send-S-Config b.sync-S b.sync-S-Config
    b.send-R b.sync-R b.send-C b.sync-C in
    let y = shared_sync T R H C W g.S.BackendSelection g.R.KeyRule b.send-S b.send-S-Config b.sync-S b.sync-S-Config
    b.send-R b.sync-R b.send-C b.sync-C in
    sent 1 _ no _ (copied 4 g.row.K ∷ Arc.the_row group heap.the_row ghosts ∷ copied 3 g.row.W ∷ heap.the_row ∷ usize ∷ [])
    (b.send-K, (Arc-send group s y, (b.send-W, (send, (search sendable depth 20, tt)))))
