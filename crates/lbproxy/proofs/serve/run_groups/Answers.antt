-- What crosses to the threads of a proxy: the groups, by the bounds of this function.
use denote.Exit.{no}
use denote.Param.{param}
use denote.Param.Send.{param_send, param_sync, arg_send, arg_sync}
use Rattle.lb_balancer_group.proofs.Handles.{handle_send, handle_sync}
use Rattle.lbproxy.proofs.serve.run_groups.Goals as goal

pub run-requires-send-G : goal.run-requires-send-G
run-requires-send-G g c κs within =
    let b = c.type_bounds in
    param_send 1 _ (arg_send _ no _ (handle_send (param 0 g.row.S) (param 1 g.row.D) (param 2 g.row.K)
    (param 3 g.row.C) (param 5 g.row.S-Config) (param 6 g.row.S-Walk) g.S.BackendSelection g.K.KeyRule b.send-S b.send-S-Config
    b.sync-S b.sync-S-Config b.send-D b.sync-D b.send-K b.sync-K b.send-C b.sync-C))

pub run-requires-sync-G : goal.run-requires-sync-G
run-requires-sync-G g c κs within =
    let b = c.type_bounds in
    param_sync 1 _ (arg_sync _ no _ (handle_sync (param 0 g.row.S) (param 1 g.row.D) (param 2 g.row.K)
    (param 3 g.row.C) (param 5 g.row.S-Config) (param 6 g.row.S-Walk) g.S.BackendSelection g.K.KeyRule b.send-S b.send-S-Config
    b.sync-S b.sync-S-Config b.send-D b.sync-D b.send-K b.sync-K b.send-C b.sync-C))
