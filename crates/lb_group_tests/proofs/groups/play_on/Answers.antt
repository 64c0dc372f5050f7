-- What crosses to the threads of a case: the handles, by the bounds of this function.
use denote.Exit.{no}
use denote.Param.{param}
use denote.Param.Send.{param_sync, arg_sync}
use Rattle.lb_balancer_group.proofs.Handles.{handle_sync}
use Rattle.lb_group_tests.proofs.groups.play_on.Goals as goal

pub play_groups_of-requires-sync-H : goal.play_groups_of-requires-sync-H
play_groups_of-requires-sync-H g c κs within =
    let b = c.type_bounds in
    param_sync 0 _ (arg_sync _ no _ (handle_sync (param 0 g.row.S) (param 1 g.row.D) (param 2 g.row.R)
    (param 3 g.row.C) (param 6 g.row.S-Config) (param 7 g.row.S-Walk)
    g.S.BackendSelection g.R.KeyRule b.send-S b.send-S-Config b.sync-S b.sync-S-Config b.send-D b.sync-D
    b.send-R b.sync-R b.send-C b.sync-C))
