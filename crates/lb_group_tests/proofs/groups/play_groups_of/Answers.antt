-- What crosses to the threads of a case: the groups, by the bounds of this function.
use denote.Exit.{no}
use denote.Param.{param}
use denote.Param.Send.{param_send, param_sync, arg_send, arg_sync}
use Rattle.lb_threads_group.proofs.Crossings.{shared_send, shared_sync}
use Rattle.lb_group_tests.proofs.groups.play_groups_of.Goals as goal

pub play_crowd-requires-send-G : goal.play_crowd-requires-send-G
play_crowd-requires-send-G g c κs within =
    let b = c.type_bounds in
    param_send 1 _ (arg_send _ no _ (shared_send (param 1 g.row.T) (param 2 g.row.R) (param 3 g.row.C)
    (param 6 g.row.T-Config) (param 7 g.row.T-Walk)
    g.T.BackendSelection g.R.KeyRule b.send-T b.send-T-Config b.sync-T b.sync-T-Config b.send-R b.sync-R b.send-C b.sync-C))

pub play_crowd-requires-sync-G : goal.play_crowd-requires-sync-G
play_crowd-requires-sync-G g c κs within =
    let b = c.type_bounds in
    param_sync 1 _ (arg_sync _ no _ (shared_sync (param 1 g.row.T) (param 2 g.row.R) (param 3 g.row.C)
    (param 6 g.row.T-Config) (param 7 g.row.T-Walk)
    g.T.BackendSelection g.R.KeyRule b.send-T b.send-T-Config b.sync-T b.sync-T-Config b.send-R b.sync-R b.send-C b.sync-C))
