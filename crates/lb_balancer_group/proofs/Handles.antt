-- The handle of a group may be sent to a thread, and be shared by threads: where the selector, its configuration, the discovery, the rule
-- of keys and the check may.
use denote.RattleType.{RattleType}
use denote.Struct.Declared.{shape}
use denote.Param.Send.{IsSend, IsSync, sendable, struct_send, struct_sync, recorded_send, recorded_sync}
use Rattle.std.proofs.Crossing.{crosses, Arc-send, Arc-sync}
use Rattle.lb_select_base.specs.declared.walk.BackendSelection.{Ghosts as Selection}
use Rattle.lb_health_core.specs.declared.keys.KeyRule.{Ghosts as Keys}
use Rattle.lb_health_view.proofs.discovery.DiscoverySource.TheSendSync as discovery
use Rattle.lb_threads_core.proofs.registry.HealthRegistry.TheSendSync as registry
use Rattle.lb_threads_group.specs.contracts.group.SharedGroup as shared
use Rattle.lb_threads_group.proofs.Crossings.{shared_send, shared_sync}
use Rattle.lb_balancer_core.specs.contracts.configured.Configured as Configured
use Rattle.lb_balancer_core.specs.contracts.configured.SlotConfig as SlotConfig
use Rattle.lb_balancer_core.specs.contracts.configured.ConfiguredBackendSelection.TheImpl as chosen
use Rattle.lb_balancer_core.specs.contracts.configured.ConfiguredBackendSelection.TheImpl.{no_dict}
use Rattle.lb_balancer_core.proofs.configured.Configured.TheSendSync as configured
use Rattle.lb_balancer_core.proofs.configured.SlotConfig.TheSendSync as config
use Rattle.lb_balancer_group.specs.contracts.group.LoadBalancerGroup as handle

module _ (T D R H C W : RattleType) (g : Selection T.Denot C.Denot W.Denot) (k : Keys R.Denot) (s : IsSend T)
    (sc : IsSend C) (y : IsSync T) (yc : IsSync C) (sd : IsSend D) (yd : IsSync D) (sr : IsSend R) (yr : IsSync R) (sh : IsSend H)
    (yh : IsSync H) where
  abbrev served : RattleType
  served = Configured.the_row T C W

  abbrev given : RattleType
  given = SlotConfig.the_row T C W g

  abbrev slot_ghosts : Selection served.Denot given.Denot W.Denot
  slot_ghosts = chosen.ghosts T C W g no_dict no_dict no_dict no_dict

  served_send : IsSend served
  served_send = search (sendable, crosses, configured.the_send, s) depth 20

  served_sync : IsSync served
  served_sync = search (sendable, crosses, configured.the_sync, y) depth 20

  given_send : IsSend given
  given_send = search (sendable, crosses, config.the_send, sc, yc) depth 20

  given_sync : IsSync given
  given_sync = search (sendable, crosses, config.the_sync, sc, yc) depth 20

  group_send : IsSend (shared.the_row served R H given W slot_ghosts k)
  group_send =
      shared_send served R H given W slot_ghosts k served_send given_send served_sync
      given_sync sr yr sh yh

  group_sync : IsSync (shared.the_row served R H given W slot_ghosts k)
  group_sync =
      shared_sync served R H given W slot_ghosts k served_send given_send served_sync
      given_sync sr yr sh yh

  fields_send : IsSend (handle.the_field T D R H C W g k).row
  fields_send = struct_send (shape (handle.the_type T D R H C W g k)) (
    search (sendable, crosses, discovery.the_field_send) depth 20,
    (
      search (sendable, crosses, registry.the_send, registry.the_sync) depth 20,
      (
        search sendable depth 10,
        (
          search (sendable, crosses, given_send) depth 20,
          (
            Arc-send _ group_send group_sync,
            (
              search (sendable, crosses) depth 20,
              (search (sendable, crosses) depth 20, (search (sendable, crosses) depth 20, (search sendable depth 10, tt))),
            ),
          ),
        ),
      ),
    ),
  )

  pub handle_send : IsSend (handle.the_row T D R H C W g k)
  handle_send = recorded_send (handle.the_field T D R H C W g k).row _ _ (handle.the_type T D R H C W g k).to_one fields_send

  fields_sync : IsSync (handle.the_field T D R H C W g k).row
  fields_sync = struct_sync (shape (handle.the_type T D R H C W g k)) (
    search (sendable, crosses, discovery.the_field_sync) depth 20,
    (
      search (sendable, crosses, registry.the_send, registry.the_sync) depth 20,
      (
        search sendable depth 10,
        (
          search (sendable, crosses, given_sync) depth 20,
          (
            Arc-sync _ group_send group_sync,
            (
              search (sendable, crosses) depth 20,
              (search (sendable, crosses) depth 20, (search (sendable, crosses) depth 20, (search sendable depth 10, tt))),
            ),
          ),
        ),
      ),
    ),
  )

  pub handle_sync : IsSync (handle.the_row T D R H C W g k)
  handle_sync = recorded_sync (handle.the_field T D R H C W g k).row _ _ (handle.the_type T D R H C W g k).to_one fields_sync
