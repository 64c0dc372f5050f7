-- Settings leave the registry as it was, and what is served took them.
use Rattle.std.proofs.Common.{◌∙◌, sym}
use Rattle.lb_health_view.specs.RegistrySide.{settings_of}
use Rattle.lb_threads_core.proofs.Histories.{later, stays}
use Rattle.lb_balancer.proofs.Served.{known, updated}
use Rattle.lb_balancer.proofs.balancing.Balancing.keep.Goals as goal

pub put_registry-requires-clause-registry : goal.put_registry-requires-clause-registry
put_registry-requires-clause-registry g c = later c.take_registry-cells.ensures.registry (stays c.keep.ensures.registry)

pub note_settings-requires : goal.note_settings-requires
note_settings-requires g c =
    let is = c.self.invariant.0 ∙ c.self.view_is in
    updated c.args.self.now (known is c.take-held.ensures.fact) c.keep.ensures.config c.keep.ensures.id c.args.members.keys
    (settings_of c.args.settings.entries) c.requires c.keep.ensures.took

pub put-requires-2-clause-fact : goal.put-requires-2-clause-fact
put-requires-2-clause-fact g c =
    let is = c.self.invariant.0 ∙ c.self.view_is in
    known (sym is) (updated c.args.self.now (known is c.take-held.ensures.fact) c.keep.ensures.config
    c.keep.ensures.id c.args.members.keys (settings_of c.args.settings.entries) c.requires c.keep.ensures.took)

pub returns : goal.returns
returns g c =
    let is = c.self.invariant.0 ∙ c.self.view_is in
    let was = known is c.take-held.ensures.fact in (
      c.take-held.result.value.served,
      (
        c.keep.new.self,
        (
          was,
          (
            updated c.args.self.now was c.keep.ensures.config c.keep.ensures.id c.args.members.keys
                (settings_of c.args.settings.entries) c.requires c.keep.ensures.took,
            c.keep.ensures.taken,
          ),
        ),
      ),
    )
