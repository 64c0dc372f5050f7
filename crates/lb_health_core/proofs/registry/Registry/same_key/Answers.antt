use Rattle.lb_health_core.proofs.StateLemmas.{seen}
use Rattle.lb_health_core.proofs.registry.Registry.same_key.Goals as goal

pub returns : goal.returns
returns g c =
    λ key_of events r.
    let now = seen g.R.KeyRule.gives key_of events _ _ c.self.view_is r in c.same.ensures key_of now.rule
