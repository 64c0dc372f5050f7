use Rattle.std.proofs.Common.{arith}
use Rattle.lb_health_core.proofs.StateLemmas.{seen}
use Rattle.lb_health_core.proofs.registry.Registry.numbers_left.Goals as goal

pub returns : goal.returns
returns g c =
    λ key_of events r.
    let now = seen g.R.KeyRule.gives key_of events _ _ c.self.view_is r in
    omega (arith, now.state.cells.numbering.given, now.state.fits)
