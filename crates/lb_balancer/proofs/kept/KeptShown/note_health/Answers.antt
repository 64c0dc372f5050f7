-- The words are of the registry of the kept ones.
use Rattle.std.proofs.Common.{sym, subst}
use Rattle.std.specs.Prelude.{IfSome}
use Rattle.std.specs.Arc.{arc_value}
use Rattle.lb_threads_core.specs.CellWords.{WasHealthy}
use Rattle.lb_balancer.specs.Kept.{GenerationValue}
use Rattle.lb_balancer.proofs.kept.KeptShown.note_health.Goals as goal

pub note_health-requires : goal.note_health-requires
note_health-requires g c =
    let Words = GenerationValue g.row.D.Denot g.row.S-Config.Denot g.row.R.Denot in
    let Was = λ (v : Words). WasHealthy g.R.KeyRule.gives v.balancer.registry c.args.cell c.args.healthy in
    let at = subst (λ o. IfSome o (λ r. Was (arc_value {X = Words} r))) c.in-Some.is c.requires in
    subst Was (sym c.deref.ensures) at
