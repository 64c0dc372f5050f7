-- What is found of the kept words' generation is noted there.
use Rattle.std.proofs.Common.{sym, subst}
use Rattle.std.specs.Prelude.{IfSome}
use Rattle.std.specs.Arc.{arc_value}
use Rattle.lb_balancer.specs.History.{FlaggedIn}
use Rattle.lb_balancer.specs.Kept.{GenerationValue}
use Rattle.lb_balancer.proofs.kept.KeptShown.note_flag.Goals as goal

pub note_flag-requires : goal.note_flag-requires
note_flag-requires g c =
    let Words = GenerationValue g.row.D.Denot g.row.S-Config.Denot g.row.R.Denot in
    let flagged = c.args.flagged in
    let Has = λ (v : Words). FlaggedIn v.balancer v.number c.args.backend.now flagged.cell flagged.is_enabled in
    let at = subst (λ o. IfSome o (λ r. Has (arc_value {X = Words} r))) c.in-Some.is c.requires in
    subst Has (sym c.deref.ensures) at
