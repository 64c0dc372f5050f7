-- The words are of the balancer and the generation that contracts see.
use Rattle.std.proofs.Common.{subst, sym}
use Rattle.lb_balancer.specs.History.{FlaggedIn}
use Rattle.lb_balancer.proofs.readiness.Readiness.note_flag.Goals as goal

pub note-requires : goal.note-requires
note-requires g c =
    let flagged = c.args.flagged in
    subst (λ v. FlaggedIn v.balancer v.number c.args.backend.now flagged.cell flagged.is_enabled) (sym c.self.view_is) c.requires
