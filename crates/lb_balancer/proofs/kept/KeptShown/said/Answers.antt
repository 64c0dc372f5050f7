-- The words are of the generation that is shown.
use Rattle.std.proofs.Common.{◌∙◌, subst}
use Rattle.std.specs.Prelude.{IfSome}
use Rattle.std.specs.Arc.{arc_value}
use Rattle.lb_balancer.specs.History.{JudgedIn}
use Rattle.lb_balancer.specs.Kept.{GenerationValue}
use Rattle.lb_balancer.proofs.Kepts.{words-of}
use Rattle.lb_balancer.proofs.kept.KeptShown.said.Goals as goal

pub returns-in-Some : goal.returns-in-Some
returns-in-Some g c b kept =
    let Words = GenerationValue g.row.D.Denot g.row.S-Config.Denot g.row.R.Denot in
    let n = (arc_value c.args.self.now.shown).generation in
    let is = c.deref.ensures ∙ words-of b n c.args.self.now.ready c.in-Some.ready c.in-Some.is kept.1 in
    subst (λ (v : Words). IfSome c.said.result (JudgedIn g.R.KeyRule.gives v.balancer v.number c.args.backend.now)) is
    c.said.ensures
