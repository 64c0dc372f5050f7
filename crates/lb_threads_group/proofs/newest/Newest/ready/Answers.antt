-- The words say it, or the newest membership didn't list the backend.
use Rattle.std.proofs.Common.{◌∙◌, ap, rules, subst}
use Rattle.std.specs.Arc.{arc_value}
use Rattle.lb_threads_group.specs.Group.{NewestReadyUnder}
use Rattle.lb_threads_group.proofs.Unlisted.{unlisted-now}
use Rattle.lb_threads_group.proofs.newest.Newest.ready.Goals as goal

pub returns-in-Some : goal.returns-in-Some
returns-in-Some g c site are =
    subst (λ s. NewestReadyUnder g.R.KeyRule.gives s c.args.backend.now c.in-Some.ready) (ap (λ f. f.site) c.deref.ensures ∙ are.0)
    c.in-Some.ensures

pub returns : goal.returns
returns g c site are =
    unlisted-now g.R.KeyRule.gives site (arc_value c.args.self.now.members).keys c.args.backend.now are.1 (search rules)
