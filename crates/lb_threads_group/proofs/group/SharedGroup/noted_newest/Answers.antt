-- The number at the first place is the newest generation.
use Rattle.std.proofs.Common.{◌∙◌, ap, refl, subst}
use Rattle.lb_threads_group.specs.Numbers.{SawNewest}
use Rattle.lb_threads_group.proofs.NumberLemmas.{each}
use Rattle.lb_threads_group.proofs.group.SharedGroup.noted_newest.Goals as goal

pub returns : goal.returns
returns g c =
    let core = ap (λ k. k.value.core) c.self.invariant.7 ∙ ap (λ v. v.core) c.self.view_is in
    each c.get.result (λ n is. subst (λ site. SawNewest site n) core (is.newest refl)) c.get.ensures
