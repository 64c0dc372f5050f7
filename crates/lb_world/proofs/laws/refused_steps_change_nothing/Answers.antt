-- Each recursion goes on alike after histories that tell alike.
use Rattle.lb_world.specs.Meanings.{meaning_of}
use Rattle.lb_world.proofs.Unrefused.{run-unrefused, told-unrefused}
use Rattle.lb_world.proofs.laws.refused_steps_change_nothing.Goals as goal

pub returns : goal.returns
returns g c =
    λ h run. (run-unrefused (meaning_of g.S.BackendSelection) h run, told-unrefused (meaning_of g.S.BackendSelection) h)
