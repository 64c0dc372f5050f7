-- An address that was refused comes before all else.
use Rattle.lb_world.proofs.Words.{inl, refl}
use Rattle.lb_world.proofs.Tables.{world-refused}
use Rattle.lb_world.proofs.world.Tables.disable.Goals as goal

pub returns-in_default : goal.returns-in_default
returns-in_default g c = rw c.in_default.is (λ h s. world-refused s (inl refl))
