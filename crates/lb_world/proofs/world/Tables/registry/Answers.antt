-- A registry that is new has the events with which it starts; the others stay as they were.
use Rattle.lb_world.proofs.Words.{◌≡◌, arith, inr, length, refl}
use Rattle.lb_world.proofs.Tables.{world-refused, registry-made}
use Rattle.lb_world.proofs.world.Tables.registry.Goals as goal

pub returns-in_default : goal.returns-in_default
returns-in_default g c =
    rw c.in_default.ensures.items
    (λ h s. world-refused s (inr refl))

pub returns : goal.returns
returns g c =
    let last : c.len-number.result ≡ length c.args.self.now.registries.items = omega arith in
    rw c.in-Ok.ensures.items
    (λ h s. registry-made s c.args.rule c.args.healthy _ c.started_registry-registry.result last c.started_registry-registry.ensures)
