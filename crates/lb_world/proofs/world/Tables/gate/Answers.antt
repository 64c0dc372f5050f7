-- A gate that is new is not out; the others stay as they were.
use Rattle.lb_world.proofs.Words.{◌≡◌, arith, inr, length, refl}
use Rattle.lb_world.proofs.Tables.{world-refused, gate-made}
use Rattle.lb_world.proofs.world.Tables.gate.Goals as goal

pub returns-in_default : goal.returns-in_default
returns-in_default g c = λ h s. world-refused s (inr refl)

pub returns-in_default-push : goal.returns-in_default-push
returns-in_default-push g c =
    rw c.in_default-push.ensures.items (λ h s. world-refused s (inr refl))

pub returns : goal.returns
returns g c =
    let last : c.len-number.result ≡ length c.args.self.now.gates.items = omega arith in
    rw c.in-Ok-push.ensures.items (λ h s. gate-made s _ c.in-Ok.gate last c.in-Ok.ensures.free)
