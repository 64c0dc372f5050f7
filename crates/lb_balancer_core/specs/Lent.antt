-- What a plain group's port borrows apart from what its calls are stated by.
use Rattle.std.specs.Prelude.{◌≡◌}
use Rattle.lb_select_base.specs.declared.walk.BackendSelection.{Ghosts as Selection}
use Rattle.lb_balancer_core.specs.declared.plain.PlainPort.{PlainPort}

-- the same loads, and every part at the place where it was
abbrev pub SameLent :
    {S R G C W : Type 0} {of : Selection S C W} → PlainPort S R G C W of → PlainPort S R G C W of → Type 0
SameLent p q =
    (q.loads ≡ p.loads) × (q.core.ghost_name ≡ p.core.ghost_name) × (q.registry.ghost_name ≡ p.registry.ghost_name)
    × (q.gate.ghost_name ≡ p.gate.ghost_name) × (q.generator.ghost_name ≡ p.generator.ghost_name)
