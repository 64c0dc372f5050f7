-- A rule without a caller's gives the keys of the cells' rule.
use Rattle.lb_world.proofs.Words.{by_address, by_identity}
use Rattle.lb_world.proofs.world.making.new_registry.Goals as goal

pub returns-in-Identity : goal.returns-in-Identity
returns-in-Identity c = rw c.in-Identity.is (c.with_rule.ensures by_identity (λ b k h. h))

pub returns-in-Address : goal.returns-in-Address
returns-in-Address c = rw c.in-Address.is (c.with_rule-in-Address.ensures by_address (λ b k h. h))
