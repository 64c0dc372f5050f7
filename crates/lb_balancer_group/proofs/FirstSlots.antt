-- A new group has a slot for each configuration, and nothing has happened to it.
use Rattle.std.proofs.Common.{◌≡◌, ◌∙◌, ℕ, [], List, length, ap, subst, sym}
use Rattle.lb_rebuild_core.specs.Gate.{GateId}
use Rattle.lb_rebuild_core.specs.GroupCalls.{IsGroupMade}
use Rattle.lb_rebuild_core.specs.Values.{SlotsValue}
use Rattle.lb_rebuild_core.proofs.SlotsSteps.{length-after}
use Rattle.lb_rebuild_core.specs.GroupStates.{GroupValue, Stands}
use Rattle.lb_balancer_group.specs.Made.{IsNewGroup}

module _ {C : Type 0} {gate : GateId} {registry : ℕ} {configs : List C} (v : GroupValue C) (is : IsGroupMade configs gate registry v) where
  pub slots_of_new : length v.group.slots ≡ length configs
  slots_of_new = ap (λ (x : SlotsValue C). length x.slots) is.stands.group.shows ∙ length-after gate 0 configs []

  pub new_group : IsNewGroup configs v
  new_group = subst (λ k. Stands (record { id = v.group.id; gate = k; configs = configs }) [] v) (sym is.gate) is.stands
