-- What a group is that was just made.
use Rattle.std.specs.Prelude.{◌≡◌, ◌<◌, List, [], Option, None, Result, Ok, Err}
use Rattle.lb_select_base.specs.declared.refusal.Refusal.{Refusal}
use Rattle.lb_rebuild_core.specs.SlotsHistory.{newest}
use Rattle.lb_rebuild_core.specs.GroupCalls.{IsMakingRefusal}
use Rattle.lb_rebuild_core.specs.GroupHistory.{slot_events}
use Rattle.lb_rebuild_core.specs.GroupStates.{After, GroupValue, Stands}
use Rattle.lb_threads_group.specs.Group.{Seen}
use Rattle.lb_balancer_group.specs.declared.gate_refusal.GateRefusal.{GateRefusal}
use Rattle.lb_balancer_group.specs.declared.gate_refusal.GateRefusal.TheVariants.{WasUpdated, NotMade}

-- nothing has happened to it, and it has a slot for each of these configurations
abbrev pub IsNewGroup : {C : Type 0} → List C → GroupValue C → Type 0
IsNewGroup configs v = Stands (record { id = v.group.id; gate = v.group.gate; configs = configs }) [] v

-- A group takes another gate unless it was seen past generation 0, or can't be made with that gate.
abbrev pub IsGateRefusal : {C : Type 0} → GroupValue C → Option Refusal → Result (Unit {0}) GateRefusal → Type 0
IsGateRefusal site cause (Ok a) = cause ≡ None
IsGateRefusal site cause (Err WasUpdated) = Seen site (λ v. After v (λ made e. 0 < newest (slot_events e)))
IsGateRefusal site cause (Err (NotMade e)) = IsMakingRefusal {A = Unit {0}} cause (Err e)
