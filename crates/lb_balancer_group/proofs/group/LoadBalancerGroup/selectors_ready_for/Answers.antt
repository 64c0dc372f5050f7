-- No slot was seen where the reading answered none, and all before it serve the generation.
use Rattle.std.proofs.Common.{◌≤◌, ℕ, inl, subst, Some}
use Rattle.std.specs.Arc.{arc_value}
use Rattle.lb_balancer_core.proofs.SlotCounts.{up_to}
use Rattle.lb_rebuild_core.specs.SlotsHistory.{served}
use Rattle.lb_threads_group.specs.Numbers.{SawOfSlot}
use Rattle.lb_balancer_group.proofs.group.LoadBalancerGroup.selectors_ready_for.Goals as goal

pub returns-in-None : goal.returns-in-None
returns-in-None g c = (
  c.loop-slot.slot,
  inl (subst (λ o. SawOfSlot served (arc_value c.args.self.now.shared).core c.loop-slot.slot o) c.in-None.is c.selector_generation.ensures),
  c.loop-slot.invariant,
)

pub loop-slot-preserved : goal.loop-slot-preserved
loop-slot-preserved g c =
    let site = (arc_value c.args.self.now.shared).core in
    let saw = subst (λ o. SawOfSlot served site c.loop-slot.slot o) c.in-Some.is c.selector_generation.ensures in
    up_to (λ (slot : ℕ). (n : ℕ) × SawOfSlot served site slot (Some n) × (c.args.generation ≤ n)) c.loop-slot.slot c.loop-slot.invariant
    (c.in-Some.served, saw, c.if-served-generation.false)
