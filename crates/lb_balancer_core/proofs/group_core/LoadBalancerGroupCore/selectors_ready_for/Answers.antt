use Rattle.std.proofs.Common.{ℕ, ◌≤◌, arith, refl}
use Rattle.std.proofs.lemmas.Bool.{false≢true}
use Rattle.lb_rebuild_core.specs.GroupCalls.{served_at}
use Rattle.lb_balancer_core.proofs.SlotCounts.{gone, there, up_to}
use Rattle.lb_balancer_core.proofs.group_core.LoadBalancerGroupCore.selectors_ready_for.Goals as goal

pub returns-in-None : goal.returns-in-None
returns-in-None g c made e s =
    let end = gone made c.loop-slot.slot (served_at c.loop-slot.slot e) c.served.result (c.served.ensures made e s) c.in-None.is in
    (λ _ slot lt. c.loop-slot.invariant made e s slot (omega (arith, lt, end)), λ _. refl)

pub returns-in-Some : goal.returns-in-Some
returns-in-Some g c made e s =
    let here = there made c.loop-slot.slot (served_at c.loop-slot.slot e) c.in-Some.served c.served.result
    (c.served.ensures made e s) c.in-Some.is in
    let late = c.if-served-generation.true in (
      λ f. absurd (false≢true f),
      λ all. let served = all c.loop-slot.slot here.0 in let is = here.1
          in absurd (omega (arith, served, is, late)),
    )

pub loop-slot-preserved : goal.loop-slot-preserved
loop-slot-preserved g c made e s =
    let here = there made c.loop-slot.slot (served_at c.loop-slot.slot e) c.in-Some.served c.served.result
    (c.served.ensures made e s) c.in-Some.is in
    let is = here.1 in
    let enough = c.if-served-generation.false in
    up_to (λ (slot : ℕ). c.args.generation ≤ served_at slot e) c.loop-slot.slot (c.loop-slot.invariant made e s) (omega (arith, is, enough))

pub returns : goal.returns
returns g c made e s =
    let few = s.few in
    let end = c.loop-slot-test.false in
    (λ _ slot lt. c.loop-slot.invariant made e s slot (omega (arith, few, lt, end)), λ _. refl)
