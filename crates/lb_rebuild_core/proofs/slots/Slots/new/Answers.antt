-- The slots are at their start.
use Rattle.std.proofs.Common.{◌≡◌, ◌∙◌, ap, refl, []}
use Rattle.std.specs.Arc.{arc_value}
use Rattle.lb_rebuild_core.specs.Gate.{GateValue}
use Rattle.lb_rebuild_core.proofs.Memberships.{starts}
use Rattle.lb_rebuild_core.proofs.slots.Slots.new.Goals as goal

pub invariant_of-result : goal.invariant_of-result
invariant_of-result g c =
    let none : (arc_value c.in_ok-new.field-0).keys ≡ [] = ap (λ (t : _). t.keys) c.in_ok-new.ensures.ok ∙ c.new-2.ensures.empty in (
      record { id = c.in_ok-identity.identity; gate = c.of.result.value.id; configs = c.args.configs.items },
      ([], starts _ _ _ _ _ _ refl none c.in_ok-slots.ensures.1),
    )

pub returns-clause-stands : goal.returns-clause-stands
returns-clause-stands g c =
    let none : (arc_value c.in_ok-new.field-0).keys ≡ [] = ap (λ (t : _). t.keys) c.in_ok-new.ensures.ok ∙ c.new-2.ensures.empty in
    (c.in_ok-slots.ensures.0, starts _ _ _ _ _ _ (ap (λ (v : GateValue). v.id) c.of.ensures) none c.in_ok-slots.ensures.1)
