use Rattle.std.proofs.Common.{◌≡◌, ◌≤◌, ◌+◌, ◌∙◌, ◌||◌, true, false, List, [], ◌∷◌, ◌++◌, length, map, sym, ap, arith, rules, append_assoc}
use Rattle.std.proofs.Common.{length-append}
use Rattle.std.specs.List.{list_any}
use Rattle.lb_select_base.specs.Backends.{Member, same_member}
use Rattle.lb_health_core.specs.Fresh.{has_key}
use Rattle.lb_health_core.specs.Targets.{ViewValue, view_value, live}
use Rattle.lb_health_core.proofs.FreshLemmas.{counted_on, take_front, or_some}
use Rattle.lb_health_core.proofs.fresh.fresh_count.Goals as goal
use Rattle.lb_health_core.proofs.fresh.fresh_count.Goals.{then-is_taken, then-is_taken-via-then-is_taken}
use Rattle.lb_health_core.proofs.fresh.fresh_count.Goals.{then-is_taken-via-else-is_taken+then-shares_key}
use Rattle.lb_health_core.proofs.fresh.fresh_count.Goals.{else-is_taken+else-shares_key}

pub loop-backend-preserved : goal.loop-backend-preserved
loop-backend-preserved g c =
    let b = c.in-Some.backend.now in
    let more = c.next.new.self in
    let rest = c.loop-backend.backend-iterator in
    let keys = c.args.members.now.keys in
    let inv = c.loop-backend.invariant in
    let front = inv.0 in
    let views : List ViewValue = live (map view_value c.args.views.now) in
    let step : rest ≡ b ∷ more = search rules in
    let some : 1 + length more ≤ c.loop-backend.count = omega (arith, inv.4, ap length step) in
    let whole : (front ++ b ∷ []) ++ more ≡ keys = append_assoc front (b ∷ []) more ∙ ap (λ (r : List Member). front ++ r) (sym step)
    ∙ inv.1 in
    let placed : c.loop-backend.place + 1 ≡ length (front ++ b ∷ []) = omega (arith, inv.2, length-append front (b ∷ [])) in
    elim c.if-is_taken.branch [
      | then-is_taken w ↦ (
        front ++ b ∷ [],
        whole,
        placed,
        inv.3,
        omega (arith, w.count-is, some),
        λ key_of id rule.
            counted_on key_of views id front b rest more keys c.loop-backend.count c.if-is_taken.count true step
            (elim w.then-is_taken.branch [
              | then-is_taken-via-then-is_taken v ↦ ap (λ x. x || list_any (λ m. same_member (key_of b) (key_of m)) front)
                  (sym (c.is_taken.ensures key_of rule) ∙ v.if-is_taken.true)
              | then-is_taken-via-else-is_taken+then-shares_key v ↦
                  or_some (has_key key_of views (key_of b)) (list_any (λ m. same_member (key_of b) (key_of m)) front)
                  (sym (v.shares_key.ensures key_of rule
                  ∙ ap (list_any (λ m. same_member (key_of b) (key_of m))) (take_front c.loop-backend.place front rest keys inv.1 inv.2))
                  ∙ v.if-shares_key.true)
            ])
            (omega (arith, w.count-is, some)) (inv.5 key_of id rule),
      )
      | else-is_taken+else-shares_key w ↦ (
        front ++ b ∷ [],
        whole,
        placed,
        inv.3,
        omega (arith, w.count-is, some),
        λ key_of id rule.
            counted_on key_of views id front b rest more keys c.loop-backend.count c.if-is_taken.count false step
            (ap (λ x. x || list_any (λ m. same_member (key_of b) (key_of m)) front) (sym (c.is_taken.ensures key_of rule)
            ∙ w.if-is_taken.false)
            ∙ sym (w.shares_key.ensures key_of rule
            ∙ ap (list_any (λ m. same_member (key_of b) (key_of m))) (take_front c.loop-backend.place front rest keys inv.1 inv.2))
            ∙ w.if-shares_key.false)
            (omega (arith, w.count-is)) (inv.5 key_of id rule),
      )
    ]
