use Rattle.std.proofs.Common.{◌≡◌, ◌∙◌, Ok, ap, subst, sym}
use Rattle.lb_rebuild_core.specs.GroupCalls.{IsTaken, IsReported, IsAsked, IsPublished, IsFailed}
use Rattle.lb_rebuild_core.specs.GroupStates.{Stands}
use Rattle.lb_rebuild_core.specs.Gate.{GateValue}
use Rattle.lb_balancer_core.specs.Due.{IsClear}
use Rattle.lb_balancer_core.specs.Lent.{SameLent}
use Rattle.lb_balancer_core.proofs.Dues.{due_ends}
use Rattle.lb_balancer_core.proofs.plain.PlainPort.due_turn.Goals as goal

pub returns : goal.returns
returns g c made e st =
    let gives = g.R.KeyRule.gives in
    let same = c.extra_is_out.ensures.same in
    due_ends g.S.BackendSelection.refusal g.K.MomentSource.reads g.K.EndSource.ends (λ p. p.core.now) (λ p. p.gate.now)
    (λ p slot r q. IsTaken p.core.now slot r q.core.now × (q.registry.now ≡ p.registry.now) × (q.gate.now ≡ p.gate.now)
    × (q.generator.now ≡ p.generator.now) × SameLent p q)
    (λ p slot permit q. IsReported gives p.core.now p.registry.now p.gate.now slot permit (Ok tt) q.core.now q.registry.now
    q.gate.now
    × (q.generator.now ≡ p.generator.now) × SameLent p q)
    (λ p slot now r q. IsAsked p.core.now p.gate.now slot now r q.core.now q.gate.now × (q.registry.now ≡ p.registry.now)
    × (q.generator.now ≡ p.generator.now) × SameLent p q)
    (λ p b t q. IsPublished p.core.now b (Ok t) q.core.now × (q.registry.now ≡ p.registry.now) × (q.gate.now ≡ p.gate.now)
    × (q.generator.now ≡ p.generator.now) × SameLent p q)
    (λ p r now q. IsFailed gives p.core.now p.registry.now p.gate.now r.task now (Ok tt) q.core.now q.registry.now
    q.gate.now
    × (q.generator.now ≡ p.generator.now) × SameLent p q)
    (λ p x a q is. (is.0, is.2)) (λ p x u q is. (is.0.stands, ap (λ (v : GateValue). v.out) is.0.gate)) (λ p x now a q is. is.0)
    (λ p b u q is. is.0) (λ p r now q is. is.0.stands)
    c.args.slot c.extra_is_out.new.self c.worker_turn.new.port c.args.clock.now c.worker_turn.new.clock c.worker_turn.result
    (λ made e at_. let is = c.requires made e (subst (λ v. Stands made e v) same.0 at_) in
    (is.0, subst (λ (k : GateValue). IsClear k e c.args.slot) (sym same.1) is.1))
    (λ made e at_ there is. ap (λ (k : GateValue). k.out) same.1
    ∙ c.extra_is_out.ensures.out made e (subst (λ v. Stands made e v) same.0 at_) there is)
    c.worker_turn.ensures made e (subst (λ v. Stands made e v) (sym same.0) st)
