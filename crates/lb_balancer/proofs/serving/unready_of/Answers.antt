-- Each member is looked at in turn, and put in where it isn't ready.
use Rattle.std.proofs.Common.{◌≡◌, rules, false, true, List, [], ◌∷◌, subst, sym}
use Rattle.lb_select_base.specs.Backends.{Member}
use Rattle.lb_health_view.specs.ViewEvents.{membership_after}
use Rattle.lb_balancer_core.specs.Balancer.{IsJudged}
use Rattle.lb_balancer.proofs.Parted.{IsParted, parted-all, parted-first, parted-ready, parted-unready}
use Rattle.lb_balancer.proofs.serving.unready_of.Goals as goal

pub loop-backend-init : goal.loop-backend-init
loop-backend-init g c views after =
    let right = IsJudged g.R.KeyRule.gives c.args.served.now.view c.args.registry.now in
    let gives = c.into_iter-backend-iterator.ensures.into_iter_gives in
    let keys = c.members-backend-items.result.now.keys in
    let all : keys ≡ membership_after views = c.members-backend-items.ensures views after in
    let none : c.new-unready.result.keys ≡ [] = search rules in
    subst (λ (us : List Member). IsParted right (membership_after views) us c.into_iter-backend-iterator.result) (sym none)
    (subst (λ (ms : List Member). IsParted right ms [] c.into_iter-backend-iterator.result) all
    (subst (λ (rest : List Member). IsParted right keys [] rest) (sym gives.0) (parted-first right keys gives.4)))

pub loop-backend-preserved : goal.loop-backend-preserved
loop-backend-preserved g c views after =
    let right = IsJudged g.R.KeyRule.gives c.args.served.now.view c.args.registry.now in
    let all = membership_after views in
    let us = c.loop-backend.unready.keys in
    let b = c.in-Some.backend.now in
    let step : c.loop-backend.backend-iterator ≡ b ∷ c.next.new.self = search rules in
    let ready : c.ready.result ≡ true = search rules in
    parted-ready right all us b c.next.new.self (subst (IsParted right all us) step (c.loop-backend.invariant views after))
    (subst (right b) ready c.ready.ensures)

pub loop-backend-preserved-in_ok-insert : goal.loop-backend-preserved-in_ok-insert
loop-backend-preserved-in_ok-insert g c views after =
    let right = IsJudged g.R.KeyRule.gives c.args.served.now.view c.args.registry.now in
    let all = membership_after views in
    let us = c.loop-backend.unready.keys in
    let b = c.in-Some.backend.now in
    let step : c.loop-backend.backend-iterator ≡ b ∷ c.next.new.self = search rules in
    let unready : c.ready.result ≡ false = search rules in
    parted-unready right all us c.insert.new.self.keys b c.next.new.self
    (subst (IsParted right all us) step (c.loop-backend.invariant views after)) (subst (right b) unready c.ready.ensures)
    (search rules)

pub returns-clause-judged : goal.returns-clause-judged
returns-clause-judged g c views after =
    let right = IsJudged g.R.KeyRule.gives c.args.served.now.view c.args.registry.now in
    let us = c.loop-backend.unready.keys in
    let over : c.loop-backend.backend-iterator ≡ [] = search rules in
    parted-all right (membership_after views) us
    (subst (IsParted right (membership_after views) us) over (c.loop-backend.invariant views after))
