use Rattle.std.proofs.Common.{◌≡◌, ◌+◌, ◌<◌, sym, subst, List, ◌∷◌, drop, length, add-one, drop-cons, ap, ◌∙◌, suc}
use Rattle.lb_health_core.specs.declared.targets.Target.{Target}
use Rattle.lb_health_view.specs.Passes.{Passes, AreKept}
use Rattle.lb_health_view.proofs.PassLemmas.{reached}
use Rattle.lb_health_view.proofs.passes.check_all.Goals as goal

pub loop-target-preserved : goal.loop-target-preserved
loop-target-preserved g c = (
  c.check_one.ensures.one ∙ c.loop-target.invariant.0,
  λ key_of events r kept.
      let answers = g.C.HealthCheck.answers c.args.check.now in
      let threshold = g.C.HealthCheck.threshold c.args.check.now in
      let so_far = c.loop-target.invariant.1 key_of events r kept in
      let one = c.check_one.ensures.after key_of so_far.0 so_far.1 in
      let x : Target = c.target-item.result in
      let i = c.loop-target.target-index in
      let inside : i < length c.args.targets.now = c.loop-target-test.true in
      let rest : drop i c.args.targets.now ≡ x ∷ drop (i + 1) c.args.targets.now =
      rw add-one (drop-cons c.args.targets.now i x inside ∙ ap (λ y. y ∷ drop (suc i) c.args.targets.now) (sym c.target-item.is)) in
      let still = subst (λ (ts : List Target). AreKept key_of ts so_far.0) rest so_far.2 in
      let there = reached key_of x (drop (i + 1) c.args.targets.now) _ so_far.0 one.2 one.3 still in (
        one.2,
        one.4,
        there.1,
        λ after passes. so_far.3 after
            (subst (λ (ts : List Target). Passes answers threshold ts so_far.0 after) (sym rest)
            (one.0, one.1, subst (λ es. Passes answers threshold (drop (i + 1) c.args.targets.now) es after) there.0 passes)),
      ),
)
