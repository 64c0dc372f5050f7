-- The checked targets are those of the registry after its marks were applied; their cells are kept.
use Rattle.std.proofs.Common.{◌∷◌, ◌∙◌, List, sym, subst}
use Rattle.lb_health_core.specs.RegistryEvents.{Applied}
use Rattle.lb_health_core.specs.declared.targets.Target.{Target}
use Rattle.lb_health_view.specs.Passes.{Passes, AreKept}
use Rattle.lb_health_view.proofs.PassLemmas.{targets_kept}
use Rattle.lb_health_view.proofs.passes.run_health_check.Goals as goal

pub returns : goal.returns
returns g c = record {
  ok = λ key_of events r.
      let applied = c.in_ok-targets.ensures.listed.ok key_of events r in
      let checked = c.as_slice.ensures.value ∙ c.in_ok-targets.ensures.listed.answers key_of events r in
      let kept = subst (λ (ts : List Target). AreKept key_of ts (Applied ∷ events)) (sym checked)
      (targets_kept key_of (Applied ∷ events)) in
      let passed = c.check_all.ensures.after key_of (Applied ∷ events) applied kept in (
        passed.0,
        subst (λ (ts : List Target). Passes (g.C.HealthCheck.answers c.args.check.now) (g.C.HealthCheck.threshold c.args.check.now) ts
            (Applied ∷ events) passed.0) checked passed.1,
        passed.2,
      );
  err = tt;
  exhausted = λ key_of events r. (
    λ clash. absurd (cc),
    λ many. let clash = (c.in_ok-targets.ensures.listed.exhausted key_of events r).1 many in absurd (cc),
  );
  refused = tt;
  same_registry = c.check_all.ensures.one ∙ c.in_ok-targets.ensures.one;
}
