-- In a run the number of a group's view is its number in the registry: how many groups were made over it.
use Rattle.std.proofs.Common.{◌≡◌, ◌<◌, ◌+◌, ◌==◌, ◌∙◌, ℕ, Bool, true, false, cond, nat_lt, List, [], ◌∷◌, ◌++◌, length, filter, refl, sym}
use Rattle.std.proofs.Common.{ap, subst, arith, length-append}
use Rattle.std.specs.Prelude.{None}
use Rattle.std.specs.List.{AllByRecursion as Each}
use Rattle.std.proofs.lemmas.Bool.{eq-eqb, ne_eqb, ltb-true, and_parts}
use mathlib.Core.Logic.{dite}
use native.Mathlib.Decide.{ℕ_discrete}
use Rattle.lb_health_core.specs.RegistryEvents as registry
use Rattle.lb_health_core.specs.RegistryEvents.{registered_after}
use Rattle.lb_rebuild_core.specs.SlotsHistory.{newest}
use Rattle.lb_world.specs.Steps.{Step}
use Rattle.lb_world.specs.Steps as step
use Rattle.lb_world.specs.declared.answer.Answer.{Answer}
use Rattle.lb_world.specs.declared.answer.Answer.TheVariants as answer
use Rattle.lb_world.specs.Meanings.{Meaning}
use Rattle.lb_world.specs.History.{History, Made, is_at, members_in, over, registries, made, made_at, slot_events}
use Rattle.lb_world.specs.Shared.{started, is_live, configs_in, view_in, let_go, extra_at, registry_at, changed, registry_events}
use Rattle.lb_world.specs.Answers.{Answers, IsRun, no_such}
use Rattle.lb_world.proofs.Accepted.{right-is, unrefused, earlier-none, right_answer}
use Rattle.lb_world.proofs.Viewing.{each-append, each-weaker}

kept-by : (b : Bool) (x e : List registry.Event) → registered_after x ≡ registered_after e
    → registered_after (cond b x e) ≡ registered_after e
kept-by true x e same = same
kept-by false x e same = refl

gone-by : (b : Bool) (id n : ℕ) (e : List registry.Event) → registered_after (cond b e (registry.Released id n ∷ e)) ≡ registered_after e
gone-by true id n e = refl
gone-by false id n e = refl

named-there : (b : Bool) → no_such b ≡ None → b ≡ true
named-there true e = refl
named-there false e = absurd (cc)

module _ {C : Type 0} where
  one-over : (r : ℕ) (b : Bool) (x : Made C) (ys zs : List (Made C)) (n : ℕ)
      → length (filter (λ (m : Made C). m.registry == r) zs) ≡ length (filter (λ (m : Made C). m.registry == r) ys) + n
      → length (cond b (x ∷ filter (λ (m : Made C). m.registry == r) zs) (filter (λ (m : Made C). m.registry == r) zs))
      ≡ length (cond b (x ∷ filter (λ (m : Made C). m.registry == r) ys) (filter (λ (m : Made C). m.registry == r) ys)) + n
  one-over r true x ys zs n e = omega arith
  one-over r false x ys zs n e = e

  last-over : (r : ℕ) (b : Bool) (y : Made C) → (y.registry == r) ≡ b → over r (y ∷ []) ≡ cond b 1 0
  last-over r true y is = rw is refl
  last-over r false y is = rw is refl

  pub over-pushed : (r : ℕ) (xs : List (Made C)) (y : Made C) → over r (xs ++ y ∷ []) ≡ over r xs + cond (y.registry == r) 1 0
  over-pushed r [] y = last-over r (y.registry == r) y refl
      ∙ (let same : cond (y.registry == r) 1 0 ≡ 0 + cond (y.registry == r) 1 0 = omega arith in same)
  over-pushed r (x ∷ xs) y = one-over r (x.registry == r) x xs (xs ++ y ∷ []) (cond (y.registry == r) 1 0) (over-pushed r xs y)

  none-over : (r : ℕ) (ms : List (Made C)) → Each (λ (m : Made C). m.registry < r) ms → over r ms ≡ 0
  none-over r [] each = refl
  none-over r (m ∷ ms) each = rw (ne_eqb m.registry r (λ e. let low : m.registry < r = each.0 in omega arith)) (none-over r ms each.1)

  other : (h : History C) (st : Step C) (a : Answer) (r : ℕ)
      → registered_after (changed h ((st, a) ∷ h) st a (registry_events r h)) ≡ registered_after (registry_events r h)
      → registered_after (registry_events r h) ≡ over r (made h) → registered_after (registry_events r ((st, a) ∷ h)) ≡ over r (made h)
  other h st a r same before = kept-by (is_at r (registry_at h st)) (changed h ((st, a) ∷ h) st a (registry_events r h))
      (registry_events r h) same ∙ before

  let-gone : (g n : ℕ) (h : History C) (e : List registry.Event) → registered_after (let_go g n h e) ≡ registered_after e
  let-gone g n h e = gone-by (is_live n (configs_in (made_at g h)) (slot_events g h)) (view_in (made_at g h)) n e

one-registered : (b : Bool) (e : List registry.Event) (x : ℕ) → registered_after e ≡ x
    → registered_after (cond b (registry.Applied ∷ registry.Registered ∷ e) e) ≡ x + cond b 1 0
one-registered true e x same = ap (λ (n : ℕ). n + 1) same
one-registered false e x same = omega (arith, same)

fresh : (healthy : Bool) (x : ℕ) → x ≡ 0 → registered_after (started healthy) ≡ x
fresh true x none = sym none
fresh false x none = sym none

module _ {C : Type 0} (M : Meaning C) where
  -- a group is made over a registry that is there
  pub made-over : (h : History C) (r b : ℕ) (cs : List C) (n : ℕ) → Answers M h (step.group r b cs) (answer.Group n)
      → r < length (registries h)
  made-over h r b cs n right =
      let told = right-is {C = C} (step.group r b cs) (right_answer M h (step.group r b cs)) (answer.Group n) right refl in
      let u = unrefused _ _ (answer.Group n) told refl in
      ltb-true r (length (registries h)) (and_parts (nat_lt r (length (registries h))) _ (named-there _ (earlier-none _ _ u.0))).0

  pub registries-there : (h : History C) → IsRun M h → Each (λ (m : Made C). m.registry < length (registries h)) (made h)
  registries-there [] run = tt
  registries-there ((step.registry rule healthy, answer.Registry n) ∷ h) run =
      each-weaker _ _
      (λ (m : Made C) low.
      let more : length (registries ((step.registry rule healthy, answer.Registry n) ∷ h)) ≡ length (registries h) + 1 =
      length-append (registries h) _ in
      omega (arith, more, low))
      (made h) (registries-there h run.0)
  registries-there ((step.group r b cs, answer.Group n) ∷ h) run =
      each-append _ (made h) _ (registries-there h run.0) (made-over h r b cs n run.1, tt)
  registries-there ((st, a) ∷ h) run = registries-there h run.0

  pub numbered : (h : History C) → IsRun M h → (r : ℕ) → r < length (registries h)
      → registered_after (registry_events r h) ≡ over r (made h)
  numbered [] run r there = absurd (omega arith)
  numbered ((step.registry rule healthy, answer.Registry n) ∷ h) run r there =
      let more : length (registries ((step.registry rule healthy, answer.Registry n) ∷ h)) ≡ length (registries h) + 1 =
      length-append (registries h) _ in
      dite (ℕ_discrete (length (registries h)) r)
      (λ at.
      rw (eq-eqb (length (registries h)) r at)
      (fresh healthy (over r (made h))
      (none-over r (made h) (subst (λ (x : ℕ). Each (λ (m : Made C). m.registry < x) (made h)) at (registries-there h run.0)))))
      (λ off. rw (ne_eqb (length (registries h)) r off) (numbered h run.0 r (omega (arith, more, there))))
  numbered ((step.group s b cs, answer.Group n) ∷ h) run r there =
      one-registered (s == r) (registry_events r h) (over r (made h)) (numbered h run.0 r there)
      ∙ sym (over-pushed r (made h) (record { registry = s; gate = b; view = over s (made h) + 1; configs = cs }))
  numbered ((step.update g now ls, answer.Generation n) ∷ h) run r there =
      other h (step.update g now ls) (answer.Generation n) r
      (let-gone g (newest (slot_events g h)) ((step.update g now ls, answer.Generation n) ∷ h)
      (registry.after_show (view_in (made_at g h)) (newest (slot_events g h) + 1) (members_in ls) (registry_events r h)))
      (numbered h run.0 r there)
  numbered ((step.build g s now, answer.BuildFailed n e) ∷ h) run r there =
      other h (step.build g s now) (answer.BuildFailed n e) r
      (let-gone g (extra_at g s h) ((step.build g s now, answer.BuildFailed n e) ∷ h) (registry_events r h)) (numbered h run.0 r there)
  numbered ((step.failbuild g s now, answer.Failed n) ∷ h) run r there =
      other h (step.failbuild g s now) (answer.Failed n) r (let-gone g (extra_at g s h) ((step.failbuild g s now, answer.Failed n) ∷ h)
      (registry_events r h)) (numbered h run.0 r there)
  numbered ((step.destroy g s, answer.Destroyed) ∷ h) run r there =
      other h (step.destroy g s) answer.Destroyed r (let-gone g (extra_at g s h) ((step.destroy g s, answer.Destroyed) ∷ h)
      (registry_events r h)) (numbered h run.0 r there)
  numbered ((step.cancel g, answer.Cancelled) ∷ h) run r there = other h (step.cancel g) answer.Cancelled r refl (numbered h run.0 r there)
  numbered ((step.targets q, answer.Targets ts) ∷ h) run r there = other h (step.targets q) (answer.Targets ts) r refl
      (numbered h run.0 r there)
  numbered ((step.verdict q c ok threshold, answer.Flipped b) ∷ h) run r there =
      other h (step.verdict q c ok threshold) (answer.Flipped b) r refl (numbered h run.0 r there)
  numbered ((st, a) ∷ h) run r there = other h st a r refl (numbered h run.0 r there)
