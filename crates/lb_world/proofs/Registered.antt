-- In a run the view of a group that is not cancelled is registered, and no mark waits for it.
use Rattle.std.proofs.Common.{◌≡◌, inl, inr, ◌<◌, ◌≤◌, ◌+◌, ◌==◌, ◌&&◌, ◌||◌, ◌∙◌, ℕ, zero, suc, Bool, true, false, not, cond, List, []}
use Rattle.std.proofs.Common.{◌∷◌, ◌++◌, length, refl, sym, ap, subst, arith}
use Rattle.std.specs.Prelude.{Option, Some, slice_get}
use Rattle.std.specs.Option.{option_map}
use Rattle.std.specs.List.{AllByRecursion as Each}
use Rattle.std.proofs.lemmas.Bool.{eq-eqb, ne_eqb, eqb-true}
use Rattle.std.proofs.lemmas.Option.{none-some, same_Some}
use mathlib.Core.Logic.{dite}
use native.Mathlib.Decide.{ℕ_discrete}
use Rattle.lb_select_base.specs.Backends.{Member}
use Rattle.lb_health_core.specs.RegistryEvents as registry
use Rattle.lb_health_core.specs.RegistryEvents.{registered_after, views_after, is_view, has_view, at_view, with_members, with_mark}
use Rattle.lb_health_core.specs.RegistryEvents.{new_view}
use Rattle.lb_health_core.specs.Targets.{ViewValue, live}
use Rattle.lb_rebuild_core.specs.SlotsHistory as slots
use Rattle.lb_rebuild_core.specs.SlotsHistory.{newest, is_cancelled}
use Rattle.lb_world.specs.Steps.{Step}
use Rattle.lb_world.specs.Steps as step
use Rattle.lb_world.specs.declared.answer.Answer.{Answer}
use Rattle.lb_world.specs.declared.answer.Answer.TheVariants as answer
use Rattle.lb_world.specs.Meanings.{Meaning}
use Rattle.lb_world.specs.History.{History, Made, is_at, members_in, over, registries, made, made_at, registry_of, group_at}
use Rattle.lb_world.specs.History.{slot_events}
use Rattle.lb_world.specs.Shared.{is_live, configs_in, view_in, let_go, extra_at, registry_at, changed, registry_events}
use Rattle.lb_world.specs.Answers.{IsRun}
use Rattle.lb_world.specs.Promises.{IsRegistered}
use Rattle.lb_world.proofs.Absent.{found}
use Rattle.lb_world.proofs.Together.{get-pushed}
use Rattle.lb_world.proofs.Numbering.{over-pushed, made-over, registries-there, numbered}
use Rattle.lb_world.proofs.Own.{happened, own-step}

-- what the calls of a registry leave of a view
and-false : (b : Bool) → (b && false) ≡ false
and-false true = refl
and-false false = refl

either-or : (a b c : Bool) → (b ≡ true → c ≡ true) → (a || b) ≡ true → (a || c) ≡ true
either-or true b c f e = refl
either-or false b c f e = f e

live-has : (id : ℕ) (vs : List ViewValue) → has_view id vs ≡ true → has_view id (live vs) ≡ true
live-has id [] e = e
live-has id (v ∷ vs) e = by-mark v.marked refl (live-has id vs)
  where
    by-mark : (m : Bool) → v.marked ≡ m → (has_view id vs ≡ true → has_view id (live vs) ≡ true)
        → has_view id (cond (not m) (v ∷ live vs) (live vs)) ≡ true
    by-mark true is rest =
        rest (sym (ap (λ (b : Bool). (v.id == id && not b) || has_view id vs) is
        ∙ ap (λ (b : Bool). b || has_view id vs) (and-false (v.id == id))) ∙ e)
    by-mark false is rest = either-or (is_view id v) (has_view id vs) (has_view id (live vs)) rest e

pushed-has : (id : ℕ) (vs : List ViewValue) (x : ViewValue) → has_view id vs ≡ true → has_view id (vs ++ x ∷ []) ≡ true
pushed-has id [] x e = absurd (cc)
pushed-has id (v ∷ vs) x e = either-or (is_view id v) (has_view id vs) (has_view id (vs ++ x ∷ [])) (pushed-has id vs x) e

last-has : (id : ℕ) (vs : List ViewValue) → has_view id (vs ++ new_view id ∷ []) ≡ true
last-has id [] = rw (eq-eqb id id refl) refl
last-has id (v ∷ vs) = or-true (is_view id v) (last-has id vs)
  where
    or-true : (a : Bool) {b : Bool} → b ≡ true → (a || b) ≡ true
    or-true true e = refl
    or-true false e = e

updated-has : (id at : ℕ) (ms : List Member) (vs : List ViewValue) → has_view id vs ≡ true
    → has_view id (at_view at (with_members ms) vs) ≡ true
updated-has id at ms [] e = e
updated-has id at ms (v ∷ vs) e = by-view (is_view at v) (updated-has id at ms vs)
  where
    by-view : (b : Bool) → (has_view id vs ≡ true → has_view id (at_view at (with_members ms) vs) ≡ true)
        → has_view id (cond b (with_members ms v ∷ vs) (v ∷ at_view at (with_members ms) vs)) ≡ true
    by-view true rest = e
    by-view false rest = either-or (is_view id v) (has_view id vs) (has_view id (at_view at (with_members ms) vs)) rest e

marked-has : (id at : ℕ) (vs : List ViewValue) → ¬ (id ≡ at) → has_view id vs ≡ true → has_view id (at_view at with_mark vs) ≡ true
marked-has id at [] off e = e
marked-has id at (v ∷ vs) off e = by-view (is_view at v) refl (marked-has id at vs off)
  where
    first-of : (a b : Bool) → (a && b) ≡ true → a ≡ true
    first-of true b e = refl
    first-of false b e = e

    by-view : (b : Bool) → is_view at v ≡ b → (has_view id vs ≡ true → has_view id (at_view at with_mark vs) ≡ true)
        → has_view id (cond b (with_mark v ∷ vs) (v ∷ at_view at with_mark vs)) ≡ true
    by-view true is rest =
        let here : v.id ≡ at = eqb-true v.id at (first-of (v.id == at) (not v.marked) is) in
        let apart : (v.id == id) ≡ false = ne_eqb v.id id (λ s. off (sym s ∙ here)) in
        rw apart (rw apart at e)
    by-view false is rest = either-or (is_view id v) (has_view id vs) (has_view id (at_view at with_mark vs)) rest e

gone-views : (b : Bool) (id n : ℕ) (e : List registry.Event) → views_after (cond b e (registry.Released id n ∷ e)) ≡ views_after e
gone-views true id n e = refl
gone-views false id n e = refl

-- two groups over one registry have views of different numbers
module _ {C : Type 0} where
  abbrev Numbers : List (Made C) → Type 0
  Numbers ms =
      (g i : ℕ) (m n : Made C) → slice_get ms g ≡ Some m → slice_get ms i ≡ Some n → n.registry ≡ m.registry → ¬ (i ≡ g)
      → ¬ (m.view ≡ n.view)

  abbrev Within : List (Made C) → Type 0
  Within ms = (g : ℕ) (m : Made C) → slice_get ms g ≡ Some m → m.view ≤ over m.registry ms

  over-more : (r : ℕ) (ms : List (Made C)) (x : Made C) → over r ms ≤ over r (ms ++ x ∷ [])
  over-more r ms x = let is = over-pushed r ms x in either (x.registry == r) is
    where
      either : (b : Bool) → over r (ms ++ x ∷ []) ≡ over r ms + cond b 1 0 → over r ms ≤ over r (ms ++ x ∷ [])
      either true is = omega (arith, is)
      either false is = omega (arith, is)

  within-pushed : (ms : List (Made C)) (x : Made C) → x.view ≡ over x.registry ms + 1 → Within ms → Within (ms ++ x ∷ [])
  within-pushed ms x new within g m there =
      elim (get-pushed ms x m g there) [
        | inl q ↦
            subst (λ (y : Made C). y.view ≤ over y.registry (ms ++ x ∷ [])) (sym q.1)
            (let more : over x.registry (ms ++ x ∷ []) ≡ over x.registry ms + 1 =
            over-pushed x.registry ms x ∙ ap (λ (b : Bool). over x.registry ms + cond b 1 0) (eq-eqb x.registry x.registry refl) in
            omega (arith, new, more))
        | inr q ↦
            let old : m.view ≤ over m.registry ms = within g m q.1 in
            let more = over-more m.registry ms x in omega (arith, old, more)
      ]

  numbers-pushed : (ms : List (Made C)) (x : Made C) → x.view ≡ over x.registry ms + 1 → Within ms → Numbers ms → Numbers (ms ++ x ∷ [])
  numbers-pushed ms x new within numbers g i m n there here same off =
      elim (get-pushed ms x m g there) [
        | inl q ↦ elim (get-pushed ms x n i here) [
          | inl p ↦ absurd (off (p.0 ∙ sym q.0))
          | inr p ↦ λ e.
              let low : n.view ≤ over n.registry ms = within i n p.1 in
              let high : m.view ≡ over n.registry ms + 1 = ap (λ (y : Made C). y.view) q.1 ∙ new
              ∙ ap (λ (r : ℕ). over r ms + 1) (ap (λ (y : Made C). y.registry) (sym q.1) ∙ sym same) in
              omega (arith, e, low, high)
        ]
        | inr q ↦ elim (get-pushed ms x n i here) [
          | inl p ↦ λ e.
              let low : m.view ≤ over m.registry ms = within g m q.1 in
              let high : n.view ≡ over m.registry ms + 1 = ap (λ (y : Made C). y.view) p.1 ∙ new
              ∙ ap (λ (r : ℕ). over r ms + 1) (ap (λ (y : Made C). y.registry) (sym p.1) ∙ same) in
              omega (arith, e, low, high)
          | inr p ↦ numbers g i m n q.1 p.1 same off
        ]
      ]

  within-made : (h : History C) → Within (made h)
  within-made [] = λ g m there. absurd (none-some m there)
  within-made ((step.group r b cs, answer.Group n) ∷ h) = within-pushed (made h) _ refl (within-made h)
  within-made ((st, a) ∷ h) = within-made h

  numbers-made : (h : History C) → Numbers (made h)
  numbers-made [] = λ g i m n there. absurd (none-some m there)
  numbers-made ((step.group r b cs, answer.Group n) ∷ h) = numbers-pushed (made h) _ refl (within-made h) (numbers-made h)
  numbers-made ((st, a) ∷ h) = numbers-made h

each-get : {X : Type 0} (P : X → Type 0) (xs : List X) (i : ℕ) (x : X) → Each P xs → slice_get xs i ≡ Some x → P x
each-get P [] i x each e = absurd (none-some x e)
each-get P (y ∷ xs) zero x each e = subst P (same_Some y x e) each.0
each-get P (y ∷ xs) (suc i) x each e = each-get P xs i x each.1 e

-- what was cancelled before still is
uncancelled-by : (b : Bool) (es k : slots.History) → is_cancelled (cond b (es ++ k) k) ≡ false → is_cancelled k ≡ false
uncancelled-by true [] k e = e
uncancelled-by true (slots.Scheduled ms now ∷ es) k e = uncancelled-by true es k e
uncancelled-by true (slots.Cancelled ∷ es) k e = absurd (cc)
uncancelled-by true (slots.At i x ∷ es) k e = uncancelled-by true es k e
uncancelled-by false es k e = e

module _ {C : Type 0} where
  uncancelled : (h : History C) (st : Step C) (a : Answer) (g : ℕ) → is_cancelled (slot_events g ((st, a) ∷ h)) ≡ false
      → is_cancelled (slot_events g h) ≡ false
  uncancelled h st a g on =
      uncancelled-by (is_at g (group_at h st)) (happened h (slot_events g h) st a) (slot_events g h)
      (sym (ap is_cancelled (own-step g h st a)) ∙ on)

  -- a step that leaves the view where it is
  keeps : (h : History C) (st : Step C) (a : Answer) (r id : ℕ) → (has_view id (views_after (registry_events r h)) ≡ true
      → has_view id (views_after (changed h ((st, a) ∷ h) st a (registry_events r h))) ≡ true)
      → has_view id (views_after (registry_events r h)) ≡ true → has_view id (views_after (registry_events r ((st, a) ∷ h))) ≡ true
  keeps h st a r id step before = either (is_at r (registry_at h st))
    where
      either : (b : Bool) → has_view id (views_after (cond b (changed h ((st, a) ∷ h) st a (registry_events r h)) (registry_events r h))) ≡
          true
      either true = step before
      either false = before

  lets-go : (g n id : ℕ) (h : History C) (e : List registry.Event) → has_view id (views_after e) ≡ true
      → has_view id (views_after (let_go g n h e)) ≡ true
  lets-go g n id h e has =
      ap (has_view id) (gone-views (is_live n (configs_in (made_at g h)) (slot_events g h)) (view_in (made_at g h)) n e) ∙ has

module _ {C : Type 0} (M : Meaning C) where
  abbrev Goal : ℕ → Made C → History C → Type 0
  Goal g m h = has_view m.view (views_after (registry_events m.registry h)) ≡ true

  pub is-registered : (h : History C) → IsRun M h → (g : ℕ) → IsRegistered g h
  is-registered [] run g m there on = absurd (none-some m there)
  is-registered ((step.registry rule healthy, answer.Registry n) ∷ h) run g m there on =
      let low : m.registry < length (registries h) = each-get _ (made h) g m (registries-there M h run.0) there in
      rw (ne_eqb (length (registries h)) m.registry (λ e. omega (arith, e, low))) (is-registered h run.0 g m there on)
  is-registered ((step.group r b cs, answer.Group n) ∷ h) run g m there on =
      elim (get-pushed (made h) _ m g there) [
        | inl new ↦
            subst (λ (x : Made C). has_view x.view (views_after (registry_events x.registry ((step.group r b cs, answer.Group n) ∷ h))) ≡
            true) (sym new.1)
            (rw (eq-eqb r r refl)
            (subst (λ (x : ℕ). has_view (x + 1)
            (live (views_after (registry_events r h) ++ new_view (registered_after (registry_events r h) + 1) ∷ [])) ≡ true)
            (numbered M h run.0 r (made-over M h r b cs n run.1))
            (live-has (registered_after (registry_events r h) + 1) _
            (last-has (registered_after (registry_events r h) + 1) (views_after (registry_events r h))))))
        | inr old ↦
            keeps h (step.group r b cs) (answer.Group n) m.registry m.view
            (λ has. live-has m.view _ (pushed-has m.view (views_after (registry_events m.registry h)) _ has))
            (is-registered h run.0 g m old.1 on)
      ]
  is-registered ((step.update at now ls, answer.Generation n) ∷ h) run g m there on =
      keeps h (step.update at now ls) (answer.Generation n) m.registry m.view
      (λ has.
      lets-go at (newest (slot_events at h)) m.view ((step.update at now ls, answer.Generation n) ∷ h) _
      (updated-has m.view (view_in (made_at at h)) (members_in ls) (live (views_after (registry_events m.registry h)))
      (live-has m.view (views_after (registry_events m.registry h)) has)))
      (is-registered h run.0 g m there (uncancelled h (step.update at now ls) (answer.Generation n) g on))
  is-registered ((step.build at s now, answer.BuildFailed n e) ∷ h) run g m there on =
      keeps h (step.build at s now) (answer.BuildFailed n e) m.registry m.view
      (lets-go at (extra_at at s h) m.view ((step.build at s now, answer.BuildFailed n e) ∷ h) (registry_events m.registry h))
      (is-registered h run.0 g m there
      (uncancelled h (step.build at s now) (answer.BuildFailed n e) g on))
  is-registered ((step.failbuild at s now, answer.Failed n) ∷ h) run g m there on =
      keeps h (step.failbuild at s now) (answer.Failed n) m.registry m.view
      (lets-go at (extra_at at s h) m.view ((step.failbuild at s now, answer.Failed n) ∷ h) (registry_events m.registry h))
      (is-registered h run.0 g m there
      (uncancelled h (step.failbuild at s now) (answer.Failed n) g on))
  is-registered ((step.destroy at s, answer.Destroyed) ∷ h) run g m there on =
      keeps h (step.destroy at s) answer.Destroyed m.registry m.view
      (lets-go at (extra_at at s h) m.view ((step.destroy at s, answer.Destroyed) ∷ h) (registry_events m.registry h))
      (is-registered h run.0 g m there (uncancelled h (step.destroy at s) answer.Destroyed g on))
  is-registered ((step.cancel at, answer.Cancelled) ∷ h) run g m there on =
      let before = is-registered h run.0 g m there (uncancelled h (step.cancel at) answer.Cancelled g on) in
      let x = found {C = C} (step.cancel at) (made_at at h) _ answer.Cancelled refl run.1 in
      let off : ¬ (at ≡ g) = λ e. still-on (at == g) (slot_events g h) (eq-eqb at g e)
      (sym (ap is_cancelled (own-step g h (step.cancel at) answer.Cancelled)) ∙ on) in
      dite (ℕ_discrete x.0.registry m.registry)
      (λ same.
      keeps h (step.cancel at) answer.Cancelled m.registry m.view
      (λ has.
      subst (λ (o : Option (Made C)). has_view m.view (at_view (view_in o) with_mark (views_after (registry_events m.registry h))) ≡ true)
      (sym x.1)
      (marked-has m.view x.0.view (views_after (registry_events m.registry h)) (numbers-made h g at m x.0 there x.1 same off) has))
      before)
      (λ apart.
      let away : is_at m.registry (registry_of at h) ≡ false =
      ap (λ (o : Option (Made C)). is_at m.registry (option_map (λ (y : Made C). y.registry) o)) x.1
      ∙ ne_eqb x.0.registry m.registry apart in
      rw away before)
    where
      still-on : (b : Bool) (k : slots.History) → b ≡ true → is_cancelled (cond b (slots.Cancelled ∷ k) k) ≡ false → ⊥
      still-on true k e on = absurd (cc)
      still-on false k e on = absurd (cc)
  is-registered ((step.targets q, answer.Targets ts) ∷ h) run g m there on =
      keeps h (step.targets q) (answer.Targets ts) m.registry m.view (live-has m.view (views_after (registry_events m.registry h)))
      (is-registered h run.0 g m there on)
  is-registered ((step.verdict q c ok threshold, answer.Flipped b) ∷ h) run g m there on =
      keeps h (step.verdict q c ok threshold) (answer.Flipped b) m.registry m.view (λ has. has) (is-registered h run.0 g m there on)
  is-registered ((st, a) ∷ h) run g m there on =
      keeps h st a m.registry m.view (λ has. has)
      (is-registered h run.0 g m there (uncancelled h st a g on))
