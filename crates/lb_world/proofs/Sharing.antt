-- What a step does to a registry is what the calls of a view do to it.
use Rattle.std.proofs.Common.{◌≡◌, ◌+◌, ◌==◌, ◌∙◌, ◌<◌, ℕ, Bool, true, false, cond, List, ◌∷◌, length, refl, sym, ap, subst}
use Rattle.std.specs.Prelude.{Option, Some, None, slice_get}
use Rattle.std.specs.Option.{option_map}
use Rattle.std.proofs.lemmas.Bool.{eq-eqb, eqb-true, not-true}
use Rattle.std.proofs.lemmas.Option.{same_Some, slice_get_within}
use Rattle.lb_select_base.specs.Backends.{Member}
use Rattle.lb_select_base.specs.Memberships.{same_members}
use Rattle.lb_health_core.specs.RegistryEvents as registry
use Rattle.lb_health_view.specs.Snapshots.{SnapshotValue}
use Rattle.lb_health_view.specs.ViewEvents.{ViewEvent, Released, Shown, generation_after, membership_after, snapshots_after}
use Rattle.lb_health_view.specs.RegistrySide as health
use Rattle.lb_health_view.specs.RegistrySide.{lives, without_gone, view_changed}
use Rattle.lb_rebuild_core.proofs.Histories.{settings-view}
use Rattle.lb_rebuild_core.proofs.Joins.{failed-view, destroyed-view}
use Rattle.lb_rebuild_core.proofs.Pasts.{past-same}
use Rattle.lb_rebuild_core.specs.GroupHistory as group
use Rattle.lb_rebuild_core.specs.SlotsHistory as slots
use Rattle.lb_rebuild_core.specs.SlotsHistory.{newest, members_of, past_of, granted, extra, is_under_way, generation_of}
use Rattle.lb_world.specs.Steps.{Step}
use Rattle.lb_world.specs.Steps as step
use Rattle.lb_world.specs.declared.answer.Answer.{Answer}
use Rattle.lb_world.specs.declared.answer.Answer.TheVariants as answer
use Rattle.lb_world.specs.Meanings.{Meaning}
use Rattle.lb_world.specs.History.{History, Made, building, config, config_in, is_at, members_in, made_at, past, registry_of, slot_events}
use Rattle.lb_world.specs.History.{settings_in, job_members}
use Rattle.lb_world.specs.Shared.{is_live, configs_in, view_in, key_of, events_in, extra_at, registry_events}
use Rattle.lb_world.specs.GroupEvents.{cells_for, group_events, view_events, views_in}
use Rattle.lb_world.specs.Answers.{IsRun}
use Rattle.lb_world.specs.Promises.{SharesAlike}
use Rattle.lb_world.proofs.Absent.{found}
use Rattle.lb_world.proofs.Accepted.{failing, ordered-failure, updating}
use Rattle.lb_world.proofs.Joining.{follows}
use Rattle.lb_world.proofs.Living.{settings-leave, lives-exactly}
use Rattle.lb_world.proofs.Runs.{slots-fit, under_way}
use Rattle.lb_world.proofs.Own.{group-of}

module _ {C : Type 0} where
  -- a registry lets go where the view's snapshot is gone
  let-go-is : (o : Option (Made C)) (m : Made C) (n : ℕ) (k : slots.History) (events old : Option (Made C) → List registry.Event)
      (views : List ViewEvent)
      → o ≡ Some m → lives n (snapshots_after views) ≡ is_live n m.configs k
      → cond (is_at m.registry (option_map (λ (x : Made C). x.registry) o))
      (cond (is_live n (configs_in o) k) (events o) (registry.Released (view_in o) n ∷ events o)) (old o)
      ≡ without_gone m.view n views (events (Some m))
  let-go-is o m n k events old views there alike =
      subst
      (λ (x : Option (Made C)).
      cond (is_at m.registry (option_map (λ (y : Made C). y.registry) x))
      (cond (is_live n (configs_in x) k) (events x) (registry.Released (view_in x) n ∷ events x)) (old x)
      ≡ without_gone m.view n views (events (Some m)))
      (sym there) (rw (eq-eqb m.registry m.registry refl, alike) refl)

under_way-number : (n : ℕ) (e : slots.Extra) → is_under_way n e ≡ true → n ≡ generation_of e
under_way-number n slots.nothing up = absurd (cc)
under_way-number n (slots.flight m) up = sym (eqb-true m n up)
under_way-number n (slots.lost m) up = sym (eqb-true m n up)
under_way-number n (slots.retired m) up = absurd (cc)
under_way-number n (slots.taken_out m) up = absurd (cc)

config-within : {C : Type 0} (s : ℕ) (o : Option (Made C)) (m : Made C) (c : C) → o ≡ Some m → config_in s o ≡ Some c → s < length m.configs
config-within s None m c there is = absurd (cc)
config-within {C = C} s (Some x) m c there is =
    slice_get_within m.configs s c (ap (λ (y : Made C). slice_get y.configs s) (sym (same_Some x m there)) ∙ is)

module _ {C : Type 0} (M : Meaning C) where
  -- a snapshot that is released once, after a step with these events of the group
  gone-alike : (h : History C) (st : Step C) (a : Answer) → IsRun M ((st, a) ∷ h) → (g n : ℕ) (m : Made C)
      → made_at g ((st, a) ∷ h) ≡ Some m
      → view_events g ((st, a) ∷ h) ≡ Released n ∷ view_events g h
      → lives n (snapshots_after (Released n ∷ view_events g h)) ≡ is_live n m.configs (slot_events g ((st, a) ∷ h))
  gone-alike h st a run g n m there is =
      ap (λ (v : List ViewEvent). lives n (snapshots_after v)) (sym is) ∙ lives-exactly M ((st, a) ∷ h) run g m there n

  -- what the view's events are after an event of its group
  there-after : (h : History C) (g : ℕ) (m : Made C) (new : group.History) (views : List ViewEvent → List ViewEvent) → made_at g h ≡ Some m
      → group.view_events (length m.configs) new ≡ views (group.view_events (length m.configs) (group_events g h))
      → views_in (made_at g h) (cond (g == g) new (group_events g h)) ≡ views (view_events g h)
  there-after h g m new views there is =
      subst (λ o. views_in o (cond (g == g) new (group_events g h)) ≡ views (views_in o (group_events g h))) (sym there)
      (ap (λ (b : Bool). group.view_events (length m.configs) (cond b new (group_events g h))) (eq-eqb g g refl) ∙ is)

  -- a job that failed
  failed-after : (h : History C) → IsRun M h → (g s now : ℕ) (m : Made C) (c : C) → made_at g h ≡ Some m → config g s h ≡ Some c
      → is_under_way (granted (past g s h)) (extra (past g s h)) ≡ true
      → views_in (made_at g h)
      (cond (g == g) (group.At s (slots.Failed now (job_members s (group_events g h))) ∷ group_events g h) (group_events g h))
      ≡ Released (extra_at g s h) ∷ view_events g h
  failed-after h run g s now m c there is up =
      there-after h g m (group.At s (slots.Failed now (job_members s (group_events g h))) ∷ group_events g h)
      (λ v. Released (extra_at g s h) ∷ v) there
      (failed-view (length m.configs) s now (extra_at g s h) (job_members s (group_events g h)) (group_events g h)
      (config-within s (made_at g h) m c there is)
      (ap (λ (k : slots.History). granted (past_of s k)) (group-of g h) ∙ under_way-number (granted (past g s h)) (extra (past g s h)) up))

  pub shares : (h : History C) (st : Step C) (a : Answer) → IsRun M ((st, a) ∷ h) → SharesAlike h st a
  shares h (step.build g s now) (answer.BuildFailed n e) run =
      λ m there.
      let c = found {C = C} (step.build g s now) (config g s h) _ (answer.BuildFailed n e) refl run.1 in
      let-go-is (made_at g h) m (extra_at g s h) (slot_events g ((step.build g s now, answer.BuildFailed n e) ∷ h))
      (λ o. registry_events m.registry h) (λ o. registry_events m.registry h)
      (Released (extra_at g s h) ∷ view_events g h) there
      (gone-alike h (step.build g s now) (answer.BuildFailed n e) run g (extra_at g s h) m there
      (failed-after h run.0 g s now m c.0 there c.1
      (under_way M h g s building (slots-fit M h run.0) (failing M h g s now n e run.1) refl)))
  shares h (step.failbuild g s now) (answer.Failed n) run =
      λ m there.
      let c = found {C = C} (step.failbuild g s now) (config g s h) _ (answer.Failed n) refl run.1 in
      let-go-is (made_at g h) m (extra_at g s h) (slot_events g ((step.failbuild g s now, answer.Failed n) ∷ h))
      (λ o. registry_events m.registry h) (λ o. registry_events m.registry h)
      (Released (extra_at g s h) ∷ view_events g h) there
      (gone-alike h (step.failbuild g s now) (answer.Failed n) run g (extra_at g s h) m there
      (failed-after h run.0 g s now m c.0 there c.1
      (under_way M h g s building (slots-fit M h run.0) (ordered-failure M h g s now n run.1) refl)))
  shares h (step.destroy g s) answer.Destroyed run =
      λ m there.
      let c = found {C = C} (step.destroy g s) (config g s h) _ answer.Destroyed refl run.1 in
      let-go-is (made_at g h) m (extra_at g s h) (slot_events g ((step.destroy g s, answer.Destroyed) ∷ h))
      (λ o. registry_events m.registry h) (λ o. registry_events m.registry h)
      (Released (extra_at g s h) ∷ view_events g h) there
      (gone-alike h (step.destroy g s) answer.Destroyed run g (extra_at g s h) m there
      (there-after h g m (group.At s slots.Destroyed ∷ group.At s slots.TakenOut ∷ group_events g h)
      (λ v. Released (extra_at g s h) ∷ v) there
      (destroyed-view (length m.configs) s (extra_at g s h) (group.At s slots.TakenOut ∷ group_events g h)
      (config-within s (made_at g h) m c.0 there c.1)
      (ap (λ (p : slots.History). generation_of (extra p)) (past-same s slots.TakenOut (group.slot_events (group_events g h)))
      ∙ ap (λ (k : slots.History). generation_of (extra (past_of s k))) (group-of g h)))))
  shares h (step.update g now ls) (answer.Generation n) run =
      λ m there.
      let f = follows M h run.0 g in
      let ms : List Member = members_in ls in
      let N : ℕ = newest (slot_events g h) in
      let e : List registry.Event = registry_events m.registry h in
      let first : List ViewEvent = view_changed (key_of g h) (view_in (made_at g h)) (members_in ls) (events_in (registry_of g h) h)
      (view_events g h) in
      let other : same_members (members_in ls) (membership_after (view_events g h)) ≡ false =
      ap (same_members (members_in ls)) f.membership
      ∙ not-true (same_members (members_in ls) (members_of (newest (slot_events g h)) (slot_events g h)))
      (updating M h g now ls n run.1).0 in
      let shows : snapshots_after (view_events g ((step.update g now ls, answer.Generation n) ∷ h)) ≡ snapshots_after first =
      ap snapshots_after
      (there-after h g m (group.after_settings (settings_in ls) (group.Shown (members_in ls) (cells_for g ls h) now ∷ group_events g h))
      (λ v. health.after_settings (settings_in ls) (Shown (members_in ls) (cells_for g ls h) ∷ v)) there
      (settings-view (length m.configs) (settings_in ls) (group.Shown (members_in ls) (cells_for g ls h) now ∷ group_events g h)))
      ∙ settings-leave (settings_in ls) _ in
      let alike : lives N (snapshots_after first) ≡ is_live N m.configs (slot_events g ((step.update g now ls, answer.Generation n) ∷ h)) =
      ap (λ (ss : List SnapshotValue). lives N ss) (sym shows)
      ∙ lives-exactly M ((step.update g now ls, answer.Generation n) ∷ h) run g m there (newest (slot_events g h)) in
      let now_is = let-go-is (made_at g h) m N (slot_events g ((step.update g now ls, answer.Generation n) ∷ h))
      (λ o. registry.after_show (view_in o) (newest (slot_events g h) + 1) (members_in ls) (registry_events m.registry h))
      (λ o. registry_events m.registry h)
      (view_changed (key_of g h) m.view (members_in ls) (registry_events m.registry h) (view_events g h)) there alike in
      now_is
      ∙ ap
      (λ (x : ℕ).
      without_gone m.view x (view_changed (key_of g h) m.view (members_in ls) (registry_events m.registry h) (view_events g h))
      (registry.after_show m.view (x + 1) (members_in ls) (registry_events m.registry h)))
      (sym f.generation)
      ∙ sym
      (ap
      (λ (b : Bool).
      cond b (registry_events m.registry h)
      (without_gone m.view (generation_after (view_events g h))
      (view_changed (key_of g h) m.view (members_in ls) (registry_events m.registry h) (view_events g h))
      (registry.after_show m.view (generation_after (view_events g h) + 1) (members_in ls) (registry_events m.registry h))))
      other)
  shares h st a run = tt
