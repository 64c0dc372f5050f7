-- In a run each group's view follows the group, and readiness in a generation is by that generation's members and cells.
use Rattle.std.proofs.Common.{◌≡◌, ◌==◌, ◌∙◌, ℕ, true, List, [], length, refl, sym, ap, subst, arith}
use Rattle.std.specs.Prelude.{Option, Some, None}
use Rattle.std.proofs.lemmas.Bool.{eqb-true}
use Rattle.std.specs.List.{list_any}
use Rattle.std.specs.Option.{IsSomeAnd}
use Rattle.lb_select_base.specs.Backends.{Member, same_member}
use Rattle.lb_health_core.specs.RegistryEvents as registry
use Rattle.lb_health_view.specs.Snapshots.{SnapshotValue, value_at}
use Rattle.lb_health_view.specs.ViewEvents.{snapshots_after}
use Rattle.lb_health_view.specs.RegistrySide.{IsReady, IsReadyIn}
use Rattle.lb_rebuild_core.specs.GroupHistory as group
use Rattle.lb_rebuild_core.specs.SlotsHistory as slots
use Rattle.lb_rebuild_core.specs.SlotsHistory.{members_of}
use Rattle.lb_world.specs.Meanings.{Meaning}
use Rattle.lb_world.specs.History.{History, Made, made_at, registry_of, slot_events}
use Rattle.lb_world.specs.Shared.{key_of, events_in}
use Rattle.lb_world.specs.GroupEvents.{group_events, cells_in, cells_of, view_events, views_in}
use Rattle.lb_world.specs.Answers.{IsRun}
use Rattle.lb_world.specs.Promises.{ViewFollows, JudgedBy}
use Rattle.lb_world.proofs.Together.{nothing-joined}
use Rattle.lb_world.proofs.Own.{group-of}
use Rattle.lb_world.proofs.Viewing.{Fits, Follows, joined-follows, found-one}

module _ {C : Type 0} where
  abbrev Here : ℕ → History C → Type 0
  Here g h = Follows (slot_events g h) (view_events g h) (λ n. cells_of g n h)

module _ {C : Type 0} (M : Meaning C) where
  pub follows : (h : History C) → IsRun M h → (g : ℕ) → Here g h
  follows h run g =
      subst (λ (k : slots.History). Follows k (view_events g h) (λ n. cells_of g n h)) (group-of g h)
      (joined (made_at g h) refl)
    where
      joined : (o : Option (Made C)) → made_at g h ≡ o
          → Follows (group.slot_events (group_events g h)) (views_in o (group_events g h)) (λ n. cells_in n (group_events g h))
      joined None none =
          subst (λ (e : group.History). Follows (group.slot_events e) [] (λ n. cells_in n e)) (sym (nothing-joined M h run g none))
          (record { generation = refl; membership = refl; snapshots = ((omega arith, refl, refl), tt) })
      joined (Some m) there = joined-follows (length m.configs) (group_events g h)

  pub view-follows : (h : History C) → IsRun M h → (g : ℕ) → ViewFollows g h
  view-follows h run g =
      let f = follows h run g in record { generation = f.generation; membership = f.membership; snapshots = f.snapshots }

  pub judged-by : (h : History C) → IsRun M h → (g n : ℕ) (b : Member)
      → IsReady (key_of g h) (view_events g h) (events_in (registry_of g h) h) n b
      → JudgedBy g n b h
  judged-by h run g n b ready =
      let f = follows h run g in
      let s = found-one (Fits (slot_events g h) (λ m. cells_of g m h))
      (IsReadyIn (key_of g h) (view_events g h) (events_in (registry_of g h) h) b)
      (λ (x : SnapshotValue). x.generation == n) (snapshots_after (view_events g h)) f.snapshots ready in
      let is : s.0.generation ≡ n = eqb-true s.0.generation n s.2 in
      record {
        listed = ap (list_any (same_member b)) (sym (s.1.1 ∙ ap (λ (m : ℕ). members_of m (slot_events g h)) is)) ∙ s.3.listed;
        enabled = s.3.enabled;
        cell =
            subst
            (λ (cs : List (Member × ℕ)).
            IsSomeAnd (value_at cs b)
            (λ c. registry.IsCellKept (key_of g h) c (events_in (registry_of g h) h)
            × (registry.cell_health (key_of g h) c (events_in (registry_of g h) h) ≡ true)))
            (s.1.2 ∙ ap (λ (m : ℕ). cells_of g m h) is) s.3.healthy;
      }
