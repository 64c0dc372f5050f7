-- Readiness goes by identity, and is known by a backend's cell and flag.
use Rattle.std.proofs.Common.{◌≡◌, ◌∙◌, ℕ, Bool, true, false, ◌&&◌, List, [], ◌∷◌, Option, Some, None, ap, refl, sym, subst}
use Rattle.std.proofs.Common.{true≢false}
use Rattle.std.specs.Prelude.{◌↔◌, IsTrue}
use Rattle.std.specs.List.{list_any}
use Rattle.std.specs.Option.{IsSomeAnd}
use Rattle.std.proofs.lemmas.Bool.{eq-eqb}
use Rattle.std.specs.HashMap.Eq.{lookup_congr}
use Rattle.std.proofs.lemmas.Map.Steps.{list_any_congr}
use Rattle.lb_select_base.specs.Backends.{Member, same_member}
use Rattle.lb_select_base.proofs.Turns.{same_equiv}
use Rattle.lb_health_core.specs.RegistryEvents.{Event, IsCellKept, cell_health}
use Rattle.lb_health_view.specs.RegistrySide.{HasCell, HasCellIn, IsReady, IsReadyIn}
use Rattle.lb_health_view.specs.Snapshots.{SnapshotValue, snapshot_at}
use Rattle.lb_health_view.specs.ViewEvents.{ViewEvent, Shown, Released, Set, Held, flag_after, generation_after, membership_after}
use Rattle.lb_health_view.specs.ViewEvents.{snapshots_after}
use Rattle.lb_health_view.proofs.ViewLemmas.{current_first, first_generation, first_members, lists-same}

some-more : {A : Type 0} (o : Option A) (P Q : A → Type 0) → ((x : A) → P x → Q x) → IsSomeAnd o P → IsSomeAnd o Q
some-more (Some x) P Q more p = more x p
some-more None P Q more p = absurd p

module _ (b m : Member) (same : same_member b m ≡ true) where
  same-left : (c : Member) → same_member c m ≡ same_member c b
  same-left c = same_equiv.symm c m ∙ sym (same_equiv.congr b m c same) ∙ same_equiv.symm b c

  flag-same : (views : List ViewEvent) → flag_after views m ≡ flag_after views b
  flag-same [] = refl
  flag-same (Set c on ∷ earlier) = rw (same-left c, flag-same earlier) refl
  flag-same (Shown members cells ∷ earlier) =
      rw (lists-same b m same (snapshots_after (Shown members cells ∷ earlier)), flag-same earlier) refl
  flag-same (Released g ∷ earlier) = rw (lists-same b m same (snapshots_after (Released g ∷ earlier)), flag-same earlier) refl
  flag-same (Held g ∷ earlier) = flag-same earlier

  module _ (views : List ViewEvent) (c : ℕ) (enabled : Bool) where
    cell-in : (s : SnapshotValue) → HasCell views m c enabled s → HasCell views b c enabled s
    cell-in s has = record {
      listed = list_any_congr same_equiv b m s.members same ∙ has.listed;
      flag = sym (flag-same views) ∙ has.flag;
      cell = lookup_congr same_member same_equiv.congr s.cells b m same ∙ has.cell;
    }

    -- what cell a backend has, one of its identity has
    pub cell-same : (g : ℕ) → HasCellIn views g m c enabled → HasCellIn views g b c enabled
    cell-same g has = some-more (snapshot_at g (snapshots_after views)) (HasCell views m c enabled) (HasCell views b c enabled) cell-in has

  module _ (key_of : Member → Member) (views : List ViewEvent) (events : List Event) where
    ready-in : (s : SnapshotValue) → IsReadyIn key_of views events m s → IsReadyIn key_of views events b s
    ready-in s is = record {
      listed = list_any_congr same_equiv b m s.members same ∙ is.listed;
      enabled = sym (flag-same views) ∙ is.enabled;
      healthy = subst (λ o. IsSomeAnd o (λ c. IsCellKept key_of c events × (cell_health key_of c events ≡ true)))
          (sym (lookup_congr same_member same_equiv.congr s.cells b m same)) is.healthy;
    }

    -- as a backend is judged, so is one of its identity
    pub ready-same : (g : ℕ) → IsReady key_of views events g m → IsReady key_of views events g b
    ready-same g is =
        some-more (snapshot_at g (snapshots_after views)) (IsReadyIn key_of views events m) (IsReadyIn key_of views events b) ready-in is

module _ (key_of : Member → Member) (views : List ViewEvent) (events : List Event) (b : Member) (c : ℕ) where
  abbrev IsUp : Type 0
  IsUp = IsCellKept key_of c events × (cell_health key_of c events ≡ true)

  ready-one : (enabled healthy : Bool) (s : SnapshotValue) → HasCell views b c enabled s → (IsTrue healthy ↔ IsUp)
      → IsTrue (enabled && healthy) ↔ IsReadyIn key_of views events b s
  ready-one true healthy s has up = (
    (λ t. record {
      listed = has.listed;
      enabled = has.flag;
      healthy = subst (λ o. IsSomeAnd o (λ k. IsCellKept key_of k events × (cell_health key_of k events ≡ true))) (sym has.cell) (up.0 t);
    }),
    (λ is. up.1 (subst (λ o. IsSomeAnd o (λ k. IsCellKept key_of k events × (cell_health key_of k events ≡ true))) has.cell is.healthy)),
  )
  ready-one false healthy s has up = ((λ t. absurd (cc)), (λ is. absurd (true≢false (sym is.enabled ∙ has.flag))))

  -- a backend is ready where it is enabled and its cell kept and healthy
  pub ready-of : (g : ℕ) (enabled healthy : Bool) → HasCellIn views g b c enabled → (IsTrue healthy ↔ IsUp)
      → IsTrue (enabled && healthy) ↔ IsReady key_of views events g b
  ready-of g enabled healthy has up = at (snapshot_at g (snapshots_after views)) has
    where
      at : (o : Option SnapshotValue) → IsSomeAnd o (HasCell views b c enabled)
          → IsTrue (enabled && healthy) ↔ IsSomeAnd o (IsReadyIn key_of views events b)
      at (Some s) has = ready-one enabled healthy s has up
      at None has = absurd has

-- the current snapshot is the only one of its generation, so a backend that it doesn't list isn't ready in that
module _ (key_of : Member → Member) (views : List ViewEvent) (events : List Event) (b : Member) where
  first-unlisted : (ss : List SnapshotValue) (g : ℕ) → first_generation ss ≡ g → list_any (same_member b) (first_members ss) ≡ false
      → IsSomeAnd (snapshot_at g ss) (IsReadyIn key_of views events b) → ⊥
  first-unlisted [] g same none ready = ready
  first-unlisted (s ∷ ss) g same none ready =
      let is : IsReadyIn key_of views events b s = rw (eq-eqb s.generation g same) at ready in true≢false (sym is.listed ∙ none)

  pub unlisted : list_any (same_member b) (membership_after views) ≡ false → IsReady key_of views events (generation_after views) b → ⊥
  unlisted none ready =
      let first = current_first views in
      first-unlisted (snapshots_after views) (generation_after views) first.1 (ap (list_any (same_member b)) first.0 ∙ none) ready
