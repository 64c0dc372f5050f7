use Rattle.std.proofs.Common.{◌≡◌, ◌<◌, inl, inr, ℕ, ◌+◌, ◌==◌, Bool, true, false, cond, ◌&&◌, ◌||◌, nat_lt, List, [], ◌∷◌, ◌++◌, filter}
use Rattle.std.proofs.Common.{true≢false, refl, sym, ap, ◌∙◌}
use Rattle.std.specs.List.{list_any}
use borrow.Author.Tests.{lt-ltb}
use Rattle.lb_select_base.specs.Backends.{Member, same_member}
use Rattle.lb_select_base.specs.Memberships.{same_members}
use Rattle.lb_health_core.specs.RegistryEvents.{Event, Applied, Updated, Held, Released, holds_cell, after_show, shown_cells}
use Rattle.lb_health_core.proofs.CellLemmas.{either}
use Rattle.lb_health_core.proofs.KeptLemmas.{held_later}
use Rattle.lb_health_view.specs.RegistrySide.{lives, after_settings, view_changed}
use Rattle.lb_health_view.specs.Snapshots.{SnapshotValue, IsAmong}
use Rattle.lb_health_view.specs.ViewEvents.{ViewEvent, Shown, Set, by_age, generation_after, membership_after, snapshots_after}
use Rattle.lb_health_view.proofs.laws.updates_keep_held_snapshots.Goals as goal

-- settings leave the snapshots
settings_leave : (settings : List (Member × Bool)) (views : List ViewEvent)
    → snapshots_after (after_settings settings views) ≡ snapshots_after views
settings_leave [] views = refl
settings_leave (e ∷ rest) views =
    settings_leave rest (cond (list_any (same_member e.0) (membership_after views)) (Set e.0 e.1 ∷ views) views)
    ∙ set_by (list_any (same_member e.0) (membership_after views))
  where
    set_by : (b : Bool) → snapshots_after (cond b (Set e.0 e.1 ∷ views) views) ≡ snapshots_after views
    set_by true = refl
    set_by false = refl

among_append : (s : SnapshotValue) (ss ts : List SnapshotValue) → IsAmong s ss → IsAmong s (ss ++ ts)
among_append s [] ts h = absurd h
among_append s (t ∷ ss) ts (inl h) = inl h
among_append s (t ∷ ss) ts (inr h) = inr (among_append s ss ts h)

among_last : (s : SnapshotValue) (ss : List SnapshotValue) (t : SnapshotValue) → t ≡ s → IsAmong s (ss ++ t ∷ [])
among_last s [] t e = inl e
among_last s (u ∷ ss) t e = inr (among_last s ss t e)

among_by_age : (s : SnapshotValue) (ss : List SnapshotValue) → IsAmong s ss → IsAmong s (by_age ss)
among_by_age s [] h = h
among_by_age s (t ∷ ss) (inl h) = among_last s ss t h
among_by_age s (t ∷ ss) (inr h) = among_append s ss (t ∷ []) h

among_left : (p : SnapshotValue → Bool) (s : SnapshotValue) (ss : List SnapshotValue) → p s ≡ true → IsAmong s ss → IsAmong s (filter p ss)
among_left p s [] e h = h
among_left p s (t ∷ ss) e h = left_by (p t) refl h (among_left p s ss e) where
  left_by :
      (b : Bool) → p t ≡ b → IsAmong s (t ∷ ss) → (IsAmong s ss → IsAmong s (filter p ss))
      → IsAmong s (cond b (t ∷ filter p ss) (filter p ss))
  left_by true f (inl is) ih = inl is
  left_by true f (inr h) ih = inr (ih h)
  left_by false f (inl is) ih = absurd (true≢false (sym e ∙ sym (ap p is) ∙ f))
  left_by false f (inr h) ih = ih h

or_true : (b : Bool) → (b || true) ≡ true
or_true true = refl
or_true false = refl

and_false : (b : Bool) → (b && false) ≡ false
and_false true = refl
and_false false = refl

-- the snapshot is among those that live after a new membership
among_shown :
    (views : List ViewEvent) (members : List Member) (cells : List (Member × ℕ)) (s : SnapshotValue) → IsAmong s (snapshots_after views)
    → 0 < s.holds → IsAmong s (snapshots_after (Shown members cells ∷ views))
among_shown views members cells s h held =
    let n = generation_after views + 1 in
    inr
    (among_left (λ t. t.generation == n || nat_lt 0 t.holds) s (by_age (snapshots_after views))
    (ap (λ b. s.generation == n || b) (lt-ltb 0 s.holds held) ∙ or_true (s.generation == n)) (among_by_age s (snapshots_after views) h))

-- and so its generation lives
lives_among : (s : SnapshotValue) (ss : List SnapshotValue) (g : ℕ) → (s.generation == g) ≡ true → IsAmong s ss → lives g ss ≡ true
lives_among s [] g e h = absurd h
lives_among s (t ∷ ss) g e (inl is) = ap (λ b. b || lives g ss) (ap (λ (u : SnapshotValue). u.generation == g) is ∙ e)
lives_among s (t ∷ ss) g e (inr h) = ap (λ b. (t.generation == g) || b) (lives_among s ss g e h) ∙ or_true (t.generation == g)

pub returns-clause-view : goal.returns-clause-view
returns-clause-view c =
    λ key_of views events id members settings s h held.
    let changed = view_changed key_of id members events views in
    let by_same : (b : Bool) → IsAmong s (snapshots_after (cond b views changed))
    = λ b. elim b as (λ t. IsAmong s (snapshots_after (cond t views changed)))
    [ true ↦ h | false ↦ among_shown views members (shown_cells key_of id members events) s h held ] in
    let same = same_members members (membership_after views) in
    rw (settings_leave settings (cond same views changed)) (by_same same)

pub returns-clause-registry : goal.returns-clause-registry
returns-clause-registry c =
    λ key_of views events id members s h held d has.
    let g = s.generation in
    let last = generation_after views in
    let shown = snapshots_after (view_changed key_of id members events views) in
    let now : List Event = after_show id (last + 1) members events in
    let begun : holds_cell key_of id g d now ≡ true
    = held_later key_of (Held id (last + 1) ∷ Updated id members ∷ Applied ∷ []) events id g d refl has in
    let there : IsAmong s shown = among_shown views members (shown_cells key_of id members events) s h held in
    let gone : holds_cell key_of id g d (cond (lives last shown) now (Released id last ∷ now)) ≡ true
    = either (g == last)
    (λ t. ap (λ b. holds_cell key_of id g d (cond b now (Released id last ∷ now))) (lives_among s shown last t there) ∙ begun)
    (λ f.
    let kept : holds_cell key_of id g d (Released id last ∷ now) ≡ true
    = held_later key_of (Released id last ∷ []) now id g d
    (ap (λ b. (id == id && b) || false) f ∙ ap (λ b. b || false) (and_false (id == id))) begun in
    elim (lives last shown) as (λ b. holds_cell key_of id g d (cond b now (Released id last ∷ now)) ≡ true) [
      | true ↦ begun
      | false ↦ kept
    ]) in
    elim (same_members members (membership_after views)) as
    (λ b. holds_cell key_of id g d (cond b events (cond (lives last shown) now (Released id last ∷ now))) ≡ true)
    [ true ↦ has | false ↦ gone ]
