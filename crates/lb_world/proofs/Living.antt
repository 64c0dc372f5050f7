-- In a run a snapshot of a group's view lives exactly while it is the newest or some slot has its generation in use: the view is
-- that of a joined group, which holds each generation as often as the slots have it.
use Rattle.std.proofs.Common.{◌≡◌, ◌<◌, ◌+◌, ◌==◌, ◌||◌, ◌∙◌, ℕ, Bool, true, false, cond, nat_lt, List, [], ◌∷◌, length, refl, sym, ap}
use Rattle.std.proofs.Common.{subst, arith}
use Rattle.std.specs.Prelude.{Some}
use Rattle.std.specs.List.{AllByRecursion as Each, list_any}
use Rattle.std.proofs.lemmas.Bool.{eq-eqb, ne_eqb, eqb-true, eqb-false, lt-ltb, ltb-true}
use Rattle.lb_select_base.specs.Backends.{Member, same_member}
use Rattle.lb_health_view.specs.Snapshots.{SnapshotValue, held_more, held_less, at_generation, living}
use Rattle.lb_health_view.specs.ViewEvents.{ViewEvent, Shown, Held, Released, Set, generation_after, membership_after, by_age}
use Rattle.lb_health_view.specs.ViewEvents.{snapshots_after}
use Rattle.lb_health_view.specs.RegistrySide.{after_settings, lives}
use Rattle.lb_rebuild_core.specs.SlotsHistory as slots
use Rattle.lb_rebuild_core.specs.SlotsHistory.{newest, IsSlotsHistory, IsPast, past_of}
use Rattle.lb_rebuild_core.specs.GroupHistory as group
use Rattle.lb_rebuild_core.specs.GroupHistory.{holders}
use Rattle.lb_rebuild_core.proofs.Histories.{generation-is}
use Rattle.lb_rebuild_core.proofs.Holds.{counted, newest-live}
use Rattle.lb_rebuild_core.proofs.Totals.{total, holds, held-lives}
use Rattle.lb_world.specs.Meanings.{Meaning}
use Rattle.lb_world.specs.History.{History, Made, made_at, slot_events}
use Rattle.lb_world.specs.Shared.{is_live}
use Rattle.lb_world.specs.Answers.{IsRun}
use Rattle.lb_world.specs.GroupEvents.{group_events, view_events}
use Rattle.lb_world.proofs.Runs.{slots-fit}
use Rattle.lb_world.proofs.Together.{views-of}
use Rattle.lb_world.proofs.Own.{group-of}
use Rattle.lb_world.proofs.Viewing.{each-at}

-- settings leave the snapshots
pub settings-leave : (settings : List (Member × Bool)) (views : List ViewEvent)
    → snapshots_after (after_settings settings views) ≡ snapshots_after views
settings-leave [] views = refl
settings-leave (e ∷ rest) views =
    settings-leave rest _ ∙ either (list_any (same_member e.0) (membership_after views)) e views
  where
    either : (b : Bool) (e : Member × Bool) (views : List ViewEvent)
        → snapshots_after (cond b (Set e.0 e.1 ∷ views) views) ≡ snapshots_after views
    either true e views = refl
    either false e views = refl

-- a snapshot that lives is the current one or held
abbrev Kept : ℕ → SnapshotValue → Type 0
Kept c s = (s.generation == c || nat_lt 0 s.holds) ≡ true

each-living : (c : ℕ) (ss : List SnapshotValue) → Each (Kept c) (living c ss)
each-living c [] = tt
each-living c (s ∷ ss) = either (s.generation == c || nat_lt 0 s.holds) refl (each-living c ss)
  where
    either : (b : Bool) → (s.generation == c || nat_lt 0 s.holds) ≡ b → Each (Kept c) (living c ss)
        → Each (Kept c) (cond b (s ∷ living c ss) (living c ss))
    either true is rest = (is, rest)
    either false is rest = rest

or-right : (a b : Bool) → b ≡ true → (a || b) ≡ true
or-right true b e = refl
or-right false b e = e

each-kept : (v : List ViewEvent) → Each (Kept (generation_after v)) (snapshots_after v)
each-kept [] = (refl, tt)
each-kept (Shown ms cells ∷ v) = (
  rw (eq-eqb (generation_after v + 1) (generation_after v + 1) refl) refl,
  each-living (generation_after v + 1) (by_age (snapshots_after v)),
)
each-kept (Held g ∷ v) =
    each-at (Kept (generation_after v)) g held_more (snapshots_after v)
    (λ s k. or-right (s.generation == generation_after v) (nat_lt 0 (s.holds + 1)) (lt-ltb 0 (s.holds + 1) (omega arith))) (each-kept v)
each-kept (Released g ∷ v) = each-living (generation_after v) (at_generation g held_less (snapshots_after v))
each-kept (Set b on ∷ v) = each-kept v

held-at : (a l : Bool) (h t : ℕ) → (a ≡ true → 0 < h) → (l ≡ true → 0 < t) → (a || l) ≡ true → 0 < cond a (h + t) t
held-at true l h t some later e = let x : 0 < h = some refl in omega arith
held-at false l h t some later e = later e

-- so one that isn't the current one is held
kept-held : (c n : ℕ) (ss : List SnapshotValue) → ¬ (c ≡ n) → Each (Kept c) ss → lives n ss ≡ true → 0 < total holds n ss
kept-held c n [] off each l = absurd (cc)
kept-held c n (s ∷ ss) off each l =
    held-at (s.generation == n) (lives n ss) s.holds (total holds n ss)
    (λ e.
    let apart : ¬ (s.generation ≡ c) = λ at. off (sym at ∙ eqb-true s.generation n e) in
    ltb-true 0 s.holds (rw (ne_eqb s.generation c apart) at each.0))
    (λ e. kept-held c n ss off each.1 e) l

-- a test by both its sides
by-sides : (a b l : Bool) → (a ≡ true → l ≡ true) → (b ≡ true → l ≡ true) → (a ≡ false → l ≡ true → b ≡ true) → l ≡ (a || b)
by-sides true b l first second back = first refl
by-sides false true l first second back = second refl
by-sides false false true first second back = sym (back refl refl)
by-sides false false false first second back = refl

joined-lives : (k n : ℕ) (e : group.History) → IsSlotsHistory (group.slot_events e)
    → lives n (snapshots_after (group.view_events k e)) ≡
    (newest (group.slot_events e) == n || nat_lt 0 (holders n k (group.slot_events e)))
joined-lives k n e all =
    let v : List ViewEvent = group.view_events k e in
    let held_is = (counted k e all).held n in
    by-sides (newest (group.slot_events e) == n) (nat_lt 0 (holders n k (group.slot_events e)))
    (lives n (snapshots_after (group.view_events k e)))
    (λ t.
    subst (λ (x : ℕ). lives x (snapshots_after (group.view_events k e)) ≡ true) (eqb-true (newest (group.slot_events e)) n t)
    (newest-live k e))
    (λ t.
    held-lives n (snapshots_after (group.view_events k e))
    (subst (λ (x : ℕ). 0 < x) (sym held_is) (ltb-true 0 (holders n k (group.slot_events e)) t)))
    (λ off living_.
    lt-ltb 0 (holders n k (group.slot_events e))
    (subst (λ (x : ℕ). 0 < x) held_is
    (kept-held (generation_after (group.view_events k e)) n (snapshots_after (group.view_events k e))
    (λ at. eqb-false (newest (group.slot_events e)) n off (sym (generation-is k e) ∙ at)) (each-kept (group.view_events k e)) living_)))

module _ {C : Type 0} (M : Meaning C) where
  pub lives-exactly : (h : History C) → IsRun M h → (g : ℕ) (m : Made C) → made_at g h ≡ Some m → (n : ℕ)
      → lives n (snapshots_after (view_events g h)) ≡ is_live n m.configs (slot_events g h)
  lives-exactly h run g m there n =
      let all : IsSlotsHistory (group.slot_events (group_events g h)) =
      λ i. subst (λ (k : slots.History). IsPast (past_of i k)) (sym (group-of g h)) (slots-fit M h run g i).0 in
      ap (λ (v : List ViewEvent). lives n (snapshots_after v)) (sym (views-of g h m there))
      ∙ joined-lives (length m.configs) n (group_events g h) all ∙ ap (λ (k : slots.History). is_live n m.configs k) (group-of g h)
