-- A snapshot that lives is the newest, or some slot has its generation in use.
use Rattle.std.proofs.Common.{arith, ◌≡◌, ◌⊎◌, inl, inr, ◌<◌, ◌+◌, ◌==◌, ◌||◌, ◌&&◌, ◌∙◌, ℕ, zero, suc, Bool, true, false, cond, nat_lt}
use Rattle.std.proofs.Common.{List, [], ◌∷◌, refl, sym, subst}
use Rattle.std.proofs.lemmas.Bool.{eq-eqb, eqb-true, ltb-true, lt-ltb, and_parts, false≢true}
use mathlib.Core.Logic.{dite}
use native.Mathlib.Decide.{ℕ_discrete}
use Rattle.lb_rebuild_core.specs.SlotsHistory as slots
use Rattle.lb_rebuild_core.specs.SlotsHistory.{past_of, newest, served, extra, is_extra, generation_of, IsSlotsHistory}
use Rattle.lb_rebuild_core.specs.Laws.{number}
use Rattle.lb_health_view.specs.Snapshots.{SnapshotValue, held_more, held_less, at_generation, living}
use Rattle.lb_health_view.specs.ViewEvents as view
use Rattle.lb_health_view.specs.ViewEvents.{ViewEvent, generation_after, snapshots_after, by_age}
use Rattle.lb_health_view.specs.RegistrySide.{lives}
use Rattle.lb_rebuild_core.specs.GroupHistory.{History, slot_events, view_events, slot_holds, over_slots}
use Rattle.lb_rebuild_core.specs.GroupLaws.{IsLive, IsInSomeSlot}
use Rattle.lb_rebuild_core.proofs.Holds.{counted}
use Rattle.lb_rebuild_core.proofs.Totals.{total, holds}

-- each snapshot is the current one or held
abbrev Kept : ℕ → List SnapshotValue → Type 0
Kept c [] = Unit {0}
Kept c (s ∷ ss) = ((s.generation == c || nat_lt 0 s.holds) ≡ true) × Kept c ss

kept-living : (c : ℕ) (ss : List SnapshotValue) → Kept c (living c ss)
kept-living c [] = tt
kept-living c (s ∷ ss) =
    elim ((s.generation == c) || nat_lt 0 s.holds) as (λ b. ((s.generation == c) || nat_lt 0 s.holds) ≡ b
    → Kept c (cond b (s ∷ living c ss) (living c ss)))
    [ true ↦ λ e. (e, kept-living c ss) | false ↦ λ e. kept-living c ss ] refl

still : (b : Bool) (h : ℕ) → (b || nat_lt 0 h) ≡ true → (b || nat_lt 0 (h + 1)) ≡ true
still true h e = refl
still false h e = lt-ltb 0 (h + 1) (omega arith)

kept-more : (c g : ℕ) (ss : List SnapshotValue) → Kept c ss → Kept c (at_generation g held_more ss)
kept-more c g [] k = tt
kept-more c g (s ∷ ss) k =
    elim (s.generation == g) as (λ b. Kept c (cond b (held_more s ∷ ss) (s ∷ at_generation g held_more ss)))
    [ true ↦ (still (s.generation == c) s.holds k.0, k.1) | false ↦ (k.0, kept-more c g ss k.1) ]

kept : (views : List ViewEvent) → Kept (generation_after views) (snapshots_after views)
kept [] = (refl, tt)
kept (view.Shown ms cells ∷ v) = (
  rw (eq-eqb (generation_after v + 1) (generation_after v + 1) refl) refl,
  kept-living (generation_after v + 1) (by_age (snapshots_after v)),
)
kept (view.Set b on ∷ v) = kept v
kept (view.Held g ∷ v) = kept-more (generation_after v) g (snapshots_after v) (kept v)
kept (view.Released g ∷ v) = kept-living (generation_after v) (at_generation g held_less (snapshots_after v))

current-or-held : (c n : ℕ) (ss : List SnapshotValue) → Kept c ss → lives n ss ≡ true → (c ≡ n) ⊎ (0 < total holds n ss)
current-or-held c n [] k l = absurd (false≢true l)
current-or-held c n (s ∷ ss) k l =
    elim (s.generation == n) as (λ b. (s.generation == n) ≡ b → (b || lives n ss) ≡ true → (c ≡ n)
    ⊎ (0 < cond b (s.holds + total holds n ss) (total holds n ss))) [
      | true ↦ λ e t.
          elim (s.generation == c) as (λ d. (s.generation == c) ≡ d → (d || nat_lt 0 s.holds) ≡ true → (c ≡ n)
          ⊎ (0 < s.holds + total holds n ss)) [
            | true ↦ λ d u. inl (sym (eqb-true s.generation c d) ∙ eqb-true s.generation n e)
            | false ↦ λ d u. inr (let some : 0 < s.holds = ltb-true 0 s.holds u in omega arith)
          ] refl k.0
      | false ↦ λ e t. current-or-held c n ss k.1 t
    ] refl l

-- a sum over slots that is not 0 has a slot whose part is not 0
some-slot : (f : slots.History → ℕ) (a k : ℕ) (h : slots.History) → 0 < over_slots f a k h → (slot : ℕ)
    × ((slot < a + k) × (0 < f (past_of slot h)))
some-slot f a zero h some = absurd (omega arith)
some-slot f a (suc k) h some =
    dite (ℕ_discrete (f (past_of a h)) 0)
    (λ none.
    let rest : (slot : ℕ) × ((slot < a + 1 + k) × (0 < f (past_of slot h))) = some-slot f (a + 1) k h (omega (arith, none, some)) in
    (rest.0, (omega (arith, rest.1.0), rest.1.1)))
    (λ off. (a, (omega arith, omega (arith, off))))

counted-once : (b : Bool) → 0 < number b → b ≡ true
counted-once true some = refl
counted-once false some = absurd (omega arith)

in-use : (n : ℕ) (p : slots.History) → 0 < slot_holds n p → (served p ≡ n) ⊎ ((is_extra (extra p) ≡ true) × (generation_of (extra p) ≡ n))
in-use n p some =
    elim (served p == n) as (λ b. (served p == n) ≡ b → 0 < number b + number (is_extra (extra p) && (generation_of (extra p) == n))
    → (served p ≡ n) ⊎ ((is_extra (extra p) ≡ true) × (generation_of (extra p) ≡ n))) [
      | true ↦ λ e t. inl (eqb-true (served p) n e)
      | false ↦ λ e t.
          let both = and_parts (is_extra (extra p)) (generation_of (extra p) == n) (counted-once _ (omega (arith, t))) in
          inr (both.0, eqb-true (generation_of (extra p)) n both.1)
    ] refl some

pub ends : (k n : ℕ) (e : History) → IsSlotsHistory (slot_events e) → IsLive k n e → (n ≡ newest (slot_events e)) ⊎ IsInSomeSlot k n e
ends k n e all live =
    let is = counted k e all in
    elim (current-or-held (generation_after (view_events k e)) n (snapshots_after (view_events k e)) (kept (view_events k e)) live) [
      | inl now ↦ inl (sym now ∙ is.generation)
      | inr some ↦
          let sum : 0 < over_slots (λ p. slot_holds n p) 0 k (slot_events e) = subst (λ (x : ℕ). 0 < x) (is.held n) some in
          let there = some-slot (λ p. slot_holds n p) 0 k (slot_events e) sum in
          inr (there.0, (omega (arith, there.1.0), in-use n (past_of there.0 (slot_events e)) there.1.1))
    ]
