-- What group and registry tell of a backend for a generation, they tell of it in the newest membership where that generation is the newest.
use Rattle.std.proofs.Common.{◌≡◌, ◌∙◌, ◌==◌, ◌&&◌, ℕ, Bool, true, arith, subst, sym}
use Rattle.std.proofs.lemmas.Bool.Decides.{nat_tests}
use Rattle.std.specs.Prelude.{◌↔◌, IsTrue}
use Rattle.lb_select_base.specs.Backends.{Member}
use Rattle.lb_health_view.specs.RegistrySide.{HasCellIn, IsReady}
use Rattle.lb_rebuild_core.specs.GroupHistory.{slot_events}
use Rattle.lb_rebuild_core.specs.GroupStates.{GroupValue, After, views_of}
use Rattle.lb_rebuild_core.specs.SlotsHistory.{newest}
use Rattle.lb_threads_core.proofs.SameReadiness.{ready-of}
use Rattle.lb_threads_core.specs.CellWords.{WasHealthy}
use Rattle.lb_threads_group.specs.Found.{FlaggedAt, FoundAt}
use Rattle.lb_threads_group.specs.Group.{IsState}
use Rattle.lb_threads_group.specs.Shared.{SharedValue}

equal-of : (n m : ℕ) → (n == m) ≡ true → n ≡ m
equal-of n m e = grind (arith, nat_tests)

-- the cell and the flag that the group has for a backend, and the health of that cell, say whether it is ready
pub found-of : {C R : Type 0} (gives : R → Member → Member → Type 0) (site : SharedValue C R) (g : ℕ) (b : Member) (c : ℕ)
    (enabled is_newest healthy : Bool) → FlaggedAt site g b c enabled is_newest → WasHealthy gives site.registry c healthy
    → FoundAt gives site g b (enabled && healthy) is_newest
found-of gives site g b c enabled is_newest healthy (v, (state, has)) (x, (of, told)) = (
  (
    v,
    (
      x,
      (
        state,
        (
          of,
          λ key_of events after made e stands.
              ready-of key_of (views_of made e) events b c g enabled healthy (has made e stands).0 (told key_of events after),
        ),
      ),
    ),
  ),
  λ is. (
    v,
    (
      x,
      (
        state,
        (
          of,
          λ key_of events after made e stands.
              let flagged = has made e stands in
              subst (λ k. IsTrue (enabled && healthy) ↔ IsReady key_of (views_of made e) events k b) (sym (flagged.1 is))
              (ready-of key_of (views_of made e) events b c g enabled healthy flagged.0 (told key_of events after)),
        ),
      ),
    ),
  ),
)

-- what the group has for a backend of a generation, under its lock, it has at some state of it
pub flagged-now : {C R : Type 0} (site : SharedValue C R) (v : GroupValue C) (g h n : ℕ) (b : Member) (c : ℕ) (enabled : Bool)
    → IsState site.core v → After v (λ made e. HasCellIn (views_of made e) g b c enabled)
    → After v (λ made e. n ≡ newest (slot_events e)) → h ≡ g → FlaggedAt site g b c enabled (n == h)
flagged-now site v g h n b c enabled state has newest-is same = (
  v,
  (state, λ made e stands. (has made e stands, λ is. sym (newest-is made e stands) ∙ equal-of n h is ∙ same)),
)

-- the same of what is found by them
pub found-as : {C R : Type 0} (gives : R → Member → Member → Type 0) (site : SharedValue C R) (g : ℕ) (b : Member) (c : ℕ)
    (enabled is_newest healthy ready newly : Bool) → FlaggedAt site g b c enabled is_newest → WasHealthy gives site.registry c healthy
    → ready ≡ (enabled && healthy) → newly ≡ is_newest → FoundAt gives site g b ready newly
found-as gives site g b c enabled is_newest healthy ready newly flagged was is same =
    subst (λ k. FoundAt gives site g b k newly) (sym is)
    (subst (λ k. FoundAt gives site g b (enabled && healthy) k) (sym same)
    (found-of gives site g b c enabled is_newest healthy flagged was))
