-- A selection in what a lane keeps.
use Rattle.std.specs.Prelude.{◌≡◌, ℕ, Bool, List, Option, Result, Ok, Err, IsErrAnd, refl}
use Rattle.std.specs.Borrow.{Bor}
use Rattle.std.proofs.Common.{inr, subst, sym}
use Rattle.lb_select_base.specs.Backends.{Member}
use Rattle.lb_select_base.specs.Draws.{Draw}
use Rattle.lb_select_base.specs.declared.refusal.Refusal.{Refusal}
use Rattle.lb_select_base.specs.declared.refusal.Refusal.TheVariants.{OutOfMemory}
use Rattle.lb_rebuild_core.specs.Values.{ReaderValue}
use Rattle.lb_select_base.specs.Copies.{AsCopied}
use Rattle.lb_select_base.proofs.Copies.{copies_hold}
use Rattle.lb_threads_group.specs.Kept.{IsKept, SelectsUnder, SelectedFrom}
use Rattle.lb_threads_group.specs.Shared.{SharedValue}

-- what holds of a refusal for memory holds of an answer that is one
pub refused_holds : (T : Result (Option Member) Refusal → Type 0) (r : Result (Option Member) Refusal) → IsErrAnd r (λ e. e ≡ OutOfMemory)
    → T (Err OutOfMemory) → T r
refused_holds T (Ok o) is holds = absurd is
refused_holds T (Err e) is holds = subst (λ x. T (Err x)) (sym is) holds

module _ {C R : Type 0} (gives : R → Member → Member → Type 0) (accepts : Member → Bool → Bool → Type 0) (limit : ℕ)
    (walks : List Member → C → List ℕ → List Draw → List Member → Bool → Type 0) (key : List ℕ) (site : SharedValue C R) where
  kept_selects : (slot n : ℕ) (r : ReaderValue C) → n ≡ slot → IsKept site n r → (a : Result (Option Member) Refusal)
      → SelectsUnder gives accepts limit walks key site r a → SelectedFrom gives accepts limit walks key site slot a
  kept_selects slot n r same entered a is =
      let kept = subst (λ m. IsKept site m r) same entered in (Ok r, site, (kept.1, refl), (site, is, (inr kept, refl)))

  -- what is found for a reader that a lane of the slot keeps is found in the slot
  pub kept_finds : (slot n : ℕ) (r : ReaderValue C) → n ≡ slot → IsKept site n r → (found : Result (Option (Bor Member)) Refusal)
      → AsCopied (SelectsUnder gives accepts limit walks key site r) found
      → AsCopied (SelectedFrom gives accepts limit walks key site slot) found
  kept_finds slot n r same entered found is =
      copies_hold (SelectsUnder gives accepts limit walks key site r) (SelectedFrom gives accepts limit walks key site slot)
      (kept_selects slot n r same entered) found is
