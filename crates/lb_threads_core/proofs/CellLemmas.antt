-- What words of cells may say: what is so of the cell that they name; and nothing.
use Rattle.std.proofs.Common.{◌≡◌, ◌∙◌, ℕ, Bool, true, false, List, Option, Some, None, replicate, ◌%◌, ◌/◌, sym, subst}
use Rattle.std.specs.Prelude.{IfSome, slice_index}
use Rattle.lb_select_base.specs.Backends.{Member}
use Rattle.lb_health_core.specs.Registry.{RegistryValue}
use Rattle.lb_threads_core.specs.CellWords.{SaysOfCell, WasHealthy, told_as}
use Rattle.lb_threads_core.proofs.FlagLemmas.{zero-at}

module _ {R : Type 0} (gives : R → Member → Member → Type 0) (start : RegistryValue R) where
  zero-tells : (a : Bool) (w : ℕ) → w ≡ 0 → w % 4 ≡ told_as a → ⊥
  zero-tells true w none is = absurd (cc)
  zero-tells false w none is = absurd (cc)

  -- words of 0 say nothing
  pub nothing-told : (n : ℕ) (words : List ℕ) → words ≡ replicate n 0 → (i : ℕ) → SaysOfCell gives start (slice_index words i)
  nothing-told n words are i =
      λ a is. absurd (zero-tells a (slice_index words i) (subst (λ (l : List ℕ). slice_index l i ≡ 0) (sym are) (zero-at n i)) is)

  told-once : (a b : Bool) (Told : Bool → Type 0) → told_as a ≡ told_as b → Told a → Told b
  told-once true true Told is told = told
  told-once true false Told is told = absurd (cc)
  told-once false true Told is told = absurd (cc)
  told-once false false Told is told = told

  -- the word that says so of this cell alone
  pub tells-word : (w c : ℕ) (a : Bool) → w % 4 ≡ told_as a → w / 4 ≡ c → WasHealthy gives start c a → SaysOfCell gives start w
  tells-word w c a is cell told =
      λ b other. told-once a b (λ k. WasHealthy gives start (w / 4) k) (sym is ∙ other)
      (subst (λ k. WasHealthy gives start k a) (sym cell) told)

  -- what a word says is known of the cell that it names
  pub is-told : (w c : ℕ) (r : Option Bool) → SaysOfCell gives start w → w / 4 ≡ c → IfSome r (λ a. w % 4 ≡ told_as a)
      → IfSome r (WasHealthy gives start c)
  is-told w c (Some a) says same is = subst (λ k. WasHealthy gives start k a) same (says a is)
  is-told w c None says same is = tt
