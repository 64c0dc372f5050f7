-- A write of a word that has its fact keeps what words keep.
use Rattle.std.proofs.Common.{◌≡◌, ◌≤◌, ◌∙◌, ℕ, suc, List, [], ◌∷◌, ◌++◌}
use Rattle.std.proofs.Common.{length, refl, sym, subst, set, get_or, get_or-set_same, get_or-set_other, arith}
use Rattle.std.proofs.lemmas.List.{set_past}
use Rattle.std.specs.List.{slice_index}
use mathlib.Core.Logic.{dite}
use native.Mathlib.Decide.{ℕ_discrete, dec_le}
use Rattle.atomic_table.specs.Table.{Arrives, keeps}
use Rattle.lb_threads_core.specs.Words.{AreKept}

-- what is found at a place, after one place was written
at_write : (l : List ℕ) (i j n : ℕ) (P : ℕ → Type 0) → (j ≡ i → P n) → P (slice_index l j) → P (slice_index (set l i n) j)
at_write l i j n P here there =
    dite (ℕ_discrete j i)
    (λ e. at_place e (dec_le (suc i) (length l)))
    (λ ne. subst P (sym (get_or-set_other l i j n 0 ne)) there)
  where
    at_place : j ≡ i → Dec (suc i ≤ length l) → P (slice_index (set l i n) j)
    at_place e (yes in_) =
        subst P (sym (subst (λ (k : ℕ). get_or (set l i n) k 0 ≡ n) (sym e) (get_or-set_same l i n 0 in_))) (here e)
    at_place e (no out) = subst (λ (m : List ℕ). P (slice_index m j)) (sym (set_past l i n (omega (arith, out)))) there

-- a write of a word that has its fact
kept_set : (holds : ℕ → ℕ → Type 0) (ws : List ℕ) (i n : ℕ) → holds i n → AreKept holds ws → AreKept holds (set ws i n)
kept_set holds ws i n is all j = at_write ws i j n (λ w. holds j w) (λ e. subst (λ (k : ℕ). holds k n) (sym e) is) (all j)

-- a new seat writes a word
pub writes : {K : Type 0} (holds : ℕ → ℕ → Type 0) (key : K) (slots i n : ℕ) → holds i n
    → Arrives {S = Unit {0}} {V = K} (λ s. AreKept holds s.words) slots i (λ _. n) (λ _ _. Unit {0})
writes holds key slots i n is s all _ _ = (key, keeps, tt, kept_set holds s.words i n is all, tt)
