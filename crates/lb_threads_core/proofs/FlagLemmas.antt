-- What words may say: what is said of a backend, at the place that one of its identity has; and nothing.
use Rattle.std.proofs.Common.{◌≡◌, ◌∙◌, ℕ, Bool, true, false, List, Option, Some, None, replicate, zero, suc, ◌%◌, ◌/◌, refl, sym, subst}
use Rattle.std.specs.Prelude.{IfSome, slice_get, slice_index}
use Rattle.lb_select_base.specs.Backends.{Member, same_member}
use Rattle.lb_select_base.proofs.Turns.{same_equiv}
use Rattle.lb_threads_core.specs.FlagWords.{Says, SaysAt, said_as}

-- a backend's place has one of its identity
abbrev pub HasPlace : List (Option Member) → ℕ → Member → Type 0
HasPlace marks i b = (m : Member) × (slice_get marks i ≡ Some (Some m)) × (same_member b m ≡ true)

module _ (Told : Member → ℕ → Bool → Bool → Type 0)
    (by_identity : (b m : Member) (c : ℕ) (a n : Bool) → same_member b m ≡ true → Told m c a n → Told b c a n) where
  says-same : (b m : Member) (w : ℕ) → same_member b m ≡ true → Says (Told m) w → Says (Told b) w
  says-same b m w same says = λ a n is. by_identity b m (w / 8) a n same (says a n is)

  -- what is said of a backend may be the word at its place
  pub says-at : (marks : List (Option Member)) (i w : ℕ) (b : Member) → HasPlace marks i b → Says (Told b) w → SaysAt Told marks i w
  says-at marks i w b (m, at, same) says =
      subst (λ o. IfSome o (λ p. IfSome p (λ q. Says (Told q) w))) (sym at)
      (says-same m b w (same_equiv.symm m b ∙ same) says)

zero-says : (a n : Bool) (w : ℕ) → w ≡ 0 → w % 8 ≡ said_as a n → ⊥
zero-says true true w none is = absurd (cc)
zero-says false true w none is = absurd (cc)
zero-says true false w none is = absurd (cc)
zero-says false false w none is = absurd (cc)

module _ (Told : Bool → Bool → Type 0) where
  said-once : (a n b m : Bool) → said_as a n ≡ said_as b m → Told a n → Told b m
  said-once true true true true is told = told
  said-once true true false true is told = absurd (cc)
  said-once true true true false is told = absurd (cc)
  said-once true true false false is told = absurd (cc)
  said-once false true true true is told = absurd (cc)
  said-once false true false true is told = told
  said-once false true true false is told = absurd (cc)
  said-once false true false false is told = absurd (cc)
  said-once true false true true is told = absurd (cc)
  said-once true false false true is told = absurd (cc)
  said-once true false true false is told = told
  said-once true false false false is told = absurd (cc)
  said-once false false true true is told = absurd (cc)
  said-once false false false true is told = absurd (cc)
  said-once false false true false is told = absurd (cc)
  said-once false false false false is told = told

-- the word that says so of this cell alone
pub says-word : (Told : ℕ → Bool → Bool → Type 0) (w c : ℕ) (a n : Bool) → w % 8 ≡ said_as a n → w / 8 ≡ c → Told c a n
    → Says Told w
says-word Told w c a n is cell told =
    λ b m other. said-once (λ e k. Told (w / 8) e k) a n b m (sym is ∙ other) (subst (λ k. Told k a n) (sym cell) told)

-- a word of 0 says nothing, and so do words that aren't there
nothing-said : (Told : Member → ℕ → Bool → Bool → Type 0) (marks : List (Option Member)) (i w : ℕ) → w ≡ 0 → SaysAt Told marks i w
nothing-said Told marks i w none = said (slice_get marks i)
  where
    said : (o : Option (Option Member)) → IfSome o (λ o. IfSome o (λ b. Says (Told b) w))
    said None = tt
    said (Some None) = tt
    said (Some (Some b)) = λ a n is. absurd (zero-says a n w none is)

-- each of so many numbers 0 is 0
pub zero-at : (n i : ℕ) → slice_index (replicate n 0) i ≡ 0
zero-at zero i = refl
zero-at (suc n) zero = refl
zero-at (suc n) (suc i) = zero-at n i

-- words of 0 say nothing
pub nothing-kept : (Told : Member → ℕ → Bool → Bool → Type 0) (marks : List (Option Member)) (n : ℕ) (words : List ℕ)
    → words ≡ replicate n 0 → (i : ℕ) → SaysAt Told marks i (slice_index words i)
nothing-kept Told marks n words are i =
    nothing-said Told marks i (slice_index words i) (subst (λ (l : List ℕ). slice_index l i ≡ 0) (sym are) (zero-at n i))
