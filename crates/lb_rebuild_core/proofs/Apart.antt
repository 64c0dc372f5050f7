-- Two seats of one number, each with three quarters of its record, have records under different names.
use Rattle.std.proofs.Common.{◌≡◌, ℕ, refl, subst}
use seplogic.Ra.Ura.{Ura}
use mathlib.Core.Logic.{dite}
use native.Mathlib.Decide.{ℕ_discrete}
use base.Logic.{SProp, ent, sep, guard, via, guard_e, guard_i}
use base.Share.{three_quarters}
use base.Stored.{Coded}
use base.Fml.{Fml}
use types.Logic.{Logic, sem}
use Rattle.atomic_table.specs.Seated.{seen}
use Rattle.atomic_table.proofs.Roster.{apart}

module _ {M : Type 1} {𝓤 : Ura M} (𝓛 : Logic 𝓤) {V : Type 0} (cv : Coded V) where
  -- a seat's part of the record k under the name γ
  abbrev pub part : ℕ → ℕ → V → Fml
  part γ k v = seen cv.code γ k three_quarters v

  abbrev Both : ℕ → ℕ → ℕ → V → V → SProp 𝓤
  Both γ δ k v w = sep 𝓤 (sem 𝓛 (part γ k v)) (sem 𝓛 (part δ k w))

  pub other_names : (γ δ k : ℕ) (v w : V) → ent 𝓤 (Both γ δ k v w) (guard 𝓤 (¬ (γ ≡ δ)) (Both γ δ k v w))
  other_names γ δ k v w =
      dite (ℕ_discrete γ δ)
      (λ e. subst (λ (m : ℕ). ent 𝓤 (Both γ m k v w) (guard 𝓤 (¬ (γ ≡ m)) (Both γ m k v w))) e
      (via 𝓤 (guard 𝓤 (¬ (k ≡ k)) (Both γ γ k v w)) (apart 𝓛 cv γ k k v w) (guard_e 𝓤 (¬ (k ≡ k)) (Both γ γ k v w) (λ n. absurd (n refl)))))
      (guard_i 𝓤 (¬ (γ ≡ δ)) (Both γ δ k v w))
