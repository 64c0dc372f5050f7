-- The chains of the backends of a set, one after another: their points are those of the backends.
use Rattle.std.proofs.Common.{◌≡◌, ℕ, ◌+◌, ◌*◌, ◌^◌, ◌<◌, inl, inr, cond, List, [], ◌∷◌, ◌++◌, length, take, refl, sym, ap, subst, ◌∙◌}
use Rattle.std.proofs.Common.{arith, length-append, zero-add}
use Rattle.std.specs.Prelude.{Some, slice_get}
use Rattle.std.specs.List.{range_with_len}
use Rattle.std.proofs.lemmas.List.Elements.{Contains-append_cases}
use Rattle.std.proofs.lemmas.List.FromFn.{length-range_with_len}
use Rattle.std.proofs.lemmas.List.{length-map}
use Rattle.lb_select_base.specs.Backends.{Member}
use Rattle.lb_select.specs.Chains.{hashed_text, state_chain, chain_entries, entries_from, entries_of}
use Rattle.lb_select.specs.Choices.{is_internet, ring_weight, points_per_weight}
use Rattle.lb_select.specs.Crc.{crc_fed}
use Rattle.lb_select.specs.Placed.{Bears, IsFilled, IsMarked}
use Rattle.lb_select.specs.Sorted.{HasSmallPoints}
use Rattle.lb_select.proofs.Chaining.{chain_of_state, chain_small}
use Rattle.lb_select.proofs.Filling.{weight_up, filled_same, filled_chain, filled_none}
use Rattle.lb_select.proofs.Owners.{of_map}
use Rattle.lb_select.proofs.Spreading.{entries_append, append_none}

-- the points of one chain more
entries_pushed : (chains : List (ℕ × ℕ)) (state count : ℕ)
    → entries_of (chains ++ (state, count) ∷ []) ≡ entries_of chains ++ chain_entries state count (length chains)
entries_pushed chains state count =
    entries_append 0 chains ((state, count) ∷ [])
    ∙ ap (λ n. entries_of chains ++ entries_from n ((state, count) ∷ [])) (zero-add (length chains))
    ∙ ap (λ z. entries_of chains ++ z) (append_none (chain_entries state count (length chains)))

-- the points of a chain have 32 bits
small_chain : (points : List (ℕ × ℕ)) (text : List ℕ) (state count number : ℕ) → HasSmallPoints points → state ≡ crc_fed 0xFFFFFFFF text
    → HasSmallPoints (points ++ chain_entries state count number)
small_chain points text state count number h s = λ e m.
    elim (Contains-append_cases points (chain_entries state count number) e m) [
      | inl old ↦ h e old
      | inr new ↦ (let w = of_map (λ k. (state_chain state k, number)) (range_with_len 0 count) e new in
          let P : (ℕ × ℕ) → Type 0 = λ z. z.0 < 2 ^ 32 in
          let Q : ℕ → Type 0 = λ z. z < 2 ^ 32 in
          let same : state_chain state w.0 ≡ state_chain (crc_fed 0xFFFFFFFF text) w.0 = ap (λ z. state_chain z w.0) s in
          subst P w.2 (subst Q (sym (same ∙ chain_of_state text w.0)) (chain_small text w.0)))
    ]

chain_len : (state count number : ℕ) → length (chain_entries state count number) ≡ count
chain_len state count number = length-map (range_with_len 0 count) (λ k. (state_chain state k, number)) ∙ length-range_with_len 0 count

pub marked_none : (ms : List Member) → IsMarked ms 0 [] []
marked_none ms = record { filled = filled_none ms; paired = refl; many = omega arith }

module _ (ms : List Member) (i : ℕ) (owners : List ℕ) (chains : List (ℕ × ℕ)) (h : IsMarked ms i owners chains) (m : Member)
    (at : slice_get ms i ≡ Some m) where
  -- a backend that has no points, or not the most
  pub marked_same : ((b : Member) → Bears ms i b → ⊥) → IsMarked ms (i + 1) owners chains
  marked_same none_here =
      let up : ring_weight (take (i + 1) ms) ≡ ring_weight (take i ms) + cond (is_internet m.address) m.weight 0 =
      weight_up ms i owners (entries_of chains) h.filled m at in
      record {
        filled = filled_same ms i owners (entries_of chains) h.filled m at none_here;
        paired = h.paired;
        many = omega (arith, up, h.many);
      }

  -- a backend that has points
  pub marked_more : Bears ms i m → (state count : ℕ) → state ≡ crc_fed 0xFFFFFFFF (hashed_text m.address)
      → count ≡ points_per_weight * m.weight
      → IsMarked ms (i + 1) (owners ++ i ∷ []) (chains ++ (state, count) ∷ [])
  marked_more bears state count s c =
      let up : ring_weight (take (i + 1) ms) ≡ ring_weight (take i ms) + cond (is_internet m.address) m.weight 0 =
      weight_up ms i owners (entries_of chains) h.filled m at in
      let heavy : cond (is_internet m.address) m.weight 0 ≡ m.weight = ap (λ b. cond b m.weight 0) bears.internet in
      let P : List (ℕ × ℕ) → Type 0 = λ z. IsFilled ms (i + 1) (owners ++ i ∷ []) z in
      let len : length (entries_of (chains ++ (state, count) ∷ [])) ≡ length (entries_of chains) + count
      = ap length (entries_pushed chains state count) ∙ length-append (entries_of chains) (chain_entries state count (length chains))
      ∙ ap (λ z. length (entries_of chains) + z) (chain_len state count (length chains)) in
      let one : length (chains ++ (state, count) ∷ []) ≡ length chains + 1 = length-append chains ((state, count) ∷ []) in
      let two : length (owners ++ i ∷ []) ≡ length owners + 1 = length-append owners (i ∷ []) in
      record {
        filled = subst P (sym (entries_pushed chains state count))
            (filled_chain ms i owners (entries_of chains) h.filled m at bears state count (length chains) s c h.paired
            (small_chain (entries_of chains) (hashed_text m.address) state count (length chains) h.filled.small s));
        paired = omega (arith, one, two, h.paired);
        many = omega (arith, len, c, up, heavy, h.many);
      }
