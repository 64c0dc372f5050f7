-- The points of a chain, one after another.
use Rattle.std.proofs.Common.{◌≡◌, ℕ, zero, suc, ◌+◌, ◌^◌, ◌<◌, List, [], ◌∷◌, ◌++◌, map, refl, sym, ap, ◌∙◌, arith, add-one}
use Rattle.std.specs.Int.{w32, to_le_bytes}
use Rattle.std.specs.List.{range_with_len}
use Rattle.lb_select.specs.Crc.{crc, crc_fed, crc_last, crc_byte}
use Rattle.lb_select.specs.Chains.{text_chain, state_chain, point_after}
use Rattle.lb_select.specs.Chains.{chain_entries}
use Rattle.lb_select.proofs.Crcs.{crc_small}

pub chain_first : (s : ℕ) → point_after s 0 ≡ state_chain s 0
unfolding state_chain
chain_first s = refl

pub chain_next : (s k p : ℕ) → p ≡ state_chain s k → point_after s p ≡ state_chain s (k + 1)
unfolding state_chain
chain_next s k p e = rw add-one (ap (point_after s) e)

range_push : (a n : ℕ) → range_with_len a (suc n) ≡ range_with_len a n ++ (a + n) ∷ []
range_push a zero = let e : a ≡ a + 0 = omega arith in ap (λ z. z ∷ []) e
range_push a (suc n) =
    let e : a + 1 + n ≡ a + suc n = omega arith in
    ap (λ z. a ∷ z) (range_push (a + 1) n) ∙ ap (λ z. a ∷ (range_with_len (a + 1) n ++ z ∷ [])) e

map_push : {X Y : Type 0} (f : X → Y) (xs : List X) (x : X) → map f (xs ++ x ∷ []) ≡ map f xs ++ f x ∷ []
map_push f [] x = refl
map_push f (y ∷ xs) x = ap (λ z. f y ∷ z) (map_push f xs x)

pub entries_more : (s k o : ℕ) → chain_entries s (k + 1) o ≡ chain_entries s k o ++ (state_chain s k, o) ∷ []
entries_more s k o =
    let e : k + 1 ≡ suc k = omega arith in
    let z : 0 + k ≡ k = omega arith in
    let f : ℕ → ℕ × ℕ = λ q. (state_chain s q, o) in
    ap (λ n. map f (range_with_len 0 n)) e ∙ ap (map f) (range_push 0 k) ∙ ap (λ n. map f (range_with_len 0 k ++ n ∷ [])) z
    ∙ map_push f (range_with_len 0 k) k

fed_append : (s : ℕ) (xs ys : List ℕ) → crc_fed s (xs ++ ys) ≡ crc_fed (crc_fed s xs) ys
fed_append s [] ys = refl
fed_append s (x ∷ xs) ys = fed_append (crc_byte s x) xs ys

-- the chain by the state of the text is the chain of the text
pub chain_of_state : (text : List ℕ) (k : ℕ) → state_chain (crc_fed 0xFFFFFFFF text) k ≡ text_chain text k
unfolding state_chain text_chain point_after crc
chain_of_state text zero = ap crc_last (sym (fed_append 0xFFFFFFFF text (to_le_bytes w32 0)))
chain_of_state text (suc k) =
    ap (λ p. crc_last (crc_fed (crc_fed 0xFFFFFFFF text) (to_le_bytes w32 p))) (chain_of_state text k)
    ∙ ap crc_last (sym (fed_append 0xFFFFFFFF text (to_le_bytes w32 (text_chain text k))))

-- the points of a chain have 32 bits
pub chain_small : (text : List ℕ) (k : ℕ) → text_chain text k < 2 ^ 32
unfolding text_chain
chain_small text zero = crc_small (text ++ to_le_bytes w32 0)
chain_small text (suc k) = crc_small (text ++ to_le_bytes w32 (text_chain text k))
