-- A walk over a built selector gives the candidates of its key, one point after another.
use Rattle.std.proofs.Common.{◌≡◌, ℕ, zero, suc, ◌+◌, ◌-◌, ◌*◌, ◌/◌, ◌%◌, ◌^◌, ◌<◌, ◌≤◌, inl, inr, nat_lt, cond, List, [], ◌∷◌, length}
use Rattle.std.proofs.Common.{get_or, sym, ap, subst, ◌∙◌, arith, add-zero, zero-add}
use Rattle.std.specs.Prelude.{Some, Option, slice_get, option_and_then}
use Rattle.std.specs.List.{Contains}
use Rattle.std.proofs.lemmas.Nat.{mod-mul-add, div-add-mod'}
use Rattle.std.proofs.Math.Nat.{add-mod_right, mod-eq_of_lt}
use Rattle.std.proofs.lemmas.Option.{same_Some, get_or_from_slice_get, slice_get-get_or}
use Rattle.lb_select_base.specs.Backends.{Address, Member}
use Rattle.lb_select.specs.Chains.{crc_chain}
use Rattle.lb_select.specs.Choices.{HasPoint, IsRingCandidate}
use Rattle.lb_select.specs.Circle.{IsPoint, IsPointOf}
use Rattle.lb_select.specs.Crc.{crc}
use Rattle.lb_select.specs.Placed.{Placed, IsPlaced, member_at, index_here, member_here, YieldsFrom, IsStart, IsMove}
use Rattle.lb_select.specs.Sorted.{turn_index, SplitsAt}
use Rattle.lb_select.proofs.Lists.{nothing_in_none, less_tells}
use Rattle.lb_select.proofs.Owners.{candidate_at}
use Rattle.lb_select.proofs.Standing.{get_inside, contains_at}
use Rattle.lb_select.proofs.Filling.{and_then_parts}

-- the remainder of the next number
mod_below : (t n : ℕ) → t % n + 1 < n → (t + 1) % n ≡ t % n + 1
mod_below t n h =
    let e : t / n * n + t % n ≡ t = div-add-mod' t n in
    let f : t + 1 ≡ t / n * n + (t % n + 1) = omega arith in
    ap (λ z. z % n) f ∙ mod-mul-add (t / n) n (t % n + 1) h

mod_round : (t n : ℕ) → 0 < n → t % n + 1 ≡ n → (t + 1) % n ≡ 0
mod_round t n some h =
    let e : t / n * n + t % n ≡ t = div-add-mod' t n in
    let f : t + 1 ≡ t / n * n + 0 + n = omega arith in
    ap (λ z. z % n) f ∙ add-mod_right (t / n * n + 0) n ∙ mod-mul-add (t / n) n 0 some

-- an index, or 0 past the last one
abbrev here_of : ℕ → ℕ → ℕ
here_of n at = cond (nat_lt at n) at 0

here_inside : (n at : ℕ) → at < n → here_of n at ≡ at
here_inside n at h = elim (less_tells at n) [ inl t ↦ rw t.0 | inr t ↦ (let l : n ≤ at = t.1 in absurd (omega arith)) ]

here_past : (n at : ℕ) → n ≤ at → here_of n at ≡ 0
here_past n at h = elim (less_tells at n) [ inl t ↦ (let l : at < n = t.1 in absurd (omega arith)) | inr t ↦ rw t.0 ]

turned_first : (s r n : ℕ) → r < n - s → turn_index s r n ≡ s + r
turned_first s r n h = elim (less_tells r (n - s)) [ inl t ↦ rw t.0 | inr t ↦ (let l : n - s ≤ r = t.1 in absurd (omega arith)) ]

turned_later : (s r n : ℕ) → n - s ≤ r → turn_index s r n ≡ r - (n - s)
turned_later s r n h = elim (less_tells r (n - s)) [ inl t ↦ (let l : r < n - s = t.1 in absurd (omega arith)) | inr t ↦ rw t.0 ]

-- where the next point is
next_inside : (n s r : ℕ) → s ≤ n → r + 1 < n → here_of n (turn_index s r n + 1) ≡ turn_index s (r + 1) n
next_inside n s r w h =
    elim (less_tells (r + 1) (n - s)) [
      | inl first ↦ (let l : r + 1 < n - s = first.1 in let k : r < n - s = omega arith in let i : s + r + 1 < n = omega arith
          in let e : s + r + 1 ≡ s + (r + 1) = omega arith in
          rw (turned_first s r n k, turned_first s (r + 1) n l, here_inside n (s + r + 1) i) e)
      | inr later ↦ (let l : n - s ≤ r + 1 = later.1 in
          elim (less_tells r (n - s)) [
            | inl seam ↦ (let k : r < n - s = seam.1 in let i : n ≤ s + r + 1 = omega arith in let e : 0 ≡ r + 1 - (n - s) = omega arith in
                rw (turned_first s r n k, turned_later s (r + 1) n l, here_past n (s + r + 1) i) e)
            | inr after ↦ (let k : n - s ≤ r = after.1 in let i : r - (n - s) + 1 < n = omega arith
                in let e : r - (n - s) + 1 ≡ r + 1 - (n - s) = omega arith in
                rw (turned_later s r n k, turned_later s (r + 1) n l, here_inside n (r - (n - s) + 1) i) e)
          ])
    ]

next_round : (n s r : ℕ) → s ≤ n → 0 < n → r + 1 ≡ n → here_of n (turn_index s r n + 1) ≡ turn_index s 0 n
next_round n s r w some h =
    elim (less_tells r (n - s)) [
      | inl first ↦ (let k : r < n - s = first.1 in let i : n ≤ s + r + 1 = omega arith in let z : 0 < n - s = omega arith
          in let e : 0 ≡ s + 0 = omega arith in
          rw (turned_first s r n k, here_past n (s + r + 1) i, turned_first s 0 n z) e)
      | inr later ↦ (let k : n - s ≤ r = later.1 in let at : r - (n - s) + 1 ≡ s = omega arith in
          elim (less_tells 0 (n - s)) [
            | inl inside ↦ (let z : 0 < n - s = inside.1 in let i : s < n = omega arith in let e : s ≡ s + 0 = omega arith in
                rw (turned_later s r n k, at, here_inside n s i, turned_first s 0 n z) e)
            | inr past ↦ (let z : n - s ≤ 0 = past.1 in let i : n ≤ s = omega arith in let e : 0 ≡ 0 - (n - s) = omega arith in
                rw (turned_later s r n k, at, here_past n s i, turned_later s 0 n z) e)
          ])
    ]

next_turn : (n s t : ℕ) → s ≤ n → 0 < n → here_of n (turn_index s (t % n) n + 1) ≡ turn_index s ((t + 1) % n) n
next_turn n s t w some =
    elim (less_tells (t % n + 1) n) [
      | inl below ↦ next_inside n s (t % n) w below.1 ∙ ap (λ z. turn_index s z n) (sym (mod_below t n below.1))
      | inr round ↦ (let l : t % n < n = omega arith in let m : n ≤ t % n + 1 = round.1 in let e : t % n + 1 ≡ n = omega arith in
          next_round n s (t % n) w some e ∙ ap (λ z. turn_index s z n) (sym (mod_round t n some e)))
    ]

first_turn : (n s : ℕ) → 0 < n → here_of n s ≡ turn_index s (0 % n) n
first_turn n s some =
    let e : 0 % n ≡ 0 = mod-eq_of_lt some in
    elim (less_tells s n) [
      | inl inside ↦ (let i : s < n = inside.1 in let z : 0 < n - s = omega arith in let f : s ≡ s + 0 = omega arith
          in rw (e, here_inside n s i, turned_first s 0 n z) f)
      | inr past ↦ (let i : n ≤ s = past.1 in let z : n - s ≤ 0 = omega arith in let f : 0 ≡ 0 - (n - s) = omega arith
          in rw (e, here_past n s i, turned_later s 0 n z) f)
    ]

module _ (r : Placed) (place : IsPlaced r.members r.owners r.points) (key : List ℕ) (low : crc key < 2 ^ 32) (s : ℕ)
    (within : s ≤ length r.points)
    (split : SplitsAt (crc key) r.points s) where
  -- the backend at the turn of a candidate is the candidate
  candidate_here : (i : ℕ) (c : Member) (at : ℕ) → index_here r at ≡ turn_index s (i % length r.points) (length r.points)
      → member_here r at ≡ Some c
      → IsRingCandidate r.members key i c
  candidate_here i c at e h =
      let parts = and_then_parts (λ (p : ℕ × ℕ). member_at r.members r.owners p.1) (slice_get r.points (index_here r at)) c h in
      let entry : ℕ × ℕ = parts.0 in
      let in' : Contains r.points entry = contains_at r.points (index_here r at) entry parts.1 in
      let inside : index_here r at < length r.points = get_inside r.points (index_here r at) entry parts.1 in
      let some : 0 < length r.points = omega arith in
      let y = place.yields entry in' in
      let same : y.0 ≡ c = same_Some y.0 c (sym y.1 ∙ parts.2) in
      let has : ℕ → Address → Type 0 = HasPoint crc_chain r.members in
      let found : IsPointOf has (crc key) i (get_or r.points (turn_index s (i % length r.points) (length r.points)) entry).0 =
      candidate_at r.points place.order (crc key) low s within split entry has (λ q p. place.whole q p) (λ f m. let z = place.yields f m
      in (z.0.address, z.2.has_it)) some i in
      let one : get_or r.points (turn_index s (i % length r.points) (length r.points)) entry ≡ entry =
      ap (λ k. get_or r.points k entry) (sym e) ∙ get_or_from_slice_get r.points (index_here r at) entry entry parts.1 in
      let P : ℕ × ℕ → Type 0 = λ f. IsPointOf has (crc key) i f.0 in
      let Q : Member → Type 0 = λ m. IsRingCandidate r.members key i m in
      subst Q same (y.0.address, (entry.0, subst P one found, y.2), y.3)

  -- so is each one from there on
  candidates_from : (cs : List Member) (at t : ℕ) → index_here r at ≡ turn_index s (t % length r.points) (length r.points)
      → YieldsFrom r at cs
      → (i : ℕ) (c : Member) → slice_get cs i ≡ Some c → IsRingCandidate r.members key (t + i) c
  candidates_from [] at t e y i c h = absurd (cc)
  candidates_from (d ∷ cs) at t e y zero c h =
      let same : d ≡ c = same_Some d c h in
      let Q : ℕ → Type 0 = λ z. IsRingCandidate r.members key z c in
      subst Q (sym (add-zero t)) (candidate_here t c at e (y.0 ∙ ap Some same))
  candidates_from (d ∷ cs) at t e y (suc i) c h =
      let parts = and_then_parts (λ (p : ℕ × ℕ). member_at r.members r.owners p.1) (slice_get r.points (index_here r at)) d y.0 in
      let inside : index_here r at < length r.points = get_inside r.points (index_here r at) parts.0 parts.1 in
      let some : 0 < length r.points = omega arith in
      let next : index_here r (index_here r at + 1) ≡ turn_index s ((t + 1) % length r.points) (length r.points) =
      ap (λ z. here_of (length r.points) (z + 1)) e ∙ next_turn (length r.points) s t within some in
      let f : t + 1 + i ≡ t + suc i = omega arith in
      let Q : ℕ → Type 0 = λ z. IsRingCandidate r.members key z c in
      subst Q f (candidates_from cs (index_here r at + 1) (t + 1) next y.1 i c h)

  candidates_of : (cs : List Member) → YieldsFrom r s cs → (i : ℕ) (c : Member) → slice_get cs i ≡ Some c
      → IsRingCandidate r.members key i c
  candidates_of [] y i c h = absurd (cc)
  candidates_of (d ∷ cs) y i c h =
      let parts = and_then_parts (λ (p : ℕ × ℕ). member_at r.members r.owners p.1) (slice_get r.points (index_here r s)) d y.0 in
      let inside : index_here r s < length r.points = get_inside r.points (index_here r s) parts.0 parts.1 in
      let some : 0 < length r.points = omega arith in
      let Q : ℕ → Type 0 = λ z. IsRingCandidate r.members key z c in
      subst Q (zero-add i) (candidates_from (d ∷ cs) s 0 (first_turn (length r.points) s some) y i c h)

  no_point : r.points ≡ [] → (p : ℕ) → IsPoint (HasPoint crc_chain r.members) p → ⊥
  no_point e p x =
      let w = place.whole p x in
      let P : List (ℕ × ℕ) → Type 0 = λ es. Contains es w.0 in
      nothing_in_none w.0 (subst P e w.1)

  pub starts_so : IsStart r key s
  starts_so = λ es cs e w. record {
    undrawn = w.undrawn;
    candidates = candidates_of cs w.candidates;
    end = λ h. no_point (w.end h);
  }

-- the backend of an entry
owned : (r : Placed) → IsPlaced r.members r.owners r.points → (i : ℕ) (e : ℕ × ℕ) → slice_get r.points i ≡ Some e → (m : Member)
    × (member_at r.members r.owners e.1 ≡ Some m) × ((b : ℕ) × (slice_get r.owners e.1 ≡ Some b) × (slice_get r.members b ≡ Some m))
owned r place i e read =
    let y = place.yields e (contains_at r.points i e read) in
    (y.0, y.1, and_then_parts (slice_get r.members) (slice_get r.owners e.1) y.0 y.1)

read_at : {X : Type 0} (xs : List X) (i : ℕ) (x : X) → i < length xs → x ≡ get_or xs i x → slice_get xs i ≡ Some x
read_at xs i x inside same = slice_get-get_or xs i x inside ∙ ap Some (sym same)

-- the number of an entry's owner is one
pub owner_inside : (r : Placed) → IsPlaced r.members r.owners r.points → (i : ℕ) (e : ℕ × ℕ) → i < length r.points → e ≡ get_or r.points i e
    → e.1 < length r.owners
owner_inside r place i e inside same =
    let o = owned r place i e (read_at r.points i e inside same) in get_inside r.owners e.1 o.2.0 o.2.1

-- one step: the backend at the next point is yielded, and the walk is past that point
pub stepped : (r : Placed) → IsPlaced r.members r.owners r.points → (at i : ℕ) (e : ℕ × ℕ) (b : ℕ) → i < length r.points
    → i ≡ turn_index at (0 % length r.points) (length r.points) → e ≡ get_or r.points i e → b ≡ get_or r.owners e.1 b
    → IsMove r at (slice_get r.members b) (i + 1)
stepped r place at i e b inside turned same owner =
    let some : 0 < length r.points = omega (arith, inside) in
    let here : i ≡ index_here r at = turned ∙ sym (first_turn (length r.points) at some) in
    let read : slice_get r.points i ≡ Some e = read_at r.points i e inside same in
    let o = owned r place i e read in
    let one : b ≡ o.2.0 = owner ∙ get_or_from_slice_get r.owners e.1 o.2.0 b o.2.1 in
    let given : slice_get r.members b ≡ Some o.0 = ap (slice_get r.members) one ∙ o.2.2 in
    let f : ℕ × ℕ → Option Member = λ p. member_at r.members r.owners p.1 in
    let yields : member_here r at ≡ Some o.0 = ap (λ k. option_and_then f (slice_get r.points k)) (sym here)
    ∙ ap (option_and_then f) read ∙ o.1 in
    let P : Option Member → Type 0 = λ z. IsMove r at z (i + 1) in
    subst P (sym given)
    (λ es cs ended w. record {
      undrawn = w.undrawn;
      candidates = (yields, (let Q : ℕ → Type 0 = λ k. YieldsFrom r (k + 1) cs in subst Q here w.candidates));
      end = w.end;
    })
