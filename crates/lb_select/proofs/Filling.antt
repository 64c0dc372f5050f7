-- The backends of a set, one after another, and the points that they add.
use Rattle.std.proofs.Common.{◌≡◌, ℕ, zero, suc, ◌+◌, ◌*◌, ◌<◌, ◌≤◌, ◌⊎◌, inl, inr, true, cond, List, [], ◌∷◌, ◌++◌, length, take, map}
use Rattle.std.proofs.Common.{refl, sym, ap, subst, ◌∙◌, arith, length-append, zero-add}
use Rattle.std.specs.Prelude.{Some, None, Option, slice_get, option_and_then}
use Rattle.std.specs.List.{Contains, range_with_len}
use Rattle.std.proofs.lemmas.Option.{same_Some}
use Rattle.std.proofs.lemmas.List.Sums.{sum_by-append}
use Rattle.std.proofs.lemmas.List.Elements.{Contains-push, Contains-push_cases, Contains-append_left, Contains-append_right}
use Rattle.std.proofs.lemmas.List.Elements.{Contains-append_cases}
use Rattle.lb_select_base.specs.Backends.{Member}
use Rattle.lb_select_base.specs.Seen.{inet_seen}
use Rattle.lb_select_base.specs.declared.backend.InetAddr.{InetAddr}
use Rattle.lb_select_base.specs.declared.backend.InetAddr.TheVariants.{V4, V6}
use Rattle.lb_select.specs.Chains.{hashed_text, crc_chain, state_chain}
use Rattle.lb_select.specs.Crc.{crc_fed}
use Rattle.lb_select.specs.Choices.{is_internet, ring_weight, points_per_weight}
use Rattle.lb_select.specs.Placed.{member_at, Bears, IsOfChain, IsFilled}
use Rattle.lb_select.specs.Chains.{chain_entries}
use Rattle.lb_select.specs.Sorted.{none, more, HasSmallPoints}
use Rattle.lb_select.proofs.Chaining.{chain_of_state}
use Rattle.lb_select.proofs.Lists.{here, there, head_or_rest, nothing_in_none, rises_append, less_tells}
use Rattle.lb_select.proofs.Owners.{in_map, of_map}

-- reading a list to which one element was added
pub get_front : {X : Type 0} (xs ys : List X) (i : ℕ) (x : X) → slice_get xs i ≡ Some x → slice_get (xs ++ ys) i ≡ Some x
get_front [] ys i x h = absurd (cc)
get_front (z ∷ xs) ys zero x h = h
get_front (z ∷ xs) ys (suc i) x h = get_front xs ys i x h

pub get_seam : {X : Type 0} (xs : List X) (y : X) → slice_get (xs ++ y ∷ []) (length xs) ≡ Some y
get_seam [] y = refl
get_seam (x ∷ xs) y = get_seam xs y

pub get_pushed : {X : Type 0} (xs : List X) (y : X) (i : ℕ) (x : X) → slice_get (xs ++ y ∷ []) i ≡ Some x
    → (slice_get xs i ≡ Some x) ⊎ ((i ≡ length xs) × (y ≡ x))
get_pushed [] y zero x h = inr (refl, same_Some y x h)
get_pushed [] y (suc i) x h = absurd (cc)
get_pushed (z ∷ xs) y zero x h = inl h
get_pushed (z ∷ xs) y (suc i) x h = elim (get_pushed xs y i x h) [ inl a ↦ inl a | inr b ↦ inr (ap suc b.0, b.1) ]

-- the parts of a read through a read
pub and_then_parts : {X Y : Type 0} (f : X → Option Y) (o : Option X) (y : Y) → option_and_then f o ≡ Some y → (x : X) × (o ≡ Some x)
    × (f x ≡ Some y)
and_then_parts f None y h = absurd (cc)
and_then_parts f (Some x) y h = (x, refl, h)

-- the numbers below n
in_range : (a n k : ℕ) → k < n → Contains (range_with_len a n) (a + k)
in_range a zero k h = absurd (omega arith)
in_range a (suc n) zero h = let e : a ≡ a + 0 = omega arith in let P : ℕ → Type 0 = λ z. Contains (a ∷ range_with_len (a + 1) n) z
    in subst P e (here a (range_with_len (a + 1) n))
in_range a (suc n) (suc k) h =
    let e : a + 1 + k ≡ a + suc k = omega arith in
    let P : ℕ → Type 0 = λ z. Contains (a ∷ range_with_len (a + 1) n) z in
    let l : k < n = omega arith in
    subst P e (there a (range_with_len (a + 1) n) (a + 1 + k) (in_range (a + 1) n k l))

of_range : (a n q : ℕ) → Contains (range_with_len a n) q → q < a + n
of_range a zero q m = absurd (nothing_in_none q m)
of_range a (suc n) q m =
    elim (head_or_rest a (range_with_len (a + 1) n) q m) [
      | inl e ↦ omega arith
      | inr t ↦ (let l : q < a + 1 + n = of_range (a + 1) n q t in omega arith)
    ]

pub to_range : (n k : ℕ) → k < n → Contains (range_with_len 0 n) k
to_range n k h = let e : 0 + k ≡ k = omega arith in let P : ℕ → Type 0 = λ z. Contains (range_with_len 0 n) z
    in subst P e (in_range 0 n k h)

pub from_range : (n k : ℕ) → Contains (range_with_len 0 n) k → k < n
from_range n k m = let l : k < 0 + n = of_range 0 n k m in omega arith

-- one more of a list
take_more : {X : Type 0} (xs : List X) (i : ℕ) (x : X) → slice_get xs i ≡ Some x → take (i + 1) xs ≡ take i xs ++ x ∷ []
take_more [] i x h = absurd (cc)
take_more (y ∷ xs) zero x h = ap (λ z. z ∷ []) (same_Some y x h)
take_more (y ∷ xs) (suc i) x h =
    let e : suc i + 1 ≡ suc (i + 1) = omega arith in
    let P : ℕ → Type 0 = λ n. take n (y ∷ xs) ≡ y ∷ (take i xs ++ x ∷ []) in
    subst P (sym e) (ap (λ z. y ∷ z) (take_more xs i x h))

abbrev weight : Member → ℕ
weight m = cond (is_internet m.address) m.weight 0

weight_more : (ms : List Member) (m : Member) → ring_weight (ms ++ m ∷ []) ≡ ring_weight ms + cond (is_internet m.address) m.weight 0
weight_more ms m =
    let e : ring_weight (ms ++ m ∷ []) ≡ ring_weight ms + (0 + weight m) = sum_by-append weight ms (m ∷ []) in
    e ∙ ap (λ z. ring_weight ms + z) (zero-add (weight m))

module _ (ms : List Member) (i : ℕ) (owners : List ℕ) (points : List (ℕ × ℕ)) (h : IsFilled ms i owners points) (m : Member)
    (at : slice_get ms i ≡ Some m) where
  pub weight_up : ring_weight (take (i + 1) ms) ≡ ring_weight (take i ms) + cond (is_internet m.address) m.weight 0
  weight_up = ap ring_weight (take_more ms i m at) ∙ weight_more (take i ms) m

  -- a backend that has no points, or not the most
  pub filled_same : ((b : Member) → Bears ms i b → ⊥) → IsFilled ms (i + 1) owners points
  filled_same none_here = record {
    upwards = h.upwards;
    few = (let a : length owners ≤ ring_weight (take i ms) = h.few in let e = weight_up in omega arith);
    bearing = λ b c. (let l : b < i = (h.bearing b c).0 in let g : b < i + 1 = omega arith in g, (h.bearing b c).1);
    all = λ b n l bears. elim (less_tells b i) [
      | inl before ↦ h.all b n before.1 bears
      | inr after ↦ (let le : i ≤ b = after.1 in let e : b ≡ i = omega arith in let P : ℕ → Type 0 = λ x. Bears ms x n
          in absurd (none_here n (subst P e bears)))
    ];
    small = h.small;
    given = h.given;
    whole = h.whole;
  }

  -- a backend that has points
  module _ (bears : Bears ms i m) where
    abbrev added : List (ℕ × ℕ)
    added = map (λ k. (crc_chain m.address k, length owners)) (range_with_len 0 (points_per_weight * m.weight))

    old_owner : (e : ℕ × ℕ) → IsOfChain ms owners e → IsOfChain ms (owners ++ i ∷ []) e
    old_owner e o =
        let b = and_then_parts (slice_get ms) (slice_get owners e.1) o.member o.owner in
        record {
          member = o.member;
          owner = ap (option_and_then (slice_get ms)) (get_front owners (i ∷ []) e.1 b.0 b.1) ∙ b.2;
          number = o.number;
          within = o.within;
          point_is = o.point_is;
        }

    new_owner : (e : ℕ × ℕ) → Contains added e → IsOfChain ms (owners ++ i ∷ []) e
    new_owner e c =
        let w = of_map (λ k. (crc_chain m.address k, length owners)) (range_with_len 0 (points_per_weight * m.weight)) e c in
        let number : length owners ≡ e.1 = ap (λ (z : ℕ × ℕ). z.1) w.2 in
        record {
          member = m;
          owner = ap (λ n. option_and_then (slice_get ms) (slice_get (owners ++ i ∷ []) n)) (sym number)
              ∙ ap (option_and_then (slice_get ms)) (get_seam owners i) ∙ at;
          number = w.0;
          within = from_range (points_per_weight * m.weight) w.0 w.1;
          point_is = ap (λ (z : ℕ × ℕ). z.0) w.2;
        }

    pub filled_more : HasSmallPoints (points ++ added) → IsFilled ms (i + 1) (owners ++ i ∷ []) (points ++ added)
    filled_more small = record {
      upwards = rises_append (λ b. b) owners (i ∷ []) h.upwards (more (λ y c. absurd (nothing_in_none y c)) none)
          (λ x y p q. elim (head_or_rest i [] y q) [
            | inl e ↦ (let l : x < i = (h.bearing x p).0 in let g : x < y = omega arith in g)
            | inr t ↦ absurd (nothing_in_none y t)
          ]);
      few = (let a : length owners ≤ ring_weight (take i ms) = h.few in
          let e : ring_weight (take (i + 1) ms) ≡ ring_weight (take i ms) + m.weight = weight_up
          ∙ ap (λ b. ring_weight (take i ms) + cond b m.weight 0) bears.internet in
          let w : 0 < m.weight = bears.weighs in
          let l : length (owners ++ i ∷ []) ≡ length owners + 1 = length-append owners (i ∷ []) in omega arith);
      bearing = λ b c. elim (Contains-push_cases owners i b c) [
        | inl old ↦ (let l : b < i = (h.bearing b old).0 in let g : b < i + 1 = omega arith in g, (h.bearing b old).1)
        | inr new ↦ (let P : ℕ → Type 0 = λ x. (x < i + 1) × ((n : Member) × Bears ms x n)
            in subst P new (let g : i < i + 1 = omega arith in g, (m, bears)))
      ];
      all = λ b n l bears'. elim (less_tells b i) [
        | inl before ↦ Contains-append_left owners (i ∷ []) b (h.all b n before.1 bears')
        | inr after ↦ (let le : i ≤ b = after.1 in let e : i ≡ b = omega arith in let P : ℕ → Type 0 = λ x. Contains (owners ++ i ∷ []) x
            in subst P e (Contains-push owners i))
      ];
      small = small;
      given = λ e c. elim (Contains-append_cases points added e c) [ inl old ↦ old_owner e (h.given e old) | inr new ↦ new_owner e new ];
      whole = λ number n k o l.
          let b = and_then_parts (slice_get ms) (slice_get (owners ++ i ∷ []) number) n o in
          elim (get_pushed owners i number b.0 b.1) [
            | inl old ↦ Contains-append_left points added (
              crc_chain n.address k,
              number,
            ) (h.whole number n k (ap (option_and_then (slice_get ms)) old ∙ b.2) l)
            | inr new ↦ (
                let P : ℕ → Type 0 = λ x. slice_get ms x ≡ Some n in
                let one : m ≡ n = same_Some m n (sym at ∙ subst P (sym new.1) b.2) in
                let within : k < points_per_weight * m.weight = subst (λ (z : Member). k < points_per_weight * z.weight) (sym one) l in
                let f : ℕ → ℕ × ℕ = λ q. (crc_chain m.address q, length owners) in
                let c : Contains added (crc_chain m.address k, length owners) = in_map f (range_with_len 0 (points_per_weight * m.weight)) k
                (to_range (points_per_weight * m.weight) k within) in
                let Q : ℕ → Type 0 = λ x. Contains (points ++ added) (crc_chain m.address k, x) in
                let R : Member → Type 0 = λ z. Contains (points ++ added) (crc_chain z.address k, number) in
                subst R one (subst Q (sym new.0) (Contains-append_right points added (crc_chain m.address k, length owners) c)))
          ];
    }

map_same : {X Y : Type 0} (f g : X → Y) (xs : List X) → ((x : X) → f x ≡ g x) → map f xs ≡ map g xs
map_same f g [] h = refl
map_same f g (x ∷ xs) h = ap (λ y. y ∷ map f xs) (h x) ∙ ap (λ ys. g x ∷ ys) (map_same f g xs h)

-- the same, with the points by the state of a CRC that was fed the address's text
pub filled_chain : (ms : List Member) (i : ℕ) (owners : List ℕ) (points : List (ℕ × ℕ)) → IsFilled ms i owners points → (m : Member)
    → slice_get ms i ≡ Some m
    → Bears ms i m → (state count number : ℕ) → state ≡ crc_fed 0xFFFFFFFF (hashed_text m.address) → count ≡ points_per_weight * m.weight
    → number ≡ length owners
    → HasSmallPoints (points ++ chain_entries state count number)
    → IsFilled ms (i + 1) (owners ++ i ∷ []) (points ++ chain_entries state count number)
filled_chain ms i owners points h m at bears state count number s c n small =
    let f : ℕ → ℕ → ℕ × ℕ = λ q k. (state_chain state k, q) in
    let g : ℕ → ℕ × ℕ = λ k. (crc_chain m.address k, length owners) in
    let point : (k : ℕ) → state_chain state k ≡ crc_chain m.address k = λ k. ap (λ t. state_chain t k) s
    ∙ chain_of_state (hashed_text m.address) k in
    let same : chain_entries state count number ≡ map g (range_with_len 0 (points_per_weight * m.weight)) =
    ap (λ q. map (f q) (range_with_len 0 count)) n ∙ ap (λ r. map (f (length owners)) (range_with_len 0 r)) c
    ∙ map_same (f (length owners)) g (range_with_len 0 (points_per_weight * m.weight)) (λ k. ap (λ p. (p, length owners)) (point k)) in
    let P : List (ℕ × ℕ) → Type 0 = λ es. HasSmallPoints (points ++ es) in
    let Q : List (ℕ × ℕ) → Type 0 = λ es. IsFilled ms (i + 1) (owners ++ i ∷ []) (points ++ es) in
    subst Q (sym same) (filled_more ms i owners points h m at bears (subst P same small))

no_owner : (ms : List Member) (number : ℕ) (m : Member) → member_at ms [] number ≡ Some m → ⊥
no_owner ms number m h = absurd (cc)

-- before the first backend there is nothing
pub filled_none : (ms : List Member) → IsFilled ms 0 [] []
filled_none ms = record {
  upwards = none;
  few = omega arith;
  bearing = λ b c. absurd (nothing_in_none b c);
  all = λ b m l bears. absurd (omega arith);
  small = λ e c. absurd (nothing_in_none e c);
  given = λ e c. absurd (nothing_in_none e c);
  whole = λ number m k o l. absurd (no_owner ms number m o);
}

-- an internet address is one
pub inet_is_internet : (a : InetAddr) → is_internet (inet_seen a) ≡ true
inet_is_internet (V4 octets port) = refl
inet_is_internet (V6 octets port) = refl
