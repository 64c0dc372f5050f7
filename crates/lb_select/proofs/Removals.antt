-- The laws of consistent hashing, by the definitions alone.
use Rattle.std.proofs.Common.{◌≡◌, ◌≢◌, ℕ, zero, suc, ◌*◌, ◌%◌, ◌^◌, ◌<◌, ◌≤◌, inl, inr, ◌↔◌, Bool, true, false, List, [], ◌∷◌, ◌++◌}
use Rattle.std.proofs.Common.{length, map, refl, sym, ap, subst, ◌∙◌, arith}
use Rattle.std.specs.Prelude.{Some, slice_get}
use Rattle.std.specs.List.{Contains, range_with_len}
use Rattle.std.proofs.Math.Nat.{mod-eq_of_lt}
use Rattle.std.proofs.lemmas.List.Elements.{Contains-append_left, Contains-append_right, Contains-append_cases}
use Rattle.lb_select_base.specs.Backends.{Address, Member}
use Rattle.lb_select.specs.Chains.{hashed_text}
use Rattle.lb_select.specs.Choices.{is_internet, points_per_weight, HasPoint, IsChoice}
use Rattle.lb_select.specs.Circle.{clockwise, IsExactly, IsPoint, IsOwner, IsNearer, IsPointOf}
use Rattle.lb_select.specs.Crc.{crc}
use Rattle.lb_select.specs.Removal.{ChainLaw, IsChain, HasDistinctAddresses, IsKeyChoice, IsWithout, StoodBefore, RemovalLaw, AdditionLaw}
use Rattle.lb_select.specs.Removal.{RaisingLaw, OneCandidateLaw, CoverageLaw}
use Rattle.lb_select.proofs.Lists.{here, there, head_or_rest, nothing_in_none, less_tells}
use Rattle.lb_select.proofs.Chaining.{chain_small}
use Rattle.lb_select.proofs.Counting.{no_more, once_each, those_below, distinct_cons, distinct_none}
use Rattle.lb_select.proofs.Crcs.{crc_small}
use Rattle.lb_select.proofs.Filling.{to_range, from_range}
use Rattle.lb_select.proofs.Owners.{in_map, of_map, neither_below}
use Rattle.lb_select.proofs.Placing.{same_or_not}
use Rattle.lb_select.proofs.Ranks.{clockwise_up, clockwise_round}
use Rattle.lb_select.proofs.Standing.{contains_at}

-- the points of one backend, and of all
abbrev points_of : (Address → ℕ → ℕ) → Member → Bool → List ℕ
points_of chain m true = map (chain m.address) (range_with_len 0 (points_per_weight * m.weight))
points_of chain m false = []

abbrev all_points : (Address → ℕ → ℕ) → List Member → List ℕ
all_points chain [] = []
all_points chain (m ∷ ms) = points_of chain m (is_internet m.address) ++ all_points chain ms

-- a point by a backend that another set has too
in_other : (chain : Address → ℕ → ℕ) (ms ns : List Member) (p : ℕ) (a : Address) (h : HasPoint chain ms p a) → Contains ns h.member
    → HasPoint chain ns p a
in_other chain ms ns p a h c = record {
  member = h.member;
  among = c;
  address_is = h.address_is;
  internet = h.internet;
  number = h.number;
  within = h.within;
  point_is = h.point_is;
}

point_in : (chain : Address → ℕ → ℕ) (ms : List Member) (p : ℕ) (a : Address) → HasPoint chain ms p a → Contains (all_points chain ms) p
point_in chain [] p a h = absurd (nothing_in_none h.member h.among)
point_in chain (x ∷ ms) p a h =
    elim (head_or_rest x ms h.member h.among) [
      | inl e ↦ (
          let address : x.address ≡ a = ap (λ (z : Member). z.address) e ∙ h.address_is in
          let internet : is_internet x.address ≡ true = ap is_internet address ∙ h.internet in
          let within : h.number < points_per_weight * x.weight = subst (λ (z : Member). h.number < points_per_weight * z.weight)
          (sym e) h.within in
          let point : chain x.address h.number ≡ p = ap (λ z. chain z h.number) address ∙ h.point_is in
          let c : Contains (points_of chain x true) (chain x.address h.number) =
          in_map (chain x.address) (range_with_len 0 (points_per_weight * x.weight)) h.number
          (to_range (points_per_weight * x.weight) h.number within) in
          let P : Bool → Type 0 = λ b. Contains (points_of chain x b) p in
          let Q : ℕ → Type 0 = λ z. Contains (points_of chain x true) z in
          Contains-append_left (points_of chain x (is_internet x.address)) (all_points chain ms) p
          (subst P (sym internet) (subst Q point c)))
      | inr t ↦ Contains-append_right (points_of chain x (is_internet x.address)) (all_points chain ms) p
          (point_in chain ms p a (in_other chain (x ∷ ms) ms p a h t))
    ]

point_of_one : (chain : Address → ℕ → ℕ) (x : Member) (ms : List Member) (p : ℕ) (b : Bool) → is_internet x.address ≡ b
    → Contains (points_of chain x b) p
    → HasPoint chain (x ∷ ms) p x.address
point_of_one chain x ms p true e m =
    let w = of_map (chain x.address) (range_with_len 0 (points_per_weight * x.weight)) p m in
    record {
      member = x;
      among = here x ms;
      address_is = refl;
      internet = e;
      number = w.0;
      within = from_range (points_per_weight * x.weight) w.0 w.1;
      point_is = w.2;
    }
point_of_one chain x ms p false e m = absurd (nothing_in_none p m)

point_of_all : (chain : Address → ℕ → ℕ) (ms : List Member) (p : ℕ) → Contains (all_points chain ms) p → IsPoint (HasPoint chain ms) p
point_of_all chain [] p m = absurd (nothing_in_none p m)
point_of_all chain (x ∷ ms) p m =
    elim (Contains-append_cases (points_of chain x (is_internet x.address)) (all_points chain ms) p m) [
      | inl c ↦ (x.address, point_of_one chain x ms p (is_internet x.address) refl c)
      | inr c ↦ (let w = point_of_all chain ms p c in (w.0, in_other chain ms (x ∷ ms) p w.0 w.1 (there x ms w.1.member w.1.among)))
    ]

-- there are finitely many points
some_number : (chain : Address → ℕ → ℕ) (ms : List Member) → (n : ℕ) × IsExactly (IsPoint (HasPoint chain ms)) n
some_number chain ms =
    let w = once_each (all_points chain ms) in (
      length w.0,
      (
        w.0,
        record {
          once = w.1.once;
          all = λ q p. w.1.all q (point_in chain ms q p.0 p.1);
          only = λ q m. point_of_all chain ms q (w.1.only q m);
        },
        refl,
      ),
    )

-- a way clockwise tells where it ends
same_way : (place p q : ℕ) → place < 2 ^ 32 → p < 2 ^ 32 → q < 2 ^ 32 → clockwise place p ≡ clockwise place q → p ≡ q
same_way place p q l m n e =
    elim (less_tells p place) [
      | inl a ↦ elim (less_tells q place) [
        | inl b ↦ (let f = sym (clockwise_round place p a.1 l) ∙ e ∙ clockwise_round place q b.1 l in let u : p < place = a.1
            in let v : q < place = b.1 in let g : p ≡ q = omega arith in g)
        | inr b ↦ (let f = sym (clockwise_round place p a.1 l) ∙ e ∙ clockwise_up place q b.1 n in let u : p < place = a.1
            in let v : place ≤ q = b.1 in let g : p ≡ q = omega arith in g)
      ]
      | inr a ↦ elim (less_tells q place) [
        | inl b ↦ (let f = sym (clockwise_up place p a.1 m) ∙ e ∙ clockwise_round place q b.1 l in let u : place ≤ p = a.1
            in let v : q < place = b.1 in let g : p ≡ q = omega arith in g)
        | inr b ↦ (let f = sym (clockwise_up place p a.1 m) ∙ e ∙ clockwise_up place q b.1 n in let u : place ≤ p = a.1
            in let v : place ≤ q = b.1 in let g : p ≡ q = omega arith in g)
      ]
    ]

module _ (chain : Address → ℕ → ℕ) (small : IsChain chain) where
  point_small : (ms : List Member) (p : ℕ) → IsPoint (HasPoint chain ms) p → p < 2 ^ 32
  point_small ms p h = let P : ℕ → Type 0 = λ z. z < 2 ^ 32 in subst P h.1.point_is (small h.0 h.1.number)

  -- where two points have as many nearer points, they are one
  module _ (ms : List Member) (key : List ℕ) where
    not_nearer : (p q r : ℕ) → IsPoint (HasPoint chain ms) p → IsExactly (IsNearer (HasPoint chain ms) (crc key) p) r
        → IsExactly (IsNearer (HasPoint chain ms) (crc key) q) r
        → clockwise (crc key) p < clockwise (crc key) q → ⊥
    not_nearer p q r is (xs, lx, ex) (ys, ly, ey) l =
        let apart : (y : ℕ) → Contains xs y → p ≢ y = λ y m e.
        (let n : clockwise (crc key) y < clockwise (crc key) p = (lx.only y m).1
        in let same : clockwise (crc key) p ≡ clockwise (crc key) y = ap (clockwise (crc key)) e in absurd (omega arith)) in
        let inside : (z : ℕ) → Contains (p ∷ xs) z → Contains ys z = λ z m. elim (head_or_rest p xs z m) [
          | inl e ↦ (let P : ℕ → Type 0 = λ x. Contains ys x in subst P e (ly.all p (is, l)))
          | inr t ↦ (let n : clockwise (crc key) z < clockwise (crc key) p = (lx.only z t).1 in ly.all z ((lx.only z t).0, omega arith))
        ] in
        let more : length (p ∷ xs) ≤ length ys = no_more (p ∷ xs) ys (distinct_cons p xs apart lx.once) inside in
        omega arith

    one_point : (p q r : ℕ) → IsPoint (HasPoint chain ms) p → IsPoint (HasPoint chain ms) q
        → IsExactly (IsNearer (HasPoint chain ms) (crc key) p) r → IsExactly (IsNearer (HasPoint chain ms) (crc key) q) r → p ≡ q
    one_point p q r a b x y =
        let place : crc key < 2 ^ 32 = crc_small key in
        same_way (crc key) p q place (point_small ms p a) (point_small ms q b)
        (elim (less_tells (clockwise (crc key) p) (clockwise (crc key) q)) [
          | inl t ↦ absurd (not_nearer p q r a x y t.1)
          | inr t ↦ elim (less_tells (clockwise (crc key) q) (clockwise (crc key) p)) [
            | inl u ↦ absurd (not_nearer q p r b y x u.1)
            | inr u ↦ (let v : clockwise (crc key) q ≤ clockwise (crc key) p = t.1
                in let w : clockwise (crc key) p ≤ clockwise (crc key) q = u.1 in
                let e : clockwise (crc key) p ≡ clockwise (crc key) q = omega arith in e)
          ]
        ])

    one_number : (P : ℕ → Type 0) (m n : ℕ) → IsExactly P m → IsExactly P n → m ≡ n
    one_number P m n (xs, lx, ex) (ys, ly, ey) =
        let a : length xs ≤ length ys = no_more xs ys lx.once (λ q c. ly.all q (lx.only q c)) in
        let b : length ys ≤ length xs = no_more ys xs ly.once (λ q c. lx.all q (ly.only q c)) in
        omega arith

    one_owner : (p : ℕ) (a b : Address) → IsOwner (HasPoint chain ms) p a → IsOwner (HasPoint chain ms) p b → a ≡ b
    one_owner p a b x y = neither_below a b (y.least a x.has_it) (x.least b y.has_it)

    one_choice : (j : ℕ) (m n : Member) → IsChoice chain ms (crc key) j m → IsChoice chain ms (crc key) j n → (m.address ≡ n.address)
        × (m.weight ≡ n.weight)
    one_choice j m n x y =
        let has : ℕ → Address → Type 0 = HasPoint chain ms in
        let number : y.1.1.number ≡ x.1.1.number = one_number (IsPoint has) y.1.1.number x.1.1.number y.1.1.points x.1.1.points in
        let nearer : IsExactly (IsNearer has (crc key) y.1.0) (j % x.1.1.number) =
        subst (λ (z : ℕ). IsExactly (IsNearer has (crc key) y.1.0) (j % z)) number y.1.1.nearer in
        let point : x.1.0 ≡ y.1.0 = one_point x.1.0 y.1.0 (j % x.1.1.number) x.1.1.point y.1.1.point x.1.1.nearer nearer in
        let owner : x.0 ≡ y.0 = one_owner x.1.0 x.0 y.0 x.1.2 (subst (λ (z : ℕ). IsOwner has z y.0) (sym point) y.1.2) in
        let address : m.address ≡ n.address = x.2.address_is ∙ owner ∙ sym y.2.address_is in
        let up : n.weight ≤ m.weight = x.2.heaviest n y.2.among (sym address ∙ x.2.address_is) in
        let down : m.weight ≤ n.weight = y.2.heaviest m x.2.among (address ∙ y.2.address_is) in
        (address, (let e : m.weight ≡ n.weight = omega arith in e))

pub one_candidate_law : OneCandidateLaw
one_candidate_law chain small ms key j m n x y = one_choice chain small ms key j m n x y

zero_mod : (n : ℕ) → 0 % n ≡ 0
zero_mod zero = refl
zero_mod (suc n) = mod-eq_of_lt (omega arith)

-- two sets that agree but for one address, whose points in the one are among those in the other
module _ (chain : Address → ℕ → ℕ) (small : IsChain chain) (a : Address) (more fewer : List Member)
    (others : (m : Member) → m.address ≢ a → Contains fewer m ↔ Contains more m) (points : (p : ℕ) → HasPoint chain fewer p a
    → HasPoint chain more p a) where
  in_fewer : (p : ℕ) (b : Address) → b ≢ a → HasPoint chain more p b → HasPoint chain fewer p b
  in_fewer p b differs h = in_other chain more fewer p b h ((others h.member (λ e. differs (sym h.address_is ∙ e))).1 h.among)

  in_more : (p : ℕ) (b : Address) → HasPoint chain fewer p b → HasPoint chain more p b
  in_more p b h =
      elim (same_or_not b a) [
        | inl e ↦ subst (λ (z : Address). HasPoint chain more p z) (sym e)
            (points p (subst (λ (z : Address). HasPoint chain fewer p z) e h))
        | inr differs ↦ in_other chain fewer more p b h ((others h.member (λ e. differs (sym h.address_is ∙ e))).0 h.among)
      ]

  none_nearer : (key : List ℕ) (p : ℕ) → IsPointOf (HasPoint chain more) (crc key) 0 p → (q : ℕ)
      → IsNearer (HasPoint chain more) (crc key) p q → ⊥
  none_nearer key p x q h =
      let c = x.nearer.1.all q h in
      let z : 0 % x.number ≡ 0 = zero_mod x.number in
      let e : length x.nearer.0 ≡ 0 = x.nearer.2 ∙ z in
      let l : c.0 < length x.nearer.0 = c.1 in absurd (omega arith)

  first_stays : (key : List ℕ) (m : Member) → IsKeyChoice chain more key m → m.address ≢ a → IsKeyChoice chain fewer key m
  first_stays key m (b, (p, x, o), s) differs =
      let apart : b ≢ a = λ e. differs (s.address_is ∙ e) in
      let has_it : HasPoint chain fewer p b = in_fewer p b apart o.has_it in
      let n = some_number chain fewer in (
        b,
        (
          p,
          record {
            point = (b, has_it);
            number = n.0;
            points = n.1;
            nearer = (
              [],
              record {
                once = distinct_none;
                all = λ q h. absurd (none_nearer key p x q ((h.0.0, in_more q h.0.0 h.0.1), h.1));
                only = λ q c. absurd (nothing_in_none q c);
              },
              sym (zero_mod n.0),
            );
          },
          record { has_it = has_it; least = λ d y. o.least d (in_more p d y) },
        ),
        record {
          among = (others m differs).1 s.among;
          address_is = s.address_is;
          heaviest = λ other c e. s.heaviest other ((others other (λ f. apart (sym e ∙ f))).0 c) e;
        },
      )

  stood : HasDistinctAddresses fewer → (key : List ℕ) (m : Member) → IsKeyChoice chain more key m → m.address ≢ a
      → StoodBefore chain fewer key m
  stood distinct key m h differs =
      let f : IsKeyChoice chain fewer key m = first_stays key m h differs in (
        f,
        λ n g.
            let same = one_choice chain small fewer key 0 n m g f in
            let internet : is_internet n.address ≡ true = ap is_internet (same.0 ∙ f.2.address_is) ∙ f.1.2.has_it.internet in
            distinct n m g.2.among f.2.among internet same.0,
      )

-- a set without an address is such a set
module _ (chain : Address → ℕ → ℕ) (small : IsChain chain) (ms fewer : List Member) (a : Address) (distinct : HasDistinctAddresses ms)
    (gone : IsWithout a ms fewer) where
  removed : (key : List ℕ) (m : Member) → IsKeyChoice chain ms key m → m.address ≢ a → StoodBefore chain fewer key m
  removed = stood chain small a ms fewer
      (λ m d. ((λ c. ((gone m).0 c).0), (λ c. (gone m).1 (c, d))))
      (λ p h. absurd (((gone h.member).0 h.among).1 h.address_is))
      (λ x y p q i e. distinct x y ((gone x).0 p).0 ((gone y).0 q).0 i e)

pub removal_law : RemovalLaw
removal_law chain small ms fewer a distinct gone key m h differs = removed chain small ms fewer a distinct gone key m h differs

pub addition_law : AdditionLaw
addition_law chain small ms more a distinct gone key m h =
    elim (same_or_not m.address a) [ inl e ↦ inl e | inr differs ↦ inr (removed chain small more ms a distinct gone key m h differs) ]

pub raising_law : RaisingLaw
raising_law chain small before after a distinct raised key m h =
    elim (same_or_not m.address a) [
      | inl e ↦ inl e
      | inr differs ↦ inr (stood chain small a after before raised.others
          (λ p x. let r = raised.heavier x.member x.among x.address_is in
          let l : x.number < points_per_weight * x.member.weight = x.within in let w : x.member.weight ≤ r.0.weight = r.3 in
          record {
            member = r.0;
            among = r.1;
            address_is = r.2;
            internet = x.internet;
            number = x.number;
            within = omega arith;
            point_is = x.point_is;
          })
          distinct key m h differs)
    ]

get_some : {X : Type 0} (xs : List X) (i : ℕ) → i < length xs → (x : X) × (slice_get xs i ≡ Some x)
get_some [] i h = absurd (omega arith)
get_some (x ∷ xs) zero h = (x, refl)
get_some (x ∷ xs) (suc i) h = get_some xs i (omega arith)

pub coverage_law : CoverageLaw
coverage_law chain small ms key cs walk (xs, lx, ex) p a o =
    let has : ℕ → Address → Type 0 = HasPoint chain ms in
    let is : IsPoint has p = (a, o.has_it) in
    let w = those_below (clockwise (crc key)) (clockwise (crc key) p) xs lx.once in
    let rank : IsExactly (IsNearer has (crc key) p) (length w.0) = (
      w.0,
      record {
        once = w.1.once;
        all = λ q h. w.1.all q (lx.all q h.0, h.1);
        only = λ q m. (lx.only q (w.1.only q m).0, (w.1.only q m).1);
      },
      refl,
    ) in
    let apart : (y : ℕ) → Contains w.0 y → p ≢ y = λ y m e.
    (let n : clockwise (crc key) y < clockwise (crc key) p = (w.1.only y m).1 in let same : clockwise (crc key) p ≡ clockwise (crc key) y =
    ap (clockwise (crc key)) e in absurd (omega arith)) in
    let inside : (z : ℕ) → Contains (p ∷ w.0) z → Contains xs z = λ z m. elim (head_or_rest p w.0 z m) [
      | inl e ↦ (let P : ℕ → Type 0 = λ y. Contains xs y in subst P e (lx.all p is))
      | inr t ↦ (w.1.only z t).0
    ] in
    let room : length (p ∷ w.0) ≤ length xs = no_more (p ∷ w.0) xs (distinct_cons p w.0 apart w.1.once) inside in
    let below : length w.0 < length cs = omega arith in
    let c = get_some cs (length w.0) below in
    let x = walk (length w.0) c.0 c.1 in
    let number : x.1.1.number ≡ length cs = one_number chain small ms key (IsPoint has) x.1.1.number (length cs) x.1.1.points (
      xs,
      lx,
      ex,
    ) in
    let left : length w.0 % x.1.1.number ≡ length w.0 = ap (λ z. length w.0 % z) number ∙ mod-eq_of_lt below in
    let nearer : IsExactly (IsNearer has (crc key) x.1.0) (length w.0) = subst (λ (z : ℕ). IsExactly (IsNearer has (crc key) x.1.0) z) left
    x.1.1.nearer in
    let point : x.1.0 ≡ p = one_point chain small ms key x.1.0 p (length w.0) x.1.1.point is nearer rank in
    let owner : x.0 ≡ a = one_owner chain small ms key p x.0 a (subst (λ (z : ℕ). IsOwner has z x.0) point x.1.2) o in
    (c.0, contains_at cs (length w.0) c.0 c.1, x.2.address_is ∙ owner)

pub chain_law : ChainLaw
chain_law a k = chain_small (hashed_text a) k
