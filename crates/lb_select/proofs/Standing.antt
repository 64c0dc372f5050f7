-- Which backend of a set in order is the one of its address.
use Rattle.std.proofs.Common.{◌≡◌, ◌≢◌, ℕ, zero, suc, ◌+◌, ◌<◌, ◌≤◌, ◌⊎◌, inl, inr, Bool, true, false, cond, not, ◌==◌, IsTrue, List, []}
use Rattle.std.proofs.Common.{◌∷◌, length, get_or, refl, sym, ap, subst, ◌∙◌, arith}
use Rattle.std.specs.Prelude.{Some, slice_get}
use Rattle.std.specs.List.{Contains}
use Rattle.std.specs.List.Sorted.{IsStrictlySortedBy}
use Rattle.std.specs.declared.cmp.Ordering.{Ordering}
use Rattle.std.specs.declared.cmp.Ordering.TheVariants.{Less, Equal, Greater}
use Rattle.std.specs.Ordering.{nat_cmp, ordering_then, ordering_reverse, ordering_index}
use Rattle.std.proofs.lemmas.Map.Keys.{Less-from_sorted}
use Rattle.std.proofs.lemmas.Option.{get_or_from_slice_get, slice_get-get_or, same_Some}
use Rattle.std.proofs.lemmas.Cmp.{tied_itself}
use Rattle.lb_select_base.specs.Backends.{Address, address_cmp, Member, member_cmp}
use Rattle.lb_select_base.specs.Identity.{address_same}
use Rattle.lb_select.specs.Choices.{StandsFor}
use Rattle.lb_select.proofs.Lists.{less_tells}
use Rattle.lb_select.proofs.Owners.{address_total}

-- an element that a list has at an index
pub get_inside : {X : Type 0} (xs : List X) (i : ℕ) (x : X) → slice_get xs i ≡ Some x → i < length xs
get_inside [] i x h = absurd (cc)
get_inside (y ∷ xs) zero x h = omega arith
get_inside (y ∷ xs) (suc i) x h = let l : i < length xs = get_inside xs i x h in omega arith

pub contains_at : {X : Type 0} (xs : List X) (i : ℕ) (x : X) → slice_get xs i ≡ Some x → Contains xs x
contains_at xs i x h = (i, get_inside xs i x h, get_or_from_slice_get xs i x x h)

pub at_contained : {X : Type 0} (xs : List X) (x : X) → Contains xs x → (i : ℕ) × (slice_get xs i ≡ Some x)
at_contained xs x (i, l, e) = (i, slice_get-get_or xs i x l ∙ ap Some e)

-- of two addresses, what one comparison says of the other
pub turned_test : (a b : Address) → address_cmp a b ≡ Less → address_cmp b a ≡ Greater
turned_test a b h = address_total.antisymm b a ∙ ap ordering_reverse h

then_less : (o p : Ordering) → ordering_then o p ≡ Less → (o ≡ Less) ⊎ ((o ≡ Equal) × (p ≡ Less))
then_less Less p h = inl refl
then_less Equal p h = inr (refl, h)
then_less Greater p h = absurd (cc)

not_less : (b : Bool) → cond b Equal Greater ≡ Less → ⊥
not_less true h = absurd (cc)
not_less false h = absurd (cc)

nat_less : (a b : ℕ) → nat_cmp a b ≡ Less → a < b
nat_less a b h =
    elim (less_tells a b) [
      | inl t ↦ t.1
      | inr t ↦ (let h' = rw t.0 at h in absurd (not_less (a == b) h'))
    ]

-- a member before another has a smaller address, or the same address and a smaller weight
pub before_means : (x y : Member) → member_cmp x y ≡ Less → (address_cmp x.address y.address ≡ Less)
    ⊎ ((x.address ≡ y.address) × (x.weight < y.weight))
before_means x y h =
    elim (then_less (address_cmp x.address y.address) (nat_cmp x.weight y.weight) h) [
      | inl l ↦ inl l
      | inr e ↦ inr (address_same x.address y.address e.0, nat_less x.weight y.weight e.1)
    ]

module _ (ms : List Member) (order : IsStrictlySortedBy member_cmp ms) where
  pub in_order : (i j : ℕ) (x y : Member) → slice_get ms i ≡ Some x → slice_get ms j ≡ Some y → i < j → member_cmp x y ≡ Less
  in_order i j x y p q l =
      let k : j < length ms = get_inside ms j y q in
      let P : Member → Type 0 = λ z. member_cmp z y ≡ Less in
      let Q : Member → Type 0 = λ z. member_cmp (get_or ms i x) z ≡ Less in
      subst P (get_or_from_slice_get ms i x x p)
      (subst Q (get_or_from_slice_get ms j y x q) (Less-from_sorted member_cmp ms i j x order l k))

  -- members before this one of its address are lighter
  lighter_before : (i : ℕ) (m : Member) → slice_get ms i ≡ Some m → (k : ℕ) (other : Member) → slice_get ms k ≡ Some other
      → other.address ≡ m.address
      → k ≤ i → other.weight ≤ m.weight
  lighter_before i m p k other q e l =
      elim (less_tells k i) [
        | inl before ↦ elim (before_means other m (in_order k i other m q p before.1)) [
          | inl smaller ↦ (let P : Address → Type 0 = λ z. address_cmp z m.address ≡ Less in
              let same : address_cmp m.address m.address ≡ Less = subst P e smaller in
              let itself : address_cmp m.address m.address ≡ Equal = tied_itself address_total m.address in absurd (cc))
          | inr lighter ↦ (let w : other.weight < m.weight = lighter.1 in let g : other.weight ≤ m.weight = omega arith in g)
        ]
        | inr after ↦ (let le : i ≤ k = after.1 in let same : k ≡ i = omega arith in
            let P : ℕ → Type 0 = λ n. slice_get ms n ≡ Some other in
            let one : other ≡ m = same_Some other m (sym (subst P same q) ∙ p) in
            let w : other.weight ≡ m.weight = ap (λ (z : Member). z.weight) one in let g : other.weight ≤ m.weight = omega arith in g)
      ]

  -- the last member is the one of its address
  pub stands_last : (i : ℕ) (m : Member) → slice_get ms i ≡ Some m → length ms ≤ i + 1 → StandsFor ms m.address m
  stands_last i m p last = record {
    among = contains_at ms i m p;
    address_is = refl;
    heaviest = λ other c e.
        let k = at_contained ms other c in
        let l : k.0 < length ms = get_inside ms k.0 other k.1 in
        lighter_before i m p k.0 other k.1 e (let g : k.0 ≤ i = omega arith in g);
  }

  no_later : (i : ℕ) (m n : Member) → slice_get ms i ≡ Some m → slice_get ms (i + 1) ≡ Some n → address_cmp m.address n.address ≢ Equal
      → (k : ℕ) (other : Member) → slice_get ms k ≡ Some other → other.address ≡ m.address → i < k → ⊥
  no_later i m n p q differ k other r e l =
      let smaller : address_cmp m.address n.address ≡ Less = elim (before_means m n (in_order i (i + 1) m n p q (omega arith))) [
        | inl s ↦ s
        | inr t ↦ (let P : Address → Type 0 = λ z. address_cmp m.address z ≡ Equal
            in absurd (differ (subst P t.0 (tied_itself address_total m.address))))
      ] in
      let greater : address_cmp n.address m.address ≡ Greater = turned_test m.address n.address smaller in
      elim (less_tells (i + 1) k) [
        | inl far ↦ elim (before_means n other (in_order (i + 1) k n other q r far.1)) [
          | inl s ↦ (let P : Address → Type 0 = λ z. address_cmp n.address z ≡ Less in let wrong : address_cmp n.address m.address ≡ Less =
              subst P e s in absurd (cc))
          | inr t ↦ (let same : n.address ≡ m.address = t.0 ∙ e in let P : Address → Type 0 = λ z. address_cmp m.address z ≡ Equal in
              absurd (differ (subst P (sym same) (tied_itself address_total m.address))))
        ]
        | inr near ↦ (let le : k ≤ i + 1 = near.1 in let at : k ≡ i + 1 = omega arith in
            let P : ℕ → Type 0 = λ x. slice_get ms x ≡ Some other in
            let one : other ≡ n = same_Some other n (sym (subst P at r) ∙ q) in
            let same : n.address ≡ m.address = ap (λ (z : Member). z.address) (sym one) ∙ e in let Q : Address
            → Type 0 = λ z. address_cmp m.address z ≡ Equal in
            absurd (differ (subst Q (sym same) (tied_itself address_total m.address))))
      ]

  -- and so does one whose next has another address
  pub stands_before : (i : ℕ) (m n : Member) → slice_get ms i ≡ Some m → slice_get ms (i + 1) ≡ Some n
      → address_cmp m.address n.address ≢ Equal
      → StandsFor ms m.address m
  stands_before i m n p q differ = record {
    among = contains_at ms i m p;
    address_is = refl;
    heaviest = λ other c e.
        let k = at_contained ms other c in
        elim (less_tells i k.0) [
          | inr before ↦ lighter_before i m p k.0 other k.1 e before.1
          | inl after ↦ absurd (no_later i m n p q differ k.0 other k.1 e after.1)
        ];
  }

  -- but not one whose next has its address
  pub stands_not : (i : ℕ) (m n : Member) → slice_get ms i ≡ Some m → slice_get ms (i + 1) ≡ Some n → StandsFor ms m.address m
      → address_cmp m.address n.address ≢ Equal
  stands_not i m n p q s same =
      elim (before_means m n (in_order i (i + 1) m n p q (omega arith))) [
        | inl smaller ↦ absurd (cc)
        | inr lighter ↦ (let h : n.weight ≤ m.weight = s.heaviest n (contains_at ms (i + 1) n q) (sym lighter.0)
            in let w : m.weight < n.weight = lighter.1 in absurd (omega arith))
      ]

differ_test : (o : Ordering) → (IsTrue (not (ordering_index o == 1)) → o ≢ Equal) × (o ≢ Equal → IsTrue (not (ordering_index o == 1)))
differ_test Less = ((λ h e. absurd (cc)), (λ h. refl))
differ_test Equal = ((λ h e. absurd (cc)), (λ h. absurd (h refl)))
differ_test Greater = ((λ h e. absurd (cc)), (λ h. refl))

-- what the test of two neighbours says
pub stands_test : (ms : List Member) → IsStrictlySortedBy member_cmp ms → (i : ℕ) (m n : Member) → slice_get ms i ≡ Some m
    → slice_get ms (i + 1) ≡ Some n
    → (o : Ordering) → o ≡ address_cmp m.address n.address → (b : Bool) → b ≡ not (ordering_index o == 1)
    → (IsTrue b → StandsFor ms m.address m) × (StandsFor ms m.address m → IsTrue b)
stands_test ms order i m n p q o e b t = (
  (λ h. stands_before ms order i m n p q (λ same. (differ_test o).0 (subst (λ (x : Bool). IsTrue x) t h) (e ∙ same))),
  (λ s. subst (λ (x : Bool). IsTrue x) (sym t) ((differ_test o).1 (λ same. stands_not ms order i m n p q s (sym e ∙ same)))),
)
