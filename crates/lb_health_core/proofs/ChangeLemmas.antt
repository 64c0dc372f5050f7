-- Changes of the views: the marks that are applied, the membership of one view, and the cells that its snapshot holds.
use Rattle.std.proofs.Common.{◌≡◌, ◌+◌, ℕ, zero, suc, ◌==◌, Bool, true, false, cond, not, ◌&&◌, ◌||◌, List, [], ◌∷◌, map, length, filter}
use Rattle.std.proofs.Common.{fold, position, set, Option, Some, None, refl, sym, ap, subst, ◌∙◌, arith, true≢false, nat_lt}
use Rattle.std.specs.BTreeMap.{insert_entry}
use Rattle.std.specs.BTreeSet.{insert_key}
use Rattle.std.specs.List.{list_any, filter_map, cons_option, prefix_len, slice_get, AllByRecursion as Each}
use Rattle.std.specs.Map.{values_of}
use Rattle.std.specs.Option.{option_map}
use Rattle.std.specs.Ordering.{eq_by_cmp, nat_cmp, match_ordering}
use Rattle.std.specs.Cmp.{unsigned_tied}
use Rattle.std.specs.declared.cmp.Ordering.{Ordering}
use Rattle.std.specs.declared.cmp.Ordering.TheVariants.{Less, Equal, Greater}
use Rattle.std.proofs.lemmas.Option.{same_Some, cond_some}
use borrow.Author.Tests.{eqb-true, lt-ltb, le-ltb, ltb-true, ltb-false}
use Rattle.lb_select_base.specs.Backends.{Member, member_cmp, same_member}
use Rattle.lb_health_core.specs.Starts.{cell_now}
use Rattle.lb_health_core.specs.Targets.{ViewValue, live}
use Rattle.lb_health_core.specs.RegistryEvents.{is_view, has_view, at_view, members_of, with_members, cell_pair, cells_by, cells_in}
use Rattle.lb_health_core.proofs.CellLemmas.{either}

-- a filter before a map is one after it
pub map-filter : {A B : Type 0} (f : A → B) (p : B → Bool) (xs : List A) → map f (filter (λ x. p (f x)) xs) ≡ filter p (map f xs)
map-filter f p [] = refl
map-filter {A} {B} f p (x ∷ xs) = kept_by (p (f x)) (map-filter f p xs) where
  kept_by :
      (b : Bool) → map f (filter (λ x. p (f x)) xs) ≡ filter p (map f xs)
      → map f (cond b (x ∷ filter (λ x. p (f x)) xs) (filter (λ x. p (f x)) xs)) ≡ cond b (f x ∷ filter p (map f xs)) (filter p (map f xs))
  kept_by true ih = ap (λ ys. f x ∷ ys) ih
  kept_by false ih = ih

and_false : (b : Bool) → (b && false) ≡ false
and_false true = refl
and_false false = refl

-- a view that was found isn't marked
unmarked_by : (a b : Bool) → (a && not b) ≡ true → b ≡ false
unmarked_by true true e = absurd (true≢false (sym e))
unmarked_by true false e = refl
unmarked_by false b e = absurd (true≢false (sym e))

-- the marks applied before a view's change, or after it
pub live-at_view :
    (id : ℕ) (members : List Member) (vs : List ViewValue)
    → live (at_view id (with_members members) vs) ≡ at_view id (with_members members) (live vs)
live-at_view id members [] = refl
live-at_view id members (v ∷ vs) = by_view (is_view id v) refl v.marked refl (live-at_view id members vs) where
  by_view :
      (b : Bool) → is_view id v ≡ b → (m : Bool) → v.marked ≡ m
      → live (at_view id (with_members members) vs) ≡ at_view id (with_members members) (live vs)
      → live (cond b (with_members members v ∷ vs) (v ∷ at_view id (with_members members) vs))
      ≡ at_view id (with_members members) (cond (not m) (v ∷ live vs) (live vs))
  by_view true f true e ih = absurd (true≢false (sym e ∙ unmarked_by (v.id == id) v.marked f))
  by_view true f false e ih =
      ap (λ t. cond (not t) (with_members members v ∷ live vs) (live vs)) e
      ∙ sym (ap (λ t. cond t (with_members members v ∷ live vs) (v ∷ at_view id (with_members members) (live vs))) f)
  by_view false f true e ih =
      ap (λ t. cond (not t) (v ∷ live (at_view id (with_members members) vs)) (live (at_view id (with_members members) vs))) e ∙ ih
  by_view false f false e ih =
      ap (λ t. cond (not t) (v ∷ live (at_view id (with_members members) vs)) (live (at_view id (with_members members) vs))) e
      ∙ ap (λ ys. v ∷ ys) ih
      ∙ sym (ap (λ t. cond t (with_members members v ∷ live vs) (v ∷ at_view id (with_members members) (live vs))) f)

-- the view at the place that was found is the one that changes
at_prefix :
    {X : Type 0} (see : X → ViewValue) (id : ℕ) (f : ViewValue → ViewValue) (xs : List X) (n : ℕ) (x y : X)
    → n ≡ prefix_len (λ z. not (is_view id (see z))) xs → slice_get xs n ≡ Some x → see y ≡ f (see x)
    → map see (set xs n y) ≡ at_view id f (map see xs)
at_prefix see id f [] n x y e g is = absurd (cc)
at_prefix {X} see id f (z ∷ xs) zero x y e g is = zero_by (is_view id (see z)) refl e where
  zero_by :
      (b : Bool) → is_view id (see z) ≡ b → 0 ≡ cond (not b) (1 + prefix_len (λ w. not (is_view id (see w))) xs) 0
      → see y ∷ map see xs ≡ cond b (f (see z) ∷ map see xs) (see z ∷ at_view id f (map see xs))
  zero_by true t e = ap (λ v. v ∷ map see xs) (is ∙ ap (λ (w : X). f (see w)) (sym (same_Some z x g)))
  zero_by false t e = absurd (omega (arith, e))
at_prefix {X} see id f (z ∷ xs) (suc m) x y e g is = suc_by (is_view id (see z)) e (λ k. at_prefix see id f xs m x y k g is) where
  suc_by :
      (b : Bool) → suc m ≡ cond (not b) (1 + prefix_len (λ w. not (is_view id (see w))) xs) 0
      → (m ≡ prefix_len (λ w. not (is_view id (see w))) xs → map see (set xs m y) ≡ at_view id f (map see xs))
      → see z ∷ map see (set xs m y) ≡ cond b (f (see z) ∷ map see xs) (see z ∷ at_view id f (map see xs))
  suc_by true e ih = absurd (omega (arith, e))
  suc_by false e ih = ap (λ vs. see z ∷ vs) (ih (omega (arith, e)))

pub at_place :
    {X : Type 0} (see : X → ViewValue) (id : ℕ) (f : ViewValue → ViewValue) (xs : List X) (place : ℕ) (x y : X)
    → position (λ z. is_view id (see z)) xs ≡ Some place → slice_get xs place ≡ Some x → see y ≡ f (see x)
    → map see (set xs place y) ≡ at_view id f (map see xs)
at_place see id f xs place x y found at is =
    let n : ℕ = prefix_len (λ z. not (is_view id (see z))) xs in
    at_prefix see id f xs place x y (sym (cond_some (nat_lt n (length xs)) n place found).1) at is

-- its membership
members_prefix :
    {X : Type 0} (see : X → ViewValue) (id : ℕ) (xs : List X) (n : ℕ) (x : X)
    → n ≡ prefix_len (λ z. not (is_view id (see z))) xs → slice_get xs n ≡ Some x → members_of id (map see xs) ≡ (see x).members
members_prefix see id [] n x e g = absurd (cc)
members_prefix {X} see id (z ∷ xs) zero x e g = zero_by (is_view id (see z)) e where
  zero_by :
      (b : Bool) → 0 ≡ cond (not b) (1 + prefix_len (λ w. not (is_view id (see w))) xs) 0
      → cond b (see z).members (members_of id (map see xs)) ≡ (see x).members
  zero_by true e = ap (λ (w : X). (see w).members) (same_Some z x g)
  zero_by false e = absurd (omega (arith, e))
members_prefix {X} see id (z ∷ xs) (suc m) x e g = suc_by (is_view id (see z)) e (λ k. members_prefix see id xs m x k g) where
  suc_by :
      (b : Bool) → suc m ≡ cond (not b) (1 + prefix_len (λ w. not (is_view id (see w))) xs) 0
      → (m ≡ prefix_len (λ w. not (is_view id (see w))) xs → members_of id (map see xs) ≡ (see x).members)
      → cond b (see z).members (members_of id (map see xs)) ≡ (see x).members
  suc_by true e ih = absurd (omega (arith, e))
  suc_by false e ih = ih (omega (arith, e))

pub members_at :
    {X : Type 0} (see : X → ViewValue) (id : ℕ) (xs : List X) (place : ℕ) (x : X)
    → position (λ z. is_view id (see z)) xs ≡ Some place → slice_get xs place ≡ Some x → members_of id (map see xs) ≡ (see x).members
members_at see id xs place x found at =
    let n : ℕ = prefix_len (λ z. not (is_view id (see z))) xs in
    members_prefix see id xs place x (sym (cond_some (nat_lt n (length xs)) n place found).1) at

-- where no view is found none changes
pub at_nowhere : (id : ℕ) (f : ViewValue → ViewValue) (vs : List ViewValue) → has_view id vs ≡ false → at_view id f vs ≡ vs
at_nowhere id f [] e = refl
at_nowhere id f (v ∷ vs) e = nowhere_by (is_view id v) e (at_nowhere id f vs) where
  nowhere_by : (b : Bool) → (b || has_view id vs) ≡ false → (has_view id vs ≡ false → at_view id f vs ≡ vs)
      → cond b (f v ∷ vs) (v ∷ at_view id f vs) ≡ v ∷ vs
  nowhere_by true e ih = absurd (true≢false e)
  nowhere_by false e ih = ap (λ ws. v ∷ ws) (ih e)

-- a search finds what a test of each finds
lt_more : (k n : ℕ) → nat_lt k n ≡ nat_lt (1 + k) (suc n)
lt_more k n =
    either (nat_lt k n) (λ t. t ∙ sym (lt-ltb (1 + k) (suc n) (omega (arith, ltb-true k n t))))
    (λ f. f ∙ sym (le-ltb (1 + k) (suc n) (omega (arith, ltb-false k n f))))

any-position : {X : Type 0} (p : X → Bool) (xs : List X) → list_any p xs ≡ nat_lt (prefix_len (λ z. not (p z)) xs) (length xs)
any-position p [] = refl
any-position p (x ∷ xs) = any_by (p x) (any-position p xs) where
  any_by :
      (b : Bool) → list_any p xs ≡ nat_lt (prefix_len (λ z. not (p z)) xs) (length xs)
      → (b || list_any p xs) ≡ nat_lt (cond (not b) (1 + prefix_len (λ z. not (p z)) xs) 0) (suc (length xs))
  any_by true ih = sym (lt-ltb 0 (suc (length xs)) (omega arith))
  any_by false ih = ih ∙ lt_more (prefix_len (λ z. not (p z)) xs) (length xs)

pub any-map : {A B : Type 0} (f : A → B) (p : B → Bool) (xs : List A) → list_any p (map f xs) ≡ list_any (λ x. p (f x)) xs
any-map f p [] = refl
any-map f p (x ∷ xs) = ap (λ b. p (f x) || b) (any-map f p xs)

pub found_view :
    {X : Type 0} (see : X → ViewValue) (id : ℕ) (xs : List X) (place : ℕ) → position (λ z. is_view id (see z)) xs ≡ Some place
    → has_view id (map see xs) ≡ true
found_view see id xs place found =
    let n : ℕ = prefix_len (λ z. not (is_view id (see z))) xs in
    any-map see (is_view id) xs ∙ any-position (λ z. is_view id (see z)) xs ∙ (cond_some (nat_lt n (length xs)) n place found).0

pub missing_view :
    {X : Type 0} (see : X → ViewValue) (id : ℕ) (xs : List X) → position (λ z. is_view id (see z)) xs ≡ None
    → has_view id (map see xs) ≡ false
missing_view see id xs none =
    any-map see (is_view id) xs ∙ any-position (λ z. is_view id (see z)) xs
    ∙ missing (nat_lt (prefix_len (λ z. not (is_view id (see z))) xs) (length xs)) (prefix_len (λ z. not (is_view id (see z))) xs) none
  where
    missing : (b : Bool) (n : ℕ) → cond b (Some n) None ≡ None → b ≡ false
    missing true n e = absurd (cc)
    missing false n e = refl

-- a view that is found is among those whose removal doesn't wait
pub has_live : (id : ℕ) (vs : List ViewValue) → has_view id (live vs) ≡ has_view id vs
has_live id [] = refl
has_live id (v ∷ vs) = by_mark v.marked refl (has_live id vs) where
  by_mark :
      (m : Bool) → v.marked ≡ m → has_view id (live vs) ≡ has_view id vs
      → has_view id (cond (not m) (v ∷ live vs) (live vs)) ≡ (is_view id v || has_view id vs)
  by_mark true e ih = ih ∙ sym (ap (λ b. ((v.id == id) && not b) || has_view id vs) e
      ∙ ap (λ b. b || has_view id vs) (and_false (v.id == id)))
  by_mark false e ih = ap (λ b. is_view id v || b) ih

module _ (P : ℕ → Type 0) where
  each-insert_entry : (es : List (Member × ℕ)) (k : Member) (v : ℕ) → Each P (values_of es) → P v
      → Each P (values_of (insert_entry member_cmp es k v))
  each-insert_entry [] k v all it = (it, tt)
  each-insert_entry (e ∷ es) k v all it = inserted (member_cmp k e.0) (each-insert_entry es k v all.1 it) where
    inserted :
        (o : Ordering) → Each P (values_of (insert_entry member_cmp es k v))
        → Each P (values_of (match_ordering o ((k, v) ∷ e ∷ es) ((e.0, v) ∷ es) (e ∷ insert_entry member_cmp es k v)))
    inserted Less ih = (it, (all.0, all.1))
    inserted Equal ih = (it, all.1)
    inserted Greater ih = (all.0, ih)

  each-in_map :
      (pairs : List (Member × ℕ)) (es : List (Member × ℕ)) → Each P (values_of es) → Each (λ p. P p.1) pairs
      → Each P (values_of (fold (λ entries p. insert_entry member_cmp entries p.0 p.1) es pairs))
  each-in_map [] es all more = all
  each-in_map (p ∷ pairs) es all more = each-in_map pairs (insert_entry member_cmp es p.0 p.1) (each-insert_entry es p.0 p.1 all more.0)
      more.1

  each-insert_key : (xs : List ℕ) (x : ℕ) → Each P xs → P x → Each P (insert_key nat_cmp xs x)
  each-insert_key [] x all it = (it, tt)
  each-insert_key (y ∷ ys) x all it = inserted (nat_cmp x y) (each-insert_key ys x all.1 it) where
    inserted : (o : Ordering) → Each P (insert_key nat_cmp ys x)
        → Each P (match_ordering o (x ∷ y ∷ ys) (y ∷ ys) (y ∷ insert_key nat_cmp ys x))
    inserted Less ih = (it, (all.0, all.1))
    inserted Equal ih = all
    inserted Greater ih = (all.0, ih)

  each-cells : (xs ys : List ℕ) → Each P ys → Each P xs → Each P (fold (insert_key nat_cmp) ys xs)
  each-cells [] ys all more = all
  each-cells (x ∷ xs) ys all more = each-cells xs (insert_key nat_cmp ys x) (each-insert_key ys x all more.0) more.1

  each-any : (c : ℕ) (xs : List ℕ) → Each P xs → list_any (eq_by_cmp nat_cmp c) xs ≡ true → P c
  each-any c [] all e = absurd (cc)
  each-any c (x ∷ xs) all e = any_by (eq_by_cmp nat_cmp c x) refl e (each-any c xs all.1) where
    any_by : (b : Bool) → eq_by_cmp nat_cmp c x ≡ b → (b || list_any (eq_by_cmp nat_cmp c) xs) ≡ true
        → (list_any (eq_by_cmp nat_cmp c) xs ≡ true → P c) → P c
    any_by true t e ih = subst P (sym (eqb-true c x (sym (unsigned_tied c x) ∙ t))) all.0
    any_by false t e ih = ih e

-- the cell is of a key that has it
abbrev pub HasKey : List (List Member) → ℕ → Type 0
HasKey all c = (k : Member) × (cell_now same_member all k ≡ Some c)

pair_by :
    (all : List (List Member)) (m k : Member) (o : Option ℕ) (pairs : List (Member × ℕ)) → cell_now same_member all k ≡ o
    → Each (λ (p : Member × ℕ). HasKey all p.1) pairs
    → Each (λ (p : Member × ℕ). HasKey all p.1) (cons_option (option_map (λ d. (m, d)) o) pairs)
pair_by all m k None pairs e ih = ih
pair_by all m k (Some d) pairs e ih = ((k, e), ih)

each_pair :
    (key_of : Member → Member) (all : List (List Member)) (ms : List Member)
    → Each (λ (p : Member × ℕ). HasKey all p.1) (filter_map (cell_pair key_of all) ms)
each_pair key_of all [] = tt
each_pair key_of all (m ∷ ms) =
    pair_by all m (key_of m) (cell_now same_member all (key_of m)) (filter_map (cell_pair key_of all) ms) refl (each_pair key_of all ms)

-- each cell of a membership is of a key that has it
pub cells_kept :
    (key_of : Member → Member) (all : List (List Member)) (members : List Member) (c : ℕ)
    → list_any (eq_by_cmp nat_cmp c) (cells_in (cells_by key_of all members)) ≡ true → (k : Member) × (cell_now same_member all k ≡ Some c)
cells_kept key_of all members c e =
    each-any (HasKey all) c (cells_in (cells_by key_of all members))
    (each-cells (HasKey all) (values_of (cells_by key_of all members)) [] tt
    (each-in_map (HasKey all) (filter_map (cell_pair key_of all) members) [] tt (each_pair key_of all members)))
    e
