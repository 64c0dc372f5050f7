-- The places of the targets: no two candidates have one, where memberships are sets and views have different numbers. So the
-- targets in their order are as many as those of the candidates that are first of their key.
use Rattle.std.proofs.Common.{◌≡◌, ◌≤◌, ◌+◌, ◌==◌, ℕ, Bool, true, false, cond, not, ◌&&◌, ◌||◌, List, [], ◌∷◌, ◌++◌, length, filter, fold}
use Rattle.std.proofs.Common.{refl, sym, ap, subst, ◌∙◌, arith, rules, true≢false, nat_lt, if◌then◌else◌}
use Rattle.std.proofs.lemmas.List.Folds.{list_any-append}
use Rattle.std.specs.BTreeMap.{insert_entry}
use Rattle.std.specs.Cmp.{IsEquivalence, IsTotalOrder, eq_by_cmp_equiv, unsigned_tied}
use Rattle.std.specs.Cmp.Rules.{comparing}
use Rattle.std.specs.List.{list_any, AllByRecursion as Each}
use Rattle.std.specs.List.Sorted.{IsStrictlySortedBy}
use Rattle.std.specs.Map.{values_of}
use Rattle.std.specs.Ordering.{eq_by_cmp, nat_cmp, on, is_eq, ordering_then, match_ordering}
use Rattle.std.specs.declared.cmp.Ordering.{Ordering}
use Rattle.std.specs.declared.cmp.Ordering.TheVariants.{Less, Equal, Greater}
use borrow.Author.Tests.{lt-ltb, ne_eqb}
use Rattle.lb_select_base.specs.Backends.{Member, member_cmp, same_member}
use Rattle.lb_select_base.specs.Unique.{firsts, distinct}
use Rattle.lb_health_core.specs.declared.targets.TargetPlace.{TargetPlace}
use Rattle.lb_health_core.specs.RegistryEvents.{Event, Registered, Applied, Updated, Marked, Observed, Held, Released, Configured}
use Rattle.lb_health_core.specs.RegistryEvents.{AreSets, is_view, at_view, with_members, with_mark, new_view, registered_after}
use Rattle.lb_health_core.specs.RegistryEvents.{views_after}
use Rattle.lb_health_core.specs.Targets.{ViewValue, live, place_cmp, Candidate, same_key, candidates_of, candidates, target_keys}

and_false : (b : Bool) → (b && false) ≡ false
and_false true = refl
and_false false = refl

module _ {A : Type 0} (P : A → Type 0) where
  pub each-append : (xs ys : List A) → Each P xs → Each P ys → Each P (xs ++ ys)
  each-append [] ys a b = b
  each-append (x ∷ xs) ys a b = (a.0, each-append xs ys a.1 b)

  pub each-filter : (q : A → Bool) (xs : List A) → Each P xs → Each P (filter q xs)
  each-filter q [] a = tt
  each-filter q (x ∷ xs) a = kept_by (q x) (each-filter q xs a.1) where
    kept_by : (b : Bool) → Each P (filter q xs) → Each P (cond b (x ∷ filter q xs) (filter q xs))
    kept_by true h = (a.0, h)
    kept_by false h = h

  pub each-impl : {Q : A → Type 0} → ((x : A) → P x → Q x) → (xs : List A) → Each P xs → Each Q xs
  each-impl h [] a = tt
  each-impl h (x ∷ xs) a = (h x a.0, each-impl h xs a.1)

-- places are in a total order, and candidates of one key are equivalent
pub place_total : IsTotalOrder place_cmp
place_total = search (comparing, rules) depth 9

key_total : IsTotalOrder (on (λ (c : Candidate). c.key) member_cmp)
key_total = search (comparing, rules) depth 9

pub key_laws : IsEquivalence same_key
key_laws = eq_by_cmp_equiv key_total

abbrev pub same_place : TargetPlace → TargetPlace → Bool
same_place = eq_by_cmp place_cmp

eq_then : (a b : Ordering) → is_eq (ordering_then a b) ≡ (is_eq a && is_eq b)
eq_then Less b = refl
eq_then Equal b = refl
eq_then Greater b = refl

apart_by_view : (p q : TargetPlace) → (p.view == q.view) ≡ false → same_place p q ≡ false
apart_by_view p q e =
    eq_then (member_cmp p.backend q.backend) (nat_cmp p.view q.view)
    ∙ ap (λ b. same_member p.backend q.backend && b) (unsigned_tied p.view q.view ∙ e)
    ∙ and_false (same_member p.backend q.backend)

apart_by_backend : (p q : TargetPlace) → member_cmp p.backend q.backend ≡ Less → same_place p q ≡ false
apart_by_backend p q e = ap (λ o. is_eq (ordering_then o (nat_cmp p.view q.view))) e

-- none of these candidates has the place
abbrev pub Apart : TargetPlace → List Candidate → Type 0
Apart p cs = Each (λ (d : Candidate). same_place p d.place ≡ false) cs

-- no two of these candidates have one place
abbrev pub ArePlaced : List Candidate → Type 0
ArePlaced [] = Unit {0}
ArePlaced (c ∷ cs) = Apart c.place cs × ArePlaced cs

placed-append : (xs ys : List Candidate) → ArePlaced xs → ArePlaced ys → Each (λ (c : Candidate). Apart c.place ys) xs
    → ArePlaced (xs ++ ys)
placed-append [] ys a b e = b
placed-append (x ∷ xs) ys a b e =
    (each-append (λ (d : Candidate). same_place x.place d.place ≡ false) xs ys a.0 e.0, placed-append xs ys a.1 b e.1)

-- first occurrences are among the list
pub each-firsts : (P : Candidate → Type 0) (before xs : List Candidate) → Each P xs → Each P (firsts same_key before xs)
each-firsts P before [] a = tt
each-firsts P before (x ∷ xs) a = first_by (list_any (same_key x) before) (each-firsts P (before ++ x ∷ []) xs a.1) where
  first_by :
      (b : Bool) → Each P (firsts same_key (before ++ x ∷ []) xs)
      → Each P (if b then firsts same_key (before ++ x ∷ []) xs else x ∷ firsts same_key (before ++ x ∷ []) xs)
  first_by true h = h
  first_by false h = (a.0, h)

placed-firsts : (before xs : List Candidate) → ArePlaced xs → ArePlaced (firsts same_key before xs)
placed-firsts before [] a = tt
placed-firsts before (x ∷ xs) a = first_by (list_any (same_key x) before) (placed-firsts (before ++ x ∷ []) xs a.1) where
  first_by :
      (b : Bool) → ArePlaced (firsts same_key (before ++ x ∷ []) xs)
      → ArePlaced (if b then firsts same_key (before ++ x ∷ []) xs else x ∷ firsts same_key (before ++ x ∷ []) xs)
  first_by true h = h
  first_by false h = (each-firsts (λ (d : Candidate). same_place x.place d.place ≡ false) (before ++ x ∷ []) xs a.0, h)

-- the number is none of the views'
abbrev pub IsNew : ℕ → List ViewValue → Type 0
IsNew id vs = Each (λ (w : ViewValue). (id == w.id) ≡ false) vs

-- views have different numbers, and sets as memberships
abbrev pub AreApart : List ViewValue → Type 0
AreApart [] = Unit {0}
AreApart (v ∷ vs) = IsNew v.id vs × (IsStrictlySortedBy member_cmp v.members × AreApart vs)

module _ (key_of : Member → Member) where
  own_apart : (id : ℕ) (b : Member) (ms : List Member) → Each (λ (m : Member). member_cmp b m ≡ Less) ms
      → Apart (record { backend = b; view = id }) (candidates_of key_of id ms)
  own_apart id b [] e = tt
  own_apart id b (m ∷ ms) e = (
    apart_by_backend (record { backend = b; view = id }) (record { backend = m; view = id }) e.0,
    own_apart id b ms e.1,
  )

  own_placed : (id : ℕ) (ms : List Member) → IsStrictlySortedBy member_cmp ms → ArePlaced (candidates_of key_of id ms)
  unfolding IsStrictlySortedBy
  own_placed id [] s = tt
  own_placed id (m ∷ ms) s = (own_apart id m ms s.0, own_placed id ms s.1)

  view_apart : (p : TargetPlace) (id : ℕ) (ms : List Member) → (p.view == id) ≡ false → Apart p (candidates_of key_of id ms)
  view_apart p id [] e = tt
  view_apart p id (m ∷ ms) e = (apart_by_view p (record { backend = m; view = id }) e, view_apart p id ms e)

  views_apart : (p : TargetPlace) (vs : List ViewValue) → IsNew p.view vs → Apart p (candidates key_of vs)
  views_apart p [] e = tt
  views_apart p (w ∷ vs) e =
      each-append (λ (d : Candidate). same_place p d.place ≡ false) (candidates_of key_of w.id w.members) (candidates key_of vs)
      (view_apart p w.id w.members e.0) (views_apart p vs e.1)

  all_apart : (id : ℕ) (ms : List Member) (vs : List ViewValue) → IsNew id vs
      → Each (λ (c : Candidate). Apart c.place (candidates key_of vs)) (candidates_of key_of id ms)
  all_apart id [] vs e = tt
  all_apart id (m ∷ ms) vs e = (views_apart (record { backend = m; view = id }) vs e, all_apart id ms vs e)

  placed : (vs : List ViewValue) → AreApart vs → ArePlaced (candidates key_of vs)
  placed [] a = tt
  placed (v ∷ vs) a =
      placed-append (candidates_of key_of v.id v.members) (candidates key_of vs) (own_placed v.id v.members a.1.0) (placed vs a.1.1)
      (all_apart v.id v.members vs a.0)

-- the views after events are apart
at-new : (n id : ℕ) (f : ViewValue → ViewValue) (same_id : (v : ViewValue) → (f v).id ≡ v.id) (vs : List ViewValue) → IsNew n vs
    → IsNew n (at_view id f vs)
at-new n id f same_id [] a = tt
at-new n id f same_id (v ∷ vs) a = at_by (is_view id v) (at-new n id f same_id vs a.1) where
  at_by : (b : Bool) → IsNew n (at_view id f vs) → IsNew n (cond b (f v ∷ vs) (v ∷ at_view id f vs))
  at_by true h = (ap (λ i. n == i) (same_id v) ∙ a.0, a.1)
  at_by false h = (a.0, h)

at-apart :
    (id : ℕ) (f : ViewValue → ViewValue) (same_id : (v : ViewValue) → (f v).id ≡ v.id)
    (sorted : (v : ViewValue) → IsStrictlySortedBy member_cmp v.members → IsStrictlySortedBy member_cmp (f v).members)
    (vs : List ViewValue) → AreApart vs → AreApart (at_view id f vs)
at-apart id f same_id sorted [] a = tt
at-apart id f same_id sorted (v ∷ vs) a = at_by (is_view id v) (at-apart id f same_id sorted vs a.1.1) where
  at_by : (b : Bool) → AreApart (at_view id f vs) → AreApart (cond b (f v ∷ vs) (v ∷ at_view id f vs))
  at_by true h = (subst (λ (n : ℕ). IsNew n vs) (sym (same_id v)) a.0, (sorted v a.1.0, a.1.1))
  at_by false h = (at-new v.id id f same_id vs a.0, (a.1.0, h))

pub live-apart : (vs : List ViewValue) → AreApart vs → AreApart (live vs)
live-apart [] a = tt
live-apart (v ∷ vs) a = live_by (not v.marked) (live-apart vs a.1.1) where
  live_by : (b : Bool) → AreApart (live vs) → AreApart (cond b (v ∷ live vs) (live vs))
  live_by true h = (each-filter (λ (w : ViewValue). (v.id == w.id) ≡ false) (λ w. not w.marked) vs a.0, (a.1.0, h))
  live_by false h = h

-- the views have numbers up to this one
abbrev pub UpTo : ℕ → List ViewValue → Type 0
UpTo n vs = Each (λ (w : ViewValue). w.id ≤ n) vs

at-up : (n id : ℕ) (f : ViewValue → ViewValue) (same_id : (v : ViewValue) → (f v).id ≡ v.id) (vs : List ViewValue) → UpTo n vs
    → UpTo n (at_view id f vs)
at-up n id f same_id [] a = tt
at-up n id f same_id (v ∷ vs) a = at_by (is_view id v) (at-up n id f same_id vs a.1) where
  at_by : (b : Bool) → UpTo n (at_view id f vs) → UpTo n (cond b (f v ∷ vs) (v ∷ at_view id f vs))
  at_by true h = (subst (λ (i : ℕ). i ≤ n) (sym (same_id v)) a.0, a.1)
  at_by false h = (a.0, h)

new-apart : (n : ℕ) (vs : List ViewValue) → UpTo n vs → AreApart vs → AreApart (vs ++ new_view (n + 1) ∷ [])
unfolding IsStrictlySortedBy
new-apart n [] u a = (tt, (tt, tt))
new-apart n (v ∷ vs) u a =
    let other : v.id ≡ n + 1 → ⊥ = λ e. omega (arith, u.0, e) in (
      each-append (λ (w : ViewValue). (v.id == w.id) ≡ false) vs (new_view (n + 1) ∷ []) a.0 (ne_eqb v.id (n + 1) other, tt),
      (a.1.0, new-apart n vs u.1 a.1.1),
    )

apart_up : (events : List Event) → AreSets events → AreApart (views_after events) × UpTo (registered_after events) (views_after events)
apart_up [] s = (tt, tt)
apart_up (Registered ∷ e) s =
    let ih = apart_up e s in
    let n = registered_after e in
    let last : n + 1 ≤ n + 1 = omega arith in
    let later : (w : ViewValue) → w.id ≤ n → w.id ≤ n + 1 = λ w l. omega (arith, l) in (
      new-apart n (views_after e) ih.1 ih.0,
      each-append (λ (w : ViewValue). w.id ≤ n + 1) (views_after e) (new_view (n + 1) ∷ [])
          (each-impl (λ (w : ViewValue). w.id ≤ n) later (views_after e) ih.1) (last, tt),
    )
apart_up (Applied ∷ e) s =
    let ih = apart_up e s in
    (live-apart (views_after e) ih.0, each-filter (λ (w : ViewValue). w.id ≤ registered_after e) (λ w. not w.marked) (views_after e) ih.1)
apart_up (Updated id ms ∷ e) s =
    let ih = apart_up e s.1 in (
      at-apart id (with_members ms) (λ v. refl) (λ v h. s.0) (views_after e) ih.0,
      at-up (registered_after e) id (with_members ms) (λ v. refl) (views_after e) ih.1,
    )
apart_up (Marked id ∷ e) s =
    let ih = apart_up e s in (
      at-apart id with_mark (λ v. refl) (λ v h. h) (views_after e) ih.0,
      at-up (registered_after e) id with_mark (λ v. refl) (views_after e) ih.1,
    )
apart_up (Observed c v ∷ e) s = apart_up e s
apart_up (Held id g ∷ e) s = apart_up e s
apart_up (Released id g ∷ e) s = apart_up e s
apart_up (Configured h ∷ e) s = apart_up e s

pub views_apart_after : (events : List Event) → AreSets events → AreApart (views_after events)
views_apart_after events s = (apart_up events s).0

-- how many pass a test
len_cons : {A : Type 0} (p : A → Bool) (x : A) (xs : List A) → length (filter p (x ∷ xs)) ≡ cond (p x) 1 0 + length (filter p xs)
len_cons {A} p x xs = passes (p x) where
  passes : (b : Bool) → length (cond b (x ∷ filter p xs) (filter p xs)) ≡ cond b 1 0 + length (filter p xs)
  passes true = omega arith
  passes false = omega arith

-- at a place that is new the entry is one more
counted :
    (p : Member → Bool) (es : List (TargetPlace × Member)) (k : TargetPlace) (v : Member)
    → Each (λ (e : TargetPlace × Member). same_place k e.0 ≡ false) es
    → length (filter p (values_of (insert_entry place_cmp es k v))) ≡ length (filter p (v ∷ values_of es))
counted p [] k v a = refl
counted p (e ∷ es) k v a = at_by (place_cmp k e.0) refl (counted p es k v a.1) where
  at_by :
      (o : Ordering) → place_cmp k e.0 ≡ o → length (filter p (values_of (insert_entry place_cmp es k v))) ≡ length
      (filter p (v ∷ values_of es))
      → length (filter p (values_of (match_ordering o ((k, v) ∷ e ∷ es) ((e.0, v) ∷ es) (e ∷ insert_entry place_cmp es k v))))
      ≡ length (filter p (v ∷ e.1 ∷ values_of es))
  at_by Less t ih = refl
  at_by Equal t ih = absurd (true≢false (sym (ap is_eq t) ∙ a.0))
  at_by Greater t ih =
      omega (
        arith,
        len_cons p e.1 (values_of (insert_entry place_cmp es k v)),
        ih,
        len_cons p v (values_of es),
        len_cons p v (e.1 ∷ values_of es),
        len_cons p e.1 (values_of es),
      )

each-insert :
    (P : TargetPlace → Type 0) (es : List (TargetPlace × Member)) (k : TargetPlace) (v : Member)
    → Each (λ (e : TargetPlace × Member). P e.0) es → P k
    → Each (λ (e : TargetPlace × Member). P e.0) (insert_entry place_cmp es k v)
each-insert P [] k v a it = (it, tt)
each-insert P (e ∷ es) k v a it = at_by (place_cmp k e.0) (each-insert P es k v a.1 it) where
  at_by :
      (o : Ordering) → Each (λ (e : TargetPlace × Member). P e.0) (insert_entry place_cmp es k v)
      → Each (λ (e : TargetPlace × Member). P e.0) (match_ordering o ((k, v) ∷ e ∷ es) ((e.0, v) ∷ es) (e ∷ insert_entry place_cmp es k v))
  at_by Less h = (it, a)
  at_by Equal h = (a.0, a.1)
  at_by Greater h = (a.0, h)

-- the candidates have none of the entries' places
abbrev pub AreNew : List (TargetPlace × Member) → List Candidate → Type 0
AreNew es cs = Each (λ (c : Candidate). Each (λ (e : TargetPlace × Member). same_place c.place e.0 ≡ false) es) cs

still_new : (es : List (TargetPlace × Member)) (c : Candidate) (cs : List Candidate) → Apart c.place cs → AreNew es cs
    → AreNew (insert_entry place_cmp es c.place c.key) cs
still_new es c [] a n = tt
still_new es c (d ∷ cs) a n = (
  each-insert (λ p. same_place d.place p ≡ false) es c.place c.key n.0 ((eq_by_cmp_equiv place_total).symm d.place c.place ∙ a.0),
  still_new es c cs a.1 n.1,
)

order-count :
    (p : Member → Bool) (es : List (TargetPlace × Member)) (cs : List Candidate) → ArePlaced cs → AreNew es cs
    → length (filter p (values_of (fold (λ sorted c. insert_entry place_cmp sorted c.place c.key) es cs)))
    ≡ length (filter p (values_of es)) + length (filter (λ (c : Candidate). p c.key) cs)
order-count p es [] a n = omega arith
order-count p es (c ∷ cs) a n =
    omega (
      arith,
      order-count p (insert_entry place_cmp es c.place c.key) cs a.1 (still_new es c cs a.0 n.1),
      counted p es c.place c.key n.0,
      len_cons p c.key (values_of es),
      len_cons (λ (d : Candidate). p d.key) c cs,
    )

none_new : (cs : List Candidate) → AreNew [] cs
none_new [] = tt
none_new (c ∷ cs) = (tt, none_new cs)

any_count : {A : Type 0} (p : A → Bool) (xs : List A) → list_any p xs ≡ nat_lt 0 (length (filter p xs))
any_count p [] = refl
any_count p (x ∷ xs) = any_by (p x) (any_count p xs) where
  any_by : (b : Bool) → list_any p xs ≡ nat_lt 0 (length (filter p xs))
      → (b || list_any p xs) ≡ nat_lt 0 (length (cond b (x ∷ filter p xs) (filter p xs)))
  any_by true ih = sym (lt-ltb 0 (length (x ∷ filter p xs)) (omega arith))
  any_by false ih = ih

-- a test that goes by the key, of the first occurrences and of all
module _ (P : Candidate → Bool) (alike : (c d : Candidate) → same_key c d ≡ true → P c ≡ P d) where
  pub any_known : (x : Candidate) (before : List Candidate) → list_any (same_key x) before ≡ true → P x ≡ true → list_any P before ≡ true
  any_known x [] e t = absurd (cc)
  any_known x (y ∷ before) e t = known_by (same_key x y) refl e (any_known x before) where
    known_by :
        (b : Bool) → same_key x y ≡ b → (b || list_any (same_key x) before) ≡ true
        → (list_any (same_key x) before ≡ true → P x ≡ true → list_any P before ≡ true) → (P y || list_any P before) ≡ true
    known_by true s e ih = ap (λ b. b || list_any P before) (sym (alike x y s) ∙ t)
    known_by false s e ih = ap (λ b. P y || b) (ih e t) ∙ or_true (P y) where
      or_true : (b : Bool) → (b || true) ≡ true
      or_true true = refl
      or_true false = refl

  repeated : (a px f r : Bool) → (px ≡ true → a ≡ true) → ((a || (px || false)) || f) ≡ ((a || (px || false)) || r)
      → (a || f) ≡ (a || (px || r))
  repeated true px f r h ih = refl
  repeated false true f r h ih = absurd (true≢false (sym (h refl)))
  repeated false false f r h ih = ih

  first : (a px f r : Bool) → ((a || (px || false)) || f) ≡ ((a || (px || false)) || r) → (a || (px || f)) ≡ (a || (px || r))
  first true px f r ih = refl
  first false true f r ih = refl
  first false false f r ih = ih

  firsts_by :
      (x : Candidate) (before xs : List Candidate) (f : List Candidate)
      → ((list_any P before || (P x || false)) || list_any P f) ≡ ((list_any P before || (P x || false)) || list_any P xs)
      → (b : Bool) → list_any (same_key x) before ≡ b
      → (list_any P before || list_any P (if b then f else x ∷ f)) ≡ (list_any P before || (P x || list_any P xs))
  firsts_by x before xs f ih true e = repeated (list_any P before) (P x) (list_any P f) (list_any P xs) (any_known x before e) ih
  firsts_by x before xs f ih false e = first (list_any P before) (P x) (list_any P f) (list_any P xs) ih

  any-firsts : (before xs : List Candidate) → (list_any P before || list_any P (firsts same_key before xs)) ≡
      (list_any P before || list_any P xs)
  any-firsts before [] = refl
  any-firsts before (x ∷ xs) =
      let f : List Candidate = firsts same_key (before ++ x ∷ []) xs in
      firsts_by x before xs f
      (ap (λ b. b || list_any P f) (sym (list_any-append P before (x ∷ []))) ∙ any-firsts (before ++ x ∷ []) xs
      ∙ ap (λ b. b || list_any P xs) (list_any-append P before (x ∷ [])))
      (list_any (same_key x) before) refl

  pub any-distinct : (xs : List Candidate) → list_any P (distinct same_key xs) ≡ list_any P xs
  any-distinct xs = any-firsts [] xs

-- how many targets have keys that pass a test
pub target_count :
    (key_of : Member → Member) (p : Member → Bool) (vs : List ViewValue) → AreApart vs
    → length (filter p (target_keys key_of vs)) ≡ length (filter (λ (c : Candidate). p c.key) (distinct same_key (candidates key_of vs)))
target_count key_of p vs a =
    let ds = distinct same_key (candidates key_of vs) in
    omega (arith, order-count p [] ds (placed-firsts [] (candidates key_of vs) (placed key_of vs a)) (none_new ds))

-- a key is a target's where a backend of the views has it
pub target_any :
    (key_of : Member → Member) (q : Member) (vs : List ViewValue) → AreApart vs
    → list_any (same_member q) (target_keys key_of vs) ≡ list_any (λ (c : Candidate). same_member q c.key) (candidates key_of vs)
target_any key_of q vs a =
    let P : Candidate → Bool = λ c. same_member q c.key in
    let like : (c d : Candidate) → same_key c d ≡ true → P c ≡ P d
    = λ c d e. member_symm q c.key ∙ (eq_by_cmp_equiv member_total).congr c.key d.key q e ∙ member_symm d.key q in
    any_count (same_member q) (target_keys key_of vs) ∙ ap (λ n. nat_lt 0 n) (target_count key_of (same_member q) vs a)
    ∙ sym (any_count P (distinct same_key (candidates key_of vs))) ∙ any-distinct P like (candidates key_of vs)
  where
    member_total : IsTotalOrder member_cmp
    member_total = search (comparing, rules) depth 9

    member_symm : (x y : Member) → same_member x y ≡ same_member y x
    member_symm = (eq_by_cmp_equiv member_total).symm
