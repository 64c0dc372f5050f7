-- Turns of the unique walk: what the loop of a turn has gone past, and what each of its ends gives.
use Rattle.std.specs.Prelude.{◌≡◌, ◌+◌, ◌<◌, ◌≤◌, max, Bool, true, false, cond, ◌||◌, List, [], ◌∷◌, ◌++◌, length, Option, Some, None}
use Rattle.std.specs.Prelude.{Result, Ok, Err, refl, is_none}
use Rattle.std.proofs.Common.{sym, ap, ◌∙◌, append_assoc, arith, inl, inr, length-append, subst}
use Rattle.std.specs.List.{AllByRecursion as Each, list_any}
use Rattle.std.specs.Result.{IsErrAnd}
use Rattle.std.specs.BTreeSet.{BTreeSet, contains, Updates}
use Rattle.std.specs.Cmp.{IsTotalOrder, IsEquivalence}
use Rattle.std.specs.Cmp.Rules.{comparing}
use Rattle.std.proofs.Common.{rules}
use Rattle.std.proofs.lemmas.Cmp.{eq_by_cmp_equiv}
use Rattle.std.proofs.lemmas.List.Folds.{list_any-append}
use Rattle.lb_select_base.specs.declared.refusal.Refusal.{Refusal}
use Rattle.lb_select_base.specs.declared.refusal.Refusal.TheVariants.{OutOfMemory}
use Rattle.lb_select_base.specs.declared.seen.Came.{Came}
use Rattle.lb_select_base.specs.declared.seen.SeenBackends.{SeenBackends}
use Rattle.lb_select_base.specs.declared.unique.UniqueIterator.{UniqueIterator}
use Rattle.lb_select_base.specs.Backends.{Member, member_cmp, same_member}
use Rattle.lb_select_base.specs.Draws.{Draw, Gives}
use Rattle.lb_select_base.specs.Walks.{Continues, IsStep}
use Rattle.lb_select_base.specs.Unique.{distinct, has_come, has_any, has_backend, has_seen, SeesSame, AreRepeats, IsTurn}
use Rattle.lb_select_base.specs.UniqueLaws.{AreSeen}
use Rattle.lb_select_base.proofs.Lists.{append-nil, Each-push, Each-weaker, distinct-new, distinct-repeats, any-repeats}

-- backends are in one order, so identity is an equivalence
pub member_cmp_total : IsTotalOrder member_cmp
member_cmp_total = search (comparing, rules) depth 9

pub same_equiv : IsEquivalence same_member
same_equiv = eq_by_cmp_equiv member_cmp_total

module _ {S : Type 0} (gives : S → Draw → S → Type 0) where
  -- draws after draws
  pub Gives-append : (s u t : S) (ds es : List Draw) → Gives gives s ds u → Gives gives u es t → Gives gives s (ds ++ es) t
  Gives-append s u t [] es first later = let P : S → Type 0 = λ x. Gives gives x es t in subst P (sym first) later
  Gives-append s u t (d ∷ ds) es first later = (first.0, first.1, Gives-append first.0 u t ds es first.2 later)

module _ {I B : Type 0} (walk : I → List Draw → List B → Bool → Type 0) where
  -- a walk after a walk
  pub Continues-append : (i j n : I) (ds es : List Draw) (bs cs : List B)
      → Continues walk i ds bs j → Continues walk j es cs n → Continues walk i (ds ++ es) (bs ++ cs) n
  Continues-append i j n ds es bs cs first later = λ fs xs e h. rw (append_assoc ds es fs, append_assoc bs cs xs)
      (first (es ++ fs) (cs ++ xs) e (later fs xs e h))

  -- where the walk from n on has not begun, the walk from i on is these draws and candidates
  pub Continues-closed : (i n : I) (ds : List Draw) (bs : List B) (e : Bool) → Continues walk i ds bs n → walk n [] [] e → walk i ds bs e
  Continues-closed i n ds bs e goes h = let w : walk i (ds ++ []) (bs ++ []) e = goes [] [] e h in rw (append-nil ds, append-nil bs) at w

or-true-right : (a : Bool) → (a || true) ≡ true
or-true-right true = refl
or-true-right false = refl

or-false : (a : Bool) → (a || false) ≡ a
or-false true = refl
or-false false = refl

-- what a set has after one more went into it
pub seen_more : (s n : BTreeSet Member) (b : Member) → Updates member_cmp s n b true
    → (q : Member) → contains member_cmp n q ≡ (contains member_cmp s q || same_member q b)
seen_more s n b updates q =
    let here : contains member_cmp n q ≡ cond (same_member b q) true (contains member_cmp s q) = updates.0 q in
    let back : same_member b q ≡ same_member q b = same_equiv.symm b q in
    rw (here, back) (elim (same_member q b) as (λ v. cond v true (contains member_cmp s q) ≡ (contains member_cmp s q || v))
    [ true ↦ sym (or-true-right (contains member_cmp s q)) | false ↦ sym (or-false (contains member_cmp s q)) ])

or-swap : (a b c : Bool) → (a || (b || c)) ≡ ((c || b) || a)
or-swap true b c = sym (or-true-right (c || b))
or-swap false true c = sym (or-false (c || true) ∙ or-true-right c)
or-swap false false c = sym (or-false (c || false) ∙ or-false c)

-- where the one that came last goes into the set, and another one comes, that one has come too
pub come_more : (s : SeenBackends) (c : Came) (n : BTreeSet Member) (identity b : Member) → s.came ≡ Some c
    → ((q : Member) → same_member q identity ≡ same_member q b) → Updates member_cmp c.earlier n c.last true
    → (q : Member) → has_come (record { last = identity; earlier = n }) q ≡ (has_backend s q || same_member q b)
come_more s c n identity b was same updates q =
    let more : contains member_cmp n q ≡ (contains member_cmp c.earlier q || same_member q c.last) =
    seen_more c.earlier n c.last updates q in
    rw (was, same q, more) (or-swap (same_member q b) (contains member_cmp c.earlier q) (same_member q c.last))

-- where none came, no backend came
none_any : (o : Option Came) (empty : Bool) → empty ≡ is_none o → empty ≡ true → (q : Member) → has_any o q ≡ false
none_any None empty is none q = refl
none_any (Some c) empty is none q = absurd (cc)

pub none_came : (s : SeenBackends) (empty : Bool) → empty ≡ is_none s.came → empty ≡ true → (q : Member) → has_backend s q ≡ false
none_came s empty is none q = none_any s.came empty is none q

-- what is found in a list with one more at its end
any-push : {B : Type 0} (p : B → Bool) (xs : List B) (x : B) → list_any p (xs ++ x ∷ []) ≡ (list_any p xs || p x)
any-push p xs x = let e : list_any p (xs ++ x ∷ []) ≡ (list_any p xs || (p x || false)) = list_any-append p xs (x ∷ []) in
    e ∙ ap (λ v. list_any p xs || v) (or-false (p x))

-- past repeats the same backends are seen, and there is no distinct one more
pub seen_repeats : (s n : SeenBackends) (cs bs : List Member) → ((q : Member) → has_backend n q ≡ has_backend s q)
    → Each (λ b. has_backend s b ≡ true) bs → AreSeen s cs
    → AreSeen n (cs ++ bs) × (distinct same_member (cs ++ bs) ≡ distinct same_member cs)
seen_repeats s n cs bs same repeats seen =
    let old = Each-weaker (λ b. has_backend s b ≡ true) (λ b. list_any (same_member b) cs ≡ true)
    (λ (b : Member) (h : has_backend s b ≡ true). sym (seen b) ∙ h) bs repeats in (
      λ q. same q ∙ seen q ∙ sym (any-repeats same_member same_equiv cs bs old q),
      distinct-repeats same_member cs bs old,
    )

-- past a new one it is seen too, and there is one distinct backend more
pub seen_new : (s n : SeenBackends) (cs : List Member) (b : Member)
    → ((q : Member) → has_backend n q ≡ (has_backend s q || same_member q b)) → has_backend s b ≡ false → AreSeen s cs
    → AreSeen n (cs ++ b ∷ []) × (distinct same_member (cs ++ b ∷ []) ≡ distinct same_member cs ++ b ∷ [])
seen_new s n cs b more new seen = (
  λ q. more q ∙ ap (λ v. v || same_member q b) (seen q) ∙ sym (any-push (same_member q) cs b),
  distinct-new same_member cs b (sym (seen b) ∙ new),
)

module _ {I : Type 0} where
  -- one more candidate is counted
  counted_more : (u n : UniqueIterator I) (bs : List Member) (b : Member)
      → n.steps ≡ u.steps + length bs → n.steps + 1 ≡ u.steps + length (bs ++ b ∷ [])
  counted_more u n bs b counted = let l : length (bs ++ b ∷ []) ≡ length bs + 1 = length-append bs (b ∷ []) in omega arith

  -- where the limit leaves room for it
  room_more : (u n : UniqueIterator I) → n.max_iterations ≡ u.max_iterations → n.steps < n.max_iterations
      → n.steps + 1 ≤ max u.steps u.max_iterations
  room_more u n limit room = omega arith

module _ {I S : Type 0} (gives : S → Draw → S → Type 0) (walk : I → List Draw → List Member → Bool → Type 0) where
  -- a turn on its way: from u and s to n and t by repeats alone, each of which was counted
  pub record Turning (u : UniqueIterator I) (s : S) (n : UniqueIterator I) (t : S) : Type 0 where
    pub draws : List Draw
    pub passed : List Member
    pub drawn : Gives gives s draws t
    pub goes : Continues walk u.iter draws passed n.iter
    pub counted : n.steps ≡ u.steps + length passed
    pub repeats : AreRepeats u passed
    pub same : SeesSame u n
    pub limit : n.max_iterations ≡ u.max_iterations
    pub within : n.steps ≤ max u.steps u.max_iterations

  -- it begins so
  pub turning_none : (u : UniqueIterator I) (s : S) → Turning u s u s
  turning_none u s = record {
    draws = [];
    passed = [];
    drawn = refl;
    goes = λ es cs e h. h;
    counted = omega arith;
    repeats = tt;
    same = λ q. refl;
    limit = refl;
    within = omega arith;
  }

  -- and goes on past one more repeat
  pub turning_more : {u : UniqueIterator I} {s : S} {n : UniqueIterator I} {t : S} (b : Member) (j : I) (v : S)
      → Turning u s n t → IsStep gives walk n.iter t (Some b) j v → has_seen n b ≡ true → n.steps < n.max_iterations
      → Turning u s (record n { iter = j; steps = n.steps + 1 }) v
  turning_more {u} {s} {n} {t} b j v p step old room = record {
    draws = p.draws ++ step.0;
    passed = p.passed ++ b ∷ [];
    drawn = Gives-append gives s t v p.draws step.0 p.drawn step.1;
    goes = Continues-append walk u.iter n.iter j p.draws step.0 p.passed (b ∷ []) p.goes step.2;
    counted = counted_more u n p.passed b p.counted;
    repeats = Each-push (λ x. has_seen u x ≡ true) p.passed b p.repeats (sym (p.same b) ∙ old);
    same = p.same;
    limit = p.limit;
    within = room_more u n p.limit room;
  }

  -- it ends where the walk ends
  pub turn_ended : {u : UniqueIterator I} {s : S} {n : UniqueIterator I} {t : S} (j : I) (v : S)
      → Turning u s n t → IsStep gives walk n.iter t None j v → IsTurn gives walk u s (Ok None) (record n { iter = j }) v
  turn_ended {u} {s} {n} {t} j v p step = record {
    draws = p.draws ++ step.0;
    passed = p.passed;
    drawn = Gives-append gives s t v p.draws step.0 p.drawn step.1;
    limit = p.limit;
    counted = p.counted;
    within = p.within;
    gave = (
      p.repeats,
      p.same,
      inl (let w : walk u.iter (p.draws ++ step.0) (p.passed ++ []) true = p.goes step.0 [] true step.2.0 in rw append-nil at w, step.2.1),
    );
  }

  -- or where one more would pass the limit
  pub turn_at_limit : {u : UniqueIterator I} {s : S} {n : UniqueIterator I} {t : S} (b : Member) (j : I) (v : S)
      → Turning u s n t → IsStep gives walk n.iter t (Some b) j v → n.max_iterations ≤ n.steps
      → IsTurn gives walk u s (Ok None) (record n { iter = j }) v
  turn_at_limit {u} {s} {n} {t} b j v p step full = record {
    draws = p.draws ++ step.0;
    passed = p.passed;
    drawn = Gives-append gives s t v p.draws step.0 p.drawn step.1;
    limit = p.limit;
    counted = p.counted;
    within = p.within;
    gave = (
      p.repeats,
      p.same,
      inr (rw p.limit at full, (b, Continues-append walk u.iter n.iter j p.draws step.0 p.passed (b ∷ []) p.goes step.2)),
    );
  }

  -- or at a new backend, which is seen from then on
  pub turn_found : {u : UniqueIterator I} {s : S} {n : UniqueIterator I} {t : S} (b : Member) (j : I) (seen : SeenBackends) (v : S)
      → Turning u s n t → IsStep gives walk n.iter t (Some b) j v → has_seen n b ≡ false → n.steps < n.max_iterations
      → ((q : Member) → has_backend seen q ≡ (has_seen n q || same_member q b))
      → IsTurn gives walk u s (Ok (Some b)) (record n { iter = j; steps = n.steps + 1; seen = seen }) v
  turn_found {u} {s} {n} {t} b j seen v p step new room more = record {
    draws = p.draws ++ step.0;
    passed = p.passed ++ b ∷ [];
    drawn = Gives-append gives s t v p.draws step.0 p.drawn step.1;
    limit = p.limit;
    counted = counted_more u n p.passed b p.counted;
    within = room_more u n p.limit room;
    gave = (
      Continues-append walk u.iter n.iter j p.draws step.0 p.passed (b ∷ []) p.goes step.2,
      λ q. more q ∙ ap (λ x. x || same_member q b) (p.same q),
      (p.passed, refl, p.repeats, sym (p.same b) ∙ new),
    );
  }

  -- or is refused there, with nothing new seen
  pub turn_refused : {u : UniqueIterator I} {s : S} {n : UniqueIterator I} {t : S} (b : Member) (j : I) (seen : SeenBackends) (v : S)
      (r : Result (Option Member) Refusal)
      → Turning u s n t → IsStep gives walk n.iter t (Some b) j v → has_seen n b ≡ false → n.steps < n.max_iterations
      → ((q : Member) → has_backend seen q ≡ has_seen n q) → IsErrAnd r (λ e. e ≡ OutOfMemory)
      → IsTurn gives walk u s r (record n { iter = j; steps = n.steps + 1; seen = seen }) v
  turn_refused b j seen v (Ok o) p step new room same refused = absurd refused
  turn_refused {u} {s} {n} {t} b j seen v (Err e) p step new room same refused = record {
    draws = p.draws ++ step.0;
    passed = p.passed ++ b ∷ [];
    drawn = Gives-append gives s t v p.draws step.0 p.drawn step.1;
    limit = p.limit;
    counted = counted_more u n p.passed b p.counted;
    within = room_more u n p.limit room;
    gave = (
      refused,
      Continues-append walk u.iter n.iter j p.draws step.0 p.passed (b ∷ []) p.goes step.2,
      λ q. same q ∙ p.same q,
      (b, (p.passed, refl, p.repeats, sym (p.same b) ∙ new)),
    );
  }
