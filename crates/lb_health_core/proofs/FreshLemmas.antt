-- The keys that a change starts: none where marks are applied, and with a view's new membership those of its keys that no view
-- had. They are counted without the numbering.
use Rattle.std.proofs.Common.{◌≡◌, ◌≤◌, ◌+◌, ◌==◌, ℕ, Bool, true, false, cond, not, ◌&&◌, ◌||◌, List, [], ◌∷◌, ◌++◌, length, reverse}
use Rattle.std.proofs.Common.{filter, refl, sym, ap, subst, ◌∙◌, arith, true≢false, append_assoc, length-append, if◌then◌else◌, take, ◌-◌}
use Rattle.std.proofs.Common.{zero, suc}
use Rattle.std.proofs.lemmas.List.{append-nil, length-reverse, map-append, take-append-le, take_all}
use Rattle.std.proofs.lemmas.List.Elements.{filter-append}
use Rattle.std.proofs.lemmas.List.Folds.{list_any-append}
use Rattle.std.proofs.lemmas.Map.Made.{is_member-filter}
use Rattle.std.specs.List.{list_any, AllByRecursion as Each}
use Rattle.std.specs.List.Sorted.{IsStrictlySortedBy}
use borrow.Author.Tests.{eqb-true}
use Rattle.lb_select_base.specs.Backends.{Member, member_cmp, same_member}
use Rattle.lb_select_base.specs.Unique.{firsts, distinct}
use Rattle.lb_health_core.specs.Fresh.{has_key, is_fresh, fresh}
use Rattle.lb_health_core.specs.RegistryEvents.{Event, Registered, Applied, Updated, Marked, Observed, Held, Released, Configured}
use Rattle.lb_health_core.specs.RegistryEvents.{AreSets, is_view, has_view, at_view, with_members, with_mark, new_view}
use Rattle.lb_health_core.specs.RegistryEvents.{registered_after, views_after, changes_after, cells_given}
use Rattle.lb_health_core.specs.Starts.{is_target, starts}
use Rattle.lb_health_core.specs.Targets.{ViewValue, live, Candidate, same_key, candidates_of, candidates, target_keys}
use Rattle.lb_health_core.proofs.ChangeLemmas.{any-map, has_live}
use Rattle.lb_health_core.proofs.PlaceLemmas.{each-impl, each-firsts, key_laws, live-apart, views_apart_after, target_count, target_any}
use Rattle.lb_health_core.proofs.TargetLemmas.{member_laws, candidates-push}

and_true : (b : Bool) → (b && true) ≡ b
and_true true = refl
and_true false = refl

or_true : (b : Bool) → (b || true) ≡ true
or_true true = refl
or_true false = refl

or_more : (a b c : Bool) → (b ≡ true → c ≡ true) → (a || b) ≡ true → (a || c) ≡ true
or_more true b c h e = refl
or_more false b c h e = h e

left_true : (a b : Bool) → (a && b) ≡ true → a ≡ true
left_true true b e = refl
left_true false b e = absurd (true≢false (sym e))

each-left : {A : Type 0} (P : A → Type 0) (xs ys : List A) → Each P (xs ++ ys) → Each P xs
each-left P [] ys a = tt
each-left P (x ∷ xs) ys a = (a.0, each-left P xs ys a.1)

each-right : {A : Type 0} (P : A → Type 0) (xs ys : List A) → Each P (xs ++ ys) → Each P ys
each-right P [] ys a = a
each-right P (x ∷ xs) ys a = each-right P xs ys a.1

none_by : {A : Type 0} (P : A → Bool) (xs : List A) → Each (λ (x : A). P x ≡ false) xs → filter P xs ≡ []
none_by P [] a = refl
none_by {A} P (x ∷ xs) a = ap (λ b. cond b (x ∷ filter P xs) (filter P xs)) a.0 ∙ none_by P xs a.1

-- each candidate's key is one of the candidates' keys
each_in : (front cs : List Candidate) → Each (λ (c : Candidate). list_any (λ (d : Candidate). same_member c.key d.key) (front ++ cs) ≡ true)
    cs
each_in front [] = tt
each_in front (c ∷ cs) =
    let any : List Candidate → Bool = λ ds. list_any (λ (d : Candidate). same_member c.key d.key) ds in
    let All : List Candidate → Type 0 = λ ds. Each (λ (x : Candidate). list_any (λ (d : Candidate). same_member x.key d.key) ds ≡ true) cs
    in (
      list_any-append (λ (d : Candidate). same_member c.key d.key) front (c ∷ cs)
          ∙ ap (λ b. any front || (b || any cs)) (member_laws.refl c.key) ∙ or_true (any front),
      subst All (append_assoc front (c ∷ []) cs) (each_in (front ++ c ∷ []) cs),
    )

module _ (key_of : Member → Member) (P : Candidate → Bool) where
  -- whether a backend of the views passes
  abbrev any_of : List ViewValue → Bool
  any_of vs = list_any P (candidates key_of vs)

  own_any : ViewValue → Bool
  own_any v = list_any P (candidates_of key_of v.id v.members)

  any_cons : (v : ViewValue) (vs : List ViewValue) → any_of (v ∷ vs) ≡ (list_any P (candidates_of key_of v.id v.members) || any_of vs)
  any_cons v vs = list_any-append P (candidates_of key_of v.id v.members) (candidates key_of vs)

  any_more : (v : ViewValue) (vs ws : List ViewValue) → (any_of vs ≡ true → any_of ws ≡ true) → any_of (v ∷ vs) ≡ true
      → any_of (v ∷ ws) ≡ true
  any_more v vs ws h e =
      any_cons v ws ∙ or_more (list_any P (candidates_of key_of v.id v.members)) (any_of vs) (any_of ws) h (sym (any_cons v vs) ∙ e)

  any_later : (v : ViewValue) (vs : List ViewValue) → any_of vs ≡ true → any_of (v ∷ vs) ≡ true
  any_later v vs e = any_cons v vs ∙ ap (λ b. list_any P (candidates_of key_of v.id v.members) || b) e
      ∙ or_true (list_any P (candidates_of key_of v.id v.members))

  any_live : (vs : List ViewValue) → any_of (live vs) ≡ true → any_of vs ≡ true
  any_live [] e = e
  any_live (v ∷ vs) e = live_by (not v.marked) (any_live vs) e where
    live_by : (b : Bool) → (any_of (live vs) ≡ true → any_of vs ≡ true) → any_of (cond b (v ∷ live vs) (live vs)) ≡ true
        → any_of (v ∷ vs) ≡ true
    live_by true ih e = any_more v (live vs) vs ih e
    live_by false ih e = any_later v vs (ih e)

  any_marked : (id : ℕ) (vs : List ViewValue) → any_of (live (at_view id with_mark vs)) ≡ true → any_of (live vs) ≡ true
  any_marked id [] e = e
  any_marked id (v ∷ vs) e = mark_by (is_view id v) (not v.marked) (any_marked id vs) e where
    mark_by :
        (b m : Bool) → (any_of (live (at_view id with_mark vs)) ≡ true → any_of (live vs) ≡ true)
        → any_of (live (cond b (with_mark v ∷ vs) (v ∷ at_view id with_mark vs))) ≡ true
        → any_of (cond (not v.marked) (v ∷ live vs) (live vs)) ≡ true
    mark_by true m ih e = kept_by (not v.marked) e where
      kept_by : (n : Bool) → any_of (live vs) ≡ true → any_of (cond n (v ∷ live vs) (live vs)) ≡ true
      kept_by true e = any_later v (live vs) e
      kept_by false e = e
    mark_by false m ih e = other_by (not v.marked) e where
      other_by :
          (n : Bool) → any_of (cond n (v ∷ live (at_view id with_mark vs)) (live (at_view id with_mark vs))) ≡ true
          → any_of (cond n (v ∷ live vs) (live vs)) ≡ true
      other_by true e = any_more v (live (at_view id with_mark vs)) (live vs) ih e
      other_by false e = ih e

-- each key of a view whose removal doesn't wait is a target's
live_targets :
    (key_of : Member → Member) (events : List Event) → AreSets events → (q : Member) → has_key key_of (live (views_after events)) q ≡ true
    → is_target same_member (changes_after key_of events) q ≡ true
live_targets key_of [] s q e = absurd (cc)
live_targets key_of (Registered ∷ es) s q e =
    let P : Candidate → Bool = λ c. same_member q c.key in
    live_targets key_of es s q
    (sym (ap (list_any P) (candidates-push key_of (views_after es) (new_view (registered_after es + 1))
    ∙ append-nil (candidates key_of (live (views_after es))))) ∙ e)
live_targets key_of (Applied ∷ es) s q e =
    let P : Candidate → Bool = λ c. same_member q c.key in
    target_any key_of q (live (views_after es)) (live-apart (views_after es) (views_apart_after es s))
    ∙ any_live key_of P (live (views_after es)) e
live_targets key_of (Updated id ms ∷ es) s q e =
    let P : Candidate → Bool = λ c. same_member q c.key in
    let vs = views_after (Updated id ms ∷ es) in
    target_any key_of q vs (views_apart_after (Updated id ms ∷ es) s) ∙ any_live key_of P vs e
live_targets key_of (Marked id ∷ es) s q e =
    let P : Candidate → Bool = λ c. same_member q c.key in live_targets key_of es s q (any_marked key_of P id (views_after es) e)
live_targets key_of (Observed c v ∷ es) s q e = live_targets key_of es s q e
live_targets key_of (Held id g ∷ es) s q e = live_targets key_of es s q e
live_targets key_of (Released id g ∷ es) s q e = live_targets key_of es s q e
live_targets key_of (Configured h ∷ es) s q e = live_targets key_of es s q e

-- how many numbers a change gives
given_more :
    (all : List (List Member)) (keys : List Member)
    → length (starts same_member (keys ∷ all)) ≡ length (filter (λ k. not (is_target same_member all k)) keys) + length
    (starts same_member all)
given_more all keys =
    let new : Member → Bool = λ k. not (is_target same_member all k) in
    omega (arith, length-append (reverse (filter new keys)) (starts same_member all), length-reverse (filter new keys))

-- marks that are applied start nothing
pub marks_start_none :
    (key_of : Member → Member) (events : List Event) → AreSets events → cells_given key_of (Applied ∷ events) ≡ cells_given key_of events
marks_start_none key_of events s =
    let vs = live (views_after events) in
    let all = changes_after key_of events in
    let new : Member → Bool = λ k. not (is_target same_member all k) in
    let cs = candidates key_of vs in
    let old : (c : Candidate) → list_any (λ (d : Candidate). same_member c.key d.key) cs ≡ true → new c.key ≡ false
    = λ c e. ap not (live_targets key_of events s c.key e) in
    let none : filter (λ (c : Candidate). new c.key) (distinct same_key cs) ≡ []
    = none_by (λ (c : Candidate). new c.key) (distinct same_key cs)
    (each-firsts (λ (c : Candidate). new c.key ≡ false) [] cs
    (each-impl (λ (c : Candidate). list_any (λ (d : Candidate). same_member c.key d.key) cs ≡ true) old cs (each_in [] cs))) in
    omega (
      arith,
      given_more all (target_keys key_of vs),
      target_count key_of new vs (live-apart (views_after events) (views_apart_after events s)),
      ap length none,
    )

module _ (P : Candidate → Bool) (alike : (c d : Candidate) → same_key c d ≡ true → P c ≡ P d) where
  -- the first occurrences that pass are the first of those that pass
  filter-firsts : (before xs : List Candidate) → filter P (firsts same_key before xs) ≡ firsts same_key (filter P before) (filter P xs)
  filter-firsts before [] = refl
  filter-firsts before (x ∷ xs) =
      pass_by (P x) refl (list_any (same_key x) before) refl
      (filter-firsts (before ++ x ∷ []) xs ∙ ap (λ (ys : List Candidate). firsts same_key ys (filter P xs))
      (filter-append P before (x ∷ [])))
    where
      F : List Candidate
      F = firsts same_key (before ++ x ∷ []) xs

      pass_by :
          (p : Bool) → P x ≡ p → (b : Bool) → list_any (same_key x) before ≡ b
          → filter P F ≡ firsts same_key (filter P before ++ cond (P x) (x ∷ []) []) (filter P xs)
          → filter P (if b then F else x ∷ F) ≡ firsts same_key (filter P before) (cond p (x ∷ filter P xs) (filter P xs))
      pass_by true t b e ih = found_by b (is_member-filter key_laws P x (λ y s. alike x y s) before ∙ ap (λ c. c && P x) e
          ∙ ap (λ c. b && c) t ∙ and_true b) where
            F' : List Candidate
            F' = firsts same_key (filter P before ++ x ∷ []) (filter P xs)

            ih' : filter P F ≡ F'
            ih' = ih ∙ ap (λ c. firsts same_key (filter P before ++ cond c (x ∷ []) []) (filter P xs)) t

            found_by :
                (b : Bool) → list_any (same_key x) (filter P before) ≡ b
                → filter P (if b then F else x ∷ F) ≡ (if list_any (same_key x) (filter P before) then F' else x ∷ F')
            found_by true f = ih' ∙ sym (ap (λ c. if c then F' else x ∷ F') f)
            found_by false f =
                ap (λ c. cond c (x ∷ filter P F) (filter P F)) t ∙ ap (λ (ys : List Candidate). x ∷ ys) ih'
                ∙ sym (ap (λ c. if c then F' else x ∷ F') f)
      pass_by false t b e ih = left_by b where
        ih' : filter P F ≡ firsts same_key (filter P before) (filter P xs)
        ih' = ih ∙ ap (λ c. firsts same_key (filter P before ++ cond c (x ∷ []) []) (filter P xs)) t
            ∙ ap (λ (ys : List Candidate). firsts same_key ys (filter P xs)) (append-nil (filter P before))

        left_by : (b : Bool) → filter P (if b then F else x ∷ F) ≡ firsts same_key (filter P before) (filter P xs)
        left_by true = ih'
        left_by false = ap (λ c. cond c (x ∷ filter P F) (filter P F)) t ∙ ih'

-- of the backends after a view's change, those with new keys are the view's
fresh_at :
    (key_of : Member → Member) (p : Member → Bool) (id : ℕ) (ms : List Member) (ws : List ViewValue) → has_view id ws ≡ true
    → Each (λ (c : Candidate). p c.key ≡ false) (candidates key_of ws)
    → filter (λ (c : Candidate). p c.key) (candidates key_of (at_view id (with_members ms) ws)) ≡ filter (λ (c : Candidate). p c.key)
    (candidates_of key_of id ms)
fresh_at key_of p id ms [] e a = absurd (cc)
fresh_at key_of p id ms (w ∷ ws) e a =
    view_by (is_view id w) refl e (λ h. fresh_at key_of p id ms ws h (each-right Old own (candidates key_of ws) a)) where
      P : Candidate → Bool
      P c = p c.key

      Old : Candidate → Type 0
      Old c = p c.key ≡ false

      own : List Candidate
      own = candidates_of key_of w.id w.members

      view_by :
          (b : Bool) → is_view id w ≡ b → (b || has_view id ws) ≡ true
          → (has_view id ws ≡ true → filter P (candidates key_of (at_view id (with_members ms) ws)) ≡ filter P (candidates_of key_of id ms))
          → filter P (candidates key_of (cond b (with_members ms w ∷ ws) (w ∷ at_view id (with_members ms) ws))) ≡ filter P
          (candidates_of key_of id ms)
      view_by true t e ih =
          filter-append P (candidates_of key_of w.id ms) (candidates key_of ws)
          ∙ ap (λ (ys : List Candidate). filter P (candidates_of key_of w.id ms) ++ ys)
          (none_by P (candidates key_of ws) (each-right Old own (candidates key_of ws) a))
          ∙ append-nil (filter P (candidates_of key_of w.id ms))
          ∙ ap (λ n. filter P (candidates_of key_of n ms)) (eqb-true w.id id (left_true (w.id == id) (not w.marked) t))
      view_by false t e ih =
          filter-append P own (candidates key_of (at_view id (with_members ms) ws))
          ∙ ap (λ (ys : List Candidate). ys ++ filter P (candidates key_of (at_view id (with_members ms) ws)))
          (none_by P own (each-left Old own (candidates key_of ws) a))
          ∙ ih e

-- the numbers that are given after a view's change: one more for each key of its membership that no view had
pub updated_given :
    (key_of : Member → Member) (events : List Event) (id : ℕ) (ms : List Member) → AreSets events → IsStrictlySortedBy member_cmp ms
    → has_view id (views_after events) ≡ true
    → cells_given key_of (Updated id ms ∷ Applied ∷ events) ≡ length (fresh key_of (live (views_after events)) id ms) + cells_given key_of
    events
updated_given key_of events id ms s sorted has =
    let ws = live (views_after events) in
    let vs = at_view id (with_members ms) ws in
    let cs = candidates key_of vs in
    let mine = candidates_of key_of id ms in
    let P : Candidate → Bool = is_fresh key_of ws in
    let p : Member → Bool = λ k. not (has_key key_of ws k) in
    let q : Member → Bool = λ k. not (is_target same_member (changes_after key_of (Applied ∷ events)) k) in
    let told : q ≡ p = λ i k. not (target_any key_of k ws (live-apart (views_after events) (views_apart_after events s)) i) in
    let alike : (c d : Candidate) → same_key c d ≡ true → P c ≡ P d
    = λ c d e. ap (λ (f : Member → Bool). not (list_any (λ (x : Candidate). f x.key) (candidates key_of ws)))
    (λ i m. member_laws.congr c.key d.key m e i) in
    let old : (c : Candidate) → list_any (λ (d : Candidate). same_member c.key d.key) (candidates key_of ws) ≡ true
    → p c.key ≡ false = λ c e. ap not e in
    let known = each-impl (λ (c : Candidate). list_any (λ (d : Candidate). same_member c.key d.key) (candidates key_of ws) ≡ true) old
    (candidates key_of ws) (each_in [] (candidates key_of ws)) in
    let counted : length (filter q (target_keys key_of vs)) ≡ length (fresh key_of ws id ms)
    = ap (λ (f : Member → Bool). length (filter f (target_keys key_of vs))) told
    ∙ target_count key_of p vs (views_apart_after (Updated id ms ∷ Applied ∷ events) (sorted, s))
    ∙ ap length (filter-firsts P alike [] cs)
    ∙ ap (λ (xs : List Candidate). length (distinct same_key xs)) (fresh_at key_of p id ms ws (has_live id (views_after events)
    ∙ has) known)
    ∙ sym (ap length (filter-firsts P alike [] mine)) in
    omega (
      arith,
      given_more (changes_after key_of (Applied ∷ events)) (target_keys key_of vs),
      counted,
      marks_start_none key_of events s,
    )

-- the backends of the rest whose keys none of these views has and none of those in front, one for each key
abbrev pub fresh_past : (Member → Member) → List ViewValue → ℕ → List Member → List Member → List Candidate
fresh_past key_of views id front rest =
    filter (is_fresh key_of views) (firsts same_key (candidates_of key_of id front) (candidates_of key_of id rest))

-- one more backend of a membership: its key was there, or it is one more that starts
pub fresh-step :
    (key_of : Member → Member) (views : List ViewValue) (id : ℕ) (front : List Member) (b : Member) (rest : List Member)
    → length (fresh_past key_of views id front (b ∷ rest))
    ≡ cond (has_key key_of views (key_of b) || list_any (λ m. same_member (key_of b) (key_of m)) front) 0 1
    + length (fresh_past key_of views id (front ++ b ∷ []) rest)
fresh-step key_of views id front b rest =
    step_by (list_any (same_key c) before) (any-map see (same_key c) front) (has_key key_of views (key_of b)) refl
  where
    see : Member → Candidate
    see m = record { place = record { backend = m; view = id }; key = key_of m }

    c : Candidate
    c = see b

    before : List Candidate
    before = candidates_of key_of id front

    P : Candidate → Bool
    P = is_fresh key_of views

    F : List Candidate
    F = firsts same_key (before ++ c ∷ []) (candidates_of key_of id rest)

    G : List Candidate
    G = firsts same_key (candidates_of key_of id (front ++ b ∷ [])) (candidates_of key_of id rest)

    moved : length (filter P F) ≡ length (filter P G)
    moved = ap (λ (xs : List Candidate). length (filter P (firsts same_key xs (candidates_of key_of id rest))))
        (sym (map-append see front (b ∷ [])))

    passed : length (filter P F) ≡ 0 + length (filter P G)
    passed = omega (arith, moved)

    starts_one : length (c ∷ filter P F) ≡ 1 + length (filter P G)
    starts_one = omega (arith, moved)

    step_by :
        (a : Bool) → a ≡ list_any (λ m. same_member (key_of b) (key_of m)) front → (h : Bool) → has_key key_of views (key_of b) ≡ h
        → length (filter P (if a then F else c ∷ F)) ≡ cond (h || list_any (λ m. same_member (key_of b) (key_of m)) front) 0 1 + length
        (filter P G)
    step_by true e true t = passed
    step_by true e false t = passed ∙ ap (λ x. cond x 0 1 + length (filter P G)) e
    step_by false e true t = ap (λ h. length (cond (not h) (c ∷ filter P F) (filter P F))) t ∙ passed
    step_by false e false t =
        ap (λ h. length (cond (not h) (c ∷ filter P F) (filter P F))) t ∙ starts_one ∙ ap (λ x. cond x 0 1 + length (filter P G)) e

-- no more keys start than backends are left
pub fresh-le :
    (key_of : Member → Member) (views : List ViewValue) (id : ℕ) (front rest : List Member)
    → length (fresh_past key_of views id front rest) ≤ length rest
fresh-le key_of views id front [] = omega arith
fresh-le key_of views id front (b ∷ rest) =
    omega (
      arith,
      fresh-step key_of views id front b rest,
      fresh-le key_of views id (front ++ b ∷ []) rest,
      at_most (has_key key_of views (key_of b) || list_any (λ m. same_member (key_of b) (key_of m)) front),
    )
  where
    at_most : (x : Bool) → cond x 0 1 ≤ 1
    at_most true = omega arith
    at_most false = omega arith

-- one more backend is counted off where its key was there
pub counted_on :
    (key_of : Member → Member) (views : List ViewValue) (id : ℕ) (front : List Member) (b : Member) (rest more keys : List Member)
    (count left : ℕ) (x : Bool) → rest ≡ b ∷ more
    → (has_key key_of views (key_of b) || list_any (λ m. same_member (key_of b) (key_of m)) front) ≡ x → left + cond x 1 0 ≡ count
    → count + length (fresh_past key_of views id front rest) ≡ length (fresh key_of views id keys) + length rest
    → left + length (fresh_past key_of views id (front ++ b ∷ []) more) ≡ length (fresh key_of views id keys) + length more
counted_on key_of views id front b rest more keys count left x is e off told =
    omega (
      arith,
      told,
      off,
      ap (λ (r : List Member). length (fresh_past key_of views id front r)) is,
      fresh-step key_of views id front b more,
      ap {B = ℕ} (λ y. cond y 0 1) e,
      ap length is,
      one x,
    )
  where
    one : (y : Bool) → cond y 0 1 + cond y 1 0 ≡ 1
    one true = omega arith
    one false = omega arith

-- whether one of the views has a key: the first of them, or one of the rest
pub taken_cons :
    (key_of : Member → Member) (k : Member) (v : ViewValue) (vs : List ViewValue)
    → has_key key_of (live (v ∷ vs)) k ≡ ((not v.marked && list_any (λ m. same_member k (key_of m)) v.members) || has_key key_of
    (live vs) k)
taken_cons key_of k v vs = by_mark (not v.marked) where
  P : Candidate → Bool
  P c = same_member k c.key

  see : Member → Candidate
  see m = record { place = record { backend = m; view = v.id }; key = key_of m }

  by_mark :
      (b : Bool) → has_key key_of (cond b (v ∷ live vs) (live vs)) k
      ≡ ((b && list_any (λ m. same_member k (key_of m)) v.members) || has_key key_of (live vs) k)
  by_mark true = any_cons key_of P v (live vs) ∙ ap (λ b. b || has_key key_of (live vs) k) (any-map see P v.members)
  by_mark false = refl

-- the first of a list, as many as there are and one more
pub any-take :
    {A : Type 0} (p : A → Bool) (n : ℕ) (x : A) (xs : List A) → (n ≡ 0 → ⊥)
    → list_any p (take n (x ∷ xs)) ≡ (p x || list_any p (take (n - 1) xs))
any-take p zero x xs e = absurd (e refl)
any-take p (suc m) x xs e = let one : suc m - 1 ≡ m = omega arith in ap (λ k. p x || list_any p (take k xs)) (sym one)

pub any-take-none : {A : Type 0} (p : A → Bool) (xs : List A) → list_any p (take 0 xs) ≡ false
any-take-none p [] = refl
any-take-none p (x ∷ xs) = refl

pub any-take-nil : {A : Type 0} (p : A → Bool) (n : ℕ) → list_any p (take n []) ≡ false
any-take-nil p zero = refl
any-take-nil p (suc n) = refl

pub take_front : {A : Type 0} (n : ℕ) (front rest keys : List A) → front ++ rest ≡ keys → n ≡ length front → take n keys ≡ front
take_front n front rest keys whole is =
    let short : length front ≤ length front = omega arith in
    ap (λ k. take k keys) is ∙ ap (take (length front)) (sym whole) ∙ take-append-le (length front) front rest short
    ∙ take_all (length front) front short

pub and_none : (a b : Bool) → b ≡ false → (a && b) ≡ false
and_none true b e = e
and_none false b e = refl

pub or_some : (a b : Bool) → b ≡ true → (a || b) ≡ true
or_some true b e = refl
or_some false b e = e
