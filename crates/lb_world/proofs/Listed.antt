-- What the listings of an update list: the members that are there, and the settings that the marks set; and how many cells
-- the update starts: the set of the listed backends starts one for each key that they have and no view has.
use Rattle.lb_health_core.proofs.ChangeLemmas.{any-map}
use Rattle.lb_health_core.proofs.FreshLemmas.{updated_given}
use Rattle.lb_health_core.proofs.PlaceLemmas.{any-distinct, each-filter, each-impl, key_laws}
use Rattle.lb_health_core.proofs.TargetLemmas.{member_laws, member_total}
use Rattle.lb_health_core.specs.Fresh.{fresh, has_key}
use Rattle.lb_health_core.specs.Keys.{IsRuleOf}
use Rattle.lb_health_core.specs.RegistryEvents.{Updated, has_view}
use Rattle.lb_health_core.specs.Targets.{Candidate, ViewValue, candidates, candidates_of, same_key}
use Rattle.lb_health_core.specs.declared.keys.Rule.TheVariants.{Address, Equivalence, Identity}
use Rattle.lb_select_base.specs.Seen.{address_seen}
use Rattle.lb_select_base.specs.Unique.{distinct, firsts}
use Rattle.lb_select_base.specs.declared.backend.SocketAddr.{SocketAddr}
use Rattle.lb_world.specs.Internal.Calls.{none_or}
use Rattle.std.proofs.Common.{filter}
use Rattle.std.proofs.lemmas.Bool.{cond_both, or_parts}
use Rattle.std.proofs.lemmas.Grind.{common_steps}
use Rattle.std.proofs.lemmas.List.Elements.{All-from_recursion, filter_map-append, recursion_from_All}
use Rattle.std.proofs.lemmas.List.Folds.{list_any-append}
use Rattle.std.proofs.lemmas.Map.Made.{is_member-filter, length-from_keys}
use Rattle.std.proofs.lemmas.Map.Views.{All-insert_key}
use Rattle.std.proofs.lemmas.Map.Steps.{list_any_congr}
use Rattle.std.specs.List.{AllByRecursion as Each, IsDistinct}
use Rattle.std.specs.List.Sorted.{IsStrictlySortedBy}
use Rattle.std.specs.Ordering.{ordering_reverse}
use Rattle.std.specs.Prelude.{filter_map}
use Rattle.std.specs.Set.{distinct_count, is_member}
use Rattle.lb_world.proofs.Words.{◌∷◌, ◌∙◌, ◌≡◌, ◌++◌, ◌||◌, ◌&&◌, [], ap, arith, bare_member, Bool, fold, insert_entry, insert_key, List}
use Rattle.lb_world.proofs.Words.{list_all, list_any, Listing, marked, Member, member_cmp, members_in, not, Ordering, refl, same_member}
use Rattle.lb_world.proofs.Words.{same_members, set_marked, set_of, settings_in, settings_of, some_and, sym, true, with_key, ℕ, ◌+◌, ◌≤◌}
use Rattle.lb_world.proofs.Words.{Applied, by_address, by_identity, cells_given, cond, cons_option, Equal, Event, false, Greater}
use Rattle.lb_world.proofs.Words.{IsEquivalence, IsRegistryAfter, key_gives, key_of, length, length-map, Less, lists_key, live, map}
use Rattle.lb_world.proofs.Words.{match_ordering, new_keys, None, Option, RegistryValue, Some, starts_cell, views_after, WorldRule}

abbrev pub present : List Listing → List Member
present ls = filter_map (λ l. l.backend) ls

-- all that are there, and one that is there
all_there : (f : Member → Bool) (ls : List Listing) → list_all (λ l. none_or f l.backend) ls ≡ list_all f (present ls)
all_there f [] = refl
all_there f (l ∷ ls) = grind (arith, all_there f ls)

pub one_there : (f : Member → Bool) (ls : List Listing) → list_any (λ l. some_and f l.backend) ls ≡ list_any f (present ls)
one_there f [] = refl
one_there f (l ∷ ls) = grind (arith, one_there f ls)

-- a test of all as one of any
all-not : (p : Member → Bool) (xs : List Member) → list_all p xs ≡ not (list_any (λ x. not (p x)) xs)
all-not p [] = refl
all-not p (x ∷ xs) = grind (arith, all-not p xs)

-- a test of a set's members that doesn't tell backends of one identity apart
module _ (p : Member → Bool) (respects : (a b : Member) → same_member a b ≡ true → p a ≡ p b) where
  any_inserted : (ks : List Member) (k : Member) → list_any p (insert_key member_cmp ks k) ≡ (list_any p ks || p k)
  any_inserted [] k = grind arith
  any_inserted (x ∷ ks) k = grind (arith, common_steps, any_inserted ks k, respects k x)

  pub any_folded : (acc xs : List Member) → list_any p (fold (insert_key member_cmp) acc xs) ≡ (list_any p acc || list_any p xs)
  any_folded acc [] = grind arith
  any_folded acc (x ∷ xs) = grind (arith, any_folded (insert_key member_cmp acc x) xs, any_inserted acc x)

pub alike : (q a b : Member) → same_member a b ≡ true → same_member q a ≡ same_member q b
alike q a b e = member_laws.symm q a ∙ member_laws.congr a b q e ∙ member_laws.symm b q

-- whether the listings list these members, each against each
pub listed_members : (ls : List Listing) (ms : List Member)
    → (list_all (λ l. none_or (λ x. list_any (same_member x) ms) l.backend) ls
    && list_all (λ y. list_any (λ l. some_and (same_member y) l.backend) ls) ms)
    ≡ same_members (members_in ls) ms
listed_members ls ms =
    let xs = present ls in
    let known = λ (x : Member). list_any (same_member x) ms in
    let strange = any_folded (λ x. not (known x)) (λ a b same. ap not (list_any_congr member_laws a b ms same)) [] xs in
    ap (λ b. b && list_all (λ y. list_any (λ l. some_and (same_member y) l.backend) ls) ms)
    (all_there known ls ∙ all-not known xs ∙ sym (ap not strange) ∙ sym (all-not known (set_of xs)))
    ∙ ap (λ f. list_all known (set_of xs) && list_all f ms)
    (λ i y. (one_there (same_member y) ls ∙ sym (any_folded (same_member y) (alike y) [] xs)) i)

-- one listing more
pub member-more : (ls : List Listing) (l : Listing) → members_in (ls ++ l ∷ []) ≡ with_key l.backend (members_in ls)
member-more ls l = grind (arith, common_steps, filter_map-append (λ l. l.backend) ls (l ∷ []))

pub setting-more : (ls : List Listing) (l : Listing) → settings_in (ls ++ l ∷ []) ≡ set_marked (marked l.backend l.mark) (settings_in ls)
setting-more ls l = grind (arith, common_steps, filter_map-append (λ l. marked l.backend l.mark) ls (l ∷ []))

-- a setting is seen as one of a backend of that identity
abbrev pub bare : SocketAddr × ℕ → Member
bare k = bare_member k.1 (address_seen k.0)

pub insert-seen : (cmp : (SocketAddr × ℕ) → (SocketAddr × ℕ) → Ordering) → ((x y : SocketAddr × ℕ) → cmp x y ≡ member_cmp (bare x) (bare y))
    → (es : List ((SocketAddr × ℕ) × Bool)) (k : SocketAddr × ℕ) (on : Bool)
    → settings_of (insert_entry cmp es k on) ≡ insert_entry member_cmp (settings_of es) (bare k) on
insert-seen cmp agrees [] k on = refl
insert-seen cmp agrees (e ∷ es) k on = grind (arith, common_steps, insert-seen cmp agrees es k on, agrees k e.0)

-- the first occurrences are apart, and none of them was there before
firsts-apart : {B : Type 0} {same : B → B → Bool} (laws : IsEquivalence same) (before xs : List B)
    → Each (λ y. list_any (same y) before ≡ false) (firsts same before xs) × IsDistinct same (firsts same before xs)
unfolding IsDistinct
firsts-apart laws before [] = (tt, tt)
firsts-apart {B} {same} laws before (x ∷ xs) =
    let fs = firsts same (before ++ x ∷ []) xs in
    let rest = firsts-apart laws (before ++ x ∷ []) xs in
    let parts = λ (y : B) (e : list_any (same y) (before ++ x ∷ []) ≡ false).
    or_parts (list_any (same y) before) (same y x || false) (sym (list_any-append (same y) before (x ∷ [])) ∙ e) in
    let old = each-impl _ (λ y e. (parts y e).0) fs rest.0 in
    cond_both (list_any (same x) before) fs (x ∷ fs) (λ zs. Each (λ y. list_any (same y) before ≡ false) zs × IsDistinct same zs)
    (λ e. (old, rest.1))
    (λ e. ((e, old), (each-impl _ (λ y f. laws.symm x y ∙ (or_parts (same y x) false (parts y f).1).0) fs rest.0, rest.1)))

-- and so are the keys of those that pass a test
each-map : (P : Member → Type 0) (cs : List Candidate) → Each (λ c. P c.key) cs → Each P (map (λ c. c.key) cs)
each-map P [] a = tt
each-map P (c ∷ cs) a = (a.0, each-map P cs a.1)

keys-apart : (p : Candidate → Bool) (cs : List Candidate) → IsDistinct same_key cs
    → IsDistinct same_member (map (λ c. c.key) (filter p cs))
unfolding IsDistinct
keys-apart p [] d = tt
keys-apart p (c ∷ cs) d =
    let rest = keys-apart p cs d.1 in
    cond_both (p c) (c ∷ filter p cs) (filter p cs) (λ ds. IsDistinct same_member (map (λ c. c.key) ds))
    (λ e. (each-map _ (filter p cs) (each-filter _ p cs d.0), rest)) (λ e. rest)

module _ (key_of : Member → Member) (views : List ViewValue) where
  abbrev is-new : Member → Bool
  is-new k = not (has_key key_of views k)

  -- a test of keys that doesn't tell those of one identity apart
  new-alike : (j k : Member) → same_member j k ≡ true → is-new j ≡ is-new k
  new-alike j k e = ap (λ (f : Member → Bool). not (list_any (λ c. f c.key) (candidates key_of views))) (λ i m. member_laws.congr j k m e i)

  -- whether a key is a new one among those of the listed backends
  lists-new : (k : Member) (ls : List Listing)
      → is_member same_member (filter is-new (map key_of (present ls))) k ≡ (lists_key key_of k ls && is-new k)
  lists-new k ls =
      is_member-filter member_laws is-new k (λ x s. new-alike k x s) (map key_of (present ls))
      ∙ ap (λ t. t && is-new k) (any-map key_of (same_member k) (present ls) ∙ sym (one_there (λ m. same_member k (key_of m)) ls))

  -- one listing more in front
  pub keys-more : (l : Listing) (ls : List Listing)
      → new_keys key_of views (l ∷ ls) ≡ cond (starts_cell key_of views l ls) 1 0 + new_keys key_of views ls
  keys-more l ls = by-backend l.backend where
    by-backend : (o : Option Member)
        → distinct_count same_member (filter is-new (map key_of (cons_option o (present ls))))
        ≡ cond (some_and (λ b. is-new (key_of b) && not (lists_key key_of (key_of b) ls)) o) 1 0 + new_keys key_of views ls
    by-backend None = omega arith
    by-backend (Some b) = grind (arith, common_steps, lists-new (key_of b) ls)

  -- no more keys than listings
  pub keys-le : (ls : List Listing) → new_keys key_of views ls ≤ length ls
  keys-le [] = omega arith
  keys-le (l ∷ ls) = grind (arith, keys-more l ls, keys-le ls)

  -- the set of the backends starts a cell for each of their keys that is new
  pub set-starts : ((a b : Member) → same_member a b ≡ true → same_member (key_of a) (key_of b) ≡ true) → (id : ℕ) (ls : List Listing)
      → length (fresh key_of views id (members_in ls)) ≡ new_keys key_of views ls
  set-starts one id ls =
      let cs = candidates_of key_of id (members_in ls) in
      let passes = λ (c : Candidate). is-new c.key in
      sym (length-map (filter passes (distinct same_key cs)) (λ c. c.key))
      ∙ length-from_keys member_laws (map (λ c. c.key) (filter passes (distinct same_key cs))) (filter is-new (map key_of (present ls)))
      (keys-apart passes (distinct same_key cs) (firsts-apart key_laws [] cs).1)
      (λ k.
      let of-key = λ (m : Member). same_member k (key_of m) in
      any-map (λ c. c.key) (same_member k) (filter passes (distinct same_key cs))
      ∙ is_member-filter key_laws passes (record { place = record { backend = k; view = id }; key = k }) (λ x s. new-alike k x.key s)
      (distinct same_key cs)
      ∙ ap (λ b. b && is-new k)
      (any-distinct (λ c. same_member k c.key) (λ c d s. alike k c.key d.key s) cs
      ∙ any-map (λ m. record { place = record { backend = m; view = id }; key = key_of m }) (λ c. same_member k c.key) (members_in ls)
      ∙ any_folded of-key (λ a b s. alike k (key_of a) (key_of b) (one a b s)) [] (present ls) ∙ sym (one_there of-key ls))
      ∙ sym (lists-new k ls))

-- sets ascend
each-inserted : (P : Member → Type 0) (ks : List Member) (k : Member) → Each P ks → P k → Each P (insert_key member_cmp ks k)
each-inserted P ks k a it =
    recursion_from_All P (insert_key member_cmp ks k) (All-insert_key member_cmp k P ks (All-from_recursion P ks a) it)

ascends-inserted : (ks : List Member) (k : Member) → IsStrictlySortedBy member_cmp ks
    → IsStrictlySortedBy member_cmp (insert_key member_cmp ks k)
unfolding IsStrictlySortedBy
ascends-inserted [] k s = (tt, tt)
ascends-inserted (x ∷ ks) k s =
    (elim (member_cmp k x) as (λ o. member_cmp k x ≡ o
    → IsStrictlySortedBy member_cmp (match_ordering o (k ∷ x ∷ ks) (x ∷ ks) (x ∷ insert_key member_cmp ks k))) [
      | Less ↦ λ e. ((e, each-impl _ (λ y l. member_total.trans k x y e l) ks s.0), s)
      | Equal ↦ λ e. s
      | Greater ↦ λ e. (each-inserted _ ks k s.0 (member_total.antisymm x k ∙ ap ordering_reverse e), ascends-inserted ks k s.1)
    ]) refl

ascends-folded : (acc xs : List Member) → IsStrictlySortedBy member_cmp acc
    → IsStrictlySortedBy member_cmp (fold (insert_key member_cmp) acc xs)
ascends-folded acc [] s = s
ascends-folded acc (x ∷ xs) s = ascends-folded (insert_key member_cmp acc x) xs (ascends-inserted acc x s)

none-ascend : IsStrictlySortedBy member_cmp []
unfolding IsStrictlySortedBy
none-ascend = tt

-- a world's rule gives backends of one identity one key
pub one-key : (rule : WorldRule) (key_of : Member → Member) → IsRuleOf key_gives rule key_of
    → (a b : Member) → same_member a b ≡ true → same_member (key_of a) (key_of b) ≡ true
one-key Identity key_of gives a b e = rw (← gives a (by_identity a) refl, ← gives b (by_identity b) refl) e
one-key Address key_of gives a b e = rw (← gives a (by_address a) refl, ← gives b (by_address b) refl) (grind (arith, common_steps, e))
one-key (Equivalence own) key_of gives a b e = rw (← gives a (by_identity a) refl, ← gives b (by_identity b) refl) e

-- how many numbers the registry has given once a view has these members
pub given-then : (key_of : Member → Member) (events : List Event) (id : ℕ) (v : RegistryValue WorldRule) (ls : List Listing)
    → IsRegistryAfter key_gives key_of events v → has_view id (views_after events) ≡ true
    → cells_given key_of (Updated id (members_in ls) ∷ Applied
    ∷ events) ≡ new_keys key_of (live (views_after events)) ls + cells_given key_of events
given-then key_of events id v ls r has =
    updated_given key_of events id (members_in ls) r.state.sets (ascends-folded [] (present ls) none-ascend) has
    ∙ ap (λ n. n + cells_given key_of events) (set-starts key_of (live (views_after events)) (one-key v.rule key_of r.rule) id ls)
