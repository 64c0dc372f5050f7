-- Where no mark waits, to apply marks changes nothing; and there are as many targets as keys that have a number.
use Rattle.std.proofs.Common.{◌≡◌, inl, inr, ℕ, suc, Bool, true, false, ◌||◌, List, [], ◌∷◌, ◌++◌, length, filter, map}
use Rattle.std.proofs.Common.{refl, sym, ap, ◌∙◌, arith, rules, if◌then◌else◌}
use Rattle.std.proofs.lemmas.List.Folds.{list_any-append}
use Rattle.std.proofs.lemmas.Map.Entries.{length-keys_of}
use Rattle.std.proofs.lemmas.Map.Keys.{IsDistinct-from_sorted}
use Rattle.std.proofs.lemmas.Map.Made.{is_some-lookup, length-from_same_keys}
use Rattle.std.specs.Cmp.{IsEquivalence, IsTotalOrder, eq_by_cmp_equiv}
use Rattle.std.specs.Cmp.Rules.{comparing}
use Rattle.std.specs.List.{list_any, IsDistinct, AllByRecursion as Each}
use Rattle.std.specs.List.Sorted.{IsStrictlySortedBy}
use Rattle.std.specs.Map.{keys_of}
use Rattle.std.specs.Option.{is_some}
use Rattle.lb_select_base.specs.Backends.{Member, member_cmp, same_member}
use Rattle.lb_select_base.specs.Unique.{firsts, distinct}
use Rattle.lb_health_core.specs.CellEvents.{Changed, IsKept}
use Rattle.lb_health_core.specs.Internal.Changing.{last_keys}
use Rattle.lb_health_core.specs.Registry.{IsStateAfter}
use Rattle.lb_health_core.specs.RegistryEvents.{Event, Applied, cell_events, changes_after, views_after}
use Rattle.lb_health_core.specs.Table.{TableValue}
use Rattle.lb_health_core.specs.Targets.{ViewValue, view_value, Candidate, same_key, candidates, live, target_keys}
use Rattle.lb_health_core.specs.declared.targets.View.{View}
use Rattle.lb_health_core.proofs.CellLemmas.{cell_now-some}
use Rattle.lb_health_core.proofs.ChangeLemmas.{any-map}
use Rattle.lb_health_core.proofs.FreshLemmas.{marks_start_none}
use Rattle.lb_health_core.proofs.MarkLemmas.{marks_in, all_live, left_keys, same_cells, started-left}
use Rattle.lb_health_core.proofs.PlaceLemmas.{AreApart, any-distinct, target_any, target_count, views_apart_after}
use Rattle.lb_health_core.proofs.TableLemmas.{committed}

member_total : IsTotalOrder member_cmp
member_total = search (comparing, rules) depth 9

member_laws : IsEquivalence same_member
member_laws = eq_by_cmp_equiv member_total

-- the marks are applied where none waits
pub unmarked_applied :
    (key_of : Member → Member) (events : List Event) (items seen : List View) (t : TableValue Member)
    → IsStateAfter key_of events (map view_value items) t → seen ≡ items → list_any (λ (v : View). v.marked) seen ≡ false
    → IsStateAfter key_of (Applied ∷ events) (map view_value items) t
unmarked_applied key_of events items seen t state same unmarked =
    let still : marks_in (views_after events) ≡ false
    = ap marks_in (sym state.listed) ∙ any-map view_value (λ (v : ViewValue). v.marked) items
    ∙ ap (λ vs. list_any (λ (v : View). v.marked) vs) (sym same) ∙ unmarked in
    let alive : live (views_after events) ≡ views_after events = all_live (views_after events) still in
    let keys : List Member = target_keys key_of (live (views_after events)) in
    let left : keys ≡ last_keys (changes_after key_of events) = ap (target_keys key_of) alive ∙ left_keys key_of events still in
    record {
      sets = state.sets;
      fits = omega (arith, marks_start_none key_of events state.sets, state.fits);
      listed = state.listed ∙ sym alive;
      cells =
          committed member_total (cell_events key_of events) (Changed keys ∷ cell_events key_of events) t t.by_key t.next
          (started-left member_total (cell_events key_of events) keys t left state.cells);
      pruned = λ c some. kept keys left c (state.pruned c some);
    }
  where
    kept :
        (keys : List Member) → keys ≡ last_keys (changes_after key_of events) → (c : ℕ) → IsKept member_cmp (cell_events key_of events) c
        → IsKept member_cmp (Changed keys ∷ cell_events key_of events) c
    kept keys left c (inl (k, at)) = inl (k, same_cells member_laws (changes_after key_of events) keys left k ∙ at)
    kept keys left c (inr held) = inr held

or_left : (a b : Bool) → (a || b) ≡ false → a ≡ false
or_left true b e = absurd (cc)
or_left false b e = refl

or_right : (a b : Bool) → (a || b) ≡ false → b ≡ false
or_right true b e = absurd (cc)
or_right false b e = e

-- one of another key than all that came before has another key than this one
abbrev IsPast : Candidate → List Candidate → Type 0
IsPast c before = (d : Candidate) → list_any (same_key d) before ≡ false → same_key c d ≡ false

past-more : (c x : Candidate) (before : List Candidate) → IsPast c before → IsPast c (before ++ x ∷ [])
past-more c x before past d none =
    past d (or_left (list_any (same_key d) before) _ (sym (list_any-append (same_key d) before (x ∷ [])) ∙ none))

past-self : (c : Candidate) (before : List Candidate) → IsPast c (before ++ c ∷ [])
past-self c before d none =
    member_laws.symm c.key d.key
    ∙ or_left (same_key d c) false
    (or_right (list_any (same_key d) before) _ (sym (list_any-append (same_key d) before (c ∷ [])) ∙ none))

-- first occurrences after it have other keys
others-firsts : (c : Candidate) (before xs : List Candidate) → IsPast c before
    → Each (λ k. same_member c.key k ≡ false) (map (λ (d : Candidate). d.key) (firsts same_key before xs))
others-firsts c before [] past = tt
others-firsts c before (x ∷ xs) past =
    by_key (list_any (same_key x) before) refl (others-firsts c (before ++ x ∷ []) xs (past-more c x before past))
  where
    by_key :
        (b : Bool) → list_any (same_key x) before ≡ b
        → Each (λ k. same_member c.key k ≡ false) (map (λ (d : Candidate). d.key) (firsts same_key (before ++ x ∷ []) xs))
        → Each (λ k. same_member c.key k ≡ false) (map (λ (d : Candidate). d.key)
        (if b then firsts same_key (before ++ x ∷ []) xs else x ∷ firsts same_key (before ++ x ∷ []) xs))
    by_key true known rest = rest
    by_key false new rest = (past x new, rest)

distinct-firsts : (before xs : List Candidate) → IsDistinct same_member (map (λ (d : Candidate). d.key) (firsts same_key before xs))
unfolding IsDistinct
distinct-firsts before [] = tt
distinct-firsts before (x ∷ xs) = by_key (list_any (same_key x) before) (distinct-firsts (before ++ x ∷ []) xs)
  where
    by_key :
        (b : Bool) → IsDistinct same_member (map (λ (d : Candidate). d.key) (firsts same_key (before ++ x ∷ []) xs))
        → IsDistinct same_member (map (λ (d : Candidate). d.key)
        (if b then firsts same_key (before ++ x ∷ []) xs else x ∷ firsts same_key (before ++ x ∷ []) xs))
    by_key true rest = rest
    by_key false rest = (others-firsts x (before ++ x ∷ []) xs (past-self x before), rest)

all_pass : {A : Type 0} (xs : List A) → filter (λ x. true) xs ≡ xs
all_pass [] = refl
all_pass (x ∷ xs) = ap (λ ys. x ∷ ys) (all_pass xs)

length_map : {A B : Type 0} (f : A → B) (xs : List A) → length (map f xs) ≡ length xs
length_map f [] = refl
length_map f (x ∷ xs) = ap suc (length_map f xs)

-- after marks were applied, each target's key has a number, and no other key
pub counted :
    (key_of : Member → Member) (events : List Event) (views : List ViewValue) (t : TableValue Member)
    → IsStateAfter key_of (Applied ∷ events) views t → IsStrictlySortedBy member_cmp (keys_of t.by_key)
    → length t.by_key ≡ length (target_keys key_of (views_after (Applied ∷ events)))
counted key_of events views t state sorted =
    sym (length-keys_of t.by_key)
    ∙ length-from_same_keys member_laws (keys_of t.by_key) (map (λ (d : Candidate). d.key) ds)
    (IsDistinct-from_sorted member_cmp (keys_of t.by_key) sorted) (distinct-firsts [] (candidates key_of vs)) same
    ∙ length_map (λ (d : Candidate). d.key) ds
    ∙ sym (ap length (all_pass ds)) ∙ sym (target_count key_of (λ k. true) vs apart) ∙ ap length (all_pass (target_keys key_of vs))
  where
    vs : List ViewValue
    vs = views_after (Applied ∷ events)

    ds : List Candidate
    ds = distinct same_key (candidates key_of vs)

    apart : AreApart vs
    apart = views_apart_after (Applied ∷ events) state.sets

    same : (q : Member) → list_any (same_member q) (keys_of t.by_key) ≡ list_any (same_member q) (map (λ (d : Candidate). d.key) ds)
    same q =
        let P : Candidate → Bool = λ c. same_member q c.key in
        let like : (c d : Candidate) → same_key c d ≡ true → P c ≡ P d
        = λ c d e. member_laws.symm q c.key ∙ member_laws.congr c.key d.key q e ∙ member_laws.symm d.key q in
        sym (is_some-lookup (same_member q) t.by_key) ∙ ap is_some (state.cells.numbering.cells q)
        ∙ cell_now-some member_laws (changes_after key_of (Applied ∷ events)) q ∙ target_any key_of q vs apart
        ∙ sym (any-distinct P like (candidates key_of vs)) ∙ sym (any-map (λ (d : Candidate). d.key) (same_member q) ds)
