-- Where no mark waits, the targets are those that the last change left, so that another change to them starts nothing.
use Rattle.std.proofs.Common.{◌≡◌, ℕ, Bool, true, false, cond, not, ◌||◌, List, [], ◌∷◌, ◌++◌, ◌+◌, length, reverse, filter, map, Option}
use Rattle.std.proofs.Common.{Some, None, MatchOption, Bor, Vec, Global, vec_len, refl, sym, ap, ◌∙◌, true≢false}
use Rattle.std.proofs.lemmas.Grind.{flat_map-append}
use Rattle.std.proofs.lemmas.List.{append-nil}
use Rattle.std.proofs.lemmas.List.Folds.{list_any-append}
use Rattle.std.specs.declared.cmp.Ordering.{Ordering}
use Rattle.std.specs.Cmp.{IsEquivalence, IsTotalOrder, eq_by_cmp_equiv}
use Rattle.std.specs.List.{list_any}
use Rattle.std.specs.Map.{values_of}
use Rattle.std.specs.Option.{IsSomeAnd}
use Rattle.std.specs.Ordering.{eq_by_cmp}
use Rattle.lb_select_base.specs.Backends.{Member}
use Rattle.lb_select_base.specs.Unique.{distinct}
use Rattle.lb_health_core.specs.CellEvents.{CellEvent, Changed, changes}
use Rattle.lb_health_core.specs.Internal.Changing.{last_keys, left_of, IsStarted}
use Rattle.lb_health_core.specs.RegistryEvents.{Event, Registered, Applied, Updated, Marked, Observed, Held, Released, Configured}
use Rattle.lb_health_core.specs.RegistryEvents.{is_view, at_view, with_mark, new_view, registered_after, views_after, changes_after}
use Rattle.lb_health_core.specs.RegistryEvents.{cell_events}
use Rattle.lb_health_core.specs.Starts.{starts, latest_start, cell_now, IsNumbered}
use Rattle.lb_health_core.specs.Table.{TableValue, IsTableAfter}
use Rattle.lb_health_core.specs.Targets.{ViewValue, view_value, candidates, candidates_of, same_key, in_order, live, target_keys}
use Rattle.lb_health_core.specs.declared.targets.View.{View}
use Rattle.lb_health_core.proofs.ChangeLemmas.{any-map}
use Rattle.lb_health_core.proofs.TableLemmas.{started-none, started-more}

abbrev pub marks_in : List ViewValue → Bool
marks_in views = list_any (λ v. v.marked) views

or_first : (a b : Bool) → (a || b) ≡ false → a ≡ false
or_first true b e = absurd (true≢false e)
or_first false b e = refl

or_second : (a b : Bool) → (a || b) ≡ false → b ≡ false
or_second true b e = absurd (true≢false e)
or_second false b e = e

-- all views are live
pub all_live : (views : List ViewValue) → marks_in views ≡ false → live views ≡ views
all_live [] e = refl
all_live (v ∷ vs) e =
    ap (λ b. cond (not b) (v ∷ live vs) (live vs)) (or_first v.marked (marks_in vs) e)
    ∙ ap (λ ws. v ∷ ws) (all_live vs (or_second v.marked (marks_in vs) e))

-- a mark that isn't there changed nothing
unmarked_at : (id : ℕ) (views : List ViewValue) → marks_in (at_view id with_mark views) ≡ false → at_view id with_mark views ≡ views
unmarked_at id [] e = refl
unmarked_at id (v ∷ vs) e =
    elim (is_view id v) as (λ b. marks_in (cond b (with_mark v ∷ vs) (v ∷ at_view id with_mark vs)) ≡ false
    → cond b (with_mark v ∷ vs) (v ∷ at_view id with_mark vs) ≡ v ∷ vs) [
      | true ↦ λ m. absurd (true≢false m)
      | false ↦ λ m. ap (λ ws. v ∷ ws) (unmarked_at id vs (or_second v.marked (marks_in (at_view id with_mark vs)) m))
    ] e

-- a view without members has no targets
new_targets : (key_of : Member → Member) (views : List ViewValue) (id : ℕ)
    → target_keys key_of (views ++ new_view id ∷ []) ≡ target_keys key_of views
new_targets key_of views id =
    ap (λ cs. values_of (in_order (distinct same_key cs)))
    (flat_map-append (λ (w : ViewValue). candidates_of key_of w.id w.members) views (new_view id ∷ [])
    ∙ append-nil (candidates key_of views))

-- the targets are those that the last change left
pub left_keys :
    (key_of : Member → Member) (events : List Event) → marks_in (views_after events) ≡ false
    → target_keys key_of (views_after events) ≡ last_keys (changes_after key_of events)
left_keys key_of [] e = refl
left_keys key_of (Registered ∷ events) e =
    new_targets key_of (views_after events) (registered_after events + 1)
    ∙ left_keys key_of events
    (or_first (marks_in (views_after events)) _
    (sym (list_any-append (λ (v : ViewValue). v.marked) (views_after events) (new_view (registered_after events + 1) ∷ [])) ∙ e))
left_keys key_of (Applied ∷ events) e = refl
left_keys key_of (Updated id members ∷ events) e = refl
left_keys key_of (Marked id ∷ events) e =
    let same = unmarked_at id (views_after events) e in
    ap (target_keys key_of) same ∙ left_keys key_of events (ap marks_in (sym same) ∙ e)
left_keys key_of (Observed c v ∷ events) e = left_keys key_of events e
left_keys key_of (Held id generation ∷ events) e = left_keys key_of events e
left_keys key_of (Released id generation ∷ events) e = left_keys key_of events e
left_keys key_of (Configured healthy ∷ events) e = left_keys key_of events e

-- the keys that the marks leave, where they were asked for only if one waits
pub left_is :
    (Rule : (Member → Member) → Type 0) (key_of : Member → Member) (events : List Event) (items seen : List View)
    (marked : Option (Vec Member Global))
    (o : Option (Bor (List Member)))
    → Rule key_of → map view_value items ≡ views_after events → seen ≡ items
    → MatchOption marked (list_any (λ (v : View). v.marked) seen ≡ false)
    (λ v. (key : Member → Member) → Rule key → v.items ≡ target_keys key (live (map view_value seen)))
    → MatchOption marked (o ≡ None) (λ v. IsSomeAnd o (λ s. (s.now ≡ v.items) × (length s.now ≡ vec_len v)))
    → left_of o (cell_events key_of events) ≡ target_keys key_of (live (map view_value items))
left_is Rule key_of events items seen None o rule listed same unmarked none =
    let still : marks_in (views_after events) ≡ false
    = ap marks_in (sym listed) ∙ any-map view_value (λ (v : ViewValue). v.marked) items
    ∙ ap (λ vs. list_any (λ (v : View). v.marked) vs) (sym same) ∙ unmarked in
    ap (λ x. left_of x (cell_events key_of events)) none ∙ sym (left_keys key_of events still)
    ∙ ap (target_keys key_of) (sym (all_live (views_after events) still)) ∙ ap (λ vs. target_keys key_of (live vs)) (sym listed)
left_is Rule key_of events items seen (Some v) None rule listed same keyed given = absurd given
left_is Rule key_of events items seen (Some v) (Some s) rule listed same keyed given =
    given.0 ∙ keyed key_of rule ∙ ap (λ (vs : List View). target_keys key_of (live (map view_value vs))) same

module _ {K : Type 0} {same : K → K → Bool} (laws : IsEquivalence same) where
  none_new : (before now : List K) → filter (λ k. not (list_any (same k) (before ++ now))) now ≡ []
  none_new before [] = refl
  none_new before (k ∷ now) =
      let there : list_any (same k) (before ++ k ∷ now) ≡ true
      = list_any-append (same k) before (k ∷ now) ∙ ap (λ b. list_any (same k) before || (b || list_any (same k) now)) (laws.refl k)
      ∙ or_true (list_any (same k) before) in
      ap (λ b. cond (not b) (k ∷ rest) rest) there ∙ ap (λ ks. filter (λ x. not (list_any (same x) ks)) now) (shift before k now)
      ∙ none_new (before ++ k ∷ []) now
    where
      or_true : (b : Bool) → (b || true) ≡ true
      or_true true = refl
      or_true false = refl

      rest : List K
      rest = filter (λ x. not (list_any (same x) (before ++ k ∷ now))) now

      shift : (before : List K) (k : K) (now : List K) → before ++ k ∷ now ≡ (before ++ k ∷ []) ++ now
      shift [] k now = refl
      shift (b ∷ before) k now = ap (λ ks. b ∷ ks) (shift before k now)

  -- a change to the keys that were targets starts none
  pub same_starts : (all : List (List K)) (keys : List K) → keys ≡ last_keys all → starts same (keys ∷ all) ≡ starts same all
  same_starts [] keys e = ap (λ ks. starts same (ks ∷ [])) e
  same_starts (now ∷ all) keys e =
      ap (λ ks. starts same (ks ∷ now ∷ all)) e ∙ ap (λ ks. reverse ks ++ starts same (now ∷ all)) (none_new [] now)

  -- and leaves each cell
  pub same_cells : (all : List (List K)) (keys : List K) → keys ≡ last_keys all → (k : K)
      → cell_now same (keys ∷ all) k ≡ cell_now same all k
  same_cells [] keys e k = ap (λ ks. cell_now same (ks ∷ []) k) e
  same_cells (now ∷ all) keys e k =
      ap (λ ks. cond (list_any (same k) ks) (latest_start same (starts same (keys ∷ now ∷ all)) k) None) e
      ∙ ap (λ ss. cond (list_any (same k) now) (latest_start same ss k) None) (same_starts (now ∷ all) keys e)

module _ {K : Type 0} {cmp : K → K → Ordering} (total : IsTotalOrder cmp) where
  laws : IsEquivalence (eq_by_cmp cmp)
  laws = eq_by_cmp_equiv total

  -- the numbering stays
  pub left-numbered :
      (all : List (List K)) (keys : List K) (by_key : List (K × ℕ)) (next : ℕ) → keys ≡ last_keys all
      → IsNumbered cmp all by_key next → IsNumbered cmp (keys ∷ all) by_key next
  left-numbered all keys by_key next e n =
      record {
        given = n.given ∙ ap length (sym (same_starts laws all keys e));
        cells = λ q. n.cells q
            ∙ sym (same_cells laws all keys e q);
      }

  -- so it is the one after that change already
  pub started-left :
      (events : List (CellEvent K)) (keys : List K) (t : TableValue K) → keys ≡ last_keys (changes events) → IsTableAfter cmp events t
      → IsStarted cmp events (Changed keys ∷ events) t t.by_key t.next
  started-left events keys t e table =
      let none = started-none total events t table in
      started-more total events events keys t t.by_key t.by_key t.next t.next t.cells none (λ c l. refl)
      (left-numbered (changes events) keys t.by_key t.next e table.numbering)
      (λ k c at l. none.stored k c (sym (same_cells laws (changes events) keys e k) ∙ at) l)
