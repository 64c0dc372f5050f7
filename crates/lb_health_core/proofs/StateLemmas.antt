-- Views and table together after a change: the marks applied, one view's membership exchanged, and a refused change put back.
use Rattle.std.proofs.Common.{◌≡◌, ◌<◌, ◌≤◌, ◌^◌, ℕ, zero, suc, inl, inr, Bool, true, false, cond, ◌||◌, List, [], ◌∷◌, map, length, filter}
use Rattle.std.proofs.Common.{not, position, set, get_or, Some, Result, Ok, Err, IfOk, OnOk, OnErr, ◌++◌, ◌+◌, refl, sym, ap, subst, ◌∙◌}
use Rattle.std.proofs.Common.{nat_lt, length-append, take, ◌-◌, arith, ◌↔◌, IsTrue, true≢false, ⊎_elim}
use Rattle.std.proofs.lemmas.Bool.{cases_lt}
use Rattle.std.proofs.lemmas.List.{map-append, take-append-le, take_all}
use Rattle.std.proofs.lemmas.Option.{cond_some, same_Some, slice_get_read}
use Rattle.std.specs.List.{list_any, slice_get, prefix_len}
use Rattle.std.specs.List.Sorted.{IsStrictlySortedBy}
use Rattle.std.specs.Ordering.{eq_by_cmp, nat_cmp}
use borrow.Author.Tests.{ltb-true}
use Rattle.lb_select_base.specs.Backends.{Member, member_cmp}
use Rattle.lb_select_base.specs.Memberships.{same_members}
use Rattle.lb_select_base.specs.declared.refusal.Refusal.{Refusal}
use Rattle.lb_select_base.specs.declared.refusal.Refusal.TheVariants.{NoSuch}
use Rattle.lb_health_core.specs.declared.change.ViewCells.{ViewCells}
use Rattle.lb_health_core.specs.declared.numbering.Numbering.{Numbering}
use Rattle.lb_health_core.specs.declared.targets.View.{View}
use Rattle.lb_health_core.specs.CellEvents as cell
use Rattle.lb_health_core.specs.CellEvents.{CellEvent, Changed, Hold, changes, IsKept}
use Rattle.lb_health_core.specs.Internal.Changing.{IsStarted}
use Rattle.lb_health_core.specs.Fresh.{fresh}
use Rattle.lb_health_core.specs.Internal.Replacing.{IsShown, IsPrepared, IsReplaced}
use Rattle.lb_health_core.specs.Registry.{IsStateAfter, RegistryValue, IsRegistryAfter, IsGrowthRefusal}
use Rattle.lb_health_core.specs.RegistryEvents.{Event, Registered, Applied, Updated, is_view, at_view, with_members, new_view, has_view}
use Rattle.lb_health_core.specs.RegistryEvents.{members_of, after_update, after_show, cells_by, cells_in, changes_after}
use Rattle.lb_health_core.specs.RegistryEvents.{registered_after, views_after, cell_events, cells_given}
use Rattle.lb_health_core.specs.Table.{TableValue, IsTableAfter, IsPruned}
use Rattle.lb_health_core.specs.Targets.{ViewValue, view_value, live, target_keys}
use Rattle.lb_health_core.proofs.ChangeLemmas.{map-filter, live-at_view, at_place, members_at, cells_kept, has_live}
use Rattle.lb_health_core.proofs.FreshLemmas.{marks_start_none, updated_given}

-- the view at the place that a search gave
pub at_found :
    {X : Type 0} (p : X → Bool) (xs : List X) (place : ℕ) (x : X) → position p xs ≡ Some place → x ≡ get_or xs place x
    → slice_get xs place ≡ Some x
at_found p xs place x found at =
    let n : ℕ = prefix_len (λ z. not (p z)) xs in
    let there = cond_some (nat_lt n (length xs)) n place found in
    let lt : n < length xs = ltb-true n (length xs) there.0 in
    let is : n ≡ place = there.1 in
    slice_get_read xs (length xs) place x refl (omega (arith, lt, is)) at

-- the marks are applied
pub applied :
    (key_of : Member → Member) (events : List Event) (items kept : List View) (keys : List Member) (t more : TableValue Member)
    → IsStateAfter key_of events (map view_value items) t → kept ≡ filter (λ (v : View). not v.marked) items
    → keys ≡ target_keys key_of (live (map view_value items))
    → IsTableAfter member_cmp (Changed keys ∷ cell_events key_of events) more
    → IsPruned member_cmp (Changed keys ∷ cell_events key_of events) more
    → IsStateAfter key_of (Applied ∷ events) (map view_value kept) more
applied key_of events items kept keys t more state is keyed table only =
    let AfterKeys : List Member → Type 0 = λ ks. IsTableAfter member_cmp (Changed ks ∷ cell_events key_of events) more in
    let OnlyAfter : List Member → Type 0 = λ ks. IsPruned member_cmp (Changed ks ∷ cell_events key_of events) more in
    let keyed_now = keyed ∙ ap (λ vs. target_keys key_of (live vs)) state.listed in
    record {
      sets = state.sets;
      fits = omega (arith, marks_start_none key_of events state.sets, state.fits);
      listed = ap (map view_value) is ∙ map-filter view_value (λ v. not v.marked) items ∙ ap live state.listed;
      cells = subst AfterKeys keyed_now table;
      pruned = subst OnlyAfter keyed_now only;
    }

-- the views after one's membership is exchanged, before the marks are applied
exchanged :
    (key_of : Member → Member) (events : List Event) (id place : ℕ) (members : List Member) (items : List View) (x y : View)
    (t : TableValue Member)
    → IsStateAfter key_of events (map view_value items) t → position (λ v. is_view id (view_value v)) items ≡ Some place
    → slice_get items place ≡ Some x → view_value y ≡ with_members members (view_value x)
    → live (map view_value (set items place y)) ≡ views_after (Updated id members ∷ Applied ∷ events)
exchanged key_of events id place members items x y t state found at is =
    ap live (at_place view_value id (with_members members) items place x y found at is)
    ∙ live-at_view id members (map view_value items)
    ∙ ap (λ vs. at_view id (with_members members) (live vs)) state.listed

-- what both changes do to the cells
pub later_is :
    (key_of : Member → Member) (events : List Event) (id place : ℕ) (members marked : List Member) (items : List View) (x y : View)
    (t : TableValue Member)
    → IsStateAfter key_of events (map view_value items) t → position (λ v. is_view id (view_value v)) items ≡ Some place
    → slice_get items place ≡ Some x → view_value y ≡ with_members members (view_value x)
    → marked ≡ target_keys key_of (live (map view_value items))
    → Changed (target_keys key_of (live (map view_value (set items place y)))) ∷ Changed marked ∷ cell_events key_of events
    ≡ cell_events key_of (Updated id members ∷ Applied ∷ events)
later_is key_of events id place members marked items x y t state found at is keyed =
    let now = exchanged key_of events id place members items x y t state found at is in
    let before : marked ≡ target_keys key_of (live (views_after events)) = keyed ∙ ap (λ vs. target_keys key_of (live vs)) state.listed in
    ap (λ vs. Changed (target_keys key_of vs) ∷ Changed marked ∷ cell_events key_of events) now
    ∙ ap (λ ks. Changed (target_keys key_of (views_after (Updated id members ∷ Applied ∷ events))) ∷ Changed ks ∷ cell_events key_of events)
    before

-- a view's membership is exchanged
pub replaced :
    (key_of : Member → Member) (events : List Event) (id place : ℕ) (members marked : List Member) (items kept : List View) (x y : View)
    (t t2 more : TableValue Member) (numbering : Numbering Member) (shown : ViewCells)
    → IsStateAfter key_of events (map view_value items) t → position (λ v. is_view id (view_value v)) items ≡ Some place
    → slice_get items place ≡ Some x → view_value y ≡ with_members members (view_value x)
    → marked ≡ target_keys key_of (live (map view_value items))
    → kept ≡ filter (λ (v : View). not v.marked) (set items place y)
    → IsPrepared key_of (cell_events key_of events)
    (Changed (target_keys key_of (live (map view_value (set items place y)))) ∷ Changed marked ∷ cell_events key_of events) members
    numbering shown t2
    → ((before later : List (CellEvent Member)) → IsStarted member_cmp before later t2 numbering.by_key.entries numbering.next
    → IsTableAfter member_cmp later more)
    → ((before later : List (CellEvent Member)) → IsStarted member_cmp before later t2 numbering.by_key.entries numbering.next
    → IsPruned member_cmp later more)
    → IsStrictlySortedBy member_cmp members → cells_given key_of (Updated id members ∷ Applied ∷ events) < 2 ^ 64
    → IsReplaced key_of (Updated id members ∷ Applied ∷ events) members shown (map view_value kept) more
replaced key_of events id place members marked items kept x y t t2 more numbering shown state found at is keyed left prepared commits prunes
    sorted fits =
    let later = later_is key_of events id place members marked items x y t state found at is keyed in
    let AfterAll : List (CellEvent Member) → Type 0 = λ es. IsTableAfter member_cmp es more in
    let OnlyAfter : List (CellEvent Member) → Type 0 = λ es. IsPruned member_cmp es more in
    let ShownAfter : List (CellEvent Member) → Type 0 = λ es. IsShown key_of (changes es) members shown in
    record {
      state = record {
        sets = (sorted, state.sets);
        fits = fits;
        listed =
            ap (map view_value) left ∙ map-filter view_value (λ v. not v.marked) (set items place y)
            ∙ exchanged key_of events id place members items x y t state found at is;
        cells = subst AfterAll later (commits (cell_events key_of events) _ prepared.started);
        pruned = subst OnlyAfter later (prunes (cell_events key_of events) _ prepared.started);
      };
      cells = subst ShownAfter later prepared.cells;
    }

-- the view that was taken out is put back
pub put_back :
    (items : List View) (place : ℕ) (x y z : View) → slice_get items place ≡ Some x → view_value z ≡ view_value x
    → map view_value (set (set items place y) place z) ≡ map view_value items
put_back [] place x y z at is = absurd (cc)
put_back (w ∷ items) zero x y z at is = ap (λ v. v ∷ map view_value items) (is ∙ ap view_value (sym (same_Some w x at)))
put_back (w ∷ items) (suc place) x y z at is = ap (λ vs. view_value w ∷ vs) (put_back items place x y z at is)

-- what follows where a call succeeds
pub if_ok : {A E : Type 0} {P Q : A → Type 0} (r : Result A E) → ((a : A) → P a → Q a) → IfOk r P → IfOk r Q
if_ok (Ok a) f h = f a h
if_ok (Err e) f h = tt

-- a clause of a refused call, from its callee's
pub if_refused : {A E : Type 0} {P Q : Type 0} (r : Result A E) → OnErr r P → (P → Q) → OnErr r Q
if_refused (Ok x) h f = tt
if_refused (Err e) h f = f h

-- a clause of a call that went well, from two of its callee's
pub on_both : {A E : Type 0} {P Q S : Type 0} (r : Result A E) → OnOk r P → OnOk r Q → (P → Q → S) → OnOk r S
on_both (Ok x) h k f = f h k
on_both (Err e) h k f = tt

-- a registry as its fields show it
pub seen :
    {R : Type 0} (gives : R → Member → Member → Type 0) (key_of : Member → Member) (events : List Event) (v w : RegistryValue R)
    → v ≡ w → IsRegistryAfter gives key_of events w → IsRegistryAfter gives key_of events v
seen {R} gives key_of events v w e r = let After : RegistryValue R → Type 0 = λ u. IsRegistryAfter gives key_of events u
    in subst After (sym e) r

-- a view is registered, and waits for the marks to be applied
pub registered :
    (key_of : Member → Member) (events : List Event) (items more : List View) (v : View) (t : TableValue Member)
    → IsStateAfter key_of events (map view_value items) t → more ≡ items ++ v ∷ []
    → view_value v ≡ new_view (registered_after events + 1) → IsStateAfter key_of (Registered ∷ events) (map view_value more) t
registered key_of events items more v t state is new =
    record {
      sets = state.sets;
      fits = state.fits;
      listed =
          ap (map view_value) is ∙ map-append view_value items (v ∷ []) ∙ ap (λ vs. vs ++ view_value v ∷ []) state.listed
          ∙ ap (λ w. views_after events ++ w ∷ []) new;
      cells = state.cells;
      pruned = state.pruned;
    }

-- what was put at a place is there
pub set_found : {X : Type 0} (xs : List X) (place : ℕ) (x y : X) → slice_get xs place ≡ Some x → slice_get (set xs place y) place ≡ Some y
set_found [] place x y at = absurd (cc)
set_found (w ∷ xs) zero x y at = refl
set_found (w ∷ xs) (suc place) x y at = set_found xs place x y at

-- a refusal is the same, whatever the call would have given
pub same_refusal : {A B E : Type 0} (x y : E) → ◌≡◌ {A = Result A E} (Err x) (Err y) → ◌≡◌ {A = Result B E} (Err x) (Err y)
same_refusal {A} {B} {E} x y e = let it : x ≡ y = cc in ap Err it

-- an answer is no refusal
pub not_refused : {A E : Type 0} (x : A) (e : E) → ◌≡◌ {A = Result A E} (Ok x) (Err e) → ⊥
not_refused x e h = cc

-- what a growth is refused for is no missing view
pub growth_not_such : {A : Type 0} (e : Refusal) → IsGrowthRefusal {A = A} (Err e) → e ≡ NoSuch → ⊥
growth_not_such e (inl h) is = cc
growth_not_such e (inr h) is = cc

-- what an update does, by whether the membership is the same
pub updates_as :
    (b : Bool) (id place : ℕ) (members : List Member) (events : List Event) (items : List View) (x : View)
    → map view_value items ≡ views_after events → position (λ v. is_view id (view_value v)) items ≡ Some place → x ≡ get_or items place x
    → same_members members x.members.keys ≡ b → after_update id members events ≡ cond b events (Updated id members ∷ Applied ∷ events)
updates_as b id place members events items x listed found at is =
    let there : members_of id (views_after events) ≡ x.members.keys
    = ap (members_of id) (sym listed)
    ∙ members_at view_value id items place x found (at_found (λ v. is_view id (view_value v)) items place x found at) in
    ap (λ t. cond t events (Updated id members ∷ Applied ∷ events)) (ap (same_members members) there ∙ is)

-- room for one more live snapshot changes nothing
pub roomier :
    (key_of : Member → Member) (events : List Event) (views : List ViewValue) (t : TableValue Member) (held : List Hold) → held ≡ t.held
    → IsStateAfter key_of events views t → IsStateAfter key_of events views (record t { held = held })
roomier key_of events views t held is state =
    let After : List Hold → Type 0 = λ hs. IsStateAfter key_of events views (record t { held = hs }) in subst After (sym is) state

members_shown : (id : ℕ) (members : List Member) (vs : List ViewValue) → has_view id vs ≡ true
    → members_of id (at_view id (with_members members) vs) ≡ members
members_shown id members [] e = absurd (cc)
members_shown id members (v ∷ vs) e = shown_by (is_view id v) refl e (members_shown id members vs) where
  shown_by :
      (b : Bool) → is_view id v ≡ b → (b || has_view id vs) ≡ true
      → (has_view id vs ≡ true → members_of id (at_view id (with_members members) vs) ≡ members)
      → members_of id (cond b (with_members members v ∷ vs) (v ∷ at_view id (with_members members) vs)) ≡ members
  shown_by true f e ih = ap (λ b. cond b members (members_of id vs)) f
  shown_by false f e ih = ap (λ b. cond b v.members (members_of id (at_view id (with_members members) vs))) f ∙ ih e

-- a view's next snapshot is held
pub shows :
    (key_of : Member → Member) (events : List Event) (id generation : ℕ) (members : List Member) (shown : ViewCells)
    (views : List ViewValue)
    (t more : TableValue Member)
    → IsReplaced key_of (Updated id members ∷ Applied ∷ events) members shown views t → has_view id (views_after events) ≡ true
    → ((es : List (CellEvent Member)) → IsTableAfter member_cmp es t
    → ((c : ℕ) → list_any (eq_by_cmp nat_cmp c) shown.numbers.keys ≡ true → IsKept member_cmp es c)
    → IsTableAfter member_cmp (cell.Held id generation shown.numbers.keys ∷ es) more)
    → ((es : List (CellEvent Member)) → IsPruned member_cmp es t
    → IsPruned member_cmp (cell.Held id generation shown.numbers.keys ∷ es) more)
    → IsStateAfter key_of (after_show id generation members events) views more
shows key_of events id generation members shown views t more out has holds only =
    let now = Updated id members ∷ Applied ∷ events in
    let there : members_of id (views_after now) ≡ members = members_shown id members (live (views_after events))
    (has_live id (views_after events) ∙ has) in
    let numbers : shown.numbers.keys ≡ cells_in (cells_by key_of (changes_after key_of now) (members_of id (views_after now)))
    = out.cells.numbers ∙ ap (λ ms. cells_in (cells_by key_of (changes_after key_of now) ms)) (sym there) in
    let HeldAs : List ℕ → Type 0 = λ cs. IsTableAfter member_cmp (cell.Held id generation cs ∷ cell_events key_of now) more in
    let OnlyAs : List ℕ → Type 0 = λ cs. IsPruned member_cmp (cell.Held id generation cs ∷ cell_events key_of now) more in
    record {
      sets = out.state.sets;
      fits = out.state.fits;
      listed = out.state.listed;
      cells =
          subst HeldAs numbers
          (holds (cell_events key_of now) out.state.cells
          (λ c e.
          inl (cells_kept key_of (changes_after key_of now) members c (ap (list_any (eq_by_cmp nat_cmp c)) (sym out.cells.numbers) ∙ e))));
      pruned = subst OnlyAs numbers (only (cell_events key_of now) out.state.pruned);
    }

-- what was pushed last is taken off again
pub popped :
    {X : Type 0} (xs old more : List X) (x : X) (n : ℕ) → old ≡ xs ++ x ∷ [] → n ≡ length old → more ≡ take (n - 1) old → more ≡ xs
popped xs old more x n is long rest =
    let one : n - 1 ≡ length xs = omega (arith, long, ap length is, length-append xs (x ∷ [])) in
    let short : length xs ≤ length xs = omega arith in
    rest ∙ ap (λ k. take k old) one ∙ ap (take (length xs)) is ∙ take-append-le (length xs) xs (x ∷ []) short
    ∙ take_all (length xs) xs short

-- marks that are applied leave numbers
pub never_lacks :
    (key_of : Member → Member) (events : List Event) (views : List ViewValue) (t : TableValue Member) → IsStateAfter key_of events views t
    → 2 ^ 64 ≤ cells_given key_of (Applied ∷ events) → ⊥
never_lacks key_of events views t state l = omega (arith, l, marks_start_none key_of events state.sets, state.fits)

-- whether numbers are left for a view's change, by the keys that its membership starts
pub lacks_told :
    (key_of : Member → Member) (events : List Event) (id : ℕ) (members : List Member) (items seen : List View) (t : TableValue Member)
    (b : Bool)
    → IsStateAfter key_of events (map view_value items) t → IsStrictlySortedBy member_cmp members → has_view id (views_after events) ≡ true
    → seen ≡ items → (IsTrue b ↔ (2 ^ 64 ≤ t.next + length (fresh key_of (live (map view_value seen)) id members)))
    → (IsTrue b ↔ (2 ^ 64 ≤ cells_given key_of (Updated id members ∷ Applied ∷ events)))
lacks_told key_of events id members items seen t b state sorted has is told =
    let count : List ViewValue → ℕ = λ vs. length (fresh key_of (live vs) id members) in
    let views : count (map view_value seen) ≡ count (views_after events) = ap (λ (vs : List View). count (map view_value vs)) is
    ∙ ap count state.listed in
    let given : cells_given key_of (Updated id members ∷ Applied ∷ events) ≡ t.next + count (map view_value seen)
    = omega (arith, updated_given key_of events id members state.sets sorted has, views, state.cells.numbering.given) in
    (λ e. omega (arith, told.0 e, given), λ l. told.1 (omega (arith, l, given)))

-- a number is left where none is lacking
pub left_numbers : (b : Bool) (n : ℕ) → b ≡ false → (IsTrue b ↔ (2 ^ 64 ≤ n)) → n < 2 ^ 64
left_numbers b n f told = ⊎_elim (λ (l : n < 2 ^ 64). l) (λ (l : 2 ^ 64 ≤ n). absurd (true≢false (sym (told.1 l) ∙ f)))
    (cases_lt n (2 ^ 64))
