-- The table of cells after each event: what is stored stays right.
use Rattle.std.proofs.Common.{◌≡◌, ◌<◌, ◌≤◌, ℕ, ◌==◌, ◌⊎◌, inl, inr, ⊎_elim, Bool, true, false, cond, not, ◌||◌, List, [], ◌∷◌, ◌++◌, map}
use Rattle.std.proofs.Common.{filter, Option, Some, None, Result, Ok, Err, OnErr, refl, sym, ap, subst, ◌∙◌, arith, true≢false}
use Rattle.std.proofs.Math.Bool.{or-false}
use Rattle.std.proofs.lemmas.List.Folds.{list_any-append}
use Rattle.std.proofs.lemmas.Map.{lookup-none}
use Rattle.std.proofs.lemmas.Map.Entries.{none_past_head}
use Rattle.std.proofs.lemmas.Map.Keys.{IsDistinct-from_sorted}
use Rattle.std.proofs.lemmas.Option.{same_Some}
use Rattle.std.specs.declared.cmp.Ordering.{Ordering}
use Rattle.std.specs.BTreeMap.{is_at}
use Rattle.std.specs.Cmp.{IsTotalOrder, eq_by_cmp_equiv, nat_cmp_total, unsigned_tied}
use Rattle.std.specs.List.{find, list_any, IsDistinct}
use Rattle.std.specs.List.Sorted.{IsStrictlySortedBy}
use Rattle.std.specs.Map.{keys_of, lookup}
use Rattle.std.specs.Option.{IsSomeAnd, is_some, option_map}
use Rattle.std.specs.Ordering.{eq_by_cmp, nat_cmp}
use Rattle.std.proofs.lemmas.Bool.{cases_lt}
use borrow.Author.Tests.{eqb-true, eq-eqb, ne_eqb, lt-ltb, le-ltb}
use Rattle.lb_health_core.specs.declared.table.Cell.{Cell}
use Rattle.lb_health_core.specs.declared.table.Held as declared
use Rattle.lb_health_core.specs.CellEvents.{CellEvent, Hold, Changed, Observed, Held, Released, is_hold_of, changes, verdicts_of}
use Rattle.lb_health_core.specs.CellEvents.{holds_after, configured, is_held, given_after, start_of, IsKept}
use Rattle.lb_health_core.specs.Internal.Changing.{AreStored, is_cell, keeps_cell, Extends, IsStarted}
use Rattle.lb_health_core.specs.Starts.{cell_now, value_at, IsNumbered}
use Rattle.lb_health_core.specs.Table.{TableValue, hold_of, IsTableAfter, IsPruned}
use Rattle.lb_health_core.specs.Verdicts.{Verdict, IsHealthAfter}
use Rattle.lb_health_core.proofs.CellLemmas.{either, cell_now-same, cell_now-lt, old_cell, starts-grow}

-- what follows from what holds of a value that is there
pub some_then : {A : Type 0} {P Q : A → Type 0} (o : Option A) → IsSomeAnd o P → ((x : A) → P x → Q x) → IsSomeAnd o Q
some_then None h f = absurd h
some_then (Some x) h f = f x h

pub some_at : {A : Type 0} (P : A → Type 0) (o : Option A) (x : A) → o ≡ Some x → IsSomeAnd o P → P x
some_at {A} P o x e h = let Q : Option A → Type 0 = λ p. IsSomeAnd p P in subst Q e h

pub some_from : {A : Type 0} (P : A → Type 0) (o : Option A) (x : A) → o ≡ Some x → P x → IsSomeAnd o P
some_from {A} P o x e h = let Q : Option A → Type 0 = λ p. IsSomeAnd p P in subst Q (sym e) h

-- a cell is at its own place, and another one is not
pub at_itself : (c : ℕ) → is_at (nat_cmp c) c ≡ true
at_itself c = (eq_by_cmp_equiv nat_cmp_total).refl c

pub at_other : (c d : ℕ) → (d == c) ≡ false → is_at (nat_cmp d) c ≡ false
at_other c d f = unsigned_tied d c ∙ f

-- a look-up in what a filter by key and value leaves
filtered_none : {X : Type 0} (test : ℕ → Bool) (p : ℕ × X → Bool) (es : List (ℕ × X)) → lookup test es ≡ None
    → lookup test (filter p es) ≡ None
filtered_none test p [] e = refl
filtered_none {X} test p (x ∷ es) e = none_by (test x.0) refl (p x) refl e (filtered_none test p es) where
  none_by :
      (b : Bool) → test x.0 ≡ b → (t : Bool) → p x ≡ t → cond b (Some x.1) (lookup test es) ≡ None
      → (lookup test es ≡ None → lookup test (filter p es) ≡ None) → lookup test (cond t (x ∷ filter p es) (filter p es)) ≡ None
  none_by true f t g e ih = absurd (cc)
  none_by false f true g e ih = ap (λ b. cond b (Some x.1) (lookup test (filter p es))) f ∙ ih e
  none_by false f false g e ih = ih e

rest_distinct :
    {X : Type 0} (y : ℕ × X) (es : List (ℕ × X)) → IsDistinct (eq_by_cmp nat_cmp) (keys_of (y ∷ es))
    → IsDistinct (eq_by_cmp nat_cmp) (keys_of es)
unfolding IsDistinct
rest_distinct y es d = d.1

filtered :
    {X : Type 0} (p : ℕ × X → Bool) (c : ℕ) (es : List (ℕ × X)) (x : X) → IsDistinct (eq_by_cmp nat_cmp) (keys_of es)
    → value_at nat_cmp es c ≡ Some x → value_at nat_cmp (filter p es) c ≡ cond (p (c, x)) (Some x) None
filtered p c [] x d e = absurd (cc)
filtered {X} p c (y ∷ es) x d e = found_by (is_at (nat_cmp c) y.0) refl (p y) refl e (λ f. filtered p c es x (rest_distinct y es d) f) where
  here : is_at (nat_cmp c) y.0 ≡ true → Some y.1 ≡ Some x → p y ≡ p (c, x)
  here t e =
      let key : y.0 ≡ c = sym (eqb-true c y.0 (sym (unsigned_tied c y.0) ∙ t)) in
      let value : y.1 ≡ x = same_Some y.1 x e in
      λ i. p (key i, value i)

  none : is_at (nat_cmp c) y.0 ≡ true → value_at nat_cmp es c ≡ None
  none t = lookup-none (is_at (nat_cmp c)) es (none_past_head (eq_by_cmp_equiv nat_cmp_total) c y es d t)

  found_by :
      (b : Bool) → is_at (nat_cmp c) y.0 ≡ b → (t : Bool) → p y ≡ t → cond b (Some y.1) (value_at nat_cmp es c) ≡ Some x
      → (value_at nat_cmp es c ≡ Some x → value_at nat_cmp (filter p es) c ≡ cond (p (c, x)) (Some x) None)
      → value_at nat_cmp (cond t (y ∷ filter p es) (filter p es)) c ≡ cond (p (c, x)) (Some x) None
  found_by true f true g e ih =
      ap (λ b. cond b (Some y.1) (value_at nat_cmp (filter p es) c)) f ∙ e ∙ sym (ap (λ b. cond b (Some x) None) (sym (here f e) ∙ g))
  found_by true f false g e ih =
      filtered_none (is_at (nat_cmp c)) p es (none f) ∙ sym (ap (λ b. cond b (Some x) None) (sym (here f e) ∙ g))
  found_by false f true g e ih = ap (λ b. cond b (Some y.1) (value_at nat_cmp (filter p es) c)) f ∙ ih e
  found_by false f false g e ih = ih e

-- a test of some that were left
pub any-filtered : {X : Type 0} (p q : X → Bool) (xs : List X) → list_any p (filter q xs) ≡ true → list_any p xs ≡ true
any-filtered p q [] e = e
any-filtered {X} p q (x ∷ xs) e = any_by (q x) (p x) refl e (any-filtered p q xs) where
  any_by :
      (t b : Bool) → p x ≡ b → list_any p (cond t (x ∷ filter q xs) (filter q xs)) ≡ true
      → (list_any p (filter q xs) ≡ true → list_any p xs ≡ true) → (b || list_any p xs) ≡ true
  any_by t true f e ih = refl
  any_by true false f e ih = ih (sym (ap (λ b. b || list_any p (filter q xs)) f) ∙ e)
  any_by false false f e ih = ih e

-- live snapshots as the table has them, and as contracts see them
pub any_holds :
    (c : ℕ) (hs : List declared.Held)
    → list_any (λ h. list_any (eq_by_cmp nat_cmp c) h.cells) (map hold_of hs) ≡ list_any (λ h. list_any (eq_by_cmp nat_cmp c) h.cells.keys)
    hs
any_holds c [] = refl
any_holds c (h ∷ hs) = ap (λ b. list_any (eq_by_cmp nat_cmp c) h.cells.keys || b) (any_holds c hs)

pub oldest_holds :
    (view : ℕ) (hs : List declared.Held)
    → option_map (λ h. h.generation) (find (λ h. h.view == view) (map hold_of hs))
    ≡ option_map (λ h. h.generation) (find (λ h. h.view == view) hs)
oldest_holds view [] = refl
oldest_holds view (h ∷ hs) = first_by (h.view == view) (oldest_holds view hs) where
  first_by :
      (b : Bool)
      → option_map (λ s. s.generation) (find (λ s. s.view == view) (map hold_of hs))
      ≡ option_map (λ s. s.generation) (find (λ s. s.view == view) hs)
      → option_map (λ s. s.generation) (cond b (Some (hold_of h)) (find (λ s. s.view == view) (map hold_of hs)))
      ≡ option_map (λ s. s.generation) (cond b (Some h) (find (λ s. s.view == view) hs))
  first_by true ih = refl
  first_by false ih = ih

-- a clause of a refused call holds whatever it was refused for
pub refused_for : {A E : Type 0} {P : Type 0} (r : Result A E) → P → OnErr r P
refused_for (Ok x) p = tt
refused_for (Err e) p = p

pub or_true : (b : Bool) → (b || true) ≡ true
or_true true = refl
or_true false = refl

pub eqb-refl : (c : ℕ) → (c == c) ≡ true
eqb-refl c = eq-eqb c c refl

-- the number that is there
cell_is : (c : ℕ) (o : Option ℕ) → is_cell c o ≡ true → o ≡ Some c
cell_is c None e = absurd (cc)
cell_is c (Some d) e = ap Some (eqb-true d c e)

or_cases : (a b : Bool) → (a || b) ≡ true → (a ≡ true) ⊎ (b ≡ true)
or_cases true b e = inl refl
or_cases false b e = inr e

module _ {K : Type 0} {cmp : K → K → Ordering} (total : IsTotalOrder cmp) where
  -- a cell that is kept was given a number
  pub kept-given :
      (events : List (CellEvent K)) (t : TableValue K) → IsTableAfter cmp events t → (c : ℕ) → IsKept cmp events c
      → c < given_after (eq_by_cmp cmp) events
  kept-given events t table c (inl (k, e)) = cell_now-lt (eq_by_cmp_equiv total) (changes events) k c e
  kept-given events t table c (inr held) =
      ⊎_elim (λ (l : c < given_after (eq_by_cmp cmp) events). l)
      (λ (l : given_after (eq_by_cmp cmp) events ≤ c). absurd (true≢false (sym held ∙ (table.ungiven c l).1)))
      (cases_lt c (given_after (eq_by_cmp cmp) events))

  -- cells past the given numbers are nobody's
  pub table-stays :
      (events : List (CellEvent K)) (t : TableValue K) (more : List (ℕ × Cell K)) → IsTableAfter cmp events t
      → ((c : ℕ) → IsKept cmp events c → value_at nat_cmp more c ≡ value_at nat_cmp t.cells c)
      → IsTableAfter cmp events (record t { cells = more })
  table-stays events t more table same =
      record {
        numbering = table.numbering;
        start = table.start;
        holds = table.holds;
        targets = λ k c e.
            let P : Option (Cell K) → Type 0 = λ o. IsSomeAnd o (λ x. eq_by_cmp cmp k x.key ≡ true) in
            subst P (sym (same c (inl (k, e)))) (table.targets k c e);
        kept = λ c h.
            let P : Option (Cell K) → Type 0
            = λ o. IsSomeAnd o (λ x. IsHealthAfter (start_of (eq_by_cmp cmp) c events) (verdicts_of c events) x.health) in
            subst P (sym (same c h)) (table.kept c h);
        ungiven = table.ungiven;
      }

  pub extends-none : (events : List (CellEvent K)) → Extends cmp events events
  extends-none events =
      record {
        verdicts = λ c. refl;
        holds = refl;
        start = refl;
        grows = omega arith;
        old = λ k c e l. e;
        begun = λ c l. refl;
        begins = λ c l m. absurd (omega arith);
      }

  pub extends-more :
      (events later : List (CellEvent K)) (keys : List K) → Extends cmp events later → Extends cmp events (Changed keys ∷ later)
  extends-more events later keys x =
      let same : K → K → Bool = eq_by_cmp cmp in
      let more : given_after same later ≤ given_after same (Changed keys ∷ later) = starts-grow (eq_by_cmp_equiv total) (changes later)
      [] keys in
      record {
        verdicts = x.verdicts;
        holds = x.holds;
        start = x.start;
        grows = omega (arith, x.grows, more);
        old = λ k c e l. x.old k c (old_cell (eq_by_cmp_equiv total) (changes later) keys k c e (omega (arith, x.grows, l))) l;
        begun = λ c l.
            let low : c < given_after same later = omega (arith, x.grows, l) in
            ap (λ b. cond b (start_of same c later) (configured later)) (lt-ltb c (given_after same later) low) ∙ x.begun c l;
        begins = λ c l m.
            ⊎_elim
            (λ (low : c < given_after same later).
            ap (λ b. cond b (start_of same c later) (configured later)) (lt-ltb c (given_after same later) low) ∙ x.begins c l low)
            (λ (high : given_after same later ≤ c).
            ap (λ b. cond b (start_of same c later) (configured later)) (le-ltb c (given_after same later) high) ∙ x.start)
            (cases_lt c (given_after same later));
      }

  -- before any change
  pub started-none :
      (events : List (CellEvent K)) (t : TableValue K) → IsTableAfter cmp events t → IsStarted cmp events events t t.by_key t.next
  started-none events t table =
      record {
        extends = extends-none events;
        table = table;
        numbering = table.numbering;
        stored = λ k c e l. absurd (omega (arith, cell_now-lt (eq_by_cmp_equiv total) (changes events) k c e, l));
      }

  -- one more change
  pub started-more :
      (events later : List (CellEvent K)) (keys : List K) (t : TableValue K) (by_key by_more : List (K × ℕ)) (next more : ℕ)
      (cells : List (ℕ × Cell K))
      → IsStarted cmp events later t by_key next
      → ((c : ℕ) → c < next → value_at nat_cmp cells c ≡ value_at nat_cmp t.cells c)
      → IsNumbered cmp (keys ∷ changes later) by_more more
      → AreStored cmp (given_after (eq_by_cmp cmp) events) t.start (keys ∷ changes later) cells
      → IsStarted cmp events (Changed keys ∷ later) (record t { cells = cells }) by_more more
  started-more events later keys t by_key by_more next more cells s others numbered stored =
      record {
        extends = extends-more events later keys s.extends;
        table =
            table-stays events t cells s.table
            (λ c h. others c (omega (arith, kept-given events t s.table c h, s.extends.grows, s.numbering.given)));
        numbering = numbered;
        stored = stored;
      }

  -- the table stays after its events, where a change is refused on its way
  pub refused-stays :
      (events later : List (CellEvent K)) (t : TableValue K) (by_key : List (K × ℕ)) (next : ℕ) (cells : List (ℕ × Cell K))
      → IsStarted cmp events later t by_key next → ((c : ℕ) → c < next → value_at nat_cmp cells c ≡ value_at nat_cmp t.cells c)
      → IsTableAfter cmp events (record t { cells = cells })
  refused-stays events later t by_key next cells s others =
      table-stays events t cells s.table
      (λ c h. others c (omega (arith, kept-given events t s.table c h, s.extends.grows, s.numbering.given)))

  -- the live snapshots have the same cells after changes
  held-still : (events later : List (CellEvent K)) → Extends cmp events later → (c : ℕ) → is_held c later ≡ is_held c events
  held-still events later x c = ap (λ hs. list_any (λ h. list_any (eq_by_cmp nat_cmp c) h.cells) hs) x.holds

  -- a cell that was kept before is as it was
  kept-still :
      (events later : List (CellEvent K)) (t : TableValue K) (by_key : List (K × ℕ)) (next : ℕ) → IsStarted cmp events later t by_key next
      → (c : ℕ) → IsKept cmp events c
      → IsSomeAnd (value_at nat_cmp t.cells c) (λ y. IsHealthAfter (start_of (eq_by_cmp cmp) c later) (verdicts_of c later) y.health)
  kept-still events later t by_key next s c h =
      let S : Bool → Type 0 = λ b. IsSomeAnd (value_at nat_cmp t.cells c) (λ y. IsHealthAfter b (verdicts_of c later) y.health) in
      let V : List Verdict → Type 0
      = λ vs. IsSomeAnd (value_at nat_cmp t.cells c) (λ y. IsHealthAfter (start_of (eq_by_cmp cmp) c events) vs y.health) in
      subst S (sym (s.extends.begun c (kept-given events t s.table c h))) (subst V (sym (s.extends.verdicts c)) (s.table.kept c h))

  -- a cell that is kept after the changes is stored: it was kept before, or it starts
  kept-later :
      (events later : List (CellEvent K)) (t : TableValue K) (by_key : List (K × ℕ)) (next : ℕ) → IsStarted cmp events later t by_key next
      → (c : ℕ) → IsKept cmp later c
      → IsSomeAnd (value_at nat_cmp t.cells c) (λ y. IsHealthAfter (start_of (eq_by_cmp cmp) c later) (verdicts_of c later) y.health)
  kept-later events later t by_key next s c (inl (k, e)) =
      ⊎_elim (λ (l : c < given_after (eq_by_cmp cmp) events). kept-still events later t by_key next s c (inl (k, s.extends.old k c e l)))
      (λ (l : given_after (eq_by_cmp cmp) events ≤ c).
      let lt : c < given_after (eq_by_cmp cmp) later = cell_now-lt (eq_by_cmp_equiv total) (changes later) k c e in
      let begun : t.start ≡ start_of (eq_by_cmp cmp) c later = s.table.start ∙ sym (s.extends.begins c l lt) in
      let none : [] ≡ verdicts_of c later = sym (s.extends.verdicts c ∙ (s.table.ungiven c l).0) in
      some_then (value_at nat_cmp t.cells c) (s.stored k c e l)
      (λ y h.
      let S : Bool → Type 0 = λ b. IsHealthAfter b (verdicts_of c later) y.health in
      let V : List Verdict → Type 0 = λ vs. IsHealthAfter t.start vs y.health in
      subst S begun (subst V none h.1)))
      (cases_lt c (given_after (eq_by_cmp cmp) events))
  kept-later events later t by_key next s c (inr h) =
      kept-still events later t by_key next s c (inr (sym (held-still events later s.extends c) ∙ h))

  -- a change is whole once its numbering is the table's
  pub committed :
      (events later : List (CellEvent K)) (t : TableValue K) (by_key : List (K × ℕ)) (next : ℕ)
      → IsStarted cmp events later t by_key next → IsTableAfter cmp later (record t { by_key = by_key; next = next })
  committed events later t by_key next s =
      let given : ℕ = given_after (eq_by_cmp cmp) events in
      record {
        numbering = s.numbering;
        start = s.table.start ∙ sym s.extends.start;
        holds = s.table.holds ∙ sym s.extends.holds;
        targets = λ k c e.
            ⊎_elim (λ (l : c < given). s.table.targets k c (s.extends.old k c e l))
            (λ (l : given ≤ c). some_then (value_at nat_cmp t.cells c) (s.stored k c e l) (λ y h. h.0))
            (cases_lt c given);
        kept = kept-later events later t by_key next s;
        ungiven = λ c l.
            let low : given ≤ c = omega (arith, s.extends.grows, l) in
            (s.extends.verdicts c ∙ (s.table.ungiven c low).0, held-still events later s.extends c ∙ (s.table.ungiven c low).1);
      }

  -- what is stored with a key is kept, where the key's target has it or a live snapshot
  pub keeps-kept :
      (events : List (CellEvent K)) (t : TableValue K) → IsTableAfter cmp events t → (c : ℕ) (x : Cell K)
      → keeps_cell cmp t.by_key t.held c x.key ≡ true → IsKept cmp events c
  keeps-kept events t table c x e =
      ⊎_elim
      (λ (here : is_cell c (value_at cmp t.by_key x.key) ≡ true).
      let at : value_at cmp t.by_key x.key ≡ Some c = cell_is c (value_at cmp t.by_key x.key) here in
      inl (x.key, sym (table.numbering.cells x.key) ∙ at))
      (λ (held : list_any (λ h. list_any (eq_by_cmp nat_cmp c) h.cells) t.held ≡ true).
      inr (ap (λ hs. list_any (λ h. list_any (eq_by_cmp nat_cmp c) h.cells) hs) (sym table.holds) ∙ held))
      (or_cases (is_cell c (value_at cmp t.by_key x.key)) (list_any (λ h. list_any (eq_by_cmp nat_cmp c) h.cells) t.held) e)

  -- and what is kept is found so
  pub kept-keeps :
      (events : List (CellEvent K)) (t : TableValue K) → IsTableAfter cmp events t → (c : ℕ) (x : Cell K)
      → value_at nat_cmp t.cells c ≡ Some x → IsKept cmp events c → keeps_cell cmp t.by_key t.held c x.key ≡ true
  kept-keeps events t table c x e (inl (k, h)) =
      let same : eq_by_cmp cmp k x.key ≡ true = some_at (λ (y : Cell K). eq_by_cmp cmp k y.key ≡ true) (value_at nat_cmp t.cells c) x e
      (table.targets k c h) in
      let at : value_at cmp t.by_key x.key ≡ Some c
      = table.numbering.cells x.key ∙ sym (cell_now-same (eq_by_cmp_equiv total) (changes events) k x.key same) ∙ h in
      ap (λ o. is_cell c o || list_any (λ h. list_any (eq_by_cmp nat_cmp c) h.cells) t.held) at
      ∙ ap (λ b. b || list_any (λ h. list_any (eq_by_cmp nat_cmp c) h.cells) t.held) (eqb-refl c)
  kept-keeps events t table c x e (inr h) =
      ap (λ b. is_cell c (value_at cmp t.by_key x.key) || b)
      (ap (λ hs. list_any (λ h. list_any (eq_by_cmp nat_cmp c) h.cells) hs) table.holds ∙ h)
      ∙ or_true (is_cell c (value_at cmp t.by_key x.key))

  -- a cell that is not stored is not kept
  pub kept-stored :
      (events : List (CellEvent K)) (t : TableValue K) → IsTableAfter cmp events t → (c : ℕ) → value_at nat_cmp t.cells c ≡ None
      → IsKept cmp events c → ⊥
  kept-stored events t table c e h =
      let P : Option (Cell K) → Type 0
      = λ o. IsSomeAnd o (λ y. IsHealthAfter (start_of (eq_by_cmp cmp) c events) (verdicts_of c events) y.health) in
      subst P e (table.kept c h)

  -- the health of what is stored and kept
  pub kept-health :
      (events : List (CellEvent K)) (t : TableValue K) → IsTableAfter cmp events t → (c : ℕ) (x : Cell K)
      → value_at nat_cmp t.cells c ≡ Some x → IsKept cmp events c
      → IsHealthAfter (start_of (eq_by_cmp cmp) c events) (verdicts_of c events) x.health
  kept-health events t table c x e h =
      some_at (λ (y : Cell K). IsHealthAfter (start_of (eq_by_cmp cmp) c events) (verdicts_of c events) y.health)
      (value_at nat_cmp t.cells c) x e (table.kept c h)

  -- without the cells that aren't kept
  pub prunes :
      (events : List (CellEvent K)) (t : TableValue K) (more : List (ℕ × Cell K)) → IsTableAfter cmp events t
      → IsStrictlySortedBy nat_cmp (keys_of t.cells)
      → more ≡ filter (λ (e : ℕ × Cell K). keeps_cell cmp t.by_key t.held e.0 e.1.key) t.cells
      → IsTableAfter cmp events (record t { cells = more })
  prunes events t more table sorted is =
      let distinct = IsDistinct-from_sorted nat_cmp (keys_of t.cells) sorted in
      table-stays events t more table (λ c h. prune_at c h (value_at nat_cmp t.cells c) refl distinct)
    where
      prune_at :
          (c : ℕ) → IsKept cmp events c → (o : Option (Cell K)) → value_at nat_cmp t.cells c ≡ o
          → IsDistinct (eq_by_cmp nat_cmp) (keys_of t.cells)
          → value_at nat_cmp more c ≡ value_at nat_cmp t.cells c
      prune_at c h None e d = absurd (kept-stored events t table c e h)
      prune_at c h (Some x) e d =
          ap (λ es. value_at nat_cmp es c) is ∙ filtered (λ (e : ℕ × Cell K). keeps_cell cmp t.by_key t.held e.0 e.1.key) c t.cells x d e
          ∙ ap (λ b. cond b (Some x) None) (kept-keeps events t table c x e h) ∙ sym e

  pub pruned_only :
      (events : List (CellEvent K)) (t : TableValue K) (more : List (ℕ × Cell K)) → IsTableAfter cmp events t
      → IsStrictlySortedBy nat_cmp (keys_of t.cells)
      → more ≡ filter (λ (e : ℕ × Cell K). keeps_cell cmp t.by_key t.held e.0 e.1.key) t.cells
      → IsPruned cmp events (record t { cells = more })
  pruned_only events t more table sorted is c some =
      left_at (value_at nat_cmp t.cells c) refl (IsDistinct-from_sorted nat_cmp (keys_of t.cells) sorted)
    where
      left : ℕ × Cell K → Bool
      left e = keeps_cell cmp t.by_key t.held e.0 e.1.key

      left_at : (o : Option (Cell K)) → value_at nat_cmp t.cells c ≡ o → IsDistinct (eq_by_cmp nat_cmp) (keys_of t.cells)
          → IsKept cmp events c
      left_at None e d =
          absurd
          (true≢false
          (sym some
          ∙ ap is_some (ap (λ es. value_at nat_cmp es c) is
          ∙ filtered_none (is_at (nat_cmp c)) (λ (e : ℕ × Cell K). keeps_cell cmp t.by_key t.held e.0 e.1.key) t.cells e)))
      left_at (Some x) e d =
          let at : value_at nat_cmp more c ≡ cond (keeps_cell cmp t.by_key t.held c x.key) (Some x) None
          = ap (λ es. value_at nat_cmp es c) is
          ∙ filtered (λ (e : ℕ × Cell K). keeps_cell cmp t.by_key t.held e.0 e.1.key) c t.cells x d e in
          either (keeps_cell cmp t.by_key t.held c x.key) (λ b. keeps-kept events t table c x b)
          (λ b. absurd (true≢false (sym some ∙ ap is_some (at ∙ ap (λ b. cond b (Some x) None) b))))

  -- a verdict reaches a cell
  pub observed :
      (events : List (CellEvent K)) (t : TableValue K) → IsTableAfter cmp events t
      → (c : ℕ) (v : Verdict) (x made : Cell K) (more : List (ℕ × Cell K))
      → value_at nat_cmp t.cells c ≡ Some x → IsKept cmp events c → made.key ≡ x.key
      → IsHealthAfter (start_of (eq_by_cmp cmp) c events) (v ∷ verdicts_of c events) made.health
      → ((d : ℕ) → value_at nat_cmp more d ≡ cond (is_at (nat_cmp c) d) (Some made) (value_at nat_cmp t.cells d))
      → IsTableAfter cmp (Observed c v ∷ events) (record t { cells = more })
  observed events t table c v x made more e h key health u =
      record {
        numbering = table.numbering;
        start = table.start;
        holds = table.holds;
        targets = λ k d f. target_at k d f (c == d) refl;
        kept = λ d f. kept_at d f (c == d) refl;
        ungiven = λ d l.
            let ne : (c == d) ≡ false = number_apart c d (omega (arith, kept-given events t table c h, l)) in
            (ap (λ b. cond b (v ∷ verdicts_of d events) (verdicts_of d events)) ne ∙ (table.ungiven d l).0, (table.ungiven d l).1);
      }
    where
      number_apart : (a b : ℕ) → a < b → (a == b) ≡ false
      number_apart a b l = let ne : a ≡ b → ⊥ = λ e. omega arith in ne_eqb a b ne

      at_same : (d : ℕ) → (c == d) ≡ true → value_at nat_cmp more d ≡ Some made
      at_same d s = u d ∙ ap (λ b. cond b (Some made) (value_at nat_cmp t.cells d)) (unsigned_tied c d ∙ s)

      at_apart : (d : ℕ) → (c == d) ≡ false → value_at nat_cmp more d ≡ value_at nat_cmp t.cells d
      at_apart d s = u d ∙ ap (λ b. cond b (Some made) (value_at nat_cmp t.cells d)) (unsigned_tied c d ∙ s)

      target_at :
          (k : K) (d : ℕ) → cell_now (eq_by_cmp cmp) (changes events) k ≡ Some d → (b : Bool) → (c == d) ≡ b
          → IsSomeAnd (value_at nat_cmp more d) (λ y. eq_by_cmp cmp k y.key ≡ true)
      target_at k d f true s =
          let same : eq_by_cmp cmp k x.key ≡ true
          = some_at (λ (y : Cell K). eq_by_cmp cmp k y.key ≡ true) (value_at nat_cmp t.cells d) x
          (ap (value_at nat_cmp t.cells) (sym (eqb-true c d s)) ∙ e) (table.targets k d f) in
          some_from (λ (y : Cell K). eq_by_cmp cmp k y.key ≡ true) (value_at nat_cmp more d) made (at_same d s) (ap (eq_by_cmp cmp k) key
          ∙ same)
      target_at k d f false s =
          let P : Option (Cell K) → Type 0 = λ o. IsSomeAnd o (λ y. eq_by_cmp cmp k y.key ≡ true) in
          subst P (sym (at_apart d s)) (table.targets k d f)

      kept_at :
          (d : ℕ) → IsKept cmp events d → (b : Bool) → (c == d) ≡ b
          → IsSomeAnd (value_at nat_cmp more d)
          (λ y. IsHealthAfter (start_of (eq_by_cmp cmp) d events) (verdicts_of d (Observed c v ∷ events)) y.health)
      kept_at d f true s =
          let P : ℕ → Type 0 = λ n. IsHealthAfter (start_of (eq_by_cmp cmp) n events) (v ∷ verdicts_of n events) made.health in
          let V : List Verdict → Type 0 = λ vs. IsHealthAfter (start_of (eq_by_cmp cmp) d events) vs made.health in
          some_from (λ (y : Cell K). IsHealthAfter (start_of (eq_by_cmp cmp) d events) (verdicts_of d (Observed c v ∷ events)) y.health)
          (value_at nat_cmp more d) made (at_same d s)
          (subst V (sym (ap (λ b. cond b (v ∷ verdicts_of d events) (verdicts_of d events)) s)) (subst P (eqb-true c d s) health))
      kept_at d f false s =
          let P : Option (Cell K) → Type 0
          = λ o. IsSomeAnd o (λ y. IsHealthAfter (start_of (eq_by_cmp cmp) d events) (verdicts_of d (Observed c v ∷ events)) y.health) in
          let V : List Verdict → Type 0
          = λ vs. IsSomeAnd (value_at nat_cmp t.cells d) (λ y. IsHealthAfter (start_of (eq_by_cmp cmp) d events) vs y.health) in
          subst P (sym (at_apart d s))
          (subst V (sym (ap (λ b. cond b (v ∷ verdicts_of d events) (verdicts_of d events)) s)) (table.kept d f))

  pub observed_only :
      (events : List (CellEvent K)) (t : TableValue K) (c : ℕ) (v : Verdict) (x made : Cell K) (more : List (ℕ × Cell K))
      → value_at nat_cmp t.cells c ≡ Some x
      → ((d : ℕ) → value_at nat_cmp more d ≡ cond (is_at (nat_cmp c) d) (Some made) (value_at nat_cmp t.cells d))
      → IsPruned cmp events t → IsPruned cmp (Observed c v ∷ events) (record t { cells = more })
  observed_only events t c v x made more e u only d some =
      either (is_at (nat_cmp c) d)
      (λ s. only d (ap (λ n. is_some (value_at nat_cmp t.cells n)) (sym (eqb-true c d (sym (unsigned_tied c d) ∙ s))) ∙ ap is_some e))
      (λ s. only d (sym (ap is_some (u d ∙ ap (λ b. cond b (Some made) (value_at nat_cmp t.cells d)) s)) ∙ some))

  -- a snapshot begins to live
  pub holding_only :
      (events : List (CellEvent K)) (t : TableValue K) (view generation : ℕ) (cells : List ℕ) (more : List Hold)
      → IsPruned cmp events t → IsPruned cmp (Held view generation cells ∷ events) (record t { held = more })
  holding_only events t view generation cells more only c some = widen (only c some) where
    has : Hold → Bool
    has h = list_any (eq_by_cmp nat_cmp c) h.cells

    widen : IsKept cmp events c → IsKept cmp (Held view generation cells ∷ events) c
    widen (inl h) = inl h
    widen (inr h) =
        inr
        (list_any-append has (holds_after events) (record { view = view; generation = generation; cells = cells } ∷ [])
        ∙ ap (λ b. b || list_any has (record { view = view; generation = generation; cells = cells } ∷ [])) h)

  pub holding :
      (events : List (CellEvent K)) (t : TableValue K) → IsTableAfter cmp events t
      → (view generation : ℕ) (cells : List ℕ) (more : List Hold)
      → ((c : ℕ) → list_any (eq_by_cmp nat_cmp c) cells ≡ true → IsKept cmp events c)
      → more ≡ t.held ++ record { view = view; generation = generation; cells = cells } ∷ []
      → IsTableAfter cmp (Held view generation cells ∷ events) (record t { held = more })
  holding events t table view generation cells more kept is =
      record {
        numbering = table.numbering;
        start = table.start;
        holds = is ∙ ap (λ hs. hs ++ record { view = view; generation = generation; cells = cells } ∷ []) table.holds;
        targets = table.targets;
        kept = λ c h. table.kept c (kept_at c h);
        ungiven = λ c l. ((table.ungiven c l).0, not_held c l);
      }
    where
      now : Hold
      now = record { view = view; generation = generation; cells = cells }

      held_as :
          (c : ℕ) → is_held c (Held view generation cells ∷ events) ≡ (is_held c events || list_any (eq_by_cmp nat_cmp c) cells)
      held_as c =
          list_any-append (λ (h : Hold). list_any (eq_by_cmp nat_cmp c) h.cells) (holds_after events)
          (record { view = view; generation = generation; cells = cells } ∷ [])
          ∙ ap (λ b. is_held c events || b) (or-false (list_any (eq_by_cmp nat_cmp c) cells))

      kept_at : (c : ℕ) → IsKept cmp (Held view generation cells ∷ events) c → IsKept cmp events c
      kept_at c (inl h) = inl h
      kept_at c (inr h) =
          ⊎_elim (λ (was : is_held c events ≡ true). inr was) (λ (new : list_any (eq_by_cmp nat_cmp c) cells ≡ true). kept c new)
          (or_cases (is_held c events) (list_any (eq_by_cmp nat_cmp c) cells) (sym (held_as c) ∙ h))

      not_held : (c : ℕ) → given_after (eq_by_cmp cmp) events ≤ c → is_held c (Held view generation cells ∷ events) ≡ false
      not_held c l =
          held_as c ∙ ap (λ b. b || list_any (eq_by_cmp nat_cmp c) cells) (table.ungiven c l).1
          ∙ either (list_any (eq_by_cmp nat_cmp c) cells) (λ b. absurd (omega (arith, kept-given events t table c (kept c b), l))) (λ b. b)

  -- a snapshot's life ends
  pub releasing :
      (events : List (CellEvent K)) (t : TableValue K) → IsTableAfter cmp events t → (view generation : ℕ) (more : List Hold)
      → more ≡ filter (λ h. not (is_hold_of view generation h)) t.held
      → IsTableAfter cmp (Released view generation ∷ events) (record t { held = more })
  releasing events t table view generation more is =
      record {
        numbering = table.numbering;
        start = table.start;
        holds = is ∙ ap (filter (λ h. not (is_hold_of view generation h))) table.holds;
        targets = table.targets;
        kept = λ c h. table.kept c (kept_at c h);
        ungiven = λ c l. (
          (table.ungiven c l).0,
          either (is_held c (Released view generation ∷ events))
              (λ b. absurd (true≢false (sym (still c b) ∙ (table.ungiven c l).1)))
              (λ b. b),
        );
      }
    where
      still : (c : ℕ) → is_held c (Released view generation ∷ events) ≡ true → is_held c events ≡ true
      still c b = any-filtered (λ (h : Hold). list_any (eq_by_cmp nat_cmp c) h.cells) (λ h. not (is_hold_of view generation h))
          (holds_after events) b

      kept_at : (c : ℕ) → IsKept cmp (Released view generation ∷ events) c → IsKept cmp events c
      kept_at c (inl h) = inl h
      kept_at c (inr h) = inr (still c h)
