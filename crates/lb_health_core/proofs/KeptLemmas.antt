-- Which cells are kept through a history: those of a live snapshot until it is released, and none that was kept no longer.
use Rattle.std.proofs.Common.{◌≡◌, ◌<◌, ◌≤◌, ℕ, ◌==◌, inl, inr, Bool, true, false, cond, not, ◌&&◌, ◌||◌, List, [], ◌∷◌, ◌++◌, filter}
use Rattle.std.proofs.Common.{Option, Some, None, true≢false, refl, sym, ap, ◌∙◌, arith}
use Rattle.std.proofs.lemmas.List.Folds.{list_any-append}
use Rattle.std.specs.List.{list_any}
use Rattle.std.specs.Option.{IsSomeAnd, is_some}
use Rattle.std.specs.Ordering.{eq_by_cmp, nat_cmp}
use borrow.Author.Tests.{eqb-true}
use Rattle.lb_select_base.specs.Backends.{Member, member_cmp, same_member}
use Rattle.lb_health_core.specs.CellEvents as cell
use Rattle.lb_health_core.specs.CellEvents.{CellEvent, Hold, is_hold_of, changes, holds_after, is_held, given_after, IsKept}
use Rattle.lb_health_core.specs.RegistryEvents.{Event, Registered, Applied, Updated, Marked, Observed, Held, Released, Configured}
use Rattle.lb_health_core.specs.RegistryEvents.{at_view, with_members, members_of, views_after, cell_events, cells_given, cells_by}
use Rattle.lb_health_core.specs.RegistryEvents.{cells_in, changes_after, held_cells, holds_cell, is_release, is_released, IsCellKept}
use Rattle.lb_health_core.specs.Targets.{live, target_keys}
use Rattle.lb_health_core.proofs.CellLemmas.{old_cell, starts-grow}
use Rattle.lb_health_core.proofs.ChangeLemmas.{cells_kept}
use Rattle.lb_health_core.proofs.TableLemmas.{any-filtered, or_true, eqb-refl}
use Rattle.lb_health_core.proofs.TargetLemmas.{member_laws}

-- what is there
pub some_is : {A : Type 0} (P : A → Type 0) (o : Option A) → IsSomeAnd o P → is_some o ≡ true
some_is P None h = absurd h
some_is P (Some x) h = refl

module _ (key_of : Member → Member) where
  -- a change gives no cell again
  changed_back :
      (es : List (CellEvent Member)) (keys : List Member) (c : ℕ) → c < given_after same_member es
      → IsKept member_cmp (cell.Changed keys ∷ es) c → IsKept member_cmp es c
  changed_back es keys c l (inl (k, e)) = inl (k, old_cell member_laws (changes es) keys k c e l)
  changed_back es keys c l (inr h) = inr h

  -- a snapshot begins to live with cells that are kept
  held_back :
      (es : List (CellEvent Member)) (id generation : ℕ) (members : List Member) (c : ℕ)
      → IsKept member_cmp (cell.Held id generation (cells_in (cells_by key_of (changes es) members)) ∷ es) c → IsKept member_cmp es c
  held_back es id generation members c (inl h) = inl h
  held_back es id generation members c (inr h) =
      by_hold (is_held c es) refl
      (sym
      (list_any-append (λ (x : Hold). list_any (eq_by_cmp nat_cmp c) x.cells) (holds_after es)
      (record { view = id; generation = generation; cells = cells_in (cells_by key_of (changes es) members) } ∷ []))
      ∙ h)
    where
      last : (b : Bool) → (b || false) ≡ true → b ≡ true
      last true e = refl
      last false e = e

      by_hold :
          (b : Bool) → is_held c es ≡ b → (b || (list_any (eq_by_cmp nat_cmp c) (cells_in (cells_by key_of (changes es) members)) || false))
          ≡ true
          → IsKept member_cmp es c
      by_hold true was e = inr was
      by_hold false was e = inl (cells_kept key_of (changes es) members c (last _ e))

  -- a release keeps no more
  released_back : (es : List (CellEvent Member)) (id generation c : ℕ) → IsKept member_cmp (cell.Released id generation ∷ es) c
      → IsKept member_cmp es c
  released_back es id generation c (inl h) = inl h
  released_back es id generation c (inr h) =
      inr (any-filtered (λ (x : Hold). list_any (eq_by_cmp nat_cmp c) x.cells) (λ x. not (is_hold_of id generation x)) (holds_after es) h)

  -- an event keeps no cell that has a number and wasn't kept
  step_back : (e : Event) (events : List Event) (c : ℕ) → c < cells_given key_of events → IsCellKept key_of c (e ∷ events)
      → IsCellKept key_of c events
  step_back Registered events c l h = h
  step_back Applied events c l h = changed_back (cell_events key_of events) (target_keys key_of (live (views_after events))) c l h
  step_back (Updated id members) events c l h =
      changed_back (cell_events key_of events) (target_keys key_of (at_view id (with_members members) (views_after events))) c l h
  step_back (Marked id) events c l h = h
  step_back (Observed d v) events c l h = h
  step_back (Held id generation) events c l h = held_back (cell_events key_of events) id generation (members_of id (views_after events)) c h
  step_back (Released id generation) events c l h = released_back (cell_events key_of events) id generation c h
  step_back (Configured healthy) events c l h = h

  -- numbers are given and not taken back
  given_more : (e : Event) (events : List Event) → cells_given key_of events ≤ cells_given key_of (e ∷ events)
  given_more Registered events = omega arith
  given_more Applied events = starts-grow member_laws (changes_after key_of events) [] (target_keys key_of (live (views_after events)))
  given_more (Updated id members) events =
      starts-grow member_laws (changes_after key_of events) [] (target_keys key_of (at_view id (with_members members) (views_after events)))
  given_more (Marked id) events = omega arith
  given_more (Observed d v) events = omega arith
  given_more (Held id generation) events = omega arith
  given_more (Released id generation) events = omega arith
  given_more (Configured healthy) events = omega arith

  given_later : (later events : List Event) → cells_given key_of events ≤ cells_given key_of (later ++ events)
  given_later [] events = omega arith
  given_later (e ∷ later) events = omega (arith, given_later later events, given_more e (later ++ events))

  pub kept_all_along :
      (later events : List Event) (c : ℕ) → c < cells_given key_of events → IsCellKept key_of c (later ++ events)
      → IsCellKept key_of c events
  kept_all_along [] events c l h = h
  kept_all_along (e ∷ later) events c l h =
      kept_all_along later events c l (step_back e (later ++ events) c (omega (arith, l, given_later later events)) h)

-- what passes a test and the filter is left
any_left : {X : Type 0} (p q : X → Bool) (xs : List X) → ((x : X) → p x ≡ true → q x ≡ true) → list_any p xs ≡ true
    → list_any p (filter q xs) ≡ true
any_left p q [] h e = e
any_left {X} p q (x ∷ xs) h e = left_by (p x) refl (q x) refl e (any_left p q xs h) where
  left_by :
      (b : Bool) → p x ≡ b → (t : Bool) → q x ≡ t → (b || list_any p xs) ≡ true → (list_any p xs ≡ true → list_any p (filter q xs) ≡ true)
      → list_any p (cond t (x ∷ filter q xs) (filter q xs)) ≡ true
  left_by true f true g e ih = ap (λ b. b || list_any p (filter q xs)) f
  left_by true f false g e ih = absurd (true≢false (sym (h x f) ∙ g))
  left_by false f true g e ih = ap (λ b. b || list_any p (filter q xs)) f ∙ ih e
  left_by false f false g e ih = ih e

and_first : (a b : Bool) → (a && b) ≡ true → a ≡ true
and_first true b e = refl
and_first false b e = e

and_second : (a b : Bool) → (a && b) ≡ true → b ≡ true
and_second true b e = e
and_second false b e = absurd (true≢false (sym e))

-- the release of another snapshot leaves this one
other_stays :
    (id g view generation c : ℕ) (h : Hold) → (id == view && g == generation) ≡ false
    → (is_hold_of id g h && list_any (eq_by_cmp nat_cmp c) h.cells) ≡ true → not (is_hold_of view generation h) ≡ true
other_stays id g view generation c h apart e =
    let here : is_hold_of id g h ≡ true = and_first (is_hold_of id g h) (list_any (eq_by_cmp nat_cmp c) h.cells) e in
    let of_view : h.view ≡ id = eqb-true h.view id (and_first (h.view == id) (h.generation == g) here) in
    let of_generation : h.generation ≡ g = eqb-true h.generation g (and_second (h.view == id) (h.generation == g) here) in
    ap not (ap (λ n. n == view && h.generation == generation) of_view ∙ ap (λ n. id == view && n == generation) of_generation ∙ apart)

module _ (key_of : Member → Member) where
  abbrev holds : ℕ → ℕ → ℕ → Hold → Bool
  holds id g c h = is_hold_of id g h && list_any (eq_by_cmp nat_cmp c) h.cells

  held_still :
      (id g c : ℕ) (e : Event) (events : List Event) → is_release id g e ≡ false → holds_cell key_of id g c events ≡ true
      → holds_cell key_of id g c (e ∷ events) ≡ true
  held_still id g c Registered events apart h = h
  held_still id g c Applied events apart h = h
  held_still id g c (Updated view members) events apart h = h
  held_still id g c (Marked view) events apart h = h
  held_still id g c (Observed d v) events apart h = h
  held_still id g c (Held view generation) events apart h =
      let now : Hold = record { view = view; generation = generation; cells = held_cells key_of view events } in
      list_any-append (holds id g c) (holds_after (cell_events key_of events)) (now ∷ [])
      ∙ ap (λ b. b || list_any (holds id g c) (now ∷ [])) h
  held_still id g c (Released view generation) events apart h =
      any_left (holds id g c) (λ x. not (is_hold_of view generation x)) (holds_after (cell_events key_of events))
      (λ x. other_stays id g view generation c x apart) h
  held_still id g c (Configured healthy) events apart h = h

  or_first : (a b : Bool) → (a || b) ≡ false → a ≡ false
  or_first true b e = e
  or_first false b e = refl

  or_second : (a b : Bool) → (a || b) ≡ false → b ≡ false
  or_second true b e = absurd (true≢false e)
  or_second false b e = e

  pub held_later :
      (later events : List Event) (id g c : ℕ) → is_released id g later ≡ false → holds_cell key_of id g c events ≡ true
      → holds_cell key_of id g c (later ++ events) ≡ true
  held_later [] events id g c apart h = h
  held_later (e ∷ later) events id g c apart h =
      held_still id g c e (later ++ events) (or_first (is_release id g e) (is_released id g later) apart)
      (held_later later events id g c (or_second (is_release id g e) (is_released id g later) apart) h)

  -- a snapshot that begins to live holds its cells
  held_now :
      (events : List Event) (id g c : ℕ) → list_any (eq_by_cmp nat_cmp c) (held_cells key_of id events) ≡ true
      → holds_cell key_of id g c (Held id g ∷ events) ≡ true
  held_now events id g c e =
      let now : Hold = record { view = id; generation = g; cells = held_cells key_of id events } in
      let it : holds id g c now ≡ true
      = ap (λ b. (b && g == g) && list_any (eq_by_cmp nat_cmp c) (held_cells key_of id events)) (eqb-refl id)
      ∙ ap (λ b. b && list_any (eq_by_cmp nat_cmp c) (held_cells key_of id events)) (eqb-refl g) ∙ e in
      list_any-append (holds id g c) (holds_after (cell_events key_of events)) (now ∷ [])
      ∙ ap (λ b. list_any (holds id g c) (holds_after (cell_events key_of events)) || (b || false)) it
      ∙ or_true (list_any (holds id g c) (holds_after (cell_events key_of events)))

  held_is : (c : ℕ) (id g : ℕ) (hs : List Hold) → list_any (holds id g c) hs ≡ true
      → list_any (λ h. list_any (eq_by_cmp nat_cmp c) h.cells) hs ≡ true
  held_is c id g [] e = e
  held_is c id g (h ∷ hs) e = is_by (holds id g c h) refl e (held_is c id g hs) where
    is_by :
        (b : Bool) → holds id g c h ≡ b → (b || list_any (holds id g c) hs) ≡ true
        → (list_any (holds id g c) hs ≡ true → list_any (λ x. list_any (eq_by_cmp nat_cmp c) x.cells) hs ≡ true)
        → (list_any (eq_by_cmp nat_cmp c) h.cells || list_any (λ x. list_any (eq_by_cmp nat_cmp c) x.cells) hs) ≡ true
    is_by true f e ih =
        ap (λ b. b || list_any (λ x. list_any (eq_by_cmp nat_cmp c) x.cells) hs)
        (and_second (is_hold_of id g h) (list_any (eq_by_cmp nat_cmp c) h.cells) f)
    is_by false f e ih = ap (λ b. list_any (eq_by_cmp nat_cmp c) h.cells || b) (ih e) ∙ or_true (list_any (eq_by_cmp nat_cmp c) h.cells)

  pub held_kept : (events : List Event) (id g c : ℕ) → holds_cell key_of id g c events ≡ true → IsCellKept key_of c events
  held_kept events id g c h = inr (held_is c id g (holds_after (cell_events key_of events)) h)

  pub snapshot_kept :
      (events later : List Event) (id g c : ℕ) → list_any (eq_by_cmp nat_cmp c) (held_cells key_of id events) ≡ true
      → is_released id g later ≡ false
      → holds_cell key_of id g c (later ++ Held id g ∷ events) ≡ true
  snapshot_kept events later id g c e apart = held_later later (Held id g ∷ events) id g c apart (held_now events id g c e)
