-- What events do to the snapshots of a view, over plain variables.
use Rattle.std.proofs.Common.{◌≡◌, ◌≤◌, ◌+◌, ◌==◌, ◌∙◌, ℕ, zero, suc, Bool, true, false, cond, List, [], ◌∷◌, ◌++◌}
use Rattle.std.proofs.Common.{filter, refl, sym, ap, arith}
use Rattle.std.specs.Prelude.{Some, nat_lt, replicate}
use Rattle.std.specs.List.{AllByRecursion as Each, list_any, find}
use Rattle.std.specs.Option.{IsSomeAnd}
use Rattle.std.proofs.lemmas.Bool.{eq-eqb, ne_eqb}
use Rattle.lb_select_base.specs.Backends.{Member, same_member}
use Rattle.lb_rebuild_core.specs.GroupHistory as group
use Rattle.lb_rebuild_core.specs.SlotsHistory as slots
use Rattle.lb_rebuild_core.specs.SlotsHistory.{SlotsEvent, Scheduled, Cancelled, At, newest, members_of}
use Rattle.lb_world.specs.GroupEvents.{cells_in}
use Rattle.lb_health_view.specs.Snapshots.{SnapshotValue, held_more, held_less, at_generation}
use Rattle.lb_health_view.specs.ViewEvents.{ViewEvent, Shown, Held, Released, Set, generation_after, membership_after, by_age}
use Rattle.lb_health_view.specs.ViewEvents.{snapshots_after}

module _ {X : Type 0} (P : X → Type 0) where
  pub each-filter : (t : X → Bool) (xs : List X) → Each P xs → Each P (filter t xs)
  each-filter t [] each = tt
  each-filter t (x ∷ xs) each = kept (t x) (each-filter t xs each.1)
    where
      kept : (b : Bool) → Each P (filter t xs) → Each P (cond b (x ∷ filter t xs) (filter t xs))
      kept true rest = (each.0, rest)
      kept false rest = rest

  pub each-append : (xs ys : List X) → Each P xs → Each P ys → Each P (xs ++ ys)
  each-append [] ys each rest = rest
  each-append (x ∷ xs) ys each rest = (each.0, each-append xs ys each.1 rest)

module _ {X : Type 0} (P Q : X → Type 0) (weaker : (x : X) → P x → Q x) where
  pub each-weaker : (xs : List X) → Each P xs → Each Q xs
  each-weaker [] each = tt
  each-weaker (x ∷ xs) each = (weaker x each.0, each-weaker xs each.1)

module _ (P : SnapshotValue → Type 0) where
  pub each-at : (g : ℕ) (f : SnapshotValue → SnapshotValue) (ss : List SnapshotValue) → ((s : SnapshotValue) → P s → P (f s)) → Each P ss
      → Each P (at_generation g f ss)
  each-at g f [] keeps each = tt
  each-at g f (s ∷ ss) keeps each = either (s.generation == g) (each-at g f ss keeps each.1)
    where
      either : (b : Bool) → Each P (at_generation g f ss) → Each P (cond b (f s ∷ ss) (s ∷ at_generation g f ss))
      either true rest = (keeps s each.0, each.1)
      either false rest = (each.0, rest)

  pub each-age : (ss : List SnapshotValue) → Each P ss → Each P (by_age ss)
  each-age [] each = tt
  each-age (s ∷ ss) each = each-append P ss (s ∷ []) each.1 (each.0, tt)

-- a snapshot has the members and the cells of its generation
abbrev pub Fits : slots.History → (ℕ → List (Member × ℕ)) → SnapshotValue → Type 0
Fits k cells s = (s.generation ≤ newest k) × (s.members ≡ members_of s.generation k) × (s.cells ≡ cells s.generation)

-- a view follows its group
pub record Follows (k : slots.History) (views : List ViewEvent) (cells : ℕ → List (Member × ℕ)) : Type 0 where
  pub generation : generation_after views ≡ newest k
  pub membership : membership_after views ≡ members_of (newest k) k
  pub snapshots : Each (Fits k cells) (snapshots_after views)

abbrev pub unscheduled : SlotsEvent → Bool
unscheduled (Scheduled ms now) = false
unscheduled e = true

-- an event that is no membership
one-else : (e : SlotsEvent) (k : slots.History) (views : List ViewEvent) (cells : ℕ → List (Member × ℕ)) → unscheduled e ≡ true
    → Follows k views cells → Follows (e ∷ k) views cells
one-else (Scheduled ms now) k views cells u f = absurd (cc)
one-else Cancelled k views cells u f = record { generation = f.generation; membership = f.membership; snapshots = f.snapshots }
one-else (At i e) k views cells u f = record { generation = f.generation; membership = f.membership; snapshots = f.snapshots }

module _ (k : slots.History) (cells : ℕ → List (Member × ℕ)) where
  held : (n : ℕ) (views : List ViewEvent) → Follows k views cells → Follows k (Held n ∷ views) cells
  held n views f =
      record {
        generation = f.generation;
        membership = f.membership;
        snapshots = each-at (Fits k cells) n held_more (snapshots_after views) (λ s p. p) f.snapshots;
      }

  released : (n : ℕ) (views : List ViewEvent) → Follows k views cells → Follows k (Released n ∷ views) cells
  released n views f =
      record {
        generation = f.generation;
        membership = f.membership;
        snapshots = each-filter (Fits k cells) _ (at_generation n held_less (snapshots_after views))
            (each-at (Fits k cells) n held_less (snapshots_after views) (λ s p. p) f.snapshots);
      }

  set : (b : Member) (on : Bool) (views : List ViewEvent) → Follows k views cells → Follows k (Set b on ∷ views) cells
  set b on views f = record { generation = f.generation; membership = f.membership; snapshots = f.snapshots }

  -- a new membership
  shown : (ms : List Member) (now : ℕ) (new : List (Member × ℕ)) (views : List ViewEvent) → Follows k views cells
      → Follows (Scheduled ms now ∷ k) (Shown ms new ∷ views) (λ n. cond (newest k + 1 == n) new (cells n))
  shown ms now new views f =
      let next : newest k + 1 ≡ generation_after views + 1 = ap (λ (n : ℕ). n + 1) (sym f.generation) in
      record {
        generation = sym next;
        membership = sym (rw (eq-eqb (newest k + 1) (newest k + 1) refl) refl);
        snapshots = (
          (
            (let e : newest k + 1 ≡ generation_after views + 1 = next in omega arith),
            rw (eq-eqb (newest k + 1) (generation_after views + 1) next) refl,
            rw (eq-eqb (newest k + 1) (generation_after views + 1) next) refl,
          ),
          each-filter (Fits (Scheduled ms now ∷ k) (λ n. cond (newest k + 1 == n) new (cells n))) _ (by_age (snapshots_after views))
              (each-age (Fits (Scheduled ms now ∷ k) (λ n. cond (newest k + 1 == n) new (cells n))) (snapshots_after views)
              (each-weaker (Fits k cells) (Fits (Scheduled ms now ∷ k) (λ n. cond (newest k + 1 == n) new (cells n)))
              (λ s p.
              let old : s.generation ≤ newest k = p.0 in
              let off : ¬ (newest k + 1 ≡ s.generation) = λ e. omega arith in (
                omega arith,
                p.1 ∙ sym (rw (ne_eqb (newest k + 1) s.generation off) refl),
                p.2
                    ∙ sym (rw (ne_eqb (newest k + 1) s.generation off) refl),
              ))
              (snapshots_after views) f.snapshots)),
        );
      }

-- a new view, whose first generation so many slots hold
first : (k : ℕ) → Follows [] (replicate k (Held 0)) (λ n. [])
first zero = record { generation = refl; membership = refl; snapshots = ((omega arith, refl, refl), tt) }
first (suc k) = held [] (λ n. []) 0 (replicate k (Held 0)) (first k)

-- what a slot's event holds or lets go
holds : (k : slots.History) (cells : ℕ → List (Member × ℕ)) (there : Bool) (x : slots.SlotEvent) (p : slots.History)
    (views : List ViewEvent) → Follows k views cells → Follows k (group.hold_events there x p ++ views) cells
holds k cells true (slots.Granted now) p views f = held k cells (newest p) views f
holds k cells false (slots.Granted now) p views f = f
holds k cells true (slots.Failed now ms) p views f = released k cells (slots.granted p) views f
holds k cells false (slots.Failed now ms) p views f = f
holds k cells true slots.Destroyed p views f = released k cells (slots.generation_of (slots.extra p)) views f
holds k cells false slots.Destroyed p views f = f
holds k cells there x p views f = f

pub settings-cells : (n : ℕ) (settings : List (Member × Bool)) (e : group.History)
    → cells_in n (group.after_settings settings e) ≡ cells_in n e
settings-cells n [] e = refl
settings-cells n (s ∷ rest) e =
    settings-cells n rest _ ∙ either (list_any (same_member s.0) (group.members_now e))
  where
    either : (b : Bool) → cells_in n (cond b (group.Set s.0 s.1 ∷ e) e) ≡ cells_in n e
    either true = refl
    either false = refl

-- the view of a joined group follows the group
pub joined-follows : (k : ℕ) (e : group.History) → Follows (group.slot_events e) (group.view_events k e) (λ n. cells_in n e)
joined-follows k [] = first k
joined-follows k (group.Shown ms cells now ∷ e) =
    shown (group.slot_events e) (λ n. cells_in n e) ms now cells (group.view_events k e) (joined-follows k e)
joined-follows k (group.Set b on ∷ e) = set (group.slot_events e) (λ n. cells_in n e) b on (group.view_events k e) (joined-follows k e)
joined-follows k (group.Cancelled ∷ e) =
    one-else Cancelled (group.slot_events e) (group.view_events k e) (λ n. cells_in n e) refl (joined-follows k e)
joined-follows k (group.At i x ∷ e) =
    one-else (At i x) (group.slot_events e) _ (λ n. cells_in n e) refl
    (holds (group.slot_events e) (λ n. cells_in n e) (nat_lt i k) x (slots.past_of i (group.slot_events e)) (group.view_events k e)
    (joined-follows k e))

-- what a look-up finds is one of the list
module _ {X : Type 0} (P Q : X → Type 0) (t : X → Bool) where
  abbrev Found : Type 0
  Found = (x : X) × P x × (t x ≡ true) × Q x

  or-later : (x : X) (xs : List X) (b : Bool) → t x ≡ b → P x → (IsSomeAnd (find t xs) Q → Found)
      → IsSomeAnd (cond b (Some x) (find t xs)) Q → Found
  or-later x xs true is p later f = (x, p, is, f)
  or-later x xs false is p later f = later f

  pub found-one : (xs : List X) → Each P xs → IsSomeAnd (find t xs) Q → Found
  found-one [] each found = absurd found
  found-one (x ∷ xs) each found = or-later x xs (t x) refl each.0 (λ f. found-one xs each.1 f) found
