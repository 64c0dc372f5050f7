-- The snapshot of a generation by its place among those that live.
use Rattle.std.proofs.Common.{◌≡◌, ◌≤◌, ◌<◌, ℕ, ◌+◌, Bool, true, false, not, cond, List, [], ◌∷◌, ◌++◌, map, length, get_or, refl, sym, ◌∙◌}
use Rattle.std.proofs.Common.{ap, suc, zero, arith, Some, None}
use Rattle.std.proofs.lemmas.Bool.{ltb-false, false≢true, eq-eqb, ne_eqb}
use Rattle.std.proofs.lemmas.List.{get_or-map, length-map, map-append}
use Rattle.std.proofs.lemmas.List.Quantifiers.{position-Some}
use Rattle.std.specs.Prelude.{All, ◌^◌}
use Rattle.std.proofs.lemmas.Bool.{eqb-true}
use Rattle.std.specs.List.{position, position_or_len, list_any}
use Rattle.std.specs.Option.{is_none}
use Rattle.std.specs.Prelude.{nat_lt, slice_set, if◌then◌else◌, ◌==◌, ◌||◌}
use Rattle.lb_health_view.specs.Snapshots.{SnapshotValue, snapshot_of, snapshot_at, at_generation, lists_in, living}
use Rattle.lb_health_view.specs.ViewEvents.{by_age}
use Rattle.lb_health_view.specs.RegistrySide.{lives}
use Rattle.lb_select_base.specs.Backends.{Member, same_member}
use Rattle.lb_health_view.specs.declared.snapshot.ViewSnapshot.{ViewSnapshot}

-- a test that no element passes
pub none_passes : {X : Type 0} (p : X → Bool) (xs : List X) → length xs ≤ position_or_len p xs → list_any p xs ≡ false
none_passes p [] h = refl
none_passes p (x ∷ xs) h =
    elim (p x) as (λ b. length (x ∷ xs) ≤ cond (not b) (1 + position_or_len p xs) 0 → (b || list_any p xs) ≡ false)
    [ true ↦ λ e. absurd (omega arith) | false ↦ λ e. none_passes p xs (omega arith) ] h

pub position-None : {X : Type 0} (p : X → Bool) (xs : List X) → position p xs ≡ None → list_any p xs ≡ false
position-None p xs h =
    elim (nat_lt (position_or_len p xs) (length xs)) as (λ b. nat_lt (position_or_len p xs) (length xs) ≡ b
    → cond b (Some (position_or_len p xs)) None ≡ None → list_any p xs ≡ false)
    [ true ↦ λ e n. absurd (false≢true (ap is_none n)) | false ↦ λ e n. none_passes p xs (ltb-false _ _ e) ] refl h

-- where no snapshot is of this generation, nothing changes
pub at_missing : (g : ℕ) (f : SnapshotValue → SnapshotValue) (ss : List ViewSnapshot) → list_any (λ s. s.generation == g) ss ≡ false
    → at_generation g f (map snapshot_of ss) ≡ map snapshot_of ss
at_missing g f [] h = refl
at_missing g f (s ∷ ss) h =
    elim (s.generation == g) as (λ b. (b || list_any (λ (x : ViewSnapshot). x.generation == g) ss) ≡ false
    → (if b then f (snapshot_of s) ∷ map snapshot_of ss else snapshot_of s ∷ at_generation g f (map snapshot_of ss)) ≡ snapshot_of s ∷ map
    snapshot_of ss)
    [ true ↦ λ e. absurd (false≢true (sym e)) | false ↦ λ e. ap (λ rest. snapshot_of s ∷ rest) (at_missing g f ss e) ] h

-- the snapshot at the first place of its generation is the one that changes
pub at_place : (g : ℕ) (f : SnapshotValue → SnapshotValue) (ss : List ViewSnapshot) (i : ℕ) (d w : ViewSnapshot) → i < length ss
    → (get_or ss i d).generation == g ≡ true → ((k : ℕ) → k < i → (get_or ss k d).generation == g ≡ false)
    → snapshot_of w ≡ f (snapshot_of (get_or ss i d))
    → map snapshot_of (slice_set ss i w) ≡ at_generation g f (map snapshot_of ss)
at_place g f [] i d w l here before e = absurd (omega arith)
at_place g f (s ∷ ss) zero d w l here before e = rw here (ap (λ x. x ∷ map snapshot_of ss) e)
at_place g f (s ∷ ss) (suc i) d w l here before e =
    rw (before 0 (omega arith))
    (ap (λ rest. snapshot_of s ∷ rest) (at_place g f ss i d w (omega arith) here (λ k b. before (suc k) (omega arith)) e))

-- the current snapshot is of this generation, or it is passed over
pub at_current : (g : ℕ) (f : SnapshotValue → SnapshotValue) (s : SnapshotValue) (ss : List SnapshotValue) → s.generation ≡ g
    → at_generation g f (s ∷ ss) ≡ f s ∷ ss
at_current g f s ss e = rw (eq-eqb s.generation g e) refl

pub at_other : (g : ℕ) (f : SnapshotValue → SnapshotValue) (s : SnapshotValue) (ss : List SnapshotValue) → (s.generation ≡ g → ⊥)
    → at_generation g f (s ∷ ss) ≡ s ∷ at_generation g f ss
at_other g f s ss n = rw (ne_eqb s.generation g n) refl

-- the same by the place that the search gave
pub at_found : (g : ℕ) (f : SnapshotValue → SnapshotValue) (s : SnapshotValue) (ss : List ViewSnapshot) (i : ℕ) (x w : ViewSnapshot)
    → (s.generation ≡ g → ⊥)
    → position (λ (y : ViewSnapshot). y.generation == g) ss ≡ Some i → x ≡ get_or ss i x → snapshot_of w ≡ f (snapshot_of x)
    → s ∷ map snapshot_of (slice_set ss i w) ≡ at_generation g f (s ∷ map snapshot_of ss)
at_found g f s ss i x w n p here e =
    let there = position-Some (λ (y : ViewSnapshot). y.generation == g) ss i x p in
    ap (λ rest. s ∷ rest) (at_place g f ss i x w there.0 there.1 there.2 (e ∙ ap (λ y. f (snapshot_of y)) here))
    ∙ sym (at_other g f s (map snapshot_of ss) n)

pub at_none : (g : ℕ) (f : SnapshotValue → SnapshotValue) (s : SnapshotValue) (ss : List ViewSnapshot) → (s.generation ≡ g → ⊥)
    → position (λ (x : ViewSnapshot). x.generation == g) ss ≡ None → s ∷ map snapshot_of ss ≡ at_generation g f (s ∷ map snapshot_of ss)
at_none g f s ss n p = ap (λ rest. s ∷ rest) (sym (at_missing g f ss (position-None _ ss p))) ∙ sym (at_other g f s (map snapshot_of ss) n)

-- the count of the snapshot that the search found
pub count_at : (g : ℕ) (s : SnapshotValue) (ss : List ViewSnapshot) (i : ℕ) (d : ViewSnapshot)
    → All (λ (x : SnapshotValue). x.generation ≡ g → x.holds + 1 < 2 ^ 64) (s ∷ map snapshot_of ss)
    → position (λ (x : ViewSnapshot). x.generation == g) ss ≡ Some i → (get_or ss i d).holds + 1 < 2 ^ 64
count_at g s ss i d all p =
    let there = position-Some (λ (x : ViewSnapshot). x.generation == g) ss i d p in
    let seen : get_or (map snapshot_of ss) i (snapshot_of d) ≡ snapshot_of (get_or ss i d) =
    get_or-map snapshot_of ss i d (snapshot_of d) there.0 in
    let long : length (map snapshot_of ss) ≡ length ss = length-map ss snapshot_of in
    let here : (get_or (map snapshot_of ss) i (snapshot_of d)).generation ≡ g
    → (get_or (map snapshot_of ss) i (snapshot_of d)).holds + 1 < 2 ^ 64 = all (suc i) (snapshot_of d) (omega arith) in
    (rw seen at here) (eqb-true _ _ there.1)

-- whether a generation lives, by what contracts see
pub lives-seen : (g : ℕ) (ss : List ViewSnapshot) → list_any (λ (s : ViewSnapshot). s.generation == g) ss ≡ lives g (map snapshot_of ss)
lives-seen g [] = refl
lives-seen g (s ∷ ss) = ap (λ b. (s.generation == g) || b) (lives-seen g ss)

pub lives-other : (g : ℕ) (s : SnapshotValue) (ss : List SnapshotValue) → (s.generation ≡ g → ⊥) → lives g (s ∷ ss) ≡ lives g ss
lives-other g s ss n = rw (ne_eqb s.generation g n) refl

-- the snapshot at the first place of its generation is the one that is found
find_place : (g : ℕ) (ss : List ViewSnapshot) (i : ℕ) (d : ViewSnapshot) → i < length ss
    → (get_or ss i d).generation == g ≡ true → ((k : ℕ) → k < i → (get_or ss k d).generation == g ≡ false)
    → snapshot_at g (map snapshot_of ss) ≡ Some (snapshot_of (get_or ss i d))
find_place g [] i d l here before = absurd (omega arith)
find_place g (s ∷ ss) zero d l here before = rw here refl
find_place g (s ∷ ss) (suc i) d l here before =
    rw (before 0 (omega arith)) (find_place g ss i d (omega arith) here (λ k b. before (suc k) (omega arith)))

find_missing : (g : ℕ) (ss : List ViewSnapshot) → list_any (λ (s : ViewSnapshot). s.generation == g) ss ≡ false
    → snapshot_at g (map snapshot_of ss) ≡ None
find_missing g [] h = refl
find_missing g (s ∷ ss) h =
    elim (s.generation == g) as (λ b. (b || list_any (λ (x : ViewSnapshot). x.generation == g) ss) ≡ false
    → cond b (Some (snapshot_of s)) (snapshot_at g (map snapshot_of ss)) ≡ None)
    [ true ↦ λ e. absurd (false≢true (sym e)) | false ↦ λ e. find_missing g ss e ] h

pub find_found : (g : ℕ) (s : SnapshotValue) (ss : List ViewSnapshot) (i : ℕ) (x : ViewSnapshot) → (s.generation ≡ g → ⊥)
    → position (λ (y : ViewSnapshot). y.generation == g) ss ≡ Some i → x ≡ get_or ss i x
    → snapshot_at g (s ∷ map snapshot_of ss) ≡ Some (snapshot_of x)
find_found g s ss i x n p here =
    let there = position-Some (λ (y : ViewSnapshot). y.generation == g) ss i x p in
    rw (ne_eqb s.generation g n) (find_place g ss i x there.0 there.1 there.2 ∙ ap (λ y. Some (snapshot_of y)) (sym here))

pub find_none : (g : ℕ) (s : SnapshotValue) (ss : List ViewSnapshot) → (s.generation ≡ g → ⊥)
    → position (λ (y : ViewSnapshot). y.generation == g) ss ≡ None → snapshot_at g (s ∷ map snapshot_of ss) ≡ None
find_none g s ss n p = rw (ne_eqb s.generation g n) (find_missing g ss (position-None _ ss p))

-- what a snapshot among these lists, they list
lists_place : (b : Member) (ss : List ViewSnapshot) (i : ℕ) (d : ViewSnapshot) → i < length ss
    → list_any (same_member b) (snapshot_of (get_or ss i d)).members ≡ true → lists_in b (map snapshot_of ss) ≡ true
lists_place b [] i d l e = absurd (omega arith)
lists_place b (s ∷ ss) zero d l e = rw e refl
lists_place b (s ∷ ss) (suc i) d l e =
    elim (list_any (same_member b) (snapshot_of s).members) as (λ t. (t || lists_in b (map snapshot_of ss)) ≡ true) [
      | true ↦ refl
      | false ↦ lists_place b ss i d (omega arith) e
    ]

pub lists_found : (b : Member) (s : SnapshotValue) (ss : List ViewSnapshot) (i : ℕ) (g : ℕ) (x : ViewSnapshot)
    → position (λ (y : ViewSnapshot). y.generation == g) ss ≡ Some i → x ≡ get_or ss i x
    → list_any (same_member b) (snapshot_of x).members ≡ true → lists_in b (s ∷ map snapshot_of ss) ≡ true
lists_found b s ss i g x p here e =
    let there = position-Some (λ (y : ViewSnapshot). y.generation == g) ss i x p in
    let inside : lists_in b (map snapshot_of ss) ≡ true =
    lists_place b ss i x there.0 (ap (λ y. list_any (same_member b) (snapshot_of y).members) (sym here) ∙ e) in
    elim (list_any (same_member b) s.members) as (λ t. (t || lists_in b (map snapshot_of ss)) ≡ true) [ true ↦ refl | false ↦ inside ]

-- a new snapshot is current, and the one before comes after the others as long as it lives
pub shown_snapshots : (n : ℕ) (new current : ViewSnapshot) (earlier : List ViewSnapshot) → new.generation ≡ n
    → living n (snapshot_of new ∷ map snapshot_of (earlier ++ current ∷ []))
    ≡ snapshot_of new ∷ living n (by_age (snapshot_of current ∷ map snapshot_of earlier))
shown_snapshots n new current earlier e =
    rw (eq-eqb new.generation n e) (ap (λ ss. snapshot_of new ∷ living n ss) (map-append snapshot_of earlier (current ∷ [])))
