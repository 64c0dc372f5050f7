-- Snapshots whose cells are those of their members alone.
use Rattle.std.proofs.Common.{◌≡◌, ◌<◌, ℕ, zero, suc, Bool, true, false, cond, List, [], ◌∷◌, ◌++◌, map, filter, length, get_or, Some, sym}
use Rattle.std.proofs.Common.{subst, arith}
use Rattle.std.proofs.lemmas.List.Quantifiers.{position-Some}
use Rattle.std.specs.List.{position}
use Rattle.std.specs.Prelude.{◌==◌, if◌then◌else◌}
use Rattle.lb_health_core.specs.Registry.{HasOwnCells}
use Rattle.lb_health_view.specs.declared.snapshot.ViewSnapshot.{ViewSnapshot}
use Rattle.lb_health_view.specs.Internal.ViewInvariants.{HaveOwnCells}
use Rattle.lb_health_view.specs.Snapshots.{SnapshotValue, snapshot_of, at_generation}

-- a count of holds changes no cells
pub own-at : (g : ℕ) (f : SnapshotValue → SnapshotValue)
    → ((s : SnapshotValue) → HasOwnCells s.members s.cells → HasOwnCells (f s).members (f s).cells)
    → (ss : List SnapshotValue) → HaveOwnCells ss → HaveOwnCells (at_generation g f ss)
own-at g f keep [] h = h
own-at g f keep (s ∷ ss) h =
    elim (s.generation == g) as (λ t. HaveOwnCells (if t then f s ∷ ss else s ∷ at_generation g f ss))
    [ true ↦ (keep s h.0, h.1) | false ↦ (h.0, own-at g f keep ss h.1) ]

-- nor do snapshots that end
pub own-filter : (p : SnapshotValue → Bool) (ss : List SnapshotValue) → HaveOwnCells ss → HaveOwnCells (filter p ss)
own-filter p [] h = h
own-filter p (s ∷ ss) h =
    elim (p s) as (λ t. HaveOwnCells (cond t (s ∷ filter p ss) (filter p ss)))
    [ true ↦ (h.0, own-filter p ss h.1) | false ↦ own-filter p ss h.1 ]

-- one more behind the others
pub own-behind : (ss : List ViewSnapshot) (s : ViewSnapshot) → HaveOwnCells (map snapshot_of ss)
    → HasOwnCells (snapshot_of s).members (snapshot_of s).cells
    → HaveOwnCells (map snapshot_of (ss ++ s ∷ []))
own-behind [] s h k = (k, tt)
own-behind (t ∷ ss) s h k = (h.0, own-behind ss s h.1 k)

-- the snapshot at a place that a search gave
own-place : (ss : List ViewSnapshot) (i : ℕ) (d : ViewSnapshot) → i < length ss → HaveOwnCells (map snapshot_of ss)
    → HasOwnCells (snapshot_of (get_or ss i d)).members (snapshot_of (get_or ss i d)).cells
own-place [] i d l h = absurd (omega arith)
own-place (s ∷ ss) zero d l h = h.0
own-place (s ∷ ss) (suc i) d l h = own-place ss i d (omega arith) h.1

pub own-found : (ss : List ViewSnapshot) (i g : ℕ) (x : ViewSnapshot) → HaveOwnCells (map snapshot_of ss)
    → position (λ (y : ViewSnapshot). y.generation == g) ss ≡ Some i → x ≡ get_or ss i x
    → HasOwnCells (snapshot_of x).members (snapshot_of x).cells
own-found ss i g x h p here =
    let there = position-Some (λ (y : ViewSnapshot). y.generation == g) ss i x p in
    subst (λ (y : ViewSnapshot). HasOwnCells (snapshot_of y).members (snapshot_of y).cells) (sym here) (own-place ss i x there.0 h)
