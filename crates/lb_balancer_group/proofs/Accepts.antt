-- A selection of what one relation accepts is one of what another one accepts that holds wherever the first does.
use Rattle.std.proofs.Common.{◌≡◌, ℕ, Bool, false, true, List, [], ◌∷◌, Option, Some, None, Result, Ok, Err}
use Rattle.std.specs.Borrow.{Bor}
use Rattle.std.specs.Fn.{Shared, FnReturns}
use Rattle.lb_select_base.specs.Backends.{Member}
use Rattle.lb_select_base.specs.Draws.{Draw}
use Rattle.lb_select_base.specs.declared.refusal.Refusal.{Refusal}
use Rattle.lb_rebuild_core.specs.Values.{ReaderValue}
use Rattle.lb_threads_group.specs.Group.{EnteredUnder, ReadyUnder}
use Rattle.lb_threads_group.specs.Kept.{IsLeftOrKept, SelectedFrom}
use Rattle.lb_threads_group.specs.Shared.{SharedValue}
use Rattle.lb_balancer_core.specs.Looks.{Answers, told_of, AreRefused, IsTold, SelectsBy, Inside}

module _ (accepts other : Member → Bool → Bool → Type 0) (more : (b : Member) (ready a : Bool) → accepts b ready a → other b ready a)
    (limit : ℕ) where
  refused : (asked : List (Member × Bool)) → AreRefused accepts limit asked → AreRefused other limit asked
  refused [] all = tt
  refused (x ∷ asked) all = (more x.0 x.1 false all.0, refused asked all.1)

  told : (o : Option Member) (cs : List Member) (ended : Bool) (asked : List (Member × Bool)) → IsTold accepts limit cs ended asked o
      → IsTold other limit cs ended asked o
  told (Some b) cs ended asked (before, is, few, first, ready, asks, each, none, chosen) =
      (before, is, few, first, ready, asks, each, refused first none, more b ready true chosen)
  told None cs ended asked (each, none, end) = (each, refused asked none, end)

  module _ {P R : Type 0} (draws : P → R → Draw → P → Type 0) (readies : P → R → Member → Bool → P → Type 0)
      (walks : List Draw → List Member → Bool → Type 0) where
    selects : (a : Result (Option Member) Refusal) (p : P) (r : R) (q : P) → SelectsBy accepts limit draws readies walks p r a q
        → SelectsBy other limit draws readies walks p r a q
    selects (Ok o) p r q (ls, looks, cs, ended, walk, is) = (ls, looks, cs, ended, walk, told o cs ended (told_of ls) is)
    selects (Err e) p r q is = is

  module _ {C P : Type 0} (draws : P → ReaderValue C → Draw → P → Type 0)
      (readies : P → ReaderValue C → Member → Bool → P → Type 0) (entered : P → ℕ → Result (ReaderValue C) Refusal → P → Type 0)
      (left : P → ReaderValue C → P → Type 0)
      (walks : List Member → C → List ℕ → List Draw → List Member → Bool → Type 0) (key : List ℕ) where
    inside : (a : Result (ReaderValue C) Refusal) (p : P) (r : Result (Option Member) Refusal) (q : P)
        → Inside accepts limit draws readies entered left walks key a p r q
        → Inside other limit draws readies entered left walks key a p r q
    inside (Ok v) p r q (m, is, leaves) = (m, selects draws readies (walks v.members v.config key) r p v m is, leaves)
    inside (Err e) p r q is = is

selected : {C R : Type 0} (gives : R → Member → Member → Type 0) (accepts other : Member → Bool → Bool → Type 0)
    → ((b : Member) (ready a : Bool) → accepts b ready a → other b ready a) → (limit : ℕ)
    (walks : List Member → C → List ℕ → List Draw → List Member → Bool → Type 0) (key : List ℕ) (site : SharedValue C R) (slot : ℕ)
    (r : Result (Option Member) Refusal)
    → SelectedFrom gives accepts limit walks key site slot r → SelectedFrom gives other limit walks key site slot r
selected gives accepts other more limit walks key site slot r (a, m, enters, is) = (
  a,
  m,
  enters,
  inside accepts other more limit (λ v r d w. w ≡ v) (λ v r b a w. ReadyUnder gives v r b a × (w ≡ v))
      (λ v slot a w. EnteredUnder v.core slot a × (w ≡ v)) (λ v r w. IsLeftOrKept v slot r × (w ≡ v)) walks key a m r site is,
)

-- where the test answers what its contract says, the ready ones are selected
pub selected-ready : {C R F : Type 0} {g : Shared F (Bor Member × (Bool × Unit {0})) Bool} {f : F} (gives : R → Member → Member → Type 0)
    (limit : ℕ) (walks : List Member → C → List ℕ → List Draw → List Member → Bool → Type 0) (key : List ℕ) (site : SharedValue C R)
    (slot : ℕ)
    (r : Result (Option Member) Refusal)
    → SelectedFrom gives (λ b ready a. Answers g f b ready a) limit walks key site slot r
    → ((p : Bor Member) (ready a : Bool) → FnReturns g f (p, (ready, tt)) a → a ≡ ready)
    → SelectedFrom gives (λ b ready a. a ≡ ready) limit walks key site slot r
selected-ready {g = g} {f = f} gives limit walks key site slot r is same =
    selected gives (λ b ready a. Answers g f b ready a) (λ b ready a. a ≡ ready) (λ b ready a by. same by.shown ready a by.says) limit walks
    key site slot r is
