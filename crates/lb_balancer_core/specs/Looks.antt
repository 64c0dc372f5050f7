-- What a selection does between the entry of a reader and its leaving: words are drawn for the reader, and backends asked for.
use Rattle.std.specs.Prelude.{◌≡◌, ◌⊎◌, ℕ, ◌+◌, ◌≤◌, Bool, true, false, MatchBool, List, [], ◌∷◌, ◌++◌, length, map, take}
use Rattle.std.specs.Prelude.{Option, Some, None, Result, Ok, Err}
use Rattle.std.specs.Borrow.{Bor}
use Rattle.std.specs.Fn.{Shared, FnReturns}
use Rattle.std.specs.List.{AllByRecursion as Each}
use Rattle.lb_select_base.specs.Backends.{Member, same_member}
use Rattle.lb_select_base.specs.Draws.{Draw}
use Rattle.lb_select_base.specs.Unique.{distinct}
use Rattle.lb_select_base.specs.declared.refusal.Refusal.{Refusal}
use Rattle.lb_select_base.specs.declared.refusal.Refusal.TheVariants as refusal
use Rattle.lb_rebuild_core.specs.Values.{ReaderValue}

-- a call for a reader: something was drawn, or the port said whether a backend is ready
pub data Look : Type 0 where
  drew : Draw → Look
  told : Member → Bool → Look

abbrev pub draws_of : List Look → List Draw
draws_of [] = []
draws_of (drew d ∷ ls) = d ∷ draws_of ls
draws_of (told b a ∷ ls) = draws_of ls

abbrev pub told_of : List Look → List (Member × Bool)
told_of [] = []
told_of (drew d ∷ ls) = told_of ls
told_of (told b a ∷ ls) = (b, a) ∷ told_of ls

-- asked with a backend and whether it is ready, f may answer a
pub record Answers {F : Type 0} (g : Shared F (Bor Member × (Bool × Unit {0})) Bool) (f : F) (b : Member) (ready a : Bool) : Type 0 where
  pub shown : Bor Member
  pub shows : shown.now ≡ b
  pub says : FnReturns g f (shown, (ready, tt)) a

module _ {P R : Type 0} (draws : P → R → Draw → P → Type 0) (readies : P → R → Member → Bool → P → Type 0) (r : R) where
  -- the port went from p to q by exactly these calls for the reader, in their order
  abbrev pub Looks : P → List Look → P → Type 0
  Looks p [] q = p ≡ q
  Looks p (drew d ∷ ls) q = (m : P) × draws p r d m × Looks m ls q
  Looks p (told b a ∷ ls) q = (m : P) × readies p r b a m × Looks m ls q

module _ (accepts : Member → Bool → Bool → Type 0) (limit : ℕ) where
  -- it was asked of each, with the readiness that the port said, and refused it
  abbrev pub AreRefused : List (Member × Bool) → Type 0
  AreRefused asked = Each (λ x. accepts x.0 x.1 false) asked

  -- These candidates were drawn, ended says whether the walk then ended, readiness was asked of these backends, and this was
  -- answered. Each distinct candidate within the limit is asked for once, in their order, until one is accepted.
  abbrev pub IsTold : List Member → Bool → List (Member × Bool) → Option Member → Type 0
  IsTold cs ended asked (Some b) =
      (before : List Member) × (cs ≡ before ++ b ∷ []) × (length cs ≤ limit)
      × (first : List (Member × Bool)) × (ready : Bool) × (asked ≡ first ++ (b, ready) ∷ [])
      × (map (λ x. x.0) asked ≡ distinct same_member cs) × AreRefused first × accepts b ready true
  IsTold cs ended asked None =
      (map (λ x. x.0) asked ≡ distinct same_member (take limit cs)) × AreRefused asked
      × ((length cs ≡ limit + 1) ⊎ ((ended ≡ true) × (length cs ≤ limit)))

  module _ {P R : Type 0} (draws : P → R → Draw → P → Type 0) (readies : P → R → Member → Bool → P → Type 0)
      (walks : List Draw → List Member → Bool → Type 0) where
    -- A selection for a reader. It is refused for memory alone: before any call, or at a new candidate within the limit, of
    -- which readiness was asked.
    abbrev pub SelectsBy : P → R → Result (Option Member) Refusal → P → Type 0
    SelectsBy p r (Ok o) q =
        (ls : List Look) × Looks draws readies r p ls q
        × (cs : List Member) × (ended : Bool) × walks (draws_of ls) cs ended × IsTold cs ended (told_of ls) o
    SelectsBy p r (Err e) q =
        (e ≡ refusal.OutOfMemory)
        × ((q ≡ p) ⊎ ((ls : List Look) × Looks draws readies r p ls q
        × (cs : List Member) × walks (draws_of ls) cs false × (length cs ≤ limit)
        × (map (λ x. x.0) (told_of ls) ≡ distinct same_member cs)))

-- whether there is no such slot
abbrev pub is_no_such : Refusal → Bool
is_no_such refusal.NoSuch = true
is_no_such (refusal.StillRead n) = false
is_no_such refusal.NothingRetired = false
is_no_such refusal.InvalidAddress = false
is_no_such refusal.Discovery = false
is_no_such refusal.TooManyBackends = false
is_no_such refusal.WeightTooLarge = false
is_no_such refusal.TooManyPoints = false
is_no_such refusal.HealthCheckSet = false
is_no_such refusal.GenerationsExhausted = false
is_no_such refusal.GroupCancelled = false
is_no_such refusal.OutOfMemory = false
is_no_such refusal.NothingInFlight = false
is_no_such refusal.NothingBuilt = false
is_no_such refusal.NoSuchReader = false
is_no_such refusal.NotEnoughWords = false
is_no_such refusal.NumbersExhausted = false

module _ {C P : Type 0} (accepts : Member → Bool → Bool → Type 0) (limit : ℕ) (draws : P → ReaderValue C → Draw → P → Type 0)
    (readies : P → ReaderValue C → Member → Bool → P → Type 0) (entered : P → ℕ → Result (ReaderValue C) Refusal → P → Type 0)
    (left : P → ReaderValue C → P → Type 0)
    (walks : List Member → C → List ℕ → List Draw → List Member → Bool → Type 0) (key : List ℕ) where
  -- The reader selects, and leaves in any case. Where no such slot is there, nothing is selected.
  abbrev pub Inside : Result (ReaderValue C) Refusal → P → Result (Option Member) Refusal → P → Type 0
  Inside (Ok v) p r q = (m : P) × SelectsBy accepts limit draws readies (walks v.members v.config key) p v r m × left m v q
  Inside (Err e) p r q = MatchBool (is_no_such e) (r ≡ Ok None) (r ≡ Err e) × (q ≡ p)

  -- a selection from what a slot serves
  abbrev pub SelectedThrough : P → ℕ → Result (Option Member) Refusal → P → Type 0
  SelectedThrough p slot r q = (a : Result (ReaderValue C) Refusal) × (m : P) × entered p slot a m × Inside a m r q
