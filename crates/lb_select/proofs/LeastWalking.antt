-- The walk of an iterator by least connections: how it goes on, and how it ends.
use Rattle.std.specs.Prelude.{◌≡◌, ℕ, zero, suc, ◌+◌, ◌<◌, ◌≤◌, Bool, true, List, [], ◌∷◌, length, Some, refl}
use Rattle.std.proofs.Common.{arith, ap, ◌∙◌}
use Rattle.std.specs.List.{All, AllZip, slice_get, AllByRecursion as Each}
use Rattle.std.proofs.lemmas.List.Elements.{All-contains, All-from_recursion}
use Rattle.std.proofs.lemmas.List.Sorted.{All-permutation}
use Rattle.std.proofs.lemmas.Option.{none-some, slice_get_within, get_or_from_slice_get}
use Rattle.lb_select_base.specs.Backends.{Member}
use Rattle.lb_select_base.specs.Draws.{Draw}
use Rattle.lb_select.specs.Readings.{IsReading, IsArranged, IsLeastRest, IsLeastStep}
use Rattle.lb_select.specs.declared.reading.Reading.{Reading}
use Rattle.lb_select.proofs.WeightLemmas.{element_at}

-- nothing is left past the last
pub rest_over : (ms : List Member) (order : List Reading) (at : ℕ) → length order ≤ at → IsLeastRest ms order at [] [] true
rest_over ms order at past = record {
  undrawn = refl;
  candidates = λ k c h. absurd (none-some c h);
  end = λ e. omega (arith, past);
}

-- a candidate, then the rest
pub rest_more :
    (ms : List Member) (order : List Reading) (at : ℕ) (r : Reading) (c : Member)
    → slice_get order at ≡ Some r → slice_get ms r.index ≡ Some c
    → (es : List Draw) (cs : List Member) (e : Bool) → IsLeastRest ms order (at + 1) es cs e → IsLeastRest ms order at es (c ∷ cs) e
rest_more ms order at r c here is es cs e rest =
    record { undrawn = rest.undrawn; candidates = each; end = λ over. omega (arith, rest.end over) }
  where
    each : (k : ℕ) (b : Member) → slice_get (c ∷ cs) k ≡ Some b → (s : Reading) × (slice_get order (at + k) ≡ Some s)
        × (slice_get ms s.index ≡ Some b)
    each zero b h = let same : at + 0 ≡ at = omega arith in (r, ap (slice_get order) same ∙ here, is ∙ h)
    each (suc k) b h =
        let (s, there, tells) = rest.candidates k b h in
        let same : at + suc k ≡ at + 1 + k = omega arith in
        (s, ap (slice_get order) same ∙ there, tells)

-- what is read is of backends of the set
all_inside : (ms : List Member) (read : List (Member × ℕ)) (rs : List Reading) → AllZip (IsReading ms) read rs
    → Each (λ r. r.index < length ms) rs
all_inside ms [] [] h = tt
all_inside ms [] (r ∷ rs) h = absurd h
all_inside ms (e ∷ read) [] h = absurd h
all_inside ms (e ∷ read) (r ∷ rs) h = (slice_get_within ms r.index e.0 h.0.at, all_inside ms read rs h.1)

pub arranged_inside : (may_give : Draw → Type 0) (ms : List Member) (order : List Reading) → IsArranged may_give ms order
    → All (λ r. r.index < length ms) order
arranged_inside may_give ms order p =
    All-permutation (λ r. r.index < length ms) p.readings order p.same
    (All-from_recursion (λ r. r.index < length ms) p.readings (all_inside ms p.given.read p.readings p.given.each))

-- a reading of the order tells a backend of the set
pub told :
    (ms : List Member) (order : List Reading) (at : ℕ) (r : Reading) → All (λ s. s.index < length ms) order → slice_get order at ≡ Some r
    → (r.index < length ms) × ((c : Member) × (slice_get ms r.index ≡ Some c))
told ms order at r inside here =
    let within : r.index < length ms = All-contains (λ s. s.index < length ms) order r inside (
      at,
      slice_get_within order at r here,
      get_or_from_slice_get order at r r here,
    ) in
    (within, element_at ms r.index within)

-- so a step gives it
pub step_at :
    (ms : List Member) (order : List Reading) (at : ℕ) (r : Reading) → All (λ s. s.index < length ms) order → slice_get order at ≡ Some r
    → IsLeastStep ms order at (slice_get ms r.index) (at + 1)
step_at ms order at r inside here =
    let (within, (c, is)) = told ms order at r inside here in
    rw is (rest_more ms order at r c here is)
