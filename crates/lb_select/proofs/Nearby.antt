-- A look at one sum and the one before it: whether it is the first one above a place.
use Rattle.std.specs.Prelude.{◌≡◌, ℕ, ◌-◌, ◌<◌, ◌≤◌, List, Some, length, slice_index, slice_get}
use Rattle.std.proofs.Common.{arith}
use Rattle.std.proofs.lemmas.Option.{get_or_from_slice_get}
use Rattle.lb_select.specs.Sums.{NeverFalls, IsPlaceAt}

-- none is before the first one
pub place_at_first :
    (sums : List ℕ) (place above : ℕ) → 0 < length sums → slice_get sums 0 ≡ Some above → place < above → IsPlaceAt sums place 0
place_at_first sums place above inside got high =
    let here : slice_index sums 0 ≡ above = get_or_from_slice_get sums 0 above 0 got in
    record { inside = inside; above = omega (arith, here, high); before = λ i h. absurd (omega (arith, h)) }

-- those before a later one are no greater than the one before it
pub place_at_later :
    (sums : List ℕ) (place index above below : ℕ) → NeverFalls sums → index < length sums → slice_get sums index ≡ Some above
    → place < above → slice_get sums (index - 1) ≡ Some below → below ≤ place → IsPlaceAt sums place index
place_at_later sums place index above below rising inside got high got_before low =
    let here : slice_index sums index ≡ above = get_or_from_slice_get sums index above 0 got in
    let before : slice_index sums (index - 1) ≡ below = get_or_from_slice_get sums (index - 1) below 0 got_before in
    record {
      inside = inside;
      above = omega (arith, here, high);
      before = λ i h. omega (arith, rising i (index - 1) (omega (arith, h)) (omega (arith, inside, h)), before, low);
    }
