-- Lemmas on the part of a buffer that is not yet handed out.
use Rattle.std.proofs.Common.{◌≡◌, ℕ, ◌+◌, ◌-◌, ◌≤◌, List, length, take, drop, slice_range, sym, ap, ◌∙◌, arith, length-take, drop-drop}
use Rattle.std.proofs.lemmas.List.{drop-take}

-- how many bytes a range has, at most
pub range_short : (xs : List ℕ) (start end : ℕ) → length (slice_range xs start end) ≤ end - start
range_short xs start end = omega (arith, length-take (end - start) (drop start xs))

-- a range without its first n bytes
pub range_after : (xs : List ℕ) (start end n : ℕ) → n ≤ length (slice_range xs start end)
    → slice_range xs (start + n) end ≡ drop n (slice_range xs start end)
range_after xs start end n within =
    let short : n ≤ end - start = omega (arith, range_short xs start end) in
    let whole : n + (end - (start + n)) ≡ end - start = omega arith in
    ap (take (end - (start + n))) (sym (drop-drop n start xs))
    ∙ sym (drop-take n (end - (start + n)) (drop start xs))
    ∙ ap (λ k. drop n (take k (drop start xs))) whole
