-- A difference of two numbers of 64 bits in 128 bits: its upper half is 0, or all ones where it borrowed.
use Rattle.std.proofs.Common.{◌≡◌, ℕ, ◌+◌, ◌-◌, ◌%◌, ◌/◌, ◌^◌, ◌<◌, ◌≤◌, arith, ap, ◌∙◌}
use Rattle.std.specs.Int.Bits.{bit_and, and_zero_r}
use Rattle.std.proofs.lemmas.Nat.{and_mask}
use Rattle.lb_select.proofs.sums.half_past.Goals as goal

abbrev upper : ℕ → ℕ → ℕ
upper place sum = (place + (2 ^ 128 - sum)) % 2 ^ 128 / 2 ^ 64

none : (place sum : ℕ) → place < 2 ^ 64 → sum ≤ place → upper place sum ≡ 0
none place sum p h = omega (arith, p, h)

ones : (place sum : ℕ) → sum < 2 ^ 64 → place < sum → upper place sum ≡ 2 ^ 64 - 1
ones place sum p h = omega (arith, p, h)

kept : (half : ℕ) → half < 2 ^ 64 → bit_and half (2 ^ 64 - 1) ≡ half
kept half p = and_mask half 64 ∙ omega (arith, p)

pub returns-clause-past : goal.returns-clause-past
returns-clause-past c = λ h.
    rw (c.from.ensures, c.from-2.ensures)
    (ap (λ n. bit_and c.args.half (2 ^ 64 - 1 - n)) (none c.args.place c.args.sum c.ranges.place.fits h)
    ∙ kept c.args.half c.ranges.half.fits)

pub returns-clause-before : goal.returns-clause-before
returns-clause-before c = λ h.
    rw (c.from.ensures, c.from-2.ensures)
    (ap (λ n. bit_and c.args.half (2 ^ 64 - 1 - n)) (ones c.args.place c.args.sum c.ranges.sum.fits h) ∙ and_zero_r c.args.half)
