-- Partial sums of weights, and the search among them.
use Rattle.std.specs.Prelude.{◌≡◌, ℕ, ◌+◌, ◌<◌, ◌≤◌, ◌^◌, List, length, take, slice_index}
use Rattle.std.specs.List.Sorted.{IsStrictlySortedBy}
use Rattle.lb_select_base.specs.Backends.{Member, member_cmp}
use Rattle.lb_select.specs.Weights.{total_weight}

-- k is the number of binary digits of n: 2 ^ k is the least power of two above n
pub record HasBinaryDigits (n k : ℕ) : Type 0 where
  pub enough : n < 2 ^ k
  pub least : (j : ℕ) → n < 2 ^ j → k ≤ j

-- no number is below one before it
abbrev pub NeverFalls : List ℕ → Type 0
NeverFalls sums = (i j : ℕ) → i ≤ j → j < length sums → slice_index sums i ≤ slice_index sums j

-- there is a last number, and it is above the place
pub record IsBelowLast (sums : List ℕ) (place : ℕ) : Type 0 where
  pub last : ℕ
  pub ends : last + 1 ≡ length sums
  pub below : place < slice_index sums last

-- the index of the first number above the place
pub record IsPlaceAt (sums : List ℕ) (place index : ℕ) : Type 0 where
  pub inside : index < length sums
  pub above : place < slice_index sums index
  pub before : (i : ℕ) → i < index → slice_index sums i ≤ place

-- for each backend the sum of the weights up to it, its own among them
pub record AreSums (ms : List Member) (sums : List ℕ) : Type 0 where
  pub long : length sums ≡ length ms
  pub each : (i : ℕ) → i < length ms → slice_index sums i ≡ total_weight (take (i + 1) ms)

-- what a weighted selector keeps: its backends in the order of the set, their partial sums, and the sum of all
pub record IsSummed (ms : List Member) (sums : List ℕ) (total : ℕ) : Type 0 where
  pub ordered : IsStrictlySortedBy member_cmp ms
  pub few : length ms < 2 ^ 16
  pub up_to : AreSums ms sums
  pub all : total ≡ total_weight ms
