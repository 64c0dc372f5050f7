-- An index of points by buckets: the places of a bucket have the same upper bits.
use Rattle.std.specs.Prelude.{ℕ, ◌/◌, ◌^◌, ◌<◌, ◌≤◌, List, length, get_or}
use Rattle.std.specs.List.{AllWithin}

-- the bucket of a place, where a bucket has 2 ^ shift places
abbrev pub bucket_of : ℕ → ℕ → ℕ
bucket_of shift place = place / 2 ^ shift

module _ {T : Type 0} where
  -- the points of the buckets below one come first, then those from it on
  pub record BeginsAt (shift : ℕ) (entries : List (ℕ × T)) (bucket at : ℕ) : Type 0 where
    pub within : at ≤ length entries
    pub below : AllWithin (λ e. bucket_of shift e.0 < bucket) entries 0 at
    pub above : AllWithin (λ e. bucket ≤ bucket_of shift e.0) entries at (length entries)

  -- where the points of the first buckets begin; there may be starts of all, or none
  pub record HasStarts (entries : List (ℕ × T)) (shift : ℕ) (starts : List ℕ) : Type 0 where
    pub few : shift < 32
    pub begins : (bucket : ℕ) → bucket < length starts → BeginsAt shift entries bucket (get_or starts bucket 0)

  -- where the points of each bucket begin
  pub record IsIndexOf (entries : List (ℕ × T)) (shift : ℕ) (starts : List ℕ) : Type 0 where
    pub known : HasStarts entries shift starts
    pub all : (place : ℕ) → place < 2 ^ 32 → bucket_of shift place < length starts
