-- A circle of 2 ^ 32 places with points on it. Each point has one or more addresses; the least of them owns it.
-- A walk goes clockwise from a place, point after point, for ever.
use Rattle.std.specs.Prelude.{◌≡◌, ℕ, ◌+◌, ◌-◌, ◌%◌, ◌^◌, ◌<◌, false, nat_eq, List, length}
use Rattle.std.specs.List.{Contains, IsDistinct}
use Rattle.std.specs.Ordering.{is_lt}
use Rattle.lb_select_base.specs.Backends.{Address, address_cmp}

-- how far a place is to go clockwise from another
abbrev pub clockwise : ℕ → ℕ → ℕ
clockwise from to = (to + 2 ^ 32 - from) % 2 ^ 32

-- the list has each number with P once, and no other
pub record Lists (P : ℕ → Type 0) (xs : List ℕ) : Type 0 where
  pub once : IsDistinct nat_eq xs
  pub all : (q : ℕ) → P q → Contains xs q
  pub only : (q : ℕ) → Contains xs q → P q

-- exactly n numbers have P
abbrev pub IsExactly : (ℕ → Type 0) → ℕ → Type 0
IsExactly P n = (xs : List ℕ) × Lists P xs × (length xs ≡ n)

module _ (has : ℕ → Address → Type 0) where
  -- some address has this point
  abbrev pub IsPoint : ℕ → Type 0
  IsPoint p = (a : Address) × has p a

  -- the least address that has the point
  pub record IsOwner (p : ℕ) (a : Address) : Type 0 where
    pub has_it : has p a
    pub least : (b : Address) → has p b → is_lt (address_cmp b a) ≡ false

  -- a point that is nearer to a place, clockwise, than p
  abbrev pub IsNearer : ℕ → ℕ → ℕ → Type 0
  IsNearer place p q = IsPoint q × (clockwise place q < clockwise place p)

  -- The point of candidate j from a place: exactly as many points are nearer as j leaves when it is divided by the number of
  -- points.
  pub record IsPointOf (place j p : ℕ) : Type 0 where
    pub point : IsPoint p
    pub number : ℕ
    pub points : IsExactly IsPoint number
    pub nearer : IsExactly (IsNearer place p) (j % number)

  -- the owner of candidate j from a place
  abbrev pub IsRingOwner : ℕ → ℕ → Address → Type 0
  IsRingOwner place j a = (p : ℕ) × IsPointOf place j p × IsOwner p a
