-- A built selector: the backends of its set in order, the indexes of those that have points, and the points upwards, each with
-- the number of its owner among these.
use Rattle.std.specs.Prelude.{◌≡◌, ℕ, ◌+◌, ◌*◌, ◌<◌, ◌≤◌, nat_lt, Bool, true, ⊤, if◌then◌else◌}
use Rattle.std.specs.Prelude.{List, [], ◌∷◌, length, take, slice_get, Option, Some, MatchOption, option_and_then}
use Rattle.std.specs.List.{Contains}
use Rattle.lb_select_base.specs.Backends.{Member}
use Rattle.lb_select_base.specs.Draws.{Draw}
use Rattle.lb_select.specs.Chains.{crc_chain, entries_of}
use Rattle.lb_select.specs.Choices.{is_internet, points_per_weight, ring_weight, HasPoint, StandsFor, IsRingWalk}
use Rattle.lb_select.specs.Circle.{IsPoint, IsOwner}
use Rattle.lb_select.specs.Sorted.{Rises, HasSmallPoints, IsInOrder}

-- what contracts see of a selector
pub record Placed : Type 0 where
  pub members : List Member
  pub owners : List ℕ
  pub points : List (ℕ × ℕ)
  pub multiple : Option ℕ

-- the backend of an owner's number
abbrev pub member_at : List Member → List ℕ → ℕ → Option Member
member_at ms owners number = option_and_then (slice_get ms) (slice_get owners number)

-- the points and their owners are those of the set
pub record IsPlaced (ms : List Member) (owners : List ℕ) (points : List (ℕ × ℕ)) : Type 0 where
  pub order : IsInOrder points
  pub yields : (e : ℕ × ℕ) → Contains points e
      → (m : Member) × (member_at ms owners e.1 ≡ Some m) × IsOwner (HasPoint crc_chain ms) e.0 m.address × StandsFor ms m.address m
  pub whole : (p : ℕ) → IsPoint (HasPoint crc_chain ms) p → (e : ℕ × ℕ) × Contains points e × (e.0 ≡ p)

-- the backend at an index has points, and no heavier one has its address
pub record Bears (ms : List Member) (index : ℕ) (m : Member) : Type 0 where
  pub at : slice_get ms index ≡ Some m
  pub internet : is_internet m.address ≡ true
  pub weighs : 0 < m.weight
  pub stands : StandsFor ms m.address m

-- an entry's point is one of the chain of its owner
pub record IsOfChain (ms : List Member) (owners : List ℕ) (e : ℕ × ℕ) : Type 0 where
  pub member : Member
  pub owner : member_at ms owners e.1 ≡ Some member
  pub number : ℕ
  pub within : number < points_per_weight * member.weight
  pub point_is : crc_chain member.address number ≡ e.0

-- the points of the first backends, not yet in order
pub record IsFilled (ms : List Member) (done : ℕ) (owners : List ℕ) (points : List (ℕ × ℕ)) : Type 0 where
  pub upwards : Rises (λ b. b) owners
  pub few : length owners ≤ ring_weight (take done ms)
  pub bearing : (b : ℕ) → Contains owners b → (b < done) × ((m : Member) × Bears ms b m)
  pub all : (b : ℕ) (m : Member) → b < done → Bears ms b m → Contains owners b
  pub small : HasSmallPoints points
  pub given : (e : ℕ × ℕ) → Contains points e → IsOfChain ms owners e
  pub whole : (number : ℕ) (m : Member) (k : ℕ) → member_at ms owners number ≡ Some m → k < points_per_weight * m.weight
      → Contains points (crc_chain m.address k, number)

-- the same, where the points are given by chains, one for each owner
pub record IsMarked (ms : List Member) (done : ℕ) (owners : List ℕ) (chains : List (ℕ × ℕ)) : Type 0 where
  pub filled : IsFilled ms done owners (entries_of chains)
  pub paired : length chains ≡ length owners
  pub many : length (entries_of chains) ≤ points_per_weight * ring_weight (take done ms)

-- an index, or the first one after the last
abbrev pub index_here : Placed → ℕ → ℕ
index_here r at = if nat_lt at (length r.points) then at else 0

-- the backend that a walk yields at an index
abbrev pub member_here : Placed → ℕ → Option Member
member_here r at = option_and_then (λ e. member_at r.members r.owners e.1) (slice_get r.points (index_here r at))

-- the candidates from an index on
abbrev pub YieldsFrom : Placed → ℕ → List Member → Type 0
YieldsFrom r at [] = ⊤
YieldsFrom r at (c ∷ cs) = (member_here r at ≡ Some c) × YieldsFrom r (index_here r at + 1) cs

-- the walk of an iterator that is at an index
pub record IsWalkFrom (r : Placed) (at : ℕ) (draws : List Draw) (cs : List Member) (ended : Bool) : Type 0 where
  pub undrawn : draws ≡ []
  pub candidates : YieldsFrom r at cs
  pub end : ended ≡ true → r.points ≡ []

-- one step of an iterator, which draws nothing: the end for good, or a candidate
abbrev pub IsMove : Placed → ℕ → Option Member → ℕ → Type 0
IsMove r at given now =
    MatchOption given (IsWalkFrom r at [] [] true × IsWalkFrom r now [] [] true)
    (λ b. (es : List Draw) (cs : List Member) (e : Bool) → IsWalkFrom r now es cs e → IsWalkFrom r at es (b ∷ cs) e)

-- an index where the walk of a key begins
abbrev pub IsStart : Placed → List ℕ → ℕ → Type 0
IsStart r key at = (es : List Draw) (cs : List Member) (e : Bool) → IsWalkFrom r at es cs e → IsRingWalk r.members key es cs e
