-- The candidates of consistent hashing: which points the backends of a set have, and whom a key chooses.
-- The chain of points of an address is a parameter: the selector has the chain of CRCs, and the law of removal holds for all.
use Rattle.std.specs.Prelude.{◌≡◌, ℕ, ◌*◌, ◌<◌, ◌≤◌, ◌^◌, nat_lt, Bool, true, false, cond, if◌then◌else◌}
use Rattle.std.specs.Prelude.{List, [], sum_by, Option, Some, None, slice_get}
use Rattle.std.specs.List.{Contains}
use Rattle.lb_select_base.specs.Backends.{Address, ipv4, ipv6, unix, Member}
use Rattle.lb_select_base.specs.Draws.{Draw}
use Rattle.lb_select_base.specs.declared.refusal.Refusal.{Refusal}
use Rattle.lb_select_base.specs.declared.refusal.Refusal.TheVariants.{TooManyPoints}
use Rattle.lb_select.specs.Circle.{IsPoint, IsRingOwner}
use Rattle.lb_select.specs.Chains.{crc_chain}
use Rattle.lb_select.specs.Crc.{crc}

-- an address that has points; a path has none
abbrev pub is_internet : Address → Bool
is_internet (ipv4 octets port) = true
is_internet (ipv6 octets port) = true
is_internet (unix path) = false

-- how many points a backend has for each unit of its weight
abbrev pub points_per_weight : ℕ
points_per_weight = 160

-- an address has a point of its chain by a backend of the set: by one of weight w the first 160 * w
pub record HasPoint (chain : Address → ℕ → ℕ) (ms : List Member) (p : ℕ) (a : Address) : Type 0 where
  pub member : Member
  pub among : Contains ms member
  pub address_is : member.address ≡ a
  pub internet : is_internet a ≡ true
  pub number : ℕ
  pub within : number < points_per_weight * member.weight
  pub point_is : chain a number ≡ p

-- the backend of the greatest weight represents an address
pub record StandsFor (ms : List Member) (a : Address) (m : Member) : Type 0 where
  pub among : Contains ms m
  pub address_is : m.address ≡ a
  pub heaviest : (other : Member) → Contains ms other → other.address ≡ a → other.weight ≤ m.weight

-- candidate j from a place: the backend that represents the owner of its point
abbrev pub IsChoice : (Address → ℕ → ℕ) → List Member → ℕ → ℕ → Member → Type 0
IsChoice chain ms place j m = (a : Address) × IsRingOwner (HasPoint chain ms) place j a × StandsFor ms a m

-- candidate j of a key: the key's place is its CRC
abbrev pub IsRingCandidate : List Member → List ℕ → ℕ → Member → Type 0
IsRingCandidate ms key j m = IsChoice crc_chain ms (crc key) j m

-- a walk draws nothing, gives the candidates in order, and ends only where there is no point
pub record IsRingWalk (ms : List Member) (key : List ℕ) (draws : List Draw) (cs : List Member) (ended : Bool) : Type 0 where
  pub undrawn : draws ≡ []
  pub candidates : (i : ℕ) (c : Member) → slice_get cs i ≡ Some c → IsRingCandidate ms key i c
  pub end : ended ≡ true → (p : ℕ) → IsPoint (HasPoint crc_chain ms) p → ⊥

-- the weight of the backends that have points
abbrev pub ring_weight : List Member → ℕ
ring_weight ms = sum_by (λ m. cond (is_internet m.address) m.weight 0) ms

-- a build is refused where there would be more points than 32 bits count
abbrev pub ring_refusal : List Member → Option Refusal
ring_refusal ms = if nat_lt (points_per_weight * ring_weight ms) (2 ^ 32) then None else Some TooManyPoints
