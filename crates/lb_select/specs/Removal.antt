-- What consistent hashing is for: a backend that comes or goes moves no key between two others. The laws hold for every chain of
-- points that each address may have.
use Rattle.std.specs.Prelude.{◌≡◌, ◌≢◌, ◌↔◌, ◌⊎◌, ℕ, ◌<◌, ◌≤◌, ◌^◌, true, List, Some, slice_get, length}
use Rattle.std.specs.List.{Contains}
use Rattle.lb_select_base.specs.Backends.{Address, Member}
use Rattle.lb_select.specs.Chains.{crc_chain}
use Rattle.lb_select.specs.Choices.{is_internet, HasPoint, IsChoice}
use Rattle.lb_select.specs.Circle.{IsPoint, IsOwner, IsExactly}
use Rattle.lb_select.specs.Crc.{crc}

-- points for each address, one after another, each of 32 bits
abbrev pub IsChain : (Address → ℕ → ℕ) → Type 0
IsChain chain = (a : Address) (k : ℕ) → chain a k < 2 ^ 32

-- the chain of CRCs is one
abbrev pub ChainLaw : Type 0
ChainLaw = IsChain crc_chain

-- no internet address has two backends
abbrev pub HasDistinctAddresses : List Member → Type 0
HasDistinctAddresses ms = (x y : Member) → Contains ms x → Contains ms y → is_internet x.address ≡ true → x.address ≡ y.address → x ≡ y

-- whom a key chooses first
abbrev pub IsKeyChoice : (Address → ℕ → ℕ) → List Member → List ℕ → Member → Type 0
IsKeyChoice chain ms key m = IsChoice chain ms (crc key) 0 m

-- a set without the backends of an address
abbrev pub IsWithout : Address → List Member → List Member → Type 0
IsWithout a ms fewer = (m : Member) → Contains fewer m ↔ (Contains ms m × (m.address ≢ a))

-- a set in which the backends of an address may have become heavier
pub record IsRaised (a : Address) (before after : List Member) : Type 0 where
  pub others : (m : Member) → m.address ≢ a → Contains before m ↔ Contains after m
  pub heavier : (m : Member) → Contains before m → m.address ≡ a → (r : Member) × Contains after r × (r.address ≡ a) × (m.weight ≤ r.weight)

-- a choice after a change was one before it, and was the only one
abbrev pub StoodBefore : (Address → ℕ → ℕ) → List Member → List ℕ → Member → Type 0
StoodBefore chain before key m = IsKeyChoice chain before key m × ((n : Member) → IsKeyChoice chain before key n → n ≡ m)

-- to remove an address changes no first choice that had another address
abbrev pub RemovalLaw : Type 0
RemovalLaw =
    (chain : Address → ℕ → ℕ) → IsChain chain → (ms fewer : List Member) (a : Address) → HasDistinctAddresses ms → IsWithout a ms fewer
    → (key : List ℕ) (m : Member) → IsKeyChoice chain ms key m → m.address ≢ a → StoodBefore chain fewer key m

-- to add an address changes first choices to that address alone
abbrev pub AdditionLaw : Type 0
AdditionLaw =
    (chain : Address → ℕ → ℕ) → IsChain chain → (ms more : List Member) (a : Address) → HasDistinctAddresses more → IsWithout a more ms
    → (key : List ℕ) (m : Member) → IsKeyChoice chain more key m → (m.address ≡ a) ⊎ StoodBefore chain ms key m

-- to raise a weight changes first choices to its address alone
abbrev pub RaisingLaw : Type 0
RaisingLaw =
    (chain : Address → ℕ → ℕ) → IsChain chain → (before after : List Member) (a : Address)
    → HasDistinctAddresses before → IsRaised a before after
    → (key : List ℕ) (m : Member) → IsKeyChoice chain after key m → (m.address ≡ a) ⊎ StoodBefore chain before key m

-- a candidate is one identity: its address and its weight
abbrev pub OneCandidateLaw : Type 0
OneCandidateLaw =
    (chain : Address → ℕ → ℕ) → IsChain chain → (ms : List Member) (key : List ℕ) (j : ℕ) (m n : Member)
    → IsChoice chain ms (crc key) j m → IsChoice chain ms (crc key) j n → (m.address ≡ n.address) × (m.weight ≡ n.weight)

-- the first candidates, as many as there are points, have every address that owns a point
abbrev pub CoverageLaw : Type 0
CoverageLaw =
    (chain : Address → ℕ → ℕ) → IsChain chain → (ms : List Member) (key : List ℕ) (cs : List Member)
    → ((i : ℕ) (c : Member) → slice_get cs i ≡ Some c → IsChoice chain ms (crc key) i c)
    → IsExactly (IsPoint (HasPoint chain ms)) (length cs)
    → (p : ℕ) (a : Address) → IsOwner (HasPoint chain ms) p a → (m : Member) × Contains cs m × (m.address ≡ a)
