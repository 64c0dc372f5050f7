-- What contracts see of a backend, and its identity: the address, then the weight. What a user attaches has no part in it.
-- This is upstream's `Backend`, whose hash key is made of the address and the weight alone.
use Rattle.std.specs.Prelude.{ℕ, Bool, List, [], ◌∷◌, ◌++◌}
use Rattle.std.specs.declared.cmp.Ordering.{Ordering}
use Rattle.std.specs.Ordering.{nat_cmp, eq_by_cmp, on, then_cmp}
use Rattle.std.specs.Cmp.Lexicographic.{slice_cmp}
use Rattle.std.specs.Hash as fed

-- an address: four or sixteen octets and a port, or the bytes of a path
pub data Address : Type 0 where
  ipv4 : List ℕ → ℕ → Address
  ipv6 : List ℕ → ℕ → Address
  unix : List ℕ → Address

-- a backend, as a member of a set of backends
pub record Member : Type 0 where
  pub address : Address
  pub weight : ℕ
  pub ext : List (List ℕ × List ℕ)

-- the address family: IPv4 comes first, then IPv6, then Unix
abbrev pub family_of : Address → ℕ
family_of (ipv4 octets port) = 0
family_of (ipv6 octets port) = 1
family_of (unix path) = 2

-- the octets, or the bytes of the path
abbrev pub bytes_of : Address → List ℕ
bytes_of (ipv4 octets port) = octets
bytes_of (ipv6 octets port) = octets
bytes_of (unix path) = path

-- the port, which a path lacks
abbrev pub port_of : Address → ℕ
port_of (ipv4 octets port) = port
port_of (ipv6 octets port) = port
port_of (unix path) = 0

-- by kind, then by octets or path, then by port
abbrev pub address_cmp : Address → Address → Ordering
address_cmp = then_cmp (on family_of nat_cmp) (then_cmp (on bytes_of (slice_cmp nat_cmp)) (on port_of nat_cmp))

-- by address, then by weight
abbrev pub member_cmp : Member → Member → Ordering
member_cmp = then_cmp (on (λ m. m.address) address_cmp) (on (λ m. m.weight) nat_cmp)

-- the identity of a backend
abbrev pub identity_of : Member → Address × ℕ
identity_of m = (m.address, m.weight)

-- the same identity
abbrev pub same_member : Member → Member → Bool
same_member = eq_by_cmp member_cmp

-- what a hasher is fed of an address
abbrev pub address_hash : Address → fed.HashWrites
address_hash (ipv4 octets port) = fed.u8 4 ++ octets ∷ fed.u16 port
address_hash (ipv6 octets port) = fed.u8 6 ++ octets ∷ fed.u16 port
address_hash (unix path) = fed.u8 0 ++ path ∷ []

-- what a hasher is fed of a backend
abbrev pub member_hash : Member → fed.HashWrites
member_hash m = address_hash m.address ++ fed.usize m.weight
