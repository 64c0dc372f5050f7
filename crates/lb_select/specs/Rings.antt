-- What a ring holds: of the points that were given, each once, with the least address that has it.
use Rattle.std.specs.Prelude.{ℕ, ◌↔◌, List, map}
use Rattle.std.specs.List.{Contains}
use Rattle.lb_select_base.specs.Backends.{Address}
use Rattle.lb_select_base.specs.Seen.{address_seen}
use Rattle.lb_select_base.specs.declared.backend.SocketAddr.{SocketAddr}
use Rattle.lb_select.specs.Circle.{IsPoint, IsOwner, IsRingOwner}

-- points with their addresses
abbrev pub points_seen : List (ℕ × SocketAddr) → List (ℕ × Address)
points_seen es = map (λ e. (e.0, address_seen e.1)) es

-- which address has which point, by a list of both
abbrev pub Given : List (ℕ × Address) → ℕ → Address → Type 0
Given es p a = Contains es (p, a)

-- a ring of the points that were given
pub record IsRingOf (given ring : List (ℕ × Address)) : Type 0 where
  pub points : (p : ℕ) → IsPoint (Given ring) p ↔ IsPoint (Given given) p
  pub owners : (p : ℕ) (a : Address) → Contains ring (p, a) ↔ IsOwner (Given given) p a

-- the owner of a candidate that a ring returns is the owner by the points that were given
abbrev pub RingLaw : Type 0
RingLaw =
    (given ring : List (ℕ × Address)) → IsRingOf given ring → (place j : ℕ) (a : Address) → IsRingOwner (Given ring) place j a
    → IsRingOwner (Given given) place j a
