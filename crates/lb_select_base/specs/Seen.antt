-- How the program's values are seen as addresses and members.
use Rattle.std.specs.Prelude.{ℕ, List, map, string_bytes}
use Rattle.std.proofs.Common.{String, Vec, Global}
use Rattle.lb_select_base.specs.Backends.{Address, ipv4, ipv6, unix, Member}
use Rattle.lb_select_base.specs.declared.backend.InetAddr.{InetAddr}
use Rattle.lb_select_base.specs.declared.backend.InetAddr.TheVariants.{V4, V6}
use Rattle.lb_select_base.specs.declared.backend.SocketAddr.{SocketAddr}
use Rattle.lb_select_base.specs.declared.backend.SocketAddr.TheVariants.{Inet, Unix}
use Rattle.lb_select_base.specs.declared.backend.Backend.TheInside.{Inside}

-- an internet address
abbrev pub inet_seen : InetAddr → Address
inet_seen (V4 octets port) = ipv4 octets port
inet_seen (V6 octets port) = ipv6 octets port

-- an address; a path is its bytes
abbrev pub address_seen : SocketAddr → Address
address_seen (Inet inet) = inet_seen inet
address_seen (Unix path) = unix (string_bytes path)

-- what is attached: names and values by their bytes
abbrev pub entries_seen : List (String Global × Vec ℕ Global) → List (List ℕ × List ℕ)
entries_seen es = map (λ e. (string_bytes e.0, e.1.items)) es

-- a backend
abbrev pub member_seen : Inside → Member
member_seen b = record { address = address_seen b.addr; weight = b.weight; ext = entries_seen b.ext.entries }
