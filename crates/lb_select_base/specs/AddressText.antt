-- The texts of addresses and backends: what is written for each, and which address a text spells.
-- Internet addresses are written and read as Rust's std::net::SocketAddr is, whose IPv6 text is that of RFC 5952.
use Rattle.std.specs.Prelude.{◌≡◌, ℕ, List, [], ◌∷◌, ◌++◌, codes, decimal, drop, length, nat_lt, ◌&&◌, ◌==◌, eqb, if◌then◌else◌}
use Rattle.std.specs.Prelude.{Option, Some, None, option_map, Result, IsOkAnd, IsSomeAnd, MatchResult}
use Rattle.std.specs.Option.{ok_or}
use Rattle.std.specs.List.{starts_with}
use Rattle.std.specs.Result.{IsErrAnd}
use Rattle.std.specs.declared.iter.Once.{Once}
use Rattle.std.specs.Iterator.Adapters.{once_item}
use Rattle.std.specs.declared.net.socket_addr.SocketAddr.{SocketAddr}
use Rattle.std.specs.declared.net.socket_addr.SocketAddr.TheVariants.{V4, V6}
use Rattle.std.specs.Net.Addr.{ipv4_octets, ipv6_octets, octets_of, segments_of}
use Rattle.std.specs.Net.Socket.{v4_ip, v4_port, v6_ip, v6_port, v6_scope_id, socket_flowinfo}
use Rattle.std.specs.Net.Text.{ipv4_text, ipv6_text}
use Rattle.std.specs.Net.Grammar.{IsSocketText}
use Rattle.std.specs.Net.Reader.{read_socket_v4, read_socket_v6, whole_value, map_or}
use Rattle.lb_select_base.specs.declared.refusal.Refusal.{Refusal}
use Rattle.lb_select_base.specs.declared.refusal.Refusal.TheVariants.{InvalidAddress}
use Rattle.lb_select_base.specs.Backends.{Address, ipv4, ipv6, unix, Member}

-- `a.b.c.d:port`; `[..]:port` with the groups of RFC 5952, and ::ffff:a.b.c.d for a mapped address; `unix:` and the path
abbrev pub address_text : Address → List ℕ
address_text (ipv4 octets port) = ipv4_text octets ++ codes ":" ++ decimal port
address_text (ipv6 octets port) = codes "[" ++ ipv6_text (segments_of octets) ++ codes "]:" ++ decimal port
address_text (unix path) = codes "unix:" ++ path

-- the address, a slash and the weight
abbrev pub member_text : Member → List ℕ
member_text m = address_text m.address ++ codes "/" ++ decimal m.weight

-- how an address of std is seen, with none for one that has a scope
abbrev pub socket_seen : SocketAddr → Option Address
socket_seen (V4 s) = Some (ipv4 (ipv4_octets (v4_ip s)) (v4_port s))
socket_seen (V6 s) = if v6_scope_id s == 0 then Some (ipv6 (ipv6_octets (v6_ip s)) (v6_port s)) else None

-- the text spells this internet address, by the grammar that std parses
abbrev pub IsInternetText : List ℕ → Address → Type 0
IsInternetText text a = (s : SocketAddr) × IsSocketText text s × (socket_seen s ≡ Some a)

-- the address of an IPv6 socket without a scope: its segments, port, flow information and scope are given
abbrev pub without_scope : List ℕ × ℕ × ℕ × ℕ → Option Address
without_scope p = if p.3 == 0 then Some (ipv6 (octets_of p.0) p.1) else None

-- the internet address that the whole text spells, if it spells one
unfoldable pub internet_of_text : List ℕ → Option Address
internet_of_text text =
    map_or (whole_value (read_socket_v4 text)) (map_or (whole_value (read_socket_v6 text)) None without_scope)
    (λ p. Some (ipv4 p.0 p.1))

-- the path that the text names: one byte or more after `unix:`
unfoldable pub path_of_text : List ℕ → Option (List ℕ)
path_of_text text = if starts_with eqb text (codes "unix:") && nat_lt 5 (length text) then Some (drop 5 text) else None

-- the address that the text spells: a path or an internet address
abbrev pub address_of_text : List ℕ → Option Address
address_of_text text = map_or (path_of_text text) (internet_of_text text) (λ path. Some (unix path))

-- a backend at an address, with nothing attached
abbrev pub bare_member : ℕ → Address → Member
bare_member weight address = record { address = address; weight = weight; ext = [] }

-- a backend of this weight at the internet address that the text spells, with nothing attached, or the refusal of the text
abbrev pub internet_backend : ℕ → List ℕ → Result Member Refusal
internet_backend weight text = ok_or (option_map (bare_member weight) (internet_of_text text)) InvalidAddress

-- the text spells the address of the backend that was made, or spells no internet address at all
abbrev pub IsSpelledBy : List ℕ → Result Member Refusal → Type 0
IsSpelledBy text r = MatchResult r (λ b. IsInternetText text b.address) (λ e. (a : Address) → ¬ (IsInternetText text a))

-- the empty path is no address
abbrev pub path_refusal : List ℕ → Option Refusal
path_refusal [] = Some InvalidAddress
path_refusal (c ∷ path) = None

-- a text that spells no address is none
abbrev pub address_refusal : Option Address → Option Refusal
address_refusal None = Some InvalidAddress
address_refusal (Some address) = None

-- the one socket address of an internet address comes, without flow information; a path has none
abbrev pub GivesSocket : Address → Result (Once SocketAddr) Refusal → Type 0
GivesSocket (ipv4 octets port) r = IsOkAnd r (λ it. IsSomeAnd (once_item it) (λ s. socket_seen s ≡ Some (ipv4 octets port)))
GivesSocket (ipv6 octets port) r =
    IsOkAnd r (λ it. IsSomeAnd (once_item it) (λ s. (socket_seen s ≡ Some (ipv6 octets port)) × (socket_flowinfo s ≡ 0)))
GivesSocket (unix path) r = IsErrAnd r (λ e. e ≡ InvalidAddress)
