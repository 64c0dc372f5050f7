-- The chain of points of an address: each is the CRC of the address's text and of the point before it.
use Rattle.std.specs.Prelude.{ℕ, zero, suc, ◌+◌, List, [], ◌∷◌, ◌++◌, map, decimal}
use Rattle.std.specs.List.{range_with_len}
use Rattle.std.specs.Int.{w32, to_le_bytes}
use Rattle.std.specs.Net.Addr.{segments_of}
use Rattle.std.specs.Net.Text.{ipv4_text, ipv6_text}
use Rattle.lb_select_base.specs.Backends.{Address, ipv4, ipv6, unix}
use Rattle.lb_select.specs.Crc.{crc, crc_fed, crc_last}

-- what is hashed of an internet address: dotted decimal, or RFC 5952 without brackets, then a zero byte and the port in decimal
abbrev pub hashed_text : Address → List ℕ
hashed_text (ipv4 octets port) = ipv4_text octets ++ 0 ∷ decimal port
hashed_text (ipv6 octets port) = ipv6_text (segments_of octets) ++ 0 ∷ decimal port
hashed_text (unix path) = []

-- the point after a point
abbrev pub next_point : List ℕ → ℕ → ℕ
next_point text p = crc (text ++ to_le_bytes w32 p)

-- the points of a text; the first follows 0
unfoldable pub text_chain : List ℕ → ℕ → ℕ
text_chain text zero = next_point text 0
text_chain text (suc k) = next_point text (text_chain text k)

-- the points of an address
abbrev pub crc_chain : Address → ℕ → ℕ
crc_chain a = text_chain (hashed_text a)

-- the point after a point, by the state of a CRC that was fed the text
unfoldable pub point_after : ℕ → ℕ → ℕ
point_after state p = crc_last (crc_fed state (to_le_bytes w32 p))

-- the same points, by that state
unfoldable pub state_chain : ℕ → ℕ → ℕ
state_chain state zero = point_after state 0
state_chain state (suc k) = point_after state (state_chain state k)

-- the first points of a chain, with their owner's number
abbrev pub chain_entries : ℕ → ℕ → ℕ → List (ℕ × ℕ)
chain_entries state count number = map (λ k. (state_chain state k, number)) (range_with_len 0 count)

-- the points of several chains by states and lengths, each with its chain's number
abbrev pub entries_from : ℕ → List (ℕ × ℕ) → List (ℕ × ℕ)
entries_from number [] = []
entries_from number (c ∷ cs) = chain_entries c.0 c.1 number ++ entries_from (number + 1) cs

abbrev pub entries_of : List (ℕ × ℕ) → List (ℕ × ℕ)
entries_of chains = entries_from 0 chains
