-- The text of an address spells that address.
use Rattle.std.proofs.Common.{◌≡◌, ℕ, zero, suc, ◌+◌, ◌*◌, ◌/◌, ◌^◌, ◌<◌, List, [], ◌∷◌, ◌++◌, length, get_or, codes, decimal, Some, None}
use Rattle.std.proofs.Common.{refl, sym, ap, ◌∙◌, inl, arith, lit≤, append_assoc, lt-ltb}
use Rattle.std.specs.declared.net.socket_addr.SocketAddrV4.{SocketAddrV4}
use Rattle.std.specs.declared.net.socket_addr.SocketAddrV6.{SocketAddrV6}
use Rattle.std.specs.declared.net.socket_addr.SocketAddr.TheVariants.{V4, V6}
use Rattle.std.specs.Net.Addr.{segments_of}
use Rattle.std.specs.Net.Text.{ipv4_text, ipv6_text}
use Rattle.std.specs.Net.Reader.{read_ipv4, read_socket_v4, read_socket_v6}
use Rattle.std.proofs.lemmas.Option.{none-some}
use Rattle.std.proofs.NetLemmas.Ipv4.{read_ipv4_none}
use Rattle.std.proofs.NetLemmas.Texts.{IsDotted-ipv4_text, IsColonHex-ipv6_text, IsPortText-decimal}
use Rattle.lb_select_base.specs.Backends.{Address, ipv4, ipv6, unix}
use Rattle.lb_select_base.specs.AddressText.{address_text, address_of_text, internet_of_text, path_of_text}
use Rattle.lb_select_base.proofs.AddressTexts.{internet_spelled, octets_back, path_lacking}

-- eight segments of sixteen octets
length-segments_of : (o : List ℕ) → length (segments_of o) ≡ length o / 2
length-segments_of [] = refl
length-segments_of (a ∷ []) = refl
length-segments_of (a ∷ b ∷ rest) = omega (arith, length-segments_of rest)

-- each of 16 bits
segments_fit : (o : List ℕ) → ((k : ℕ) → get_or o k 0 < 2 ^ 8) → (k : ℕ) → get_or (segments_of o) k 0 < 2 ^ 16
segments_fit [] fits k = omega arith
segments_fit (a ∷ []) fits k = omega arith
segments_fit (a ∷ b ∷ rest) fits k =
    let later = segments_fit rest (λ j. fits (suc (suc j))) in
    elim k as (λ j. get_or ((a * 256 + b) ∷ segments_of rest) j 0 < 2 ^ 16) [ zero ↦ omega (arith, fits 0, fits 1) | suc j ↦ later j ]

pub ipv4_back : (octets : List ℕ) (port : ℕ) → length octets ≡ 4 → ((k : ℕ) → get_or octets k 0 < 2 ^ 8) → port < 2 ^ 16
    → internet_of_text (address_text (ipv4 octets port)) ≡ Some (ipv4 octets port)
ipv4_back octets port four fits small =
    let s : SocketAddrV4 = record { ip = record { octets = octets }; port = port } in
    internet_spelled _ _ (
      V4 s,
      (
        ipv4_text octets,
        58 ∷ decimal port,
        append_assoc (ipv4_text octets) (58 ∷ []) (decimal port),
        IsDotted-ipv4_text octets four fits,
        IsPortText-decimal port small,
      ),
      refl,
    )

pub ipv6_back : (octets : List ℕ) (port : ℕ) → length octets ≡ 16 → ((k : ℕ) → get_or octets k 0 < 2 ^ 8) → port < 2 ^ 16
    → internet_of_text (address_text (ipv6 octets port)) ≡ Some (ipv6 octets port)
ipv6_back octets port sixteen fits small =
    let s : SocketAddrV6 = record { ip = record { segments = segments_of octets }; port = port; flowinfo = 0; scope_id = 0 } in
    internet_spelled _ _ (
      V6 s,
      record {
        ip = ipv6_text (segments_of octets);
        scope = [];
        port = 58 ∷ decimal port;
        spelled = simp append_assoc;
        ip_text = IsColonHex-ipv6_text (segments_of octets) (omega (arith, length-segments_of octets)) (segments_fit octets fits);
        scope_text = inl (refl, refl);
        port_text = IsPortText-decimal port small;
        no_flowinfo = refl;
      },
      ap (λ o. Some (ipv6 o port)) (octets_back octets (omega arith) fits),
    )

-- no internet address begins with `unix:`
path_not_internet : (rest : List ℕ) → internet_of_text (codes "unix:" ++ rest) ≡ None
unfolding internet_of_text read_socket_v4 read_socket_v6
path_not_internet rest =
    let none : read_ipv4 (codes "unix:" ++ rest) ≡ None = read_ipv4_none [] (codes "unix:" ++ rest) tt (lit≤ tt) (omega arith) in
    rw none refl

pub internet_no_path : (text : List ℕ) (a : Address) → internet_of_text text ≡ Some a → path_of_text text ≡ None
internet_no_path text a found = path_lacking text λ rest e. none-some a (sym (ap internet_of_text e ∙ path_not_internet rest) ∙ found)

-- so the text of an internet address spells it, and nothing else
pub internet_back : (a : Address) → internet_of_text (address_text a) ≡ Some a → address_of_text (address_text a) ≡ Some a
internet_back a found = rw (internet_no_path (address_text a) a found, found)

-- and that of a path
pub path_back : (path : List ℕ) → 0 < length path → address_of_text (address_text (unix path)) ≡ Some (unix path)
unfolding path_of_text
path_back path some = rw (lt-ltb 5 (length (codes "unix:" ++ path)) (omega arith))

-- a list that is not empty has an element
pub filled : (xs : List ℕ) → ¬ (xs ≡ []) → 0 < length xs
filled [] h = absurd (h refl)
filled (x ∷ xs) h = omega arith
