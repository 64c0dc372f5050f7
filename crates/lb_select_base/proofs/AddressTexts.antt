-- What std's parser makes of a text is what `internet_of_text` finds in it.
use Rattle.std.proofs.Common.{◌≡◌, ℕ, List, [], ◌∷◌, Option, Some, None, refl, sym, ◌∙◌, subst, length, arith, ne_eqb, append-nil, lit≤}
use Rattle.std.proofs.Common.{option_map, ok_or, Result, Ok, Err, codes, get_or, ◌^◌, ◌<◌, lt-ltb, le-ltb, ap, ◌+◌, ◌*◌, ◌/◌, ◌%◌, suc}
use Rattle.std.proofs.Common.{◌++◌, false, inl}
use Rattle.std.specs.Result.{result_map_both}
use Rattle.std.specs.declared.net.socket_addr.SocketAddrV4.{SocketAddrV4}
use Rattle.std.specs.declared.net.socket_addr.SocketAddrV6.{SocketAddrV6}
use Rattle.std.specs.declared.net.socket_addr.SocketAddr.{SocketAddr}
use Rattle.std.specs.declared.net.socket_addr.SocketAddr.TheVariants.{V4, V6}
use Rattle.std.specs.Net.Grammar.{IsSocketText, IsSocketV4Text, IsSocketV6Text}
use Rattle.std.specs.Net.Reader.{Read, read_ipv4, read_socket_v4, read_socket_v6, whole_value, map_or}
use Rattle.std.specs.Net.Addr.{octets_of, segments_of}
use Rattle.std.specs.Str.Pattern.{StripsPrefix, FindsTextPrefix}
use Rattle.std.proofs.lemmas.Str.Pattern.{starts_text}
use Rattle.std.proofs.lemmas.Option.{none-some, same_Some}
use Rattle.std.proofs.NetLemmas.Ipv4.{read_ipv4_none}
use Rattle.std.proofs.NetLemmas.Sockets.{read_socket_v4_complete, read_socket_v4_sound, read_socket_v6_complete, read_socket_v6_sound}
use Rattle.lb_select_base.specs.Backends.{Address, ipv4, unix, Member}
use Rattle.lb_select_base.specs.AddressText.{socket_seen, without_scope, internet_of_text, IsInternetText, path_of_text, address_of_text}
use Rattle.lb_select_base.specs.AddressText.{bare_member, path_refusal, address_refusal}
use Rattle.lb_select_base.specs.Refusals.{Refuses}
use Rattle.lb_select_base.specs.declared.refusal.Refusal.{Refusal}
use Rattle.lb_select_base.specs.declared.refusal.Refusal.TheVariants.{InvalidAddress}

-- a value or an error, seen through a function
pub map_ok_or : {A B E : Type 0} (f : A → B) (e : E) (o : Option A) → result_map_both f (λ x. x) (ok_or o e) ≡ ok_or (option_map f o) e
map_ok_or f e None = refl
map_ok_or f e (Some x) = refl

-- what an option was that came as a result
pub found_in_ok : {A E : Type 0} (o : Option A) (a : A) (e : E) → ◌≡◌ {A = Result A E} (Ok a) (ok_or o e) → o ≡ Some a
found_in_ok None a e h = absurd (cc)
found_in_ok (Some b) a e h = cc

pub absent_in_err : {A E : Type 0} (o : Option A) (d e : E) → ◌≡◌ {A = Result A E} (Err d) (ok_or o e) → o ≡ None
absent_in_err None d e h = refl
absent_in_err (Some b) d e h = absurd (cc)

-- a text in brackets is no IPv4 address
not_v4 : (text : List ℕ) (s : SocketAddrV6) → IsSocketV6Text text s → whole_value (read_socket_v4 text) ≡ None
unfolding read_socket_v4
not_v4 text s h =
    let none : read_ipv4 text ≡ None = read_ipv4_none [] text tt (rw h.spelled (lit≤ tt)) (rw h.spelled (omega arith)) in
    rw none refl

-- a text that std parses is the address that it parsed
pub internet_read : (text : List ℕ) (s : SocketAddr) → IsSocketText text s → internet_of_text text ≡ socket_seen s
unfolding internet_of_text
internet_read text (V4 s) h = rw (read_socket_v4_complete text s h) refl
internet_read text (V6 s) h = rw (not_v4 text s h, read_socket_v6_complete text s h) refl

-- a whole value is what was read with nothing left over
whole_some : {A : Type 0} (r : Read A) (p : A) → whole_value r ≡ Some p → r ≡ Some (p, [])
whole_some None p e = absurd (cc)
whole_some (Some (q, [])) p e = cc
whole_some (Some (q, c ∷ rest)) p e = absurd (none-some p (rw (ne_eqb (length (c ∷ rest)) 0 (omega arith)) at e))

v4_spelled : (text octets : List ℕ) (port : ℕ) → whole_value (read_socket_v4 text) ≡ Some (octets, port)
    → IsInternetText text (ipv4 octets port)
v4_spelled text octets port e =
    let s : SocketAddrV4 = record { ip = record { octets = octets }; port = port } in
    let (front, split, spells) = read_socket_v4_sound text [] s (whole_some _ _ e) in
    (V4 s, subst (λ t. IsSocketV4Text t s) (sym (split ∙ append-nil front)) spells, refl)

v6_spelled : (text : List ℕ) (p : List ℕ × ℕ × ℕ × ℕ) (a : Address) → whole_value (read_socket_v6 text) ≡ Some p → without_scope p ≡ Some a
    → IsInternetText text a
v6_spelled text p a e seen =
    let s : SocketAddrV6 = record { ip = record { segments = p.0 }; port = p.1; flowinfo = p.2; scope_id = p.3 } in
    let (front, split, spells) = read_socket_v6_sound text [] s (whole_some _ _ e) in
    (V6 s, subst (λ t. IsSocketV6Text t s) (sym (split ∙ append-nil front)) spells, seen)

either_spelled : (text : List ℕ) (a : Address) (four : Option (List ℕ × ℕ)) (six : Option (List ℕ × ℕ × ℕ × ℕ))
    → whole_value (read_socket_v4 text) ≡ four → whole_value (read_socket_v6 text) ≡ six
    → map_or four (map_or six None without_scope) (λ p. Some (ipv4 p.0 p.1)) ≡ Some a → IsInternetText text a
either_spelled text a (Some p) six four_is six_is e = subst (IsInternetText text) (same_Some _ _ e) (v4_spelled text p.0 p.1 four_is)
either_spelled text a None (Some p) four_is six_is e = v6_spelled text p a six_is e
either_spelled text a None None four_is six_is e = absurd (none-some a e)

-- what `internet_of_text` finds is spelled by the text
pub internet_found : (text : List ℕ) (a : Address) → internet_of_text text ≡ Some a → IsInternetText text a
unfolding internet_of_text
internet_found text a e = either_spelled text a _ _ refl refl e

-- and it finds all that is spelled
pub internet_spelled : (text : List ℕ) (a : Address) → IsInternetText text a → internet_of_text text ≡ Some a
internet_spelled text a (s, h, seen) = internet_read text s h ∙ seen

-- a text in which nothing is found spells no address
pub internet_absent : (text : List ℕ) → internet_of_text text ≡ None → (a : Address) → ¬ (IsInternetText text a)
internet_absent text e a h = none-some a (sym e ∙ internet_spelled text a h)

-- a text that std refuses is no address
pub internet_unread : (text : List ℕ) → ((s : SocketAddr) → ¬ (IsSocketText text s)) → internet_of_text text ≡ None
internet_unread text none = go (internet_of_text text) refl
  where
    go : (o : Option Address) → internet_of_text text ≡ o → internet_of_text text ≡ None
    go None e = e
    go (Some a) e = let (s, h, seen) = internet_found text a e in absurd (none s h)

-- an even number of octets are the octets of their segments
pub octets_back : (o : List ℕ) → length o % 2 ≡ 0 → ((k : ℕ) → get_or o k 0 < 2 ^ 8) → octets_of (segments_of o) ≡ o
octets_back [] even fits = refl
octets_back (a ∷ []) even fits = absurd (omega arith)
octets_back (a ∷ b ∷ rest) even fits =
    let low : b < 256 = omega (arith, fits 1) in
    let later = octets_back rest (omega arith) (λ k. fits (suc (suc k))) in
    let first : (a * 256 + b) / 256 ≡ a = omega arith in
    let second : (a * 256 + b) % 256 ≡ b = omega arith in
    rw (first, second, later)

-- a text with `unix:` before a path
path_split : (text path : List ℕ) → StripsPrefix (FindsTextPrefix (codes "unix:")) text path → text ≡ codes "unix:" ++ path
path_split text path h = h.1.1 ∙ ap (λ t. codes "unix:" ++ t) (sym h.2)

-- what follows `unix:` in a text
pub path_named : (text path : List ℕ) → StripsPrefix (FindsTextPrefix (codes "unix:")) text path → 0 < length path
    → path_of_text text ≡ Some path
unfolding path_of_text
path_named text path h some = rw (path_split text path h, lt-ltb 5 (length (codes "unix:" ++ path)) (omega arith))

pub path_empty : (text path : List ℕ) → StripsPrefix (FindsTextPrefix (codes "unix:")) text path → length path ≡ 0
    → path_of_text text ≡ None
unfolding path_of_text
path_empty text path h none = rw (path_split text path h, le-ltb 5 (length (codes "unix:" ++ path)) (omega arith))

pub path_lacking : (text : List ℕ) → FindsTextPrefix (codes "unix:") text None → path_of_text text ≡ None
unfolding path_of_text
path_lacking text h = rw (← starts_text false (codes "unix:") text h)

-- a backend at a path is refused for memory alone
pub refuses_path : (text path : List ℕ) (weight : ℕ) (r : Result Member Refusal) → path_of_text text ≡ Some path → 0 < length path
    → Refuses (path_refusal path) (λ b. b ≡ bare_member weight (unix path)) r
    → Refuses (address_refusal (address_of_text text)) (λ b. option_map (bare_member weight) (address_of_text text) ≡ Some b) r
refuses_path text [] weight r e some h = absurd (omega arith)
refuses_path text (c ∷ path) weight (Ok b) e some h = rw e (refl, ap Some (sym h.1))
refuses_path text (c ∷ path) weight (Err d) e some h = rw e h

-- a backend at an internet address is refused exactly where there is none
at_internet : (weight : ℕ) (o : Option Address) (r : Result Member Refusal) → r ≡ ok_or (option_map (bare_member weight) o) InvalidAddress
    → Refuses (address_refusal o) (λ b. option_map (bare_member weight) o ≡ Some b) r
at_internet weight None r h = rw h (inl refl)
at_internet weight (Some a) r h = rw h (refl, refl)

pub refuses_internet : (text : List ℕ) (weight : ℕ) (r : Result Member Refusal) → path_of_text text ≡ None
    → r ≡ ok_or (option_map (bare_member weight) (internet_of_text text)) InvalidAddress
    → Refuses (address_refusal (address_of_text text)) (λ b. option_map (bare_member weight) (address_of_text text) ≡ Some b) r
refuses_internet text weight r e h = rw e (at_internet weight (internet_of_text text) r h)
