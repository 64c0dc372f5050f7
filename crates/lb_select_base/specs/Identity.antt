-- Backends of one identity have the same address and the same weight, so they are hashed alike.
use Rattle.std.specs.Prelude.{◌≡◌, ◌++◌, IsTrue, refl}
use Rattle.std.proofs.Common.{ap, ◌∙◌}
use Rattle.std.proofs.lemmas.Map.Lookups.{exact_bytes, exact_unsigned}
use Rattle.std.specs.declared.cmp.Ordering.{Ordering}
use Rattle.std.specs.declared.cmp.Ordering.TheVariants.{Less, Equal, Greater}
use Rattle.std.specs.Ordering.{nat_cmp, ordering_then, is_eq}
use Rattle.std.specs.Cmp.Lexicographic.{slice_cmp}
use Rattle.std.specs.Hash as fed
use Rattle.lb_select_base.specs.Backends.{Address, ipv4, ipv6, unix, Member, address_cmp, member_cmp, same_member, address_hash}
use Rattle.lb_select_base.specs.Backends.{member_hash}

-- one comparison after another finds two things equal where both do
then_equal : (o p : Ordering) → ordering_then o p ≡ Equal → (o ≡ Equal) × (p ≡ Equal)
then_equal Less p e = absurd (cc)
then_equal Equal p e = (refl, e)
then_equal Greater p e = absurd (cc)

-- the test of an ordering means what it says
means_equal : (o : Ordering) → IsTrue (is_eq o) → o ≡ Equal
means_equal Less e = absurd (cc)
means_equal Equal e = refl
means_equal Greater e = absurd (cc)

-- addresses that compare equal are equal
pub address_same : (a b : Address) → address_cmp a b ≡ Equal → a ≡ b
address_same (ipv4 o p) (ipv4 q r) e = let s = then_equal (slice_cmp nat_cmp o q) (nat_cmp p r) e in
    ap (λ x. ipv4 x p) (exact_bytes o q s.0) ∙ ap (λ x. ipv4 q x) (exact_unsigned p r s.1)
address_same (ipv4 o p) (ipv6 q r) e = absurd (cc)
address_same (ipv4 o p) (unix q) e = absurd (cc)
address_same (ipv6 o p) (ipv4 q r) e = absurd (cc)
address_same (ipv6 o p) (ipv6 q r) e = let s = then_equal (slice_cmp nat_cmp o q) (nat_cmp p r) e in
    ap (λ x. ipv6 x p) (exact_bytes o q s.0) ∙ ap (λ x. ipv6 q x) (exact_unsigned p r s.1)
address_same (ipv6 o p) (unix q) e = absurd (cc)
address_same (unix o) (ipv4 q r) e = absurd (cc)
address_same (unix o) (ipv6 q r) e = absurd (cc)
address_same (unix o) (unix q) e = ap unix (exact_bytes o q (then_equal (slice_cmp nat_cmp o q) Equal e).0)

-- what one identity means
pub same_means : (x y : Member) → IsTrue (same_member x y) → (x.address ≡ y.address) × (x.weight ≡ y.weight)
same_means x y e =
    let s = then_equal (address_cmp x.address y.address) (nat_cmp x.weight y.weight) (means_equal (member_cmp x y) e) in
    (address_same x.address y.address s.0, exact_unsigned x.weight y.weight s.1)

-- backends of one identity are hashed alike
pub hash_alike : (x y : Member) → IsTrue (same_member x y) → member_hash x ≡ member_hash y
hash_alike x y e = let s = same_means x y e in
    ap (λ a. address_hash a ++ fed.usize x.weight) s.0 ∙ ap (λ w. address_hash y.address ++ fed.usize w) s.1
